use Rattle.hx_pool.specs.Setups.{crew_setup}
use Rattle.hx_run.proofs.running.run_code.Given as goal

abbrev pub ghosts-run_branded-R-Run : goal.ghosts-run_branded-R-Run
ghosts-run_branded-R-Run g a = record { setup = crew_setup a.code.now a.crew }

abbrev pub ghosts-run_branded-I-Given : goal.ghosts-run_branded-I-Given
ghosts-run_branded-I-Given g a = record { input = a.input.now }
