use Rattle.hx_pool.specs.Setups.{crew_setup}
use Rattle.hx_pool.proofs.region.run_region_on.Given as goal

abbrev pub ghosts-run_branded : goal.ghosts-run_branded
ghosts-run_branded g a = record { setup = crew_setup a.job.now.code.now a.crew }
