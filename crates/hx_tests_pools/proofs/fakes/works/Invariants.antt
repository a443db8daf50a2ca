use Rattle.hx_pool.specs.Setups.{setup_by}
use Rattle.hx_tests_pools.specs.declared.machines.TheConstants.{ROOMS}
use Rattle.hx_tests_pools.proofs.fakes.works.Given as goal

abbrev pub ghosts-works_over : goal.ghosts-works_over
ghosts-works_over g a = record { setup = setup_by a.job.code.now a.job.region a.entry.now 1 ROOMS }
