use Rattle.hx_run.proofs.running.run.Goals as goal

pub returns-clause-finish : goal.returns-clause-finish
returns-clause-finish g c = c.run_on.ensures.finish
