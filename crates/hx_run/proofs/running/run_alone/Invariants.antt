use Rattle.hx_run.proofs.Runs.{IsReached}
use Rattle.hx_run.proofs.running.run_alone.Given as goal

abbrev pub invariant-loop : goal.invariant-loop
invariant-loop g l =
    (goal.iterator-loop g).can_next l.iterator' × (goal.iterator-loop g).is_finite l.iterator' × IsReached g.R.Run.setup.code g.I.Given.input l.plain
