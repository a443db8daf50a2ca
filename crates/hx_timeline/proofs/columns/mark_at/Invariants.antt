use Rattle.std.proofs.Common.{◌≡◌, drop}
use Rattle.hx_timeline.specs.Columns.{mark_at}
use Rattle.hx_timeline.proofs.columns.mark_at.Given as goal

abbrev pub invariant-loop-attempt : goal.invariant-loop-attempt
invariant-loop-attempt l = mark_at l.row l.worker l.attempts ≡ mark_at l.row l.worker (drop l.attempt-index l.attempts)
