use Rattle.std.proofs.Common.{◌<◌, ◌≤◌, length}
use Rattle.hx_answer.proofs.advice.range_end.Given as goal

abbrev pub invariant-loop-word : goal.invariant-loop-word
invariant-loop-word l = (l.from < l.end) × (l.end ≤ length l.needs)
