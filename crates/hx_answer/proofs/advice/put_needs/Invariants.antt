use Rattle.std.proofs.Common.{◌-◌, ◌≤◌, length}
use Rattle.hx_answer.proofs.advice.put_needs.Given as goal

abbrev pub invariant-loop-at : goal.invariant-loop-at
invariant-loop-at l = l.at ≤ length l.needs

abbrev pub decreases-loop-at : goal.decreases-loop-at
decreases-loop-at l = length l.needs - l.at
