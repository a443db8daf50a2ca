use Rattle.std.proofs.Common.{length, ◌-◌}
use Rattle.hx_input.proofs.Words.{IsRead}
use Rattle.hx_input.proofs.input.parse_input.Given as goal

abbrev pub invariant-loop-at : goal.invariant-loop-at
invariant-loop-at l = IsRead l.text l.at l.values.items

abbrev pub decreases-loop-at : goal.decreases-loop-at
decreases-loop-at l = length l.text - l.at
