use Rattle.std.proofs.Common.{length, ◌-◌}
use Rattle.hx_case.proofs.BadWords.{IsPast}
use Rattle.hx_case.proofs.input.bad_word.Given as goal

abbrev pub invariant-loop-at : goal.invariant-loop-at
invariant-loop-at l = IsPast l.text l.at

abbrev pub decreases-loop-at : goal.decreases-loop-at
decreases-loop-at l = length l.text - l.at
