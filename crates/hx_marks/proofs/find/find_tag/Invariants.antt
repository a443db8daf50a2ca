use Rattle.std.proofs.Common.{◌≤◌, ◌-◌, length}
use Rattle.hx_marks.specs.Place.{NoneBelow}
use Rattle.hx_marks.proofs.find.find_tag.Given as goal

abbrev pub invariant-loop-at : goal.invariant-loop-at
invariant-loop-at l = (l.at ≤ length l.words) × NoneBelow l.words l.word l.at

abbrev pub decreases-loop-at : goal.decreases-loop-at
decreases-loop-at l = length l.words - l.at

abbrev pub invariant-loop-at-2 : goal.invariant-loop-at-2
invariant-loop-at-2 l = (l.at ≤ length l.words) × NoneBelow l.words l.word l.at

abbrev pub decreases-loop-at-2 : goal.decreases-loop-at-2
decreases-loop-at-2 l = length l.words - l.at
