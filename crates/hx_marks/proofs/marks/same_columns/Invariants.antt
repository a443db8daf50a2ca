use Rattle.std.proofs.Common.{◌≡◌, take}
use Rattle.hx_marks.proofs.marks.same_columns.Given as goal

abbrev pub invariant-loop-k : goal.invariant-loop-k
invariant-loop-k l = (take l.k l.words ≡ take l.k l.other_words) × (take l.k l.values ≡ take l.k l.other_values)
