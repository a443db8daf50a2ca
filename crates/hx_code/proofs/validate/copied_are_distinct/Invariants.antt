use Rattle.std.proofs.Common.{◌≢◌, ℕ, ◌<◌, length}
use Rattle.std.specs.Prelude.{slice_index_or}
use Rattle.hx_code.proofs.validate.copied_are_distinct.Given as goal

abbrev pub invariant-loop-j : goal.invariant-loop-j
invariant-loop-j l = record {
  before : (a b d : ℕ) → a < l.i → a < b → b < length l.copied → slice_index_or l.copied a d ≢ slice_index_or l.copied b d;
  here : (b d : ℕ) → l.i < b → b < l.j → slice_index_or l.copied l.i d ≢ slice_index_or l.copied b d;
}

abbrev pub invariant-loop-i : goal.invariant-loop-i
invariant-loop-i l = (a b d : ℕ) → a < l.i → a < b → b < length l.copied → slice_index_or l.copied a d ≢ slice_index_or l.copied b d
