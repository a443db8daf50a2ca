use Rattle.std.proofs.Common.{◌≢◌, ℕ, ◌<◌, length}
use Rattle.std.specs.Prelude.{slice_index_or}
use Rattle.hx_code.specs.declared.table.Carried.{Carried}
use Rattle.hx_code.proofs.validate.carried_are_distinct.Given as goal

abbrev pub invariant-loop-j : goal.invariant-loop-j
invariant-loop-j l = record {
  before : (a b : ℕ) (d : Carried) → a < l.i → a < b → b < length l.carried → (slice_index_or l.carried a d).private ≢ (slice_index_or l.carried b d).private;
  here : (b : ℕ) (d : Carried) → l.i < b → b < l.j → (slice_index_or l.carried l.i d).private ≢ (slice_index_or l.carried b d).private;
}

abbrev pub invariant-loop-i : goal.invariant-loop-i
invariant-loop-i l = (a b : ℕ) (d : Carried) → a < l.i → a < b → b < length l.carried → (slice_index_or l.carried a d).private ≢ (slice_index_or l.carried b d).private
