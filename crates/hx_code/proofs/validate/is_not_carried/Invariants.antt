use Rattle.std.proofs.Common.{◌≢◌, ℕ, ◌<◌}
use Rattle.std.specs.Prelude.{slice_index_or}
use Rattle.hx_code.specs.declared.table.Carried.{Carried}
use Rattle.hx_code.proofs.validate.is_not_carried.Given as goal

abbrev pub invariant-loop-pair : goal.invariant-loop-pair
invariant-loop-pair l = (k : ℕ) (d : Carried) → k < l.pair-index → (slice_index_or l.carried k d).private ≢ l.private
