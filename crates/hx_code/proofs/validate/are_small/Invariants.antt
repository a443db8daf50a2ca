use Rattle.std.proofs.Common.{ℕ, ◌<◌}
use Rattle.std.specs.Prelude.{slice_index_or}
use Rattle.hx_code.specs.Code.{FuncView}
use Rattle.hx_code.specs.Valid.{IsSmallFunction}
use Rattle.hx_code.proofs.validate.are_small.Given as goal

abbrev pub invariant-loop-function : goal.invariant-loop-function
invariant-loop-function l = (k : ℕ) (d : FuncView) → k < l.function-index → IsSmallFunction (slice_index_or l.functions k d)
