use Rattle.std.proofs.Common.{◌≡◌, ℕ, ◌<◌, Some, None}
use Rattle.std.specs.Prelude.{slice_get}
use Rattle.hx_code.specs.Code.{FuncView}
use Rattle.hx_code.specs.Valid.{IsSpotAt}
use Rattle.hx_code.specs.Validation.{tables_of}
use Rattle.hx_code.proofs.validate.functions_begin.Given as goal

abbrev pub invariant-loop-index : goal.invariant-loop-index
invariant-loop-index l = (f : ℕ) (g : FuncView) → f < l.index → slice_get l.tables.functions.items f ≡ Some g → IsSpotAt (tables_of l.tables) g.entry f None
