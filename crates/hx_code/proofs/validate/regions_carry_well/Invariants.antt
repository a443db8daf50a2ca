use Rattle.std.proofs.Common.{◌≡◌, ℕ, ◌<◌, Some}
use Rattle.std.specs.Prelude.{slice_get}
use Rattle.hx_code.specs.Code.{RegionView}
use Rattle.hx_code.specs.Valid.{CarriesWell}
use Rattle.hx_code.specs.Validation.{tables_of}
use Rattle.hx_code.proofs.validate.regions_carry_well.Given as goal

abbrev pub invariant-loop-index : goal.invariant-loop-index
invariant-loop-index l = (r : ℕ) (g : RegionView) → r < l.index → slice_get l.tables.regions.items r ≡ Some g → CarriesWell (tables_of l.tables) g
