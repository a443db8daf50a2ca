use Rattle.std.proofs.Common.{◌≡◌, ℕ, ◌<◌, ◌≤◌, length, Some}
use Rattle.std.specs.Prelude.{slice_get}
use Rattle.hx_code.specs.Code.{RegionView}
use Rattle.hx_code.specs.Valid.{BeginsRegion}
use Rattle.hx_code.specs.Validation.{code_of, AreOnlyEnters}
use Rattle.hx_code.specs.declared.validate.TheConstants.{NOWHERE}
use Rattle.hx_code.proofs.validate.regions_begin.Given as goal

abbrev pub invariant-loop-index : goal.invariant-loop-index
invariant-loop-index l = record {
  low : l.first ≤ l.index;
  found : AreOnlyEnters l.words NOWHERE (length l.words) l.first l.places;
  before : (r : ℕ) (g : RegionView) → r < l.index → slice_get l.tables.regions.items r ≡ Some g → BeginsRegion (code_of l.words l.tables) r g;
}
