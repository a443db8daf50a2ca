use Rattle.std.proofs.Common.{ℕ, ◌<◌}
use Rattle.std.specs.Prelude.{slice_index_or}
use Rattle.hx_code.specs.declared.table.Spot.{Spot}
use Rattle.hx_code.specs.Valid.{IsSpot}
use Rattle.hx_code.specs.Validation.{tables_of}
use Rattle.hx_code.proofs.validate.spots_are_known.Given as goal

abbrev pub invariant-loop-spot : goal.invariant-loop-spot
invariant-loop-spot l = (k : ℕ) (d : Spot) → k < l.spot-index → IsSpot (tables_of l.tables) (slice_index_or l.spot-items k d)
