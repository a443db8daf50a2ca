use Rattle.std.proofs.Common.{ℕ, ◌<◌, ◌≤◌}
use Rattle.std.specs.Prelude.{slice_index_or}
use Rattle.hx_code.specs.declared.table.Spot.{Spot}
use Rattle.hx_code.proofs.validate.are_low.Given as goal

abbrev pub invariant-loop-spot : goal.invariant-loop-spot
invariant-loop-spot l = (k : ℕ) (d : Spot) → k < l.spot-index → (slice_index_or l.spots k d).height ≤ 256
