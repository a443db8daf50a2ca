use Rattle.std.proofs.Common.{◌≡◌, ◌+◌, ◌-◌, ◌≤◌, ◌==◌, length, drop}
use Rattle.hx_slots.specs.Slot.{slots_of}
use Rattle.hx_slots.specs.Slots.{place_of as place_where}
use Rattle.hx_slots.proofs.places.place_of.Given as goal

abbrev pub invariant-loop-place : goal.invariant-loop-place
invariant-loop-place l = (place_where (λ x. x.worker == l.worker) (slots_of l.active) ≡ l.place + place_where (λ x. x.worker == l.worker) (slots_of (drop l.place l.active))) × (l.place ≤ length l.active)

abbrev pub decreases-loop-place : goal.decreases-loop-place
decreases-loop-place l = length l.active - l.place
