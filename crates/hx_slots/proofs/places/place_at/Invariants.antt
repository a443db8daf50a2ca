use Rattle.std.proofs.Common.{◌≡◌, ◌+◌, ◌-◌, ◌≤◌, length, drop}
use Rattle.hx_speculation.specs.Slots.{is_at}
use Rattle.hx_slots.specs.Slot.{slots_of}
use Rattle.hx_slots.specs.Slots.{place_of as place_where}
use Rattle.hx_slots.proofs.places.place_at.Given as goal

abbrev pub invariant-loop-place : goal.invariant-loop-place
invariant-loop-place l = (place_where (λ x. is_at x l.worker l.attempt) (slots_of l.active) ≡ l.place + place_where (λ x. is_at x l.worker l.attempt) (slots_of (drop l.place l.active))) × (l.place ≤ length l.active)

abbrev pub decreases-loop-place : goal.decreases-loop-place
decreases-loop-place l = length l.active - l.place
