use Rattle.std.proofs.Common.{◌≡◌, ◌+◌, ◌-◌, ◌≤◌, length, drop}
use Rattle.hx_slots.specs.Slot.{slots_of}
use Rattle.hx_slots.specs.Slots.{before_violated}
use Rattle.hx_slots.proofs.places.first_violated.Given as goal

abbrev pub invariant-loop-place : goal.invariant-loop-place
invariant-loop-place l = (l.from + before_violated l.word l.value (slots_of (drop l.from l.active)) ≡ l.place + before_violated l.word l.seen (slots_of (drop l.place l.active))) × (l.place ≤ length l.active)

abbrev pub decreases-loop-place : goal.decreases-loop-place
decreases-loop-place l = length l.active - l.place
