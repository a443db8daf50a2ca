use Rattle.std.proofs.Common.{◌≡◌, ◌≤◌, length, vec_capacity}
use Rattle.hx_slots.specs.Slot.{rooms_for}
use Rattle.hx_slots.specs.Slots.{HaveRooms}
use Rattle.hx_slots.proofs.slots.Slots.new.Given as goal

abbrev pub invariant-loop-k : goal.invariant-loop-k
invariant-loop-k l = HaveRooms (rooms_for l.marks l.buffer) l.free.items × (length l.free.items ≡ l._k) × (l.slots ≤ vec_capacity l.free)
