use Rattle.std.proofs.Common.{◌≡◌, ◌+◌, length, vec_capacity}
use Rattle.hx_slots.specs.Slot.{rooms_for}
use Rattle.hx_slots.proofs.Dropping.{Dropping}
use Rattle.hx_slots.proofs.slots.Slots.drop_all.Given as goal

abbrev pub invariant-loop-slot : goal.invariant-loop-slot
invariant-loop-slot l =
    Dropping (rooms_for l.self-inside.marks l.self-inside.buffer) (length l.initial.self-inside.active.items + length l.initial.self-inside.free.items) l.self-inside.active.items (vec_capacity l.self-inside.active) l.self-inside.free.items (vec_capacity l.self-inside.free) l.self-inside.index.rows.items
    × (l.self-inside.marks ≡ l.initial.self-inside.marks) × (l.self-inside.buffer ≡ l.initial.self-inside.buffer)

abbrev pub decreases-loop-slot : goal.decreases-loop-slot
decreases-loop-slot l = length l.self-inside.active.items
