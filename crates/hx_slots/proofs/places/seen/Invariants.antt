use Rattle.std.proofs.Common.{◌≡◌, take}
use Rattle.hx_slots.specs.Slot.{slots_of}
use Rattle.hx_slots.specs.Slots.{seen_behind}
use Rattle.hx_slots.proofs.places.seen.Given as goal

abbrev pub invariant-loop-k : goal.invariant-loop-k
invariant-loop-k l = l.seen ≡ seen_behind l.word l.committed (slots_of (take l.k l.active))
