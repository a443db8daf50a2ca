use Rattle.std.proofs.Common.{◌≡◌, drop}
use Rattle.hx_speculation.specs.Slots.{is_marked as any_marked}
use Rattle.hx_slots.specs.Slot.{slots_of}
use Rattle.hx_slots.proofs.places.is_marked.Given as goal

abbrev pub invariant-loop-k : goal.invariant-loop-k
invariant-loop-k l = any_marked l.word (slots_of (drop l.from l.active)) ≡ any_marked l.word (slots_of (drop l.k l.active))
