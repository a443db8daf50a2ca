use Rattle.std.proofs.Common.{arith, refl, drop, length-drop}
use Rattle.std.proofs.lemmas.List.{length-map}
use Rattle.hx_slots.specs.Slot.{SlotView, slots_of}
use Rattle.hx_slots.proofs.Indexed.{none_violated}
use Rattle.hx_slots.proofs.Kept.{reader_is}
use Rattle.hx_slots.proofs.places.first_violated.Goals as goal

pub returns-then-not-may_violate : goal.returns-then-not-may_violate
returns-then-not-may_violate c =
    let xs = c.args.active.now in
    let none = none_violated c.args.word (slots_of (drop c.args.from xs)) (c.if-not-may_violate.ensures refl) c.args.value in
    omega (arith, none, length-map (drop c.args.from xs) (λ (x : SlotView). x.slot), length-drop c.args.from xs, c.requires.from)

pub is_violated-requires : goal.is_violated-requires
is_violated-requires c = reader_is c.args.readers.bits c.args.word c.args.active.now c.loop-place.place c.index-active-place.result (omega (arith, c.loop-place-test.true)) c.index-active-place.is c.requires.readers
