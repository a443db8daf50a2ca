use Rattle.std.proofs.Common.{arith, sym, subst}
use Rattle.hx_slots.specs.Slot.{slots_of}
use Rattle.hx_slots.specs.Slots.{HaveRooms, AreApart, workers_of}
use Rattle.hx_slots.proofs.Indexed.{apart}
use Rattle.hx_slots.proofs.Rooms.{rooms_last, rooms_but_last}
use Rattle.hx_slots.proofs.slots.Slots.drop_all.Goals as goal

pub loop-slot-preserved : goal.loop-slot-preserved
loop-slot-preserved c =
    let kept = c.loop-slot.invariant.0 in
    let popped = rooms_but_last _ c.pop.new.self.items c.in-Some.slot (subst (HaveRooms _) c.in-Some.ensures.items kept.active_rooms) in (
      record {
        active_rooms = popped.0;
        free_rooms = subst (HaveRooms _) (sym c.in-Ok.ensures.items) (rooms_last _ c.loop-slot.self-inside.free.items c.in-Some.slot popped.1 kept.free_rooms);
        all = omega (arith, kept.all, c.in-Ok.ensures.len, c.in-Some.ensures.len);
        active_fit = omega (arith, kept.active_fit, c.in-Some.ensures.capacity);
        free_fit = omega (arith, kept.free_fit, c.in-Ok.ensures.capacity);
        index = kept.index;
      },
      c.loop-slot.invariant.1,
      c.loop-slot.invariant.2,
    )

pub forget_from-requires-clause-apart : goal.forget_from-requires-clause-apart
forget_from-requires-clause-apart c = subst (λ l. AreApart (workers_of (slots_of l))) (sym c.deref.ensures.value) (apart _ _ c.self.invariant.workers)
