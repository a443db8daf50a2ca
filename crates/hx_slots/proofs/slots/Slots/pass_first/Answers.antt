use Rattle.std.proofs.Common.{arith, ◌<◌, sym, subst, ap, ◌∙◌, length}
use Rattle.std.proofs.lemmas.List.{length-map}
use Rattle.hx_slots.specs.Slot.{SlotView, slots_of}
use Rattle.hx_slots.specs.Slots.{SlotsView, HaveRooms, workers_of}
use Rattle.hx_slots.specs.Index.{IsIndexOf}
use Rattle.hx_slots.proofs.Indexed.{apart}
use Rattle.hx_slots.proofs.Kept.{pass_step}
use Rattle.hx_slots.proofs.Rooms.{rooms_at, rooms_last, rooms_but_first, workers_but_first, workers_stay}
use Rattle.hx_slots.proofs.slots.Slots.pass_first.Goals as goal

pub invariant_of-self : goal.invariant_of-self
invariant_of-self c =
    let inv = c.self.invariant in
    let xs = c.self.inside.active.items in
    let items = c.remove-first.ensures.items in
    let some = subst (λ (v : SlotsView). 0 < length v.active) (sym c.self.view_is) c.requires in
    let long = length-map xs (λ (x : SlotView). x.slot) in
    let first = ap (λ (x : SlotView). x.rooms) c.remove-first.ensures.value ∙ rooms_at _ xs 0 c.remove-first.result (omega (arith, some, long)) inv.active_rooms in
    record {
      active_rooms = subst (HaveRooms _) (sym items) (rooms_but_first _ xs inv.active_rooms);
      free_rooms = subst (HaveRooms _) (sym c.in-Ok.ensures.items) (rooms_last _ c.self.inside.free.items c.remove-first.result first inv.free_rooms);
      workers = workers_stay _ _ _ _ (omega (arith, c.remove-first.ensures.len, c.in-Ok.ensures.len)) (ap (λ l. workers_of (slots_of l)) items) (workers_but_first _ xs inv.workers);
      active_fit = omega (arith, inv.active_fit, c.remove-first.ensures.len, c.remove-first.ensures.capacity, c.in-Ok.ensures.len);
      free_fit = omega (arith, inv.free_fit, c.remove-first.ensures.len, c.in-Ok.ensures.len, c.in-Ok.ensures.capacity);
      index = subst (λ l. IsIndexOf c.forget.new.self.rows.items (slots_of l)) (sym items) (pass_step xs c.remove-first.result _ _ c.self.inside.index.rows.items c.forget.new.self.rows.items (omega (arith, some, long)) c.remove-first.ensures.value c.marks.ensures c.worker.ensures (apart _ _ inv.workers) inv.index c.forget.ensures);
    }
