use Rattle.std.proofs.Common.{arith, ◌<◌, ◌+◌, ◌++◌, ◌∷◌, [], length, ap, sym, ◌∙◌, subst}
use Rattle.hx_slots.specs.Slot.{SlotView, slots_of}
use Rattle.hx_slots.specs.Slots.{SlotsView, HaveRooms, IsFree, workers_of}
use Rattle.hx_slots.specs.Index.{IsIndexOf}
use Rattle.hx_slots.proofs.Kept.{begin_index}
use Rattle.hx_slots.proofs.Workers.{place_for, workers_last}
use Rattle.hx_slots.proofs.Rooms.{rooms_last, rooms_but_last, workers_stay, workers_with, long_workers}
use Rattle.hx_slots.proofs.slots.Slots.begin.Goals as goal

pub unreachable-requires : goal.unreachable-requires
unreachable-requires c =
    let xs = c.self.inside.active.items in
    let known = subst (λ (v : SlotsView). c.args.worker < v.slots) (sym c.self.view_is) c.requires.worker in
    let free = subst (λ (v : SlotsView). IsFree c.args.worker (workers_of v.active)) (sym c.self.view_is) c.requires.free in
    let few = place_for _ c.args.worker (workers_of (slots_of xs)) known free c.self.invariant.workers in
    let long = long_workers xs in
    let none = c.in_default.ensures.cases.0 in
    omega (arith, few, long, none)

pub invariant_of-self : goal.invariant_of-self
invariant_of-self c =
    let inv = c.self.invariant in
    let xs = c.self.inside.active.items in
    let known = subst (λ (v : SlotsView). c.args.worker < v.slots) (sym c.self.view_is) c.requires.worker in
    let free = subst (λ (v : SlotsView). IsFree c.args.worker (workers_of v.active)) (sym c.self.view_is) c.requires.free in
    let popped = rooms_but_last _ c.pop.new.self.items c.in-Some.slot (subst (HaveRooms _) c.in-Some.ensures.items inv.free_rooms) in
    let rooms = ap (λ (x : SlotView). x.rooms) c.begin.ensures ∙ popped.1 in
    let worker = ap (λ (x : SlotView). x.slot.worker) c.begin.ensures in
    let items = c.in-Ok.ensures.items in
    let busy = ap (λ l. workers_of (slots_of l)) items ∙ workers_with xs c.begin.new.self ∙ ap (λ n. workers_of (slots_of xs) ++ n ∷ []) worker in
    record {
      active_rooms = subst (HaveRooms _) (sym items) (rooms_last _ xs c.begin.new.self rooms inv.active_rooms);
      free_rooms = popped.0;
      workers = workers_stay (length xs + length c.self.inside.free.items) _ _ _ (omega (arith, c.in-Ok.ensures.len, c.in-Some.ensures.len)) busy (workers_last _ c.args.worker (workers_of (slots_of xs)) known free inv.workers);
      active_fit = omega (arith, inv.active_fit, c.in-Ok.ensures.len, c.in-Ok.ensures.capacity, c.in-Some.ensures.len);
      free_fit = omega (arith, inv.free_fit, c.in-Ok.ensures.len, c.in-Some.ensures.capacity, c.in-Some.ensures.len);
      index = subst (λ l. IsIndexOf c.self.inside.index.rows.items (slots_of l)) (sym items) (begin_index _ xs c.begin.new.self (ap (λ (x : SlotView). x.slot.marks) c.begin.ensures) inv.index);
    }
