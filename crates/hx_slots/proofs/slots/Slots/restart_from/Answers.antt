use Rattle.std.proofs.Common.{arith, ℕ, ◌≡◌, ◌+◌, ◌==◌, true, false, List, length, take, drop, map, ◌++◌, vec_capacity, ap, ap₂, sym, ◌∙◌, subst}
use Rattle.hx_speculation.specs.Slots.{may_restart, from_worker, restarted_from, restarted}
use Rattle.hx_slots.specs.Slot.{SlotView, slots_of, rooms_of, rooms_for}
use Rattle.hx_slots.specs.Slots.{SlotsView, KeepsSlots, place_of, workers_of, AreApart}
use Rattle.hx_slots.proofs.Busy.{workers_restarted}
use Rattle.hx_slots.proofs.Calls.{worker_fits, worker_may, worker_restarts}
use Rattle.hx_slots.specs.Index.{IsIndexOf}
use Rattle.hx_slots.proofs.Indexed.{apart}
use Rattle.hx_slots.proofs.Kept.{restart_index}
use Rattle.hx_slots.proofs.Rooms.{rooms_same, same_long, workers_stay, slots_view, written_whole}
use Rattle.hx_slots.proofs.slots.Slots.restart_from.Goals as goal

-- the place of the worker's iteration, whose slots were read as these
place_is : (w k : ℕ) (read xs : List SlotView) → k ≡ place_of (λ x. x.worker == w) (slots_of read) → read ≡ xs → k ≡ place_of (λ x. x.worker == w) (slots_of xs)
place_is w k read xs at e = at ∙ ap (λ l. place_of (λ x. x.worker == w) (slots_of l)) e

pub may_restart-requires : goal.may_restart-requires
may_restart-requires c =
    let at = place_is _ _ _ _ c.place_of-first.ensures c.deref.ensures.value in
    omega (arith, worker_fits c.args.worker c.self.inside.active.items _ at, c.deref-2.ensures.len)

pub returns-then-not-may_restart-clause-told : goal.returns-then-not-may_restart-clause-told
returns-then-not-may_restart-clause-told c =
    let at = place_is _ _ _ _ c.place_of-first.ensures c.deref.ensures.value in
    let told = c.if-not-may_restart.ensures ∙ ap (λ l. may_restart (slots_of (drop c.place_of-first.result l))) c.deref-2.ensures.value in
    subst (λ (v : SlotsView). false ≡ may_restart (from_worker c.args.worker v.active)) c.self.view_is (told ∙ worker_may c.args.worker c.self.inside.active.items _ at)

pub restart-requires-clause-from : goal.restart-requires-clause-from
restart-requires-clause-from c =
    let at = place_is _ _ _ _ c.place_of-first.ensures c.deref.ensures.value in
    omega (arith, worker_fits c.args.worker c.self.inside.active.items _ at, c.deref_mut.ensures.len)

now_is : (c : goal.After-self-1) → take c.self.inside.active.len (c.restart.new.active ++ drop (length c.restart.new.active) c.self.inside.active.items) ≡ c.restart.new.active
now_is c = written_whole _ _ _ (c.restart.ensures.rooms ∙ ap rooms_of c.deref_mut.ensures.value) (omega arith)

restarts : (c : goal.After-self-1) → slots_of c.restart.new.active ≡ restarted_from c.args.worker (slots_of c.self.inside.active.items)
restarts c =
    let at = place_is _ _ _ _ c.place_of-first.ensures c.deref.ensures.value in
    worker_restarts c.args.worker c.self.inside.active.items _ at c.restart.new.active
    (c.restart.ensures.slots ∙ ap (λ l. slots_of (take c.place_of-first.result l) ++ map restarted (slots_of (drop c.place_of-first.result l))) c.deref_mut.ensures.value)

rooms_stay : (c : goal.After-self-1) → rooms_of c.restart.new.active ≡ rooms_of c.self.inside.active.items
rooms_stay c = c.restart.ensures.rooms ∙ ap rooms_of c.deref_mut.ensures.value

forgot : (c : goal.After-self-1) → IsIndexOf c.forget_from.new.self.rows.items (slots_of (take c.place_of-first.result c.self.inside.active.items))
forgot c = subst (λ l. IsIndexOf c.forget_from.new.self.rows.items (slots_of (take c.place_of-first.result l))) c.deref-3.ensures.value c.forget_from.ensures

pub forget_from-requires : goal.forget_from-requires
forget_from-requires c =
    let at = place_is _ _ _ _ c.place_of-first.ensures c.deref.ensures.value in
    record {
      from = omega (arith, worker_fits c.args.worker c.self.inside.active.items _ at, c.deref-3.ensures.len);
      apart = subst (λ l. AreApart (workers_of (slots_of l))) (sym c.deref-3.ensures.value) (apart _ _ c.self.invariant.workers);
      index = subst (λ l. IsIndexOf c.self.inside.index.rows.items (slots_of l)) (sym c.deref-3.ensures.value) c.self.invariant.index;
    }

pub invariant_of-self : goal.invariant_of-self
invariant_of-self c =
    let inv = c.self.invariant in
    let xs = c.self.inside.active.items in
    let long = same_long xs c.restart.new.active (rooms_stay c) in
    subst (λ l. KeepsSlots (rooms_for c.self.inside.marks c.self.inside.buffer) l c.self.inside.active.cap c.self.inside.free.items (vec_capacity c.self.inside.free) c.forget_from.new.self.rows.items) (sym (now_is c)) (record {
      active_rooms = rooms_same _ xs c.restart.new.active (rooms_stay c) inv.active_rooms;
      free_rooms = inv.free_rooms;
      workers = workers_stay (length xs + length c.self.inside.free.items) _ _ _ (omega (arith, long)) (ap workers_of (restarts c) ∙ workers_restarted c.args.worker (slots_of xs)) inv.workers;
      active_fit = omega (arith, inv.active_fit, long);
      free_fit = omega (arith, inv.free_fit, long);
      index = restart_index _ xs c.place_of-first.result _ _ (c.restart.ensures.slots ∙ ap (λ l. slots_of (take c.place_of-first.result l) ++ map restarted (slots_of (drop c.place_of-first.result l))) c.deref_mut.ensures.value) (forgot c);
    })

pub returns-clause-told : goal.returns-clause-told
returns-clause-told c =
    let at = place_is _ _ _ _ c.place_of-first.ensures c.deref.ensures.value in
    let told = c.if-not-may_restart.ensures ∙ ap (λ l. may_restart (slots_of (drop c.place_of-first.result l))) c.deref-2.ensures.value in
    subst (λ (v : SlotsView). true ≡ may_restart (from_worker c.args.worker v.active)) c.self.view_is (told ∙ worker_may c.args.worker c.self.inside.active.items _ at)

pub returns-clause-done : goal.returns-clause-done
returns-clause-done c _ =
    let long = same_long c.self.inside.active.items c.restart.new.active (rooms_stay c) in
    ap₂ (λ a n. slots_view a n c.self.inside.marks c.self.inside.buffer) (ap slots_of (now_is c) ∙ restarts c) (ap (λ n. n + length c.self.inside.free.items) (ap length (now_is c) ∙ long))
    ∙ ap (λ (v : SlotsView). record v { active = restarted_from c.args.worker v.active }) c.self.view_is
