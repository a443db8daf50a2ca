use Rattle.std.proofs.Common.{rules, arith, ℕ, ℤ, ◌≡◌, ◌<◌, ◌+◌, ◌-◌, true, false, List, length, get_or, set, take, drop, map, ◌++◌, vec_capacity, refl, ap, ap₂, sym, ◌∙◌, subst, length-set, length-drop}
use Rattle.std.proofs.lemmas.List.{get_or_default}
use Rattle.hx_marks.specs.Table.{put}
use Rattle.hx_speculation.specs.Frame.{is_full}
use Rattle.hx_speculation.specs.Board.{Capacities}
use Rattle.hx_speculation.specs.Slots.{is_at, is_marked, may_restart, restarted, written, with_write, StoreLost, BufferFull, NumbersEnd, Restarts}
use Rattle.hx_slots.specs.Slot.{SlotView, slots_of, rooms_of, rooms_for}
use Rattle.hx_slots.specs.Slots.{SlotsView, KeepsSlots, place_of, before_violated, workers_of, AreApart}
use Rattle.hx_slots.proofs.Busy.{workers_after_store}
use Rattle.hx_slots.proofs.Calls.{store_lost, store_full, store_ends, store_done, store_writes, first_fits}
use Rattle.hx_slots.specs.Index.{IsIndexOf, AreReaders}
use Rattle.hx_slots.proofs.Indexed.{apart}
use Rattle.hx_slots.proofs.Kept.{store_index}
use Rattle.hx_slots.proofs.Rooms.{rooms_at, rooms_set, rooms_same, same_long, workers_stay, slots_view, written_whole}
use Rattle.hx_slots.proofs.slots.Slots.store.Goals as goal

-- the place of the attempt, whose slots were read as these
place_is : (w attempt k : ℕ) (read xs : List SlotView) → k ≡ place_of (λ x. is_at x w attempt) (slots_of read) → read ≡ xs → k ≡ place_of (λ x. is_at x w attempt) (slots_of xs)
place_is w attempt k read xs at e = at ∙ ap (λ l. place_of (λ x. is_at x w attempt) (slots_of l)) e

-- the first that is violated
first_is : (k a : ℕ) (u v : ℤ) (first : ℕ) (read xs : List SlotView) → first ≡ k + 1 + before_violated a u (slots_of (drop (k + 1) read)) → u ≡ v → read ≡ xs → first ≡ k + 1 + before_violated a v (slots_of (drop (k + 1) xs))
first_is k a u v first read xs is e f = is ∙ ap₂ (λ w l. k + 1 + before_violated a w (slots_of (drop (k + 1) l))) e f

pub returns-then-place-len-clause-written : goal.returns-then-place-len-clause-written
returns-then-place-len-clause-written c =
    let at = place_is _ _ _ _ _ c.place_at-place.ensures c.deref.ensures.value in
    subst (λ (v : SlotsView). StoreLost ≡ written v.rooms.buffer c.args.worker c.args.attempt c.args.word c.args.value v.active) c.self.view_is
    (store_lost c.self.inside.buffer c.args.worker c.args.attempt c.args.word c.self.inside.active.items _ at (omega (arith, c.if-place-len.true)) c.args.value)

pub returns-then-is_full-clause-written : goal.returns-then-is_full-clause-written
returns-then-is_full-clause-written c =
    let at = place_is _ _ _ _ _ c.place_at-place.ensures c.deref.ensures.value in
    let lt : c.place_at-place.result < length c.self.inside.active.items = omega (arith, c.if-place-len.false) in
    let full : is_full c.self.inside.buffer (get_or c.self.inside.active.items c.place_at-place.result c.index.result.now).slot.buffer c.args.word ≡ true = sym (c.if-is_full.ensures ∙ ap (λ (x : SlotView). is_full c.self.inside.buffer x.slot.buffer c.args.word) c.index.ensures) in
    subst (λ (v : SlotsView). BufferFull ≡ written v.rooms.buffer c.args.worker c.args.attempt c.args.word c.args.value v.active) c.self.view_is
    (store_full c.self.inside.buffer c.args.worker c.args.attempt c.args.word c.args.value c.self.inside.active.items c.place_at-place.result _ c.index.result.now at lt refl full)

pub first_violated-first-requires-clause-readers : goal.first_violated-first-requires-clause-readers
first_violated-first-requires-clause-readers c =
    subst (λ l. AreReaders c.readers-readers.result.bits c.args.word (slots_of l)) (sym c.deref-2.ensures.value)
    (c.readers-readers.ensures (slots_of c.self.inside.active.items) (apart _ _ c.self.invariant.workers) c.self.invariant.index)

pub may_restart-requires : goal.may_restart-requires
may_restart-requires c =
    let at = place_is _ _ _ _ _ c.place_at-place.ensures c.deref.ensures.value in
    let lt : c.place_at-place.result < length c.self.inside.active.items = omega (arith, c.if-place-len.false) in
    let first : c.first_violated-first.result ≡ c.place_at-place.result + 1 + before_violated c.args.word c.args.value (slots_of (drop (c.place_at-place.result + 1) c.self.inside.active.items)) = first_is _ c.args.word _ _ _ _ _ c.first_violated-first.ensures (search rules) c.deref-2.ensures.value in
    omega (arith, first_fits c.self.inside.buffer c.args.worker c.args.attempt c.args.word c.args.value c.self.inside.active.items c.place_at-place.result c.first_violated-first.result c.index.result.now at lt first, c.deref-3.ensures.len)

pub returns-then-not-may_restart-clause-written : goal.returns-then-not-may_restart-clause-written
returns-then-not-may_restart-clause-written c =
    let at = place_is _ _ _ _ _ c.place_at-place.ensures c.deref.ensures.value in
    let lt : c.place_at-place.result < length c.self.inside.active.items = omega (arith, c.if-place-len.false) in
    let first : c.first_violated-first.result ≡ c.place_at-place.result + 1 + before_violated c.args.word c.args.value (slots_of (drop (c.place_at-place.result + 1) c.self.inside.active.items)) = first_is _ c.args.word _ _ _ _ _ c.first_violated-first.ensures (search rules) c.deref-2.ensures.value in
    let room : is_full c.self.inside.buffer (get_or c.self.inside.active.items c.place_at-place.result c.index.result.now).slot.buffer c.args.word ≡ false = sym (c.if-is_full.ensures ∙ ap (λ (x : SlotView). is_full c.self.inside.buffer x.slot.buffer c.args.word) c.index.ensures) in
    let last = sym (c.if-not-may_restart.ensures ∙ ap (λ l. may_restart (slots_of (drop c.first_violated-first.result l))) c.deref-3.ensures.value) in
    subst (λ (v : SlotsView). NumbersEnd ≡ written v.rooms.buffer c.args.worker c.args.attempt c.args.word c.args.value v.active) c.self.view_is
    (store_ends c.self.inside.buffer c.args.worker c.args.attempt c.args.word c.args.value c.self.inside.active.items c.place_at-place.result c.first_violated-first.result c.index.result.now at lt first room last)

pub is_marked-had_readers-requires-clause-readers : goal.is_marked-had_readers-requires-clause-readers
is_marked-had_readers-requires-clause-readers c =
    subst (λ l. AreReaders c.readers-readers.result.bits c.args.word (slots_of l)) (sym c.deref-4.ensures.value)
    (c.readers-readers.ensures (slots_of c.self.inside.active.items) (apart _ _ c.self.invariant.workers) c.self.invariant.index)

pub forget_from-requires : goal.forget_from-requires
forget_from-requires c =
    let at = place_is _ _ _ _ _ c.place_at-place.ensures c.deref.ensures.value in
    let lt : c.place_at-place.result < length c.self.inside.active.items = omega (arith, c.if-place-len.false) in
    let first : c.first_violated-first.result ≡ c.place_at-place.result + 1 + before_violated c.args.word c.args.value (slots_of (drop (c.place_at-place.result + 1) c.self.inside.active.items)) = first_is _ c.args.word _ _ _ _ _ c.first_violated-first.ensures (search rules) c.deref-2.ensures.value in
    record {
      from = omega (arith, first_fits c.self.inside.buffer c.args.worker c.args.attempt c.args.word c.args.value c.self.inside.active.items c.place_at-place.result c.first_violated-first.result c.index.result.now at lt first, c.deref-5.ensures.len);
      apart = subst (λ l. AreApart (workers_of (slots_of l))) (sym c.deref-5.ensures.value) (apart _ _ c.self.invariant.workers);
      index = subst (λ l. IsIndexOf c.self.inside.index.rows.items (slots_of l)) (sym c.deref-5.ensures.value) c.self.invariant.index;
    }

pub write-requires : goal.write-requires
write-requires c =
    let lt : c.place_at-place.result < length c.self.inside.active.items = omega (arith, c.if-place-len.false) in
    let room : is_full c.self.inside.buffer (get_or c.self.inside.active.items c.place_at-place.result c.index.result.now).slot.buffer c.args.word ≡ false = sym (c.if-is_full.ensures ∙ ap (λ (x : SlotView). is_full c.self.inside.buffer x.slot.buffer c.args.word) c.index.ensures) in
    let xs = c.self.inside.active.items in
    let here = c.index_mut.ensures.value ∙ get_or_default xs c.place_at-place.result c.index_mut.result.now c.index.result.now lt in
    let rooms = ap (λ (r : Capacities). r.buffer) (rooms_at _ xs c.place_at-place.result c.index.result.now lt c.self.invariant.active_rooms) in
    ap (λ (x : SlotView). is_full x.rooms.buffer x.slot.buffer c.args.word) here ∙ ap (λ n. is_full n (get_or xs c.place_at-place.result c.index.result.now).slot.buffer c.args.word) rooms ∙ room

pub restart-requires-clause-from : goal.restart-requires-clause-from
restart-requires-clause-from c =
    let at = place_is _ _ _ _ _ c.place_at-place.ensures c.deref.ensures.value in
    let lt : c.place_at-place.result < length c.self.inside.active.items = omega (arith, c.if-place-len.false) in
    let first : c.first_violated-first.result ≡ c.place_at-place.result + 1 + before_violated c.args.word c.args.value (slots_of (drop (c.place_at-place.result + 1) c.self.inside.active.items)) = first_is _ c.args.word _ _ _ _ _ c.first_violated-first.ensures (search rules) c.deref-2.ensures.value in
    omega (arith, first_fits c.self.inside.buffer c.args.worker c.args.attempt c.args.word c.args.value c.self.inside.active.items c.place_at-place.result c.first_violated-first.result c.index.result.now at lt first, c.deref_mut.ensures.len)

pub overflow_sub-result : goal.overflow_sub-result
overflow_sub-result c =
    let at = place_is _ _ _ _ _ c.place_at-place.ensures c.deref.ensures.value in
    let lt : c.place_at-place.result < length c.self.inside.active.items = omega (arith, c.if-place-len.false) in
    let first : c.first_violated-first.result ≡ c.place_at-place.result + 1 + before_violated c.args.word c.args.value (slots_of (drop (c.place_at-place.result + 1) c.self.inside.active.items)) = first_is _ c.args.word _ _ _ _ _ c.first_violated-first.ensures (search rules) c.deref-2.ensures.value in
    omega (arith, first_fits c.self.inside.buffer c.args.worker c.args.attempt c.args.word c.args.value c.self.inside.active.items c.place_at-place.result c.first_violated-first.result c.index.result.now at lt first, c.len-2.ensures)

-- what is written at the place
here : (c : goal.After-len-2) → c.write.new.self ≡ record (get_or c.self.inside.active.items c.place_at-place.result c.index.result.now) { slot = record (get_or c.self.inside.active.items c.place_at-place.result c.index.result.now).slot { buffer = put (get_or c.self.inside.active.items c.place_at-place.result c.index.result.now).slot.buffer c.args.word c.args.value } }
here c =
    let lt : c.place_at-place.result < length c.self.inside.active.items = omega (arith, c.if-place-len.false) in
    let is = c.index_mut.ensures.value ∙ get_or_default c.self.inside.active.items c.place_at-place.result c.index_mut.result.now c.index.result.now lt in
    let wrote : c.write.new.self ≡ record c.index_mut.result.now { slot = record c.index_mut.result.now.slot { buffer = put c.index_mut.result.now.slot.buffer c.args.word c.args.value } } = search rules in
    wrote ∙ ap (λ (x : SlotView). record x { slot = record x.slot { buffer = put x.slot.buffer c.args.word c.args.value } }) is

rooms_stay : (c : goal.After-len-2) → rooms_of c.restart.new.active ≡ rooms_of (set c.self.inside.active.items c.place_at-place.result c.write.new.self)
rooms_stay c = c.restart.ensures.rooms ∙ ap rooms_of c.deref_mut.ensures.value

now_is : (c : goal.After-len-2) → take c.self.inside.active.len (c.restart.new.active ++ drop (length c.restart.new.active) (set c.self.inside.active.items c.place_at-place.result c.write.new.self)) ≡ c.restart.new.active
now_is c = written_whole _ _ _ (rooms_stay c) (omega (arith, length-set c.self.inside.active.items c.place_at-place.result c.write.new.self))

writes : (c : goal.After-len-2) → slots_of c.restart.new.active ≡ with_write c.args.worker c.args.attempt c.args.word c.args.value (slots_of c.self.inside.active.items)
writes c =
    let at = place_is _ _ _ _ _ c.place_at-place.ensures c.deref.ensures.value in
    let lt : c.place_at-place.result < length c.self.inside.active.items = omega (arith, c.if-place-len.false) in
    let first : c.first_violated-first.result ≡ c.place_at-place.result + 1 + before_violated c.args.word c.args.value (slots_of (drop (c.place_at-place.result + 1) c.self.inside.active.items)) = first_is _ c.args.word _ _ _ _ _ c.first_violated-first.ensures (search rules) c.deref-2.ensures.value in
    store_writes c.self.inside.buffer c.args.worker c.args.attempt c.args.word c.args.value c.self.inside.active.items c.place_at-place.result c.first_violated-first.result c.index.result.now at lt first c.write.new.self c.restart.new.active (ap (λ (x : SlotView). x.slot) (here c))
    (c.restart.ensures.slots ∙ ap (λ l. slots_of (take c.first_violated-first.result l) ++ map restarted (slots_of (drop c.first_violated-first.result l))) c.deref_mut.ensures.value)

pub invariant_of-self : goal.invariant_of-self
invariant_of-self c =
    let inv = c.self.invariant in
    let xs = c.self.inside.active.items in
    let lt : c.place_at-place.result < length c.self.inside.active.items = omega (arith, c.if-place-len.false) in
    let set_long = length-set xs c.place_at-place.result c.write.new.self in
    let long = same_long _ c.restart.new.active (rooms_stay c) in
    let own = ap (λ (x : SlotView). x.rooms) (here c) ∙ rooms_at _ xs c.place_at-place.result c.index.result.now lt inv.active_rooms in
    subst (λ l. KeepsSlots (rooms_for c.self.inside.marks c.self.inside.buffer) l c.self.inside.active.cap c.self.inside.free.items (vec_capacity c.self.inside.free) c.forget_from.new.self.rows.items) (sym (now_is c)) (record {
      active_rooms = rooms_same _ _ c.restart.new.active (rooms_stay c) (rooms_set _ xs c.place_at-place.result c.write.new.self own inv.active_rooms);
      free_rooms = inv.free_rooms;
      workers = workers_stay (length xs + length c.self.inside.free.items) _ _ _ (omega (arith, long, set_long)) (ap workers_of (writes c) ∙ workers_after_store c.args.worker c.args.attempt c.args.word c.args.value (Restarts 0 true) (slots_of xs)) inv.workers;
      active_fit = omega (arith, inv.active_fit, long, set_long);
      free_fit = omega (arith, inv.free_fit, long, set_long);
      index = store_index _ xs c.place_at-place.result c.first_violated-first.result c.write.new.self c.index.result.now _ _ (ap (λ (x : SlotView). x.slot.worker) (here c)) (ap (λ (x : SlotView). x.slot.marks) (here c))
          (c.restart.ensures.slots ∙ ap (λ l. slots_of (take c.first_violated-first.result l) ++ map restarted (slots_of (drop c.first_violated-first.result l))) c.deref_mut.ensures.value)
          (subst (λ l. IsIndexOf c.forget_from.new.self.rows.items (slots_of (take c.first_violated-first.result l))) c.deref-5.ensures.value c.forget_from.ensures);
    })

pub returns-clause-written : goal.returns-clause-written
returns-clause-written c =
    let at = place_is _ _ _ _ _ c.place_at-place.ensures c.deref.ensures.value in
    let lt : c.place_at-place.result < length c.self.inside.active.items = omega (arith, c.if-place-len.false) in
    let first : c.first_violated-first.result ≡ c.place_at-place.result + 1 + before_violated c.args.word c.args.value (slots_of (drop (c.place_at-place.result + 1) c.self.inside.active.items)) = first_is _ c.args.word _ _ _ _ _ c.first_violated-first.ensures (search rules) c.deref-2.ensures.value in
    let room : is_full c.self.inside.buffer (get_or c.self.inside.active.items c.place_at-place.result c.index.result.now).slot.buffer c.args.word ≡ false = sym (c.if-is_full.ensures ∙ ap (λ (x : SlotView). is_full c.self.inside.buffer x.slot.buffer c.args.word) c.index.ensures) in
    let may = sym (c.if-not-may_restart.ensures ∙ ap (λ l. may_restart (slots_of (drop c.first_violated-first.result l))) c.deref-3.ensures.value) in
    let count : c.len-2.result - c.first_violated-first.result ≡ length (drop c.first_violated-first.result c.self.inside.active.items) = omega (arith, c.len-2.ensures, length-drop c.first_violated-first.result c.self.inside.active.items) in
    let had : c.is_marked-had_readers.result ≡ is_marked c.args.word (slots_of (drop (c.place_at-place.result + 1) c.self.inside.active.items)) = c.is_marked-had_readers.ensures ∙ ap (λ l. is_marked c.args.word (slots_of (drop (c.place_at-place.result + 1) l))) c.deref-4.ensures.value in
    subst (λ (v : SlotsView). Restarts (c.len-2.result - c.first_violated-first.result) c.is_marked-had_readers.result ≡ written v.rooms.buffer c.args.worker c.args.attempt c.args.word c.args.value v.active) c.self.view_is
    (ap₂ Restarts count had ∙ store_done c.self.inside.buffer c.args.worker c.args.attempt c.args.word c.args.value c.self.inside.active.items c.place_at-place.result c.first_violated-first.result c.index.result.now at lt first room may)

pub returns-clause-after : goal.returns-clause-after
returns-clause-after c =
    let xs = c.self.inside.active.items in
    let set_long = length-set xs c.place_at-place.result c.write.new.self in
    let long = same_long _ c.restart.new.active (rooms_stay c) ∙ set_long in
    ap₂ (λ a n. slots_view a n c.self.inside.marks c.self.inside.buffer) (ap slots_of (now_is c) ∙ writes c) (ap (λ n. n + length c.self.inside.free.items) (ap length (now_is c) ∙ long))
    ∙ ap (λ (v : SlotsView). record v { active = with_write c.args.worker c.args.attempt c.args.word c.args.value v.active }) c.self.view_is
