use Rattle.std.proofs.Common.{rules, arith, ◌≡◌, ◌<◌, ◌+◌, ap₂, length, set, take, get_or, sym, ap, ◌∙◌, subst, length-set}
use Rattle.hx_speculation.specs.Slots.{is_at, found, finds_own, LoadLost}
use Rattle.hx_slots.specs.Slot.{SlotView, slots_of, found_of, marked_by}
use Rattle.hx_slots.specs.Slots.{SlotsView, place_of, seen_behind, after_load, workers_of}
use Rattle.std.proofs.lemmas.List.{length-map}
use Rattle.hx_marks.specs.Table.{look}
use Rattle.hx_speculation.specs.Board.{Capacities}
use Rattle.hx_slots.proofs.Active.{found_lost}
use Rattle.hx_slots.proofs.Busy.{workers_after_load}
use Rattle.hx_slots.proofs.Calls.{load_finds, load_marks}
use Rattle.hx_slots.proofs.Indexed.{apart}
use Rattle.hx_slots.proofs.Kept.{load_index, worker_at}
use Rattle.hx_slots.proofs.Rooms.{rooms_at, rooms_set, marked_rooms, workers_stay, slots_view}
use Rattle.hx_slots.proofs.slots.Slots.load.Goals as goal

pub returns-then-place-len-clause-found : goal.returns-then-place-len-clause-found
returns-then-place-len-clause-found c =
    let at : c.place_at-place.result ≡ place_of (λ x. is_at x c.args.worker c.args.attempt) (slots_of c.self.inside.active.items) = c.place_at-place.ensures ∙ ap (λ xs. place_of (λ x. is_at x c.args.worker c.args.attempt) (slots_of xs)) c.deref.ensures.value in
    subst (λ l. LoadLost ≡ found c.args.self.now.rooms.marks c.args.worker c.args.attempt c.args.word c.args.committed l) (ap (λ (v : SlotsView). v.active) c.self.view_is)
    (sym (found_lost c.args.self.now.rooms.marks c.args.worker c.args.attempt c.args.word c.args.committed (slots_of c.self.inside.active.items) (omega (arith, c.if-place-len.true, at, length-map c.self.inside.active.items (λ (x : SlotView). x.slot)))))

at_place : (c : goal.After-note) → c.place_at-place.result ≡ place_of (λ x. is_at x c.args.worker c.args.attempt) (slots_of c.self.inside.active.items)
at_place c = c.place_at-place.ensures ∙ ap (λ xs. place_of (λ x. is_at x c.args.worker c.args.attempt) (slots_of xs)) c.deref.ensures.value

within : (c : goal.After-note) → c.place_at-place.result < length c.self.inside.active.items
within c = omega (arith, c.if-place-len.false)

here : (c : goal.After-note) → c.load-found.new.self ≡ marked_by c.args.word c.load-found.result (get_or c.self.inside.active.items c.place_at-place.result c.index_mut.result.now)
here c = c.load-found.ensures.marked ∙ ap (marked_by c.args.word c.load-found.result) c.index_mut.ensures.value

marks_here : (c : goal.After-note) → slots_of (set c.self.inside.active.items c.place_at-place.result c.load-found.new.self) ≡ after_load c.args.worker c.args.attempt c.args.word (found_of c.load-found.result) (slots_of c.self.inside.active.items)
marks_here c =
    load_marks c.self.inside.marks c.args.worker c.args.attempt c.args.word c.args.committed c.self.inside.active.items c.place_at-place.result c.index_mut.result.now (at_place c) (within c) c.load-found.result c.load-found.new.self (here c)

pub invariant_of-self : goal.invariant_of-self
invariant_of-self c =
    let xs = c.self.inside.active.items in
    let inv = c.self.invariant in
    let long = length-set xs c.place_at-place.result c.load-found.new.self in
    let same = ap workers_of (marks_here c) ∙ workers_after_load c.args.worker c.args.attempt c.args.word (found_of c.load-found.result) (slots_of xs) in
    record {
      active_rooms = rooms_set _ xs c.place_at-place.result c.load-found.new.self (marked_rooms c.args.word c.load-found.result _ c.load-found.new.self (here c) ∙ rooms_at _ xs c.place_at-place.result c.index_mut.result.now (within c) inv.active_rooms) inv.active_rooms;
      free_rooms = inv.free_rooms;
      workers = workers_stay _ _ _ _ (ap (λ n. n + length c.self.inside.free.items) long) same inv.workers;
      active_fit = omega (arith, inv.active_fit, long);
      free_fit = omega (arith, inv.free_fit, long);
      index = load_index c.args.word c.args.worker xs c.place_at-place.result c.index_mut.result.now _ _ (within c) (apart _ _ inv.workers) (worker_at c.args.worker c.args.attempt xs c.place_at-place.result c.index_mut.result.now (at_place c) (within c)) inv.index c.load-found.result c.load-found.new.self (here c) c.note.ensures;
    }

pub returns-clause-found : goal.returns-clause-found
returns-clause-found c =
    let xs = c.self.inside.active.items in
    let seen : c.seen-seen.result ≡ seen_behind c.args.word c.args.committed (slots_of (take c.place_at-place.result xs)) = search rules in
    let room : (get_or xs c.place_at-place.result c.index_mut.result.now).rooms.marks ≡ c.self.inside.marks = ap (λ (r : Capacities). r.marks) (rooms_at _ xs c.place_at-place.result c.index_mut.result.now (within c) c.self.invariant.active_rooms) in
    let found_here : found_of c.load-found.result ≡ finds_own (get_or xs c.place_at-place.result c.index_mut.result.now).rooms.marks c.args.word c.seen-seen.result (get_or xs c.place_at-place.result c.index_mut.result.now).slot (look (get_or xs c.place_at-place.result c.index_mut.result.now).slot.buffer c.args.word) = search rules in
    subst (λ (v : SlotsView). found_of c.load-found.result ≡ found v.rooms.marks c.args.worker c.args.attempt c.args.word c.args.committed v.active) c.self.view_is
    (load_finds c.self.inside.marks c.args.worker c.args.attempt c.args.word c.args.committed xs c.place_at-place.result c.index_mut.result.now (at_place c) (within c) c.seen-seen.result c.load-found.result seen room found_here)

pub returns-clause-after : goal.returns-clause-after
returns-clause-after c =
    let slots = length-set c.self.inside.active.items c.place_at-place.result c.load-found.new.self in
    let made = ap₂ (λ a n. slots_view a n c.self.inside.marks c.self.inside.buffer) (marks_here c) (ap (λ n. n + length c.self.inside.free.items) slots) in
    made ∙ ap (λ (v : SlotsView). record v { active = after_load c.args.worker c.args.attempt c.args.word (found_of c.load-found.result) v.active }) c.self.view_is
