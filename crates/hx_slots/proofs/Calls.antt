-- A load and a store at a place, as the definitions have them.
use Rattle.std.proofs.Common.{◌≡◌, ℕ, zero, suc, ◌+◌, ◌<◌, ◌≤◌, ℤ, true, false, List, [], ◌∷◌, ◌++◌, length, map, get_or, set, take, drop, refl, sym, ap, ap₂, ◌∙◌, arith, append_assoc, add-one, length-drop}
use Rattle.std.specs.Prelude.{◌==◌}
use Rattle.std.proofs.lemmas.List.{length-map, map-set, take-map, drop-map, get_or-map, set-get_or}
use Rattle.hx_marks.specs.Table.{look, put}
use Rattle.hx_code.specs.Local.{LocalView}
use Rattle.hx_speculation.specs.Slots.{Slot, is_at, found, finds_own, written, writes_own, with_write, violated, squashed, is_marked, may_restart, restarted, from_worker, restarted_from, LoadLost, Restarts, BufferFull, NumbersEnd, StoreLost}
use Rattle.hx_speculation.specs.Frame.{is_full}
use Rattle.hx_slots.specs.Slot.{SlotView, slots_of, found_of, marked_by}
use Rattle.hx_slots.specs.Slots.{place_of, seen_behind, before_violated, after_load}
use Rattle.hx_slots.specs.declared.slot.Found.{Found}
use Rattle.hx_slots.specs.declared.slot.Found.TheVariants.{Known as IsKnown, New as IsNew, Full as IsFull, Lost as IsLost}
use Rattle.hx_slots.proofs.Active.{found_there, from_there, restarted_there, few_before, few_before_violated, found_lost, written_lost, mark_there, written_there, write_there, violated_there, squashed_there}

slot_at : (xs : List SlotView) (k : ℕ) (d : SlotView) → k < length xs → get_or (slots_of xs) k d.slot ≡ (get_or xs k d).slot
slot_at xs k d lt = get_or-map (λ (x : SlotView). x.slot) xs k d d.slot lt

set_slot : (xs : List SlotView) (k : ℕ) (y : SlotView) → slots_of (set xs k y) ≡ set (slots_of xs) k y.slot
set_slot xs k y = map-set (λ (x : SlotView). x.slot) xs k y

-- ---- load

module _ (capacity w attempt a : ℕ) (u : ℤ) (xs : List SlotView) (k : ℕ) (d : SlotView) (at : k ≡ place_of (λ x. is_at x w attempt) (slots_of xs)) (lt : k < length xs) where
  inside : place_of (λ x. is_at x w attempt) (slots_of xs) < length (slots_of xs)
  inside = omega (arith, lt, at, length-map xs (λ (x : SlotView). x.slot))

  pub load_finds : (v : ℤ) (r : Found) → v ≡ seen_behind a u (slots_of (take k xs)) → (get_or xs k d).rooms.marks ≡ capacity → found_of r ≡ finds_own (get_or xs k d).rooms.marks a v (get_or xs k d).slot (look (get_or xs k d).slot.buffer a) → found_of r ≡ found capacity w attempt a u (slots_of xs)
  load_finds v r seen room is =
      let here = slot_at xs k d lt in
      let before : take k (slots_of xs) ≡ slots_of (take k xs) = take-map (λ (x : SlotView). x.slot) k xs in
      let there = found_there capacity w attempt a u (slots_of xs) d.slot inside in
      let by : found_of r ≡ finds_own capacity a (seen_behind a u (take k (slots_of xs))) (get_or (slots_of xs) k d.slot) (look (get_or (slots_of xs) k d.slot).buffer a) =
      is
      ∙ ap (λ c. finds_own c a v (get_or xs k d).slot (look (get_or xs k d).slot.buffer a)) room
      ∙ ap (λ b. finds_own capacity a b (get_or xs k d).slot (look (get_or xs k d).slot.buffer a)) (seen ∙ ap (seen_behind a u) (sym before))
      ∙ ap (λ (x : Slot LocalView). finds_own capacity a (seen_behind a u (take k (slots_of xs))) x (look x.buffer a)) (sym here) in
      by
      ∙ ap (λ n. finds_own capacity a (seen_behind a u (take n (slots_of xs))) (get_or (slots_of xs) n d.slot) (look (get_or (slots_of xs) n d.slot).buffer a)) at
      ∙ sym there

  unmarked : (y : SlotView) → y ≡ get_or xs k d → slots_of (set xs k y) ≡ slots_of xs
  unmarked y e = ap (λ z. slots_of (set xs k z)) e ∙ ap slots_of (set-get_or xs k d)

  pub load_marks : (r : Found) (y : SlotView) → y ≡ marked_by a r (get_or xs k d) → slots_of (set xs k y) ≡ after_load w attempt a (found_of r) (slots_of xs)
  load_marks (IsNew v) y e =
      let here = slot_at xs k d lt in
      let slot : y.slot ≡ record (get_or xs k d).slot { marks = put (get_or xs k d).slot.marks a v } = ap (λ (z : SlotView). z.slot) e in
      set_slot xs k y
      ∙ ap (set (slots_of xs) k) (slot ∙ ap (λ (x : Slot LocalView). record x { marks = put x.marks a v }) (sym here))
      ∙ ap (λ n. set (slots_of xs) n (record (get_or (slots_of xs) n d.slot) { marks = put (get_or (slots_of xs) n d.slot).marks a v })) at
      ∙ sym (mark_there capacity w attempt a v (slots_of xs) d.slot inside)
  load_marks (IsKnown v) y e = unmarked y e
  load_marks IsFull y e = unmarked y e
  load_marks IsLost y e = unmarked y e

-- ---- store

-- one past k, and m more
abbrev past : ℕ → ℕ → ℕ
past zero m = suc m
past (suc k) m = suc (past k m)

past_is : (k m : ℕ) → past k m ≡ k + 1 + m
past_is zero m = omega arith
past_is (suc k) m = omega (arith, past_is k m)

take_past : {A : Type 0} (xs : List A) (k m : ℕ) (y : A) → k < length xs → take (past k m) (set xs k y) ≡ take k xs ++ y ∷ take m (drop (suc k) xs)
take_past [] k m y lt = absurd (omega (arith, lt))
take_past (x ∷ xs) zero m y lt = refl
take_past (x ∷ xs) (suc k) m y lt = ap (λ l. x ∷ l) (take_past xs k m y (omega (arith, lt)))

drop_past : {A : Type 0} (xs : List A) (k m : ℕ) (y : A) → k < length xs → drop (past k m) (set xs k y) ≡ drop m (drop (suc k) xs)
drop_past [] k m y lt = absurd (omega (arith, lt))
drop_past (x ∷ xs) zero m y lt = refl
drop_past (x ∷ xs) (suc k) m y lt = drop_past xs k m y (omega (arith, lt))

drop_twice : {A : Type 0} (xs : List A) (k m : ℕ) → k < length xs → drop (past k m) xs ≡ drop m (drop (suc k) xs)
drop_twice [] k m lt = absurd (omega (arith, lt))
drop_twice (x ∷ xs) zero m lt = refl
drop_twice (x ∷ xs) (suc k) m lt = drop_twice xs k m (omega (arith, lt))

module _ (capacity w attempt a : ℕ) (v : ℤ) (xs : List SlotView) (k first : ℕ) (d : SlotView) (at : k ≡ place_of (λ x. is_at x w attempt) (slots_of xs)) (lt : k < length xs) (begins : first ≡ k + 1 + before_violated a v (slots_of (drop (k + 1) xs))) where
  abbrev m : ℕ
  m = before_violated a v (drop (suc k) (slots_of xs))

  rest_is : slots_of (drop (k + 1) xs) ≡ drop (suc k) (slots_of xs)
  rest_is = rw add-one (sym (drop-map (λ (x : SlotView). x.slot) (suc k) xs))

  first_is : first ≡ past k m
  first_is = begins ∙ ap (λ l. k + 1 + before_violated a v l) rest_is ∙ sym (past_is k m)

  inside_too : place_of (λ x. is_at x w attempt) (slots_of xs) < length (slots_of xs)
  inside_too = omega (arith, lt, at, length-map xs (λ (x : SlotView). x.slot))

  -- those that the write violates stand from `first` on
  violated_are : slots_of (drop first xs) ≡ violated a v (drop (suc k) (slots_of xs))
  violated_are =
      ap (λ n. slots_of (drop n xs)) first_is ∙ ap slots_of (drop_twice xs k m lt)
      ∙ sym (drop-map (λ (x : SlotView). x.slot) m (drop (suc k) xs)) ∙ ap (drop m) (sym (drop-map (λ (x : SlotView). x.slot) (suc k) xs))
      ∙ sym (violated_there a v (drop (suc k) (slots_of xs)))

  own : written capacity w attempt a v (slots_of xs) ≡ writes_own capacity a v (get_or xs k d).slot (drop (suc k) (slots_of xs))
  own =
      written_there capacity w attempt a v (slots_of xs) d.slot inside_too
      ∙ ap (λ n. writes_own capacity a v (get_or (slots_of xs) n d.slot) (drop (suc n) (slots_of xs))) (sym at)
      ∙ ap (λ x. writes_own capacity a v x (drop (suc k) (slots_of xs))) (slot_at xs k d lt)

  pub store_full : is_full capacity (get_or xs k d).slot.buffer a ≡ true → BufferFull ≡ written capacity w attempt a v (slots_of xs)
  store_full full = sym (own ∙ (rw full refl))

  pub store_ends : is_full capacity (get_or xs k d).slot.buffer a ≡ false → may_restart (slots_of (drop first xs)) ≡ false → NumbersEnd ≡ written capacity w attempt a v (slots_of xs)
  store_ends room last =
      let none : may_restart (violated a v (drop (suc k) (slots_of xs))) ≡ false = ap may_restart (sym violated_are) ∙ last in
      sym (own ∙ (rw (room, none) refl))

  pub store_done : is_full capacity (get_or xs k d).slot.buffer a ≡ false → may_restart (slots_of (drop first xs)) ≡ true → Restarts (length (drop first xs)) (is_marked a (slots_of (drop (k + 1) xs))) ≡ written capacity w attempt a v (slots_of xs)
  store_done room may =
      let all : may_restart (violated a v (drop (suc k) (slots_of xs))) ≡ true = ap may_restart (sym violated_are) ∙ may in
      let count : length (drop first xs) ≡ length (violated a v (drop (suc k) (slots_of xs))) = sym (length-map (drop first xs) (λ (x : SlotView). x.slot)) ∙ ap length violated_are in
      ap₂ Restarts count (ap (is_marked a) rest_is) ∙ sym (own ∙ (rw (room, all) refl))

  pub store_writes : (y : SlotView) (to : List SlotView) → y.slot ≡ record (get_or xs k d).slot { buffer = put (get_or xs k d).slot.buffer a v } → slots_of to ≡ slots_of (take first (set xs k y)) ++ map restarted (slots_of (drop first (set xs k y))) → slots_of to ≡ with_write w attempt a v (slots_of xs)
  store_writes y to is done =
      let f = λ (x : SlotView). x.slot in
      let left : slots_of (take first (set xs k y)) ≡ take k (slots_of xs) ++ y.slot ∷ take m (drop (suc k) (slots_of xs)) =
      sym (take-map f first (set xs k y)) ∙ ap (take first) (set_slot xs k y) ∙ ap (λ n. take n (set (slots_of xs) k y.slot)) first_is ∙ take_past (slots_of xs) k m y.slot (omega (arith, lt, length-map xs f)) in
      let right : slots_of (drop first (set xs k y)) ≡ drop m (drop (suc k) (slots_of xs)) =
      sym (drop-map f first (set xs k y)) ∙ ap (drop first) (set_slot xs k y) ∙ ap (λ n. drop n (set (slots_of xs) k y.slot)) first_is ∙ drop_past (slots_of xs) k m y.slot (omega (arith, lt, length-map xs f)) in
      let own_slot : y.slot ≡ record (get_or (slots_of xs) k d.slot) { buffer = put (get_or (slots_of xs) k d.slot).buffer a v } = is ∙ ap (λ (x : Slot LocalView). record x { buffer = put x.buffer a v }) (sym (slot_at xs k d lt)) in
      let rest = drop (suc k) (slots_of xs) in
      done
      ∙ ap₂ (λ l r. l ++ map restarted r) left right
      ∙ append_assoc (take k (slots_of xs)) (y.slot ∷ take m rest) (map restarted (drop m rest))
      ∙ ap (λ l. take k (slots_of xs) ++ y.slot ∷ l) (sym (squashed_there a v rest))
      ∙ ap (λ x. take k (slots_of xs) ++ x ∷ squashed a v rest) own_slot
      ∙ ap (λ n. take n (slots_of xs) ++ record (get_or (slots_of xs) n d.slot) { buffer = put (get_or (slots_of xs) n d.slot).buffer a v } ∷ squashed a v (drop (suc n) (slots_of xs))) at
      ∙ sym (write_there capacity w attempt a v (slots_of xs) d.slot inside_too)

  pub first_fits : first ≤ length xs
  first_fits = omega (arith, lt, first_is, past_is k m, few_before_violated a v (drop (suc k) (slots_of xs)), length-drop (suc k) (slots_of xs), length-map xs (λ (x : SlotView). x.slot))

-- ---- beginning again from a worker's iteration on

module _ (w : ℕ) (xs : List SlotView) (k : ℕ) (at : k ≡ place_of (λ x. x.worker == w) (slots_of xs)) where
  pub worker_fits : k ≤ length xs
  worker_fits = omega (arith, at, few_before (λ x. x.worker == w) (slots_of xs), length-map xs (λ (x : SlotView). x.slot))

  pub worker_may : may_restart (slots_of (drop k xs)) ≡ may_restart (from_worker w (slots_of xs))
  worker_may =
      ap may_restart (sym (drop-map (λ (x : SlotView). x.slot) k xs) ∙ ap (λ n. drop n (slots_of xs)) at ∙ sym (from_there w (slots_of xs)))

  pub worker_restarts : (ys : List SlotView) → slots_of ys ≡ slots_of (take k xs) ++ map restarted (slots_of (drop k xs)) → slots_of ys ≡ restarted_from w (slots_of xs)
  worker_restarts ys e =
      e
      ∙ ap₂ (λ l r. l ++ map restarted r) (sym (take-map (λ (x : SlotView). x.slot) k xs)) (sym (drop-map (λ (x : SlotView). x.slot) k xs))
      ∙ ap (λ n. take n (slots_of xs) ++ map restarted (drop n (slots_of xs))) at
      ∙ sym (restarted_there w (slots_of xs))

-- ---- where there is no such attempt

module _ (capacity w attempt a : ℕ) (xs : List SlotView) (k : ℕ) (at : k ≡ place_of (λ x. is_at x w attempt) (slots_of xs)) (past_all : length xs ≤ k) where
  outside : length (slots_of xs) ≤ place_of (λ x. is_at x w attempt) (slots_of xs)
  outside = omega (arith, past_all, at, length-map xs (λ (x : SlotView). x.slot))

  pub load_lost : (u : ℤ) → LoadLost ≡ found capacity w attempt a u (slots_of xs)
  load_lost u = sym (found_lost capacity w attempt a u (slots_of xs) outside)

  pub store_lost : (v : ℤ) → StoreLost ≡ written capacity w attempt a v (slots_of xs)
  store_lost v = sym (written_lost capacity w attempt a v (slots_of xs) outside)
