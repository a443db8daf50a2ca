-- The room of the tables.
use Rattle.std.proofs.Common.{◌≡◌, ℕ, zero, suc, ◌<◌, List, [], ◌∷◌, ◌++◌, length, get_or, set, take, drop, refl, sym, ap, ◌∙◌, subst, arith}
use Rattle.hx_speculation.specs.Board.{Capacities}
use Rattle.std.proofs.lemmas.List.{length-map, map-append, append-nil, take_all, drop_all}
use Rattle.hx_code.specs.Local.{LocalView}
use Rattle.hx_speculation.specs.Slots.{Slot}
use Rattle.hx_slots.specs.Slot.{SlotView, slots_of, rooms_of, marked_by, rooms_for}
use Rattle.hx_slots.specs.Slots.{SlotsView, HaveRooms, AreWorkers, workers_of}
use Rattle.hx_slots.specs.declared.slot.Found.{Found}
use Rattle.hx_slots.specs.declared.slot.Found.TheVariants.{Known, New, Full, Lost}

pub rooms_at : (r : Capacities) (xs : List SlotView) (k : ℕ) (d : SlotView) → k < length xs → HaveRooms r xs → (get_or xs k d).rooms ≡ r
rooms_at r [] k d lt h = absurd (omega arith)
rooms_at r (x ∷ xs) zero d lt h = h.0
rooms_at r (x ∷ xs) (suc k) d lt h = rooms_at r xs k d (omega arith) h.1

pub rooms_last : (r : Capacities) (xs : List SlotView) (x : SlotView) → x.rooms ≡ r → HaveRooms r xs → HaveRooms r (xs ++ x ∷ [])
rooms_last r [] x e h = (e, tt)
rooms_last r (y ∷ xs) x e h = (h.0, rooms_last r xs x e h.1)

pub rooms_set : (r : Capacities) (xs : List SlotView) (k : ℕ) (x : SlotView) → x.rooms ≡ r → HaveRooms r xs → HaveRooms r (set xs k x)
rooms_set r [] k x e h = tt
rooms_set r (y ∷ xs) zero x e h = (e, h.1)
rooms_set r (y ∷ xs) (suc k) x e h = (h.0, rooms_set r xs k x e h.1)

-- where all have the same rooms as others
pub rooms_same : (r : Capacities) (xs ys : List SlotView) → rooms_of ys ≡ rooms_of xs → HaveRooms r xs → HaveRooms r ys
rooms_same r [] [] e h = tt
rooms_same r [] (y ∷ ys) e h = absurd (cc)
rooms_same r (x ∷ xs) [] e h = absurd (cc)
rooms_same r (x ∷ xs) (y ∷ ys) e h =
    let first : y.rooms ≡ x.rooms = cc in
    let rest : rooms_of ys ≡ rooms_of xs = cc in
    (first ∙ h.0, rooms_same r xs ys rest h.1)

pub marked_rooms : (a : ℕ) (r : Found) (x y : SlotView) → y ≡ marked_by a r x → y.rooms ≡ x.rooms
marked_rooms a (New v) x y e = ap (λ (z : SlotView). z.rooms) e
marked_rooms a (Known v) x y e = ap (λ (z : SlotView). z.rooms) e
marked_rooms a Full x y e = ap (λ (z : SlotView). z.rooms) e
marked_rooms a Lost x y e = ap (λ (z : SlotView). z.rooms) e

-- as many workers, the same ones
pub workers_stay : (n m : ℕ) (ws vs : List ℕ) → m ≡ n → vs ≡ ws → AreWorkers n ws → AreWorkers m vs
workers_stay n m ws vs e f h = subst (λ k. AreWorkers k vs) (sym e) (subst (AreWorkers n) (sym f) h)

-- ---- one more, and one less

pub rooms_but_last : (r : Capacities) (xs : List SlotView) (x : SlotView) → HaveRooms r (xs ++ x ∷ []) → HaveRooms r xs × (x.rooms ≡ r)
rooms_but_last r [] x h = (tt, h.0)
rooms_but_last r (y ∷ xs) x h = let rest = rooms_but_last r xs x h.1 in ((h.0, rest.0), rest.1)

pub rooms_but_first : (r : Capacities) (xs : List SlotView) → HaveRooms r xs → HaveRooms r (drop 1 xs)
rooms_but_first r [] h = tt
rooms_but_first r (x ∷ xs) h = h.1

pub workers_but_first : (n : ℕ) (xs : List SlotView) → AreWorkers n (workers_of (slots_of xs)) → AreWorkers n (workers_of (slots_of (drop 1 xs)))
workers_but_first n [] h = tt
workers_but_first n (x ∷ xs) h = h.2

pub workers_with : (xs : List SlotView) (x : SlotView) → workers_of (slots_of (xs ++ x ∷ [])) ≡ workers_of (slots_of xs) ++ x.slot.worker ∷ []
workers_with xs x = ap workers_of (map-append (λ (z : SlotView). z.slot) xs (x ∷ [])) ∙ map-append (λ (z : Slot LocalView). z.worker) (slots_of xs) (x.slot ∷ [])

pub long_workers : (xs : List SlotView) → length (workers_of (slots_of xs)) ≡ length xs
long_workers [] = refl
long_workers (x ∷ xs) = ap suc (long_workers xs)

-- what contracts see, by its parts
abbrev pub slots_view : List (Slot LocalView) → ℕ → ℕ → ℕ → SlotsView
slots_view active n marks buffer = record { active = active; slots = n; rooms = rooms_for marks buffer }

pub same_long : (xs ys : List SlotView) → rooms_of ys ≡ rooms_of xs → length ys ≡ length xs
same_long xs ys e = sym (length-map ys (λ (x : SlotView). x.rooms)) ∙ ap length e ∙ length-map xs (λ (x : SlotView). x.rooms)

-- a slice that was written whole
pub written_whole : (n : ℕ) (new old : List SlotView) → rooms_of new ≡ rooms_of old → length old ≡ n → take n (new ++ drop (length new) old) ≡ new
written_whole n new old e long =
    let same = same_long old new e in
    ap (λ l. take n (new ++ l)) (drop_all (length new) old (omega (arith, same))) ∙ ap (take n) (append-nil new) ∙ take_all n new (omega (arith, same, long))
