-- The index through the calls.
use Rattle.std.proofs.Common.{◌≡◌, ℕ, zero, suc, ◌+◌, ◌<◌, ◌⊎◌, inl, inr, true, false, List, [], ◌∷◌, ◌++◌, length, map, get_or, set, take, drop, None, refl, sym, ap, ap₂, ◌∙◌, subst, arith}
use Rattle.std.specs.Prelude.{◌==◌, if◌then◌else◌, Bool}
use Rattle.std.proofs.lemmas.List.{take_more, drop_more, map-append, append-nil, set-get_or}
use Rattle.std.specs.Int.{bit_at}
use Rattle.hx_marks.specs.Table.{Table, look, put}
use Rattle.hx_code.specs.Local.{LocalView}
use Rattle.hx_speculation.specs.Slots.{Slot, is_at, restarted}
use Rattle.hx_speculation.proofs.Stores.{and_left, eq_true, same_or_not, eq_same}
use Rattle.hx_slots.specs.Slot.{SlotView, slots_of, found_of, marked_by}
use Rattle.hx_slots.specs.declared.slot.Found.{Found}
use Rattle.hx_slots.specs.declared.slot.Found.TheVariants.{Known, New, Full, Lost}
use Rattle.hx_slots.specs.Slots.{IsFree, AreApart, workers_of, place_of}
use Rattle.hx_slots.specs.Index.{marks_of, IsIndexOf, IsReader, AreReaders, HaveNot, IsWithout, IsNoted}
use Rattle.hx_slots.proofs.Bits.{is_other}
use Rattle.hx_slots.proofs.Indexed.{free_before, none_of, index_same, index_behind, index_restarted, index_without, index_with, reader_at}

-- ---- one place after another, from the last

pub have_more : (a : ℕ) (xs : List SlotView) (k : ℕ) (d : SlotView) → k < length xs → look (get_or xs k d).slot.marks a ≡ None → HaveNot a (slots_of (drop (k + 1) xs)) → HaveNot a (slots_of (drop k xs))
have_more a xs k d lt none h = subst (λ l. HaveNot a (slots_of l)) (sym (drop_more xs k d lt)) (none, h)

split_last : (xs : List SlotView) (k : ℕ) (d : SlotView) → k < length xs → slots_of (take (k + 1) xs) ≡ slots_of (take k xs) ++ (get_or xs k d).slot ∷ []
split_last xs k d lt = ap slots_of (take_more xs k d lt) ∙ map-append (λ (x : SlotView). x.slot) (take k xs) (get_or xs k d ∷ [])

pub forget_more : (xs : List SlotView) (k : ℕ) (d : SlotView) (old new : List ℕ) → k < length xs → AreApart (workers_of (slots_of xs)) → IsIndexOf old (slots_of (take (k + 1) xs)) → IsWithout (get_or xs k d).slot.marks (get_or xs k d).slot.worker old new → IsIndexOf new (slots_of (take k xs))
forget_more xs k d old new lt apart h gone =
    subst (IsIndexOf new) (append-nil (slots_of (take k xs)))
    (index_without (slots_of (take k xs)) [] (get_or xs k d).slot old new (free_before xs k d lt apart) tt (subst (IsIndexOf old) (split_last xs k d lt) h) gone)

-- the same, as the code's steps tell it
pub forget_step : (xs : List SlotView) (k n : ℕ) (x : SlotView) (t : Table) (w : ℕ) (old new : List ℕ) → k < length xs → n ≡ k + 1 → x ≡ get_or xs k x → t ≡ x.slot.marks → w ≡ x.slot.worker → AreApart (workers_of (slots_of xs)) → IsIndexOf old (slots_of (take n xs)) → IsWithout t w old new → IsIndexOf new (slots_of (take k xs))
forget_step xs k n x t w old new lt next is marks worker apart h gone =
    let gone_here : IsWithout (get_or xs k x).slot.marks (get_or xs k x).slot.worker old new =
    subst (λ (z : SlotView). IsWithout z.slot.marks z.slot.worker old new) is (subst (λ u. IsWithout u x.slot.worker old new) marks (subst (λ v. IsWithout t v old new) worker gone)) in
    forget_more xs k x old new lt apart (subst (λ m. IsIndexOf old (slots_of (take m xs))) next h) gone_here

pub reader_is : (bits a : ℕ) (xs : List SlotView) (k : ℕ) (x : SlotView) → k < length xs → x ≡ get_or xs k x → AreReaders bits a (slots_of xs) → IsReader bits a x.slot
reader_is bits a xs k x lt is h = subst (λ (z : SlotView). IsReader bits a z.slot) (sym is) (reader_at bits a xs k x lt h)

pub have_step : (bits a : ℕ) (xs : List SlotView) (k n : ℕ) (x : SlotView) (w : ℕ) → k < length xs → n ≡ k + 1 → x ≡ get_or xs k x → w ≡ x.slot.worker → AreReaders bits a (slots_of xs) → (w < 16) × (bit_at bits w ≡ 0) → HaveNot a (slots_of (drop n xs)) → HaveNot a (slots_of (drop k xs))
have_step bits a xs k n x w lt next is worker readers none h =
    let clear : (x.slot.worker < 16) × (bit_at bits x.slot.worker ≡ 0) = subst (λ v. (v < 16) × (bit_at bits v ≡ 0)) worker none in
    let unmarked_here : look x.slot.marks a ≡ None = reader_is bits a xs k x lt is readers clear.0 clear.1 in
    have_more a xs k x lt (ap (λ (z : SlotView). look z.slot.marks a) (sym is) ∙ unmarked_here) (subst (λ m. HaveNot a (slots_of (drop m xs))) next h)

-- ---- at a place

set_split : (xs : List SlotView) (k : ℕ) (y : SlotView) → k < length xs → slots_of (set xs k y) ≡ slots_of (take k xs) ++ y.slot ∷ slots_of (drop (suc k) xs)
set_split [] k y lt = absurd (omega arith)
set_split (x ∷ xs) zero y lt = refl
set_split (x ∷ xs) (suc k) y lt = ap (λ l. x.slot ∷ l) (set_split xs k y (omega arith))

-- the iteration that was searched for is there
first_there : (p : Slot LocalView → Bool) (x : SlotView) (xs : List SlotView) (d : SlotView) (n : ℕ) (t : Bool) → p x.slot ≡ t → (n < length xs → p (get_or xs n d).slot ≡ true) → (if t then 0 else suc n) < suc (length xs) → p (get_or (x ∷ xs) (if t then 0 else suc n) d).slot ≡ true
first_there p x xs d n true e h lt = e
first_there p x xs d n false e h lt = h (omega arith)

is_there : (p : Slot LocalView → Bool) (xs : List SlotView) (d : SlotView) → place_of p (slots_of xs) < length xs → p (get_or xs (place_of p (slots_of xs)) d).slot ≡ true
is_there p [] d lt = absurd (omega arith)
is_there p (x ∷ xs) d lt = first_there p x xs d (place_of p (slots_of xs)) (p x.slot) refl (λ l. is_there p xs d l) lt

pub worker_at : (w attempt : ℕ) (xs : List SlotView) (k : ℕ) (d : SlotView) → k ≡ place_of (λ x. is_at x w attempt) (slots_of xs) → k < length xs → (get_or xs k d).slot.worker ≡ w
worker_at w attempt xs k d at lt =
    let there : is_at (get_or xs k d).slot w attempt ≡ true = ap (λ n. is_at (get_or xs n d).slot w attempt) at ∙ is_there (λ x. is_at x w attempt) xs d (omega (arith, at, lt)) in
    eq_true (get_or xs k d).slot.worker w (and_left _ _ there)

-- ---- load

module _ (a w : ℕ) (xs : List SlotView) (k : ℕ) (d : SlotView) (old new : List ℕ) (lt : k < length xs) (apart : AreApart (workers_of (slots_of xs))) (worker : (get_or xs k d).slot.worker ≡ w) (h : IsIndexOf old (slots_of xs)) where
  abbrev x : SlotView
  x = get_or xs k d

  unmarked : (y : SlotView) → y ≡ x → new ≡ old → IsIndexOf new (slots_of (set xs k y))
  unmarked y e same =
      let stays : slots_of (set xs k y) ≡ slots_of xs = ap (λ z. slots_of (set xs k z)) e ∙ ap slots_of (set-get_or xs k d) in
      subst (λ r. IsIndexOf r (slots_of (set xs k y))) (sym same) (subst (IsIndexOf old) (sym stays) h)

  pub load_index : (r : Found) (y : SlotView) → y ≡ marked_by a r x → IsNoted (found_of r) a w old new → IsIndexOf new (slots_of (set xs k y))
  load_index (New v) y e noted =
      let slot : y.slot ≡ record x.slot { marks = put x.slot.marks a v } = ap (λ (z : SlotView). z.slot) e in
      let before : slots_of xs ≡ slots_of (take k xs) ++ x.slot ∷ slots_of (drop (suc k) xs) = ap slots_of (sym (set-get_or xs k d)) ∙ set_split xs k x lt in
      let after : slots_of (set xs k y) ≡ slots_of (take k xs) ++ record x.slot { marks = put x.slot.marks a v } ∷ slots_of (drop (suc k) xs) = set_split xs k y lt ∙ ap (λ z. slots_of (take k xs) ++ z ∷ slots_of (drop (suc k) xs)) slot in
      subst (IsIndexOf new) (sym after)
      (index_with (slots_of (take k xs)) (slots_of (drop (suc k) xs)) x.slot a v old new (free_before xs k d lt apart) (subst (IsIndexOf old) before h) (rw worker noted))
  load_index (Known v) y e noted = unmarked y e noted
  load_index Full y e noted = unmarked y e noted
  load_index Lost y e noted = unmarked y e noted

-- ---- where an iteration writes or drains, its marks stay

pub marks_stay : (w : ℕ) (xs : List SlotView) (n k : ℕ) (y d : SlotView) → y.slot.worker ≡ (get_or xs k d).slot.worker → y.slot.marks ≡ (get_or xs k d).slot.marks → marks_of w (slots_of (take n (set xs k y))) ≡ marks_of w (slots_of (take n xs))
marks_stay w xs zero k y d e f = refl
marks_stay w [] (suc n) k y d e f = refl
marks_stay w (x ∷ xs) (suc n) zero y d e f = ap₂ (λ v t. if v == w then t else marks_of w (slots_of (take n xs))) e f
marks_stay w (x ∷ xs) (suc n) (suc k) y d e f = ap (λ t. if x.slot.worker == w then x.slot.marks else t) (marks_stay w xs n k y d e f)

pub store_index : (rows : List ℕ) (xs : List SlotView) (k first : ℕ) (y d : SlotView) (to : List (Slot LocalView)) (later : List (Slot LocalView)) → y.slot.worker ≡ (get_or xs k d).slot.worker → y.slot.marks ≡ (get_or xs k d).slot.marks → to ≡ slots_of (take first (set xs k y)) ++ map restarted later → IsIndexOf rows (slots_of (take first xs)) → IsIndexOf rows to
store_index rows xs k first y d to later e f is h =
    subst (IsIndexOf rows) (sym is) (index_restarted rows (slots_of (take first (set xs k y))) later (index_same rows (slots_of (take first xs)) (slots_of (take first (set xs k y))) (λ w. marks_stay w xs first k y d e f) h))

pub restart_index : (rows : List ℕ) (xs : List SlotView) (first : ℕ) (to later : List (Slot LocalView)) → to ≡ slots_of (take first xs) ++ map restarted later → IsIndexOf rows (slots_of (take first xs)) → IsIndexOf rows to
restart_index rows xs first to later is h = subst (IsIndexOf rows) (sym is) (index_restarted rows (slots_of (take first xs)) later h)

-- ---- the head

first_gone : (old new : List ℕ) (x : SlotView) (xs : List SlotView) → AreApart (workers_of (slots_of (x ∷ xs))) → IsIndexOf old (slots_of (x ∷ xs)) → IsWithout x.slot.marks x.slot.worker old new → IsIndexOf new (slots_of xs)
first_gone old new x xs apart h gone = index_without [] (slots_of xs) x.slot old new tt apart.0 h gone

pub pass_index : (old new : List ℕ) (xs : List SlotView) (d : SlotView) → 0 < length xs → AreApart (workers_of (slots_of xs)) → IsIndexOf old (slots_of xs) → IsWithout (get_or xs 0 d).slot.marks (get_or xs 0 d).slot.worker old new → IsIndexOf new (slots_of (drop 1 xs))
pass_index old new [] d lt apart h gone = absurd (omega arith)
pass_index old new (x ∷ xs) d lt apart h gone = first_gone old new x xs apart h gone

-- the same, as the code's steps tell it
gone_first : (xs : List SlotView) (x : SlotView) (t : Table) (w : ℕ) (old new : List ℕ) → x ≡ get_or xs 0 x → t ≡ x.slot.marks → w ≡ x.slot.worker → IsWithout t w old new → IsWithout (get_or xs 0 x).slot.marks (get_or xs 0 x).slot.worker old new
gone_first xs x t w old new is marks worker gone =
    subst (λ (z : SlotView). IsWithout z.slot.marks z.slot.worker old new) is (subst (λ u. IsWithout u x.slot.worker old new) marks (subst (λ v. IsWithout t v old new) worker gone))

pub pass_step : (xs : List SlotView) (x : SlotView) (t : Table) (w : ℕ) (old new : List ℕ) → 0 < length xs → x ≡ get_or xs 0 x → t ≡ x.slot.marks → w ≡ x.slot.worker → AreApart (workers_of (slots_of xs)) → IsIndexOf old (slots_of xs) → IsWithout t w old new → IsIndexOf new (slots_of (drop 1 xs))
pass_step xs x t w old new lt is marks worker apart h gone = pass_index old new xs x lt apart h (gone_first xs x t w old new is marks worker gone)

renewed_marks : (w v : ℕ) (xs : List (Slot LocalView)) → IsFree v (workers_of xs) → (v ≡ w) ⊎ (v ≡ w → ⊥) → (if v == w then [] else marks_of w xs) ≡ marks_of w xs
renewed_marks w v xs free (inl e) = rw e (rw (eq_same w) (sym (none_of w xs (subst (λ u. IsFree u (workers_of xs)) e free))))
renewed_marks w v xs free (inr n) = rw (is_other v w n) refl

pub renew_index : (old new : List ℕ) (xs : List SlotView) (y d : SlotView) → 0 < length xs → AreApart (workers_of (slots_of xs)) → IsIndexOf old (slots_of xs) → IsWithout (get_or xs 0 d).slot.marks (get_or xs 0 d).slot.worker old new → y.slot.worker ≡ (get_or xs 0 d).slot.worker → y.slot.marks ≡ [] → IsIndexOf new (slots_of (set xs 0 y))
renew_index old new [] y d lt apart h gone e f = absurd (omega arith)
renew_index old new (x ∷ xs) y d lt apart h gone e f =
    index_same new (slots_of xs) (slots_of (y ∷ xs))
    (λ w. ap₂ (λ v t. if v == w then t else marks_of w (slots_of xs)) e f ∙ renewed_marks w x.slot.worker (slots_of xs) apart.0 (same_or_not x.slot.worker w))
    (first_gone old new x xs apart h gone)

-- ---- the next iteration

pub begin_index : (rows : List ℕ) (xs : List SlotView) (y : SlotView) → y.slot.marks ≡ [] → IsIndexOf rows (slots_of xs) → IsIndexOf rows (slots_of (xs ++ y ∷ []))
begin_index rows xs y e h = subst (IsIndexOf rows) (sym (map-append (λ (x : SlotView). x.slot) xs (y ∷ []))) (index_behind rows (slots_of xs) (y.slot ∷ []) (e, tt) h)
