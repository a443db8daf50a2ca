-- The index of marks agrees with the marks, whatever is read, passed or begun again.
use Rattle.std.proofs.Common.{◌≡◌, ◌≢◌, ℕ, zero, suc, ◌+◌, ◌<◌, ℤ, ◌⊎◌, inl, inr, Bool, true, false, List, [], ◌∷◌, ◌++◌, length, map, get_or, take, slice_get, add-one, Option, Some, None, refl, sym, ap, ◌∙◌, subst, arith}
use Rattle.std.specs.Prelude.{◌==◌, if◌then◌else◌}
use Rattle.std.specs.Int.{bit_at}
use Rattle.hx_marks.specs.declared.marks.Entry.{Entry}
use Rattle.hx_marks.specs.Table.{Table, look, put}
use Rattle.hx_marks.proofs.Tables.{look_put_own, look_put_other}
use Rattle.hx_buffer.specs.Overlay.{or_else}
use Rattle.hx_code.specs.Local.{LocalView}
use Rattle.hx_speculation.specs.Slots.{Slot, restarted, is_violated}
use Rattle.hx_speculation.proofs.Stores.{if_cases, same_or_not, eq_same}
use Rattle.hx_slots.specs.Slot.{SlotView, slots_of}
use Rattle.hx_slots.specs.Slots.{IsFree, AreWorkers, AreApart, workers_of, before_violated}
use Rattle.hx_slots.specs.Index.{bit_of, marked_bit, marks_of, IsIndexOf, IsReader, AreReaders, HaveNot, IsWithBit, IsWithout, unless}
use Rattle.hx_slots.proofs.Bits.{is_other}

-- ---- workers

pub apart : (n : ℕ) (ws : List ℕ) → AreWorkers n ws → AreApart ws
apart n [] h = tt
apart n (w ∷ ws) h = (h.1, apart n ws h.2)

free_at : (w : ℕ) (xs : List SlotView) (k : ℕ) (d : SlotView) → k < length xs → IsFree w (workers_of (slots_of xs)) → (get_or xs k d).slot.worker ≢ w
free_at w [] k d lt h = absurd (omega arith)
free_at w (x ∷ xs) zero d lt h = h.0
free_at w (x ∷ xs) (suc k) d lt h = free_at w xs k d (omega arith) h.1

-- an iteration's worker has none of those before it
pub free_before : (xs : List SlotView) (k : ℕ) (d : SlotView) → k < length xs → AreApart (workers_of (slots_of xs)) → IsFree (get_or xs k d).slot.worker (workers_of (slots_of (take k xs)))
free_before [] k d lt h = absurd (omega arith)
free_before (x ∷ xs) zero d lt h = tt
free_before (x ∷ xs) (suc k) d lt h = ((λ e. free_at x.slot.worker xs k d (omega arith) h.0 (sym e)), free_before xs k d (omega arith) h.1)

-- ---- what a worker has marked

pub none_of : (w : ℕ) (xs : List (Slot LocalView)) → IsFree w (workers_of xs) → marks_of w xs ≡ []
none_of w [] h = refl
none_of w (x ∷ xs) h = rw (is_other x.worker w h.0) (none_of w xs h.1)

free_both : (w : ℕ) (xs ys : List (Slot LocalView)) → IsFree w (workers_of xs) → IsFree w (workers_of ys) → IsFree w (workers_of (xs ++ ys))
free_both w [] ys h k = k
free_both w (x ∷ xs) ys h k = (h.0, free_both w xs ys h.1 k)

-- an iteration's own marks
own_marks : (xs ys : List (Slot LocalView)) (x : Slot LocalView) → IsFree x.worker (workers_of xs) → marks_of x.worker (xs ++ x ∷ ys) ≡ x.marks
own_marks [] ys x h = rw (eq_same x.worker)
own_marks (y ∷ xs) ys x h = rw (is_other y.worker x.worker h.0) (own_marks xs ys x h.1)

-- those of the others don't need it
other_marks : (w : ℕ) (xs ys : List (Slot LocalView)) (x : Slot LocalView) → x.worker ≢ w → marks_of w (xs ++ x ∷ ys) ≡ marks_of w (xs ++ ys)
other_marks w [] ys x n = rw (is_other x.worker w n)
other_marks w (y ∷ xs) ys x n = ap (λ t. if y.worker == w then y.marks else t) (other_marks w xs ys x n)

-- iterations that have marked nothing
abbrev pub AreEmpty : List (Slot LocalView) → Type 0
AreEmpty [] = Unit {0}
AreEmpty (x ∷ xs) = (x.marks ≡ []) × AreEmpty xs

empty_marks : (w : ℕ) (xs : List (Slot LocalView)) → AreEmpty xs → marks_of w xs ≡ []
empty_marks w [] h = refl
empty_marks w (x ∷ xs) h = if_cases (λ t. t ≡ []) (x.worker == w) x.marks (marks_of w xs) (λ _. h.0) (λ _. empty_marks w xs h.1)

behind_marks : (w : ℕ) (xs ys : List (Slot LocalView)) → AreEmpty ys → marks_of w (xs ++ ys) ≡ marks_of w xs
behind_marks w [] ys h = empty_marks w ys h
behind_marks w (x ∷ xs) ys h = ap (λ t. if x.worker == w then x.marks else t) (behind_marks w xs ys h)

restarted_empty : (xs : List (Slot LocalView)) → AreEmpty (map restarted xs)
restarted_empty [] = tt
restarted_empty (x ∷ xs) = (refl, restarted_empty xs)

-- ---- the index

-- of other iterations with the same marks
pub index_same : (rows : List ℕ) (xs ys : List (Slot LocalView)) → ((w : ℕ) → marks_of w ys ≡ marks_of w xs) → IsIndexOf rows xs → IsIndexOf rows ys
index_same rows xs ys e h a w la lw = h a w la lw ∙ ap (λ t. marked_bit (look t a)) (sym (e w))

-- some more that have marked nothing
pub index_behind : (rows : List ℕ) (xs ys : List (Slot LocalView)) → AreEmpty ys → IsIndexOf rows xs → IsIndexOf rows (xs ++ ys)
index_behind rows xs ys empty h = index_same rows xs (xs ++ ys) (λ w. behind_marks w xs ys empty) h

pub index_restarted : (rows : List ℕ) (xs ys : List (Slot LocalView)) → IsIndexOf rows xs → IsIndexOf rows (xs ++ map restarted ys)
index_restarted rows xs ys h = index_behind rows xs (map restarted ys) (restarted_empty ys) h

-- ---- an iteration's marks go

unmarked : (o : Option ℤ) (b : ℕ) → b ≡ marked_bit o → unless o b ≡ 0
unmarked None b e = e
unmarked (Some v) b e = refl

module _ (xs ys : List (Slot LocalView)) (x : Slot LocalView) (old new : List ℕ) (before : IsFree x.worker (workers_of xs)) (behind : IsFree x.worker (workers_of ys)) (h : IsIndexOf old (xs ++ x ∷ ys)) (gone : IsWithout x.marks x.worker old new) where
  gone_at : (a w : ℕ) → a < length old → w < 16 → (w ≡ x.worker) ⊎ (w ≢ x.worker) → (if w == x.worker then unless (look x.marks a) (bit_of old a w) else bit_of old a w) ≡ marked_bit (look (marks_of w (xs ++ ys)) a)
  gone_at a w la lw (inl e) =
      let was : bit_of old a x.worker ≡ marked_bit (look x.marks a) = h a x.worker la (subst (λ v. v < 16) e lw) ∙ ap (λ t. marked_bit (look t a)) (own_marks xs ys x before) in
      let none : marks_of x.worker (xs ++ ys) ≡ [] = none_of x.worker (xs ++ ys) (free_both x.worker xs ys before behind) in
      rw e (rw (eq_same x.worker) (unmarked (look x.marks a) (bit_of old a x.worker) was ∙ ap (λ t. marked_bit (look t a)) (sym none)))
  gone_at a w la lw (inr n) = rw (is_other w x.worker n) (h a w la lw ∙ ap (λ t. marked_bit (look t a)) (other_marks w xs ys x (λ e. n (sym e))))

  pub index_without : IsIndexOf new (xs ++ ys)
  index_without a w la lw =
      let inside : a < length old = omega (arith, la, gone.long) in
      gone.each a w inside lw ∙ gone_at a w inside lw (same_or_not w x.worker)

-- ---- an iteration marks a word

module _ (xs ys : List (Slot LocalView)) (x : Slot LocalView) (a : ℕ) (v : ℤ) (old new : List ℕ) (before : IsFree x.worker (workers_of xs)) (h : IsIndexOf old (xs ++ x ∷ ys)) (more : IsWithBit 1 a x.worker old new) where
  abbrev y : Slot LocalView
  y = record x { marks = put x.marks a v }

  more_at : (b w : ℕ) → b < length old → w < 16 → (b ≡ a) ⊎ (b ≢ a) → (w ≡ x.worker) ⊎ (w ≢ x.worker) → (if b == a then (if w == x.worker then 1 else bit_of old b w) else bit_of old b w) ≡ marked_bit (look (marks_of w (xs ++ y ∷ ys)) b)
  more_at b w lb lw (inl e) (inl f) =
      rw (e, f) (rw (eq_same a, eq_same x.worker) (ap marked_bit (sym (look_put_own x.marks a v)) ∙ ap (λ t. marked_bit (look t a)) (sym (own_marks xs ys y before))))
  more_at b w lb lw (inl e) (inr n) =
      rw e (rw (eq_same a, is_other w x.worker n) (h a w (subst (λ c. c < length old) e lb) lw ∙ ap (λ t. marked_bit (look t a)) (other_marks w xs ys x (λ f. n (sym f)) ∙ sym (other_marks w xs ys y (λ f. n (sym f))))))
  more_at b w lb lw (inr m) (inl f) =
      rw f (rw (is_other b a m) (h b x.worker lb (subst (λ u. u < 16) f lw) ∙ ap (λ t. marked_bit (look t b)) (own_marks xs ys x before) ∙ ap marked_bit (sym (look_put_other x.marks a b v m)) ∙ ap (λ t. marked_bit (look t b)) (sym (own_marks xs ys y before))))
  more_at b w lb lw (inr m) (inr n) =
      rw (is_other b a m) (h b w lb lw ∙ ap (λ t. marked_bit (look t b)) (other_marks w xs ys x (λ f. n (sym f)) ∙ sym (other_marks w xs ys y (λ f. n (sym f)))))

  pub index_with : IsIndexOf new (xs ++ y ∷ ys)
  index_with b w lb lw =
      let inside : b < length old = omega (arith, lb, more.long) in
      more.each b w inside lw ∙ more_at b w inside lw (same_or_not b a) (same_or_not w x.worker)

-- ---- whom a write asks

pub reader_at : (bits a : ℕ) (xs : List SlotView) (k : ℕ) (d : SlotView) → k < length xs → AreReaders bits a (slots_of xs) → IsReader bits a (get_or xs k d).slot
reader_at bits a [] k d lt h = absurd (omega arith)
reader_at bits a (x ∷ xs) zero d lt h = h.0
reader_at bits a (x ∷ xs) (suc k) d lt h = reader_at bits a xs k d (omega arith) h.1

unviolated : (a : ℕ) (u : ℤ) (x : Slot LocalView) → look x.marks a ≡ None → is_violated a u x ≡ false
unviolated a u x h = rw h refl

pub none_violated : (a : ℕ) (xs : List (Slot LocalView)) → HaveNot a xs → (u : ℤ) → before_violated a u xs ≡ length xs
none_violated a [] h u = refl
none_violated a (x ∷ xs) h u = rw (unviolated a u x h.0) (ap suc (none_violated a xs h.1 (or_else (look x.buffer a) u)))

bit_clear : (o : Option ℤ) → marked_bit o ≡ 0 → o ≡ None
bit_clear None e = refl
bit_clear (Some v) e = absurd (omega arith)

free_or_not : (a w : ℕ) (x : Slot LocalView) (xs : List (Slot LocalView)) → IsFree x.worker (workers_of xs) → (x.worker ≡ w) ⊎ (x.worker ≢ w) → look (marks_of w (x ∷ xs)) a ≡ None → look (marks_of w xs) a ≡ None
free_or_not a w x xs free (inl e) h = ap (λ t. look t a) (none_of w xs (subst (λ v. IsFree v (workers_of xs)) e free))
free_or_not a w x xs free (inr n) h = let other : marks_of w (x ∷ xs) ≡ marks_of w xs = rw (is_other x.worker w n) in ap (λ t. look t a) (sym other) ∙ h

readers_in : (bits a : ℕ) (xs : List (Slot LocalView)) → ((w : ℕ) → w < 16 → bit_at bits w ≡ 0 → look (marks_of w xs) a ≡ None) → AreApart (workers_of xs) → AreReaders bits a xs
readers_in bits a [] clear one = tt
readers_in bits a (x ∷ xs) clear one = (
  λ lt zero_bit. ap (λ t. look t a) (sym (own_marks [] xs x tt)) ∙ clear x.worker lt zero_bit,
  readers_in bits a xs (λ w lt zero_bit. free_or_not a w x xs one.0 (same_or_not x.worker w) (clear w lt zero_bit)) one.1,
)

-- bits that are 0 only where the index's are
pub readers_are : (bits a : ℕ) (rows : List ℕ) → ((w : ℕ) → w < 16 → bit_at bits w ≡ 0 → (a < length rows) × (bit_of rows a w ≡ 0)) → (xs : List (Slot LocalView)) → AreApart (workers_of xs) → IsIndexOf rows xs → AreReaders bits a xs
readers_are bits a rows clear xs one h =
    readers_in bits a xs (λ w lt zero_bit. let c = clear w lt zero_bit in bit_clear (look (marks_of w xs) a) (sym (h a w c.0 lt) ∙ c.1)) one

-- ---- clearing one mark after another

either_same : (q : Bool) (z : ℕ) → z ≡ (if q then z else z)
either_same true z = refl
either_same false z = refl

one_more : (q r : Bool) (v : ℤ) (o p : Option ℤ) (b : ℕ) → unless o b ≡ (if r then 0 else unless p b) → unless (if q then Some v else o) b ≡ (if r then 0 else unless (if q then Some v else p) b)
one_more true r v o p b h = either_same r 0
one_more false r v o p b h = h

last_alone : (q : Bool) (v : ℤ) (b : ℕ) → unless (if q then Some v else None) b ≡ (if q then 0 else b)
last_alone true v b = refl
last_alone false v b = refl

unless_last : (t : Table) (k a b : ℕ) (e : Entry) → slice_get t k ≡ Some e → unless (look (take (suc k) t) a) b ≡ (if e.word == a then 0 else unless (look (take k t) a) b)
unless_last [] k a b e is = absurd (cc)
unless_last (x ∷ t) zero a b e is =
    let same : x ≡ e = cc in
    ap (λ (z : Entry). unless (if z.word == a then Some z.value else None) b) same ∙ last_alone (e.word == a) e.value b
unless_last (x ∷ t) (suc k) a b e is =
    one_more (x.word == a) (e.word == a) x.value (look (take (suc k) t) a) (look (take k t) a) b (unless_last t k a b e is)

two_tests : (a w word worker old mid : ℕ) (o : Option ℤ) → mid ≡ (if w == worker then unless o old else old) → (a ≡ word) ⊎ (a ≢ word) → (w ≡ worker) ⊎ (w ≢ worker) → (if a == word then (if w == worker then 0 else mid) else mid) ≡ (if w == worker then (if word == a then 0 else unless o old) else old)
two_tests a w word worker old mid o is (inl e) (inl f) = rw (e, f) (rw (eq_same word, eq_same worker) refl)
two_tests a w word worker old mid o is (inl e) (inr n) = let m : mid ≡ old = is ∙ (rw (is_other w worker n) refl) in rw e (rw (eq_same word, is_other w worker n) m)
two_tests a w word worker old mid o is (inr k) (inl f) = let m : mid ≡ unless o old = is ∙ (rw f (rw (eq_same worker) refl)) in rw f (rw (is_other a word k, eq_same worker, is_other word a (λ e. k (sym e))) m)
two_tests a w word worker old mid o is (inr k) (inr n) = let m : mid ≡ old = is ∙ (rw (is_other w worker n) refl) in rw (is_other a word k, is_other w worker n) m

pub clear_more : (t : Table) (k worker : ℕ) (e : Entry) (old mid new : List ℕ) → slice_get t k ≡ Some e → IsWithout (take k t) worker old mid → IsWithBit 0 e.word worker mid new → IsWithout (take (k + 1) t) worker old new
clear_more t k worker e old mid new is before now = record {
  long = now.long ∙ before.long;
  each = λ a w la lw.
      now.each a w (omega (arith, la, before.long)) lw
      ∙ two_tests a w e.word worker (bit_of old a w) (bit_of mid a w) (look (take k t) a) (before.each a w la lw) (same_or_not a e.word) (same_or_not w worker)
      ∙ ap (λ z. if w == worker then z else bit_of old a w) (sym (ap (λ n. unless (look (take n t) a) (bit_of old a w)) (add-one k) ∙ unless_last t k a (bit_of old a w) e is));
}

-- a worker without bits
no_bits : (a w worker old : ℕ) (o : Option ℤ) → w ≢ worker → old ≡ (if w == worker then unless o old else old)
no_bits a w worker old o n = rw (is_other w worker n)

pub without_none : (worker : ℕ) (rows : List ℕ) → IsWithout [] worker rows rows
without_none worker rows = record { long = refl; each = λ a w la lw. either_same (w == worker) (bit_of rows a w) }
