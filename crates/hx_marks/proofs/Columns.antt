-- Words and their values, side by side.
use Rattle.std.proofs.Common.{◌≡◌, ◌≢◌, ℕ, zero, suc, ℤ, ◌<◌, ◌≤◌, [], ◌∷◌, List, true, false, ◌==◌, Some, None, refl, sym, ap, ap₂, ◌∙◌, arith, length, slice_index, slice_get, get_or, slice_set, insert, map, subst, inl, inr}
use Rattle.std.specs.Prelude.{nat_lt}
use Rattle.std.proofs.lemmas.Bool.{cases_lt}
use Rattle.std.proofs.lemmas.Bool.Decides.{nat_tests}
use Rattle.hx_marks.specs.declared.marks.Entry.{Entry}
use Rattle.hx_marks.specs.Place.{NoneBelow, Rises, IsBetween}
use Rattle.hx_marks.specs.Table.{Table, AreAbove, IsRising, look, put, tabled}

pub length_tabled : (ws : List ℕ) (vs : List ℤ) → length ws ≡ length vs → length (tabled ws vs) ≡ length ws
length_tabled [] vs h = refl
length_tabled (w ∷ ws) [] h = absurd (omega (arith, h))
length_tabled (w ∷ ws) (v ∷ vs) h = ap suc (length_tabled ws vs (omega (arith, h)))

pub tabled_at : (ws : List ℕ) (vs : List ℤ) (k w : ℕ) (v : ℤ) → length ws ≡ length vs → k < length ws → w ≡ get_or ws k w → v ≡ get_or vs k v → slice_get (tabled ws vs) k ≡ Some (record { word = w; value = v })
tabled_at [] vs k w v h lt iw iv = absurd (omega (arith, lt))
tabled_at (x ∷ ws) [] k w v h lt iw iv = absurd (omega (arith, h))
tabled_at (x ∷ ws) (y ∷ vs) zero w v h lt iw iv = ap Some (ap₂ {C = Entry} (λ a b. record { word = a; value = b }) (sym iw) (sym iv))
tabled_at (x ∷ ws) (y ∷ vs) (suc k) w v h lt iw iv = tabled_at ws vs k w v (omega (arith, h)) (omega (arith, lt)) iw iv

-- the value of a word is that at its least place
pub look_least : (ws : List ℕ) (vs : List ℤ) (a k : ℕ) (v : ℤ) → length ws ≡ length vs → k < length ws → slice_index ws k ≡ a → NoneBelow ws a k → v ≡ get_or vs k v → look (tabled ws vs) a ≡ Some v
look_least [] vs a k v h lt is none iv = absurd (omega (arith, lt))
look_least (w ∷ ws) [] a k v h lt is none iv = absurd (omega (arith, h))
look_least (w ∷ ws) (x ∷ vs) a zero v h lt is none iv =
    let yes : (w == a) ≡ true = grind (arith, nat_tests, is) in
    rw yes (ap Some (sym iv))
look_least (w ∷ ws) (x ∷ vs) a (suc k) v h lt is none iv =
    let other : w ≢ a = none 0 (omega arith) in
    let no : (w == a) ≡ false = grind (arith, nat_tests, other) in
    rw no (look_least ws vs a k v (omega (arith, h)) (omega (arith, lt)) is (λ i l. none (suc i) (omega (arith, l))) iv)

pub look_nowhere : (ws : List ℕ) (vs : List ℤ) (a : ℕ) → NoneBelow ws a (length ws) → look (tabled ws vs) a ≡ None
look_nowhere [] vs a none = refl
look_nowhere (w ∷ ws) [] a none = refl
look_nowhere (w ∷ ws) (v ∷ vs) a none =
    let other : w ≢ a = none 0 (omega arith) in
    let no : (w == a) ≡ false = grind (arith, nat_tests, other) in
    rw no (look_nowhere ws vs a (λ i l. none (suc i) (omega (arith, l))))

none_between : (ws : List ℕ) (a k : ℕ) → IsBetween ws a k → NoneBelow ws a (length ws)
none_between ws a k between i h e = elim (cases_lt i k) [
  | inl low ↦ omega (arith, between.0 i low, e)
  | inr high ↦ omega (arith, between.1 i high h, e)
]

above_at : (ws : List ℕ) (vs : List ℤ) (b k : ℕ) → length ws ≡ length vs → AreAbove b (tabled ws vs) → k < length ws → b < slice_index ws k
above_at [] vs b k h above lt = absurd (omega (arith, lt))
above_at (w ∷ ws) [] b k h above lt = absurd (omega (arith, h))
above_at (w ∷ ws) (v ∷ vs) b zero h above lt = above.0
above_at (w ∷ ws) (v ∷ vs) b (suc k) h above lt = above_at ws vs b k (omega (arith, h)) above.1 (omega (arith, lt))

pub words_rise : (ws : List ℕ) (vs : List ℤ) → length ws ≡ length vs → IsRising (tabled ws vs) → Rises ws
words_rise [] vs h r i j l m = absurd (omega (arith, m))
words_rise (w ∷ ws) [] h r i j l m = absurd (omega (arith, h))
words_rise (w ∷ ws) (v ∷ vs) h r i zero l m = absurd (omega (arith, l))
words_rise (w ∷ ws) (v ∷ vs) h r zero (suc j) l m = above_at ws vs w j (omega (arith, h)) r.0 (omega (arith, m))
words_rise (w ∷ ws) (v ∷ vs) h r (suc i) (suc j) l m = words_rise ws vs (omega (arith, h)) r.1 i j (omega (arith, l)) (omega (arith, m))

-- another value at the place of a word
pub set_is_put : (ws : List ℕ) (vs : List ℤ) (a k : ℕ) (v : ℤ) → length ws ≡ length vs → IsRising (tabled ws vs) → k < length ws → slice_index ws k ≡ a → tabled ws (slice_set vs k v) ≡ put (tabled ws vs) a v
set_is_put [] vs a k v h r lt is = absurd (omega (arith, lt))
set_is_put (w ∷ ws) [] a k v h r lt is = absurd (omega (arith, h))
set_is_put (w ∷ ws) (x ∷ vs) a zero v h r lt is =
    let not_less : nat_lt w a ≡ false = grind (arith, nat_tests, is) in
    let yes : (w == a) ≡ true = grind (arith, nat_tests, is) in
    rw (not_less, yes) (ap (λ (n : ℕ). record { word = n; value = v } ∷ tabled ws vs) is)
set_is_put (w ∷ ws) (x ∷ vs) a (suc k) v h r lt is =
    let above = above_at ws vs w k (omega (arith, h)) r.0 (omega (arith, lt)) in
    let less : nat_lt w a ≡ true = grind (arith, nat_tests, above, is) in
    rw less (ap (λ (t : Table). record { word = w; value = x } ∷ t) (set_is_put ws vs a k v (omega (arith, h)) r.1 (omega (arith, lt)) is))

-- a word and its value where all before are below it, and all behind above
pub insert_is_put : (ws : List ℕ) (vs : List ℤ) (a k : ℕ) (v : ℤ) → length ws ≡ length vs → k ≤ length ws → IsBetween ws a k → tabled (insert ws k a) (insert vs k v) ≡ put (tabled ws vs) a v
insert_is_put [] [] a zero v h le between = refl
insert_is_put [] [] a (suc k) v h le between = absurd (omega (arith, le))
insert_is_put [] (x ∷ vs) a k v h le between = absurd (omega (arith, h))
insert_is_put (w ∷ ws) [] a k v h le between = absurd (omega (arith, h))
insert_is_put (w ∷ ws) (x ∷ vs) a zero v h le between =
    let above : a < w = between.1 0 (omega arith) (omega arith) in
    let not_less : nat_lt w a ≡ false = grind (arith, nat_tests, above) in
    let no : (w == a) ≡ false = grind (arith, nat_tests, above) in
    rw (not_less, no) refl
insert_is_put (w ∷ ws) (x ∷ vs) a (suc k) v h le between =
    let below : w < a = between.0 0 (omega arith) in
    let less : nat_lt w a ≡ true = grind (arith, nat_tests, below) in
    rw less (ap (λ (t : Table). record { word = w; value = x } ∷ t) (insert_is_put ws vs a k v (omega (arith, h)) (omega (arith, le)) (λ i l. between.0 (suc i) (omega (arith, l)), λ i l m. between.1 (suc i) (omega (arith, l)) (omega (arith, m)))))

words_back : (ws : List ℕ) (vs : List ℤ) → length ws ≡ length vs → map (λ (e : Entry). e.word) (tabled ws vs) ≡ ws
words_back [] vs h = refl
words_back (w ∷ ws) [] h = absurd (omega (arith, h))
words_back (w ∷ ws) (v ∷ vs) h = ap (λ l. w ∷ l) (words_back ws vs (omega (arith, h)))

values_back : (ws : List ℕ) (vs : List ℤ) → length ws ≡ length vs → map (λ (e : Entry). e.value) (tabled ws vs) ≡ vs
values_back [] [] h = refl
values_back [] (v ∷ vs) h = absurd (omega (arith, h))
values_back (w ∷ ws) [] h = absurd (omega (arith, h))
values_back (w ∷ ws) (v ∷ vs) h = ap (λ l. v ∷ l) (values_back ws vs (omega (arith, h)))

-- two tables, seen as es and fs, are one where their words are and their values
module _ (ws us : List ℕ) (vs xs : List ℤ) (es fs : Table) (seen : tabled ws vs ≡ es) (seen' : tabled us xs ≡ fs) (h : length ws ≡ length vs) (k : length us ≡ length xs) where
  pub same_words_of : es ≡ fs → ws ≡ us
  same_words_of same = sym (words_back ws vs h) ∙ ap (map (λ (e : Entry). e.word)) (seen ∙ same ∙ sym seen') ∙ words_back us xs k

  pub same_values_of : es ≡ fs → vs ≡ xs
  same_values_of same = sym (values_back ws vs h) ∙ ap (map (λ (e : Entry). e.value)) (seen ∙ same ∙ sym seen') ∙ values_back us xs k

  pub same_table_of : ws ≡ us → vs ≡ xs → es ≡ fs
  same_table_of words values = sym seen ∙ ap₂ tabled words values ∙ seen'

-- the same, of a slice s of the words, whose table is seen as es
module _ (ws s : List ℕ) (vs : List ℤ) (es : Table) (slice : s ≡ ws) (seen : tabled ws vs ≡ es) (rises : IsRising (tabled ws vs)) (long : length ws ≡ length vs) where
  pub slice_rises : Rises s
  slice_rises = subst Rises (sym slice) (words_rise ws vs long rises)

  pub length_seen : length s ≡ length es
  length_seen = ap length slice ∙ sym (length_tabled ws vs long) ∙ ap length seen

  pub seen_at : (k w : ℕ) (v : ℤ) → k < length s → w ≡ get_or s k w → v ≡ get_or vs k v → slice_get es k ≡ Some (record { word = w; value = v })
  seen_at k w v lt iw iv = ap (λ (t : Table). slice_get t k) (sym seen) ∙ tabled_at ws vs k w v long (subst (λ (l : List ℕ). k < length l) slice lt) (subst (λ (l : List ℕ). w ≡ get_or l k w) slice iw) iv

  pub seen_least : (a k : ℕ) (v : ℤ) → k < length s → slice_index s k ≡ a → NoneBelow s a k → v ≡ get_or vs k v → look es a ≡ Some v
  seen_least a k v lt is none iv =
      ap (λ (t : Table). look t a) (sym seen) ∙ look_least ws vs a k v long (subst (λ (l : List ℕ). k < length l) slice lt) (subst (λ (l : List ℕ). slice_index l k ≡ a) slice is) (subst (λ (l : List ℕ). NoneBelow l a k) slice none) iv

  pub seen_nowhere : (a k : ℕ) → IsBetween s a k → look es a ≡ None
  seen_nowhere a k between = ap (λ (t : Table). look t a) (sym seen) ∙ look_nowhere ws vs a (subst (λ (l : List ℕ). NoneBelow l a (length l)) slice (none_between s a k between))

  pub seen_set : (a k : ℕ) (v : ℤ) → k < length s → slice_index s k ≡ a → tabled ws (slice_set vs k v) ≡ put es a v
  seen_set a k v lt is =
      set_is_put ws vs a k v long rises (subst (λ (l : List ℕ). k < length l) slice lt) (subst (λ (l : List ℕ). slice_index l k ≡ a) slice is) ∙ ap (λ (t : Table). put t a v) seen

  pub seen_insert : (a k : ℕ) (v : ℤ) → k ≤ length s → IsBetween s a k → tabled (insert ws k a) (insert vs k v) ≡ put es a v
  seen_insert a k v le between =
      insert_is_put ws vs a k v long (subst (λ (l : List ℕ). k ≤ length l) slice le) (subst (λ (l : List ℕ). IsBetween l a k) slice between) ∙ ap (λ (t : Table). put t a v) seen
