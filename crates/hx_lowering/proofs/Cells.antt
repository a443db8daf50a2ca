-- The private words that a region takes along, in their cells and in its iterations.
use Rattle.std.proofs.Common.{◌≡◌, ℕ, zero, suc, ◌+◌, ◌≤◌, ◌<◌, Bool, true, false, List, [], ◌∷◌, length, Some, None, ℤ, pos, refl, sym, ap, subst, ◌∙◌, arith, if◌then◌else◌, length-set, get_or-set_other, get_or-set_same, ⊎_elim}
use Rattle.std.specs.Prelude.{nat_eq, slice_set, slice_index_or, filter}
use Rattle.std.specs.List.{range_with_len}
use Rattle.std.proofs.lemmas.Bool.{cases_lt}
use Rattle.std.proofs.lemmas.Bool.Decides.{Decides-eqb}
use Rattle.hx_code.specs.declared.table.Carried.{Carried}
use Rattle.hx_code.specs.Region.{copied_words, into_cells, from_cells}
use Rattle.hx_lowering.specs.Lines.{cell_of}
use Rattle.hx_lowering.specs.Draft.{cells_from}

same_number : (j k : ℕ) → nat_eq j k ≡ true → j ≡ k
same_number j k e = (Decides-eqb j k).0 e

is_number : (j k : ℕ) → j ≡ k → nat_eq j k ≡ true
is_number j k e = (Decides-eqb j k).1 e

-- ---- words in rising order

-- each is at least n
abbrev pub From : ℕ → List ℕ → Type 0
From n [] = Unit {0}
From n (k ∷ ks) = (n ≤ k) × From (k + 1) ks

from_more : (n m : ℕ) (ks : List ℕ) → n ≤ m → From m ks → From n ks
from_more n m [] le h = tt
from_more n m (k ∷ ks) le h = let l = h.0 in (omega arith, h.1)

pub filter_rises : (test : ℕ → Bool) (a n : ℕ) → From a (filter test (range_with_len a n))
filter_rises test a zero = tt
filter_rises test a (suc n) = go (filter_rises test (a + 1) n) (test a)
  where
    go : From (a + 1) (filter test (range_with_len (a + 1) n)) → (b : Bool) → From a (if b then a ∷ filter test (range_with_len (a + 1) n) else filter test (range_with_len (a + 1) n))
    go more true = (omega arith, more)
    go more false = from_more a (a + 1) _ (omega arith) more

differ : (j k : ℕ) → (j ≡ k → ⊥) → nat_eq j k ≡ false
differ j k ne = go (nat_eq j k) refl
  where
    go : (b : Bool) → nat_eq j k ≡ b → b ≡ false
    go true e = absurd (ne (same_number j k e))
    go false e = refl

pub few_pass : (test : ℕ → Bool) (a n : ℕ) → length (filter test (range_with_len a n)) ≤ n
few_pass test a zero = omega arith
few_pass test a (suc n) = go (few_pass test (a + 1) n) (test a)
  where
    go : length (filter test (range_with_len (a + 1) n)) ≤ n → (b : Bool) → length (if b then a ∷ filter test (range_with_len (a + 1) n) else filter test (range_with_len (a + 1) n)) ≤ suc n
    go more true = omega arith
    go more false = omega arith

-- ---- which cell

before_all : (k n : ℕ) (ks : List ℕ) (c : ℕ) → k < n → From n ks → cell_of (cells_from ks c) k ≡ None
before_all k n [] c lt h = refl
before_all k n (j ∷ ks) c lt h =
    let le = h.0 in
    ap (λ b. if b then Some c else cell_of (cells_from ks (c + 1)) k) (differ j k (λ e. omega arith)) ∙ before_all k (j + 1) ks (c + 1) (omega arith) h.1

abbrev pub Found : ℕ → ℕ → ℕ → List ℕ → Type 0
Found k low high ks = (d : ℕ) × (low ≤ d) × (d < high) × (cell_of (cells_from ks low) k ≡ Some d)

if_so : (b : Bool) (k a : ℕ) (rest : List ℕ) (c high : ℕ) → c < high → nat_eq a k ≡ b
    → (nat_eq a k ≡ false → Found k (c + 1) high rest) → Found k c high (a ∷ rest)
if_so true k a rest c high lt e more = (c, omega arith, lt, ap (λ b. if b then Some c else cell_of (cells_from rest (c + 1)) k) e)
if_so false k a rest c high lt e more =
    let r = more e in
    let low = r.1 in
    (r.0, omega arith, r.2, ap (λ b. if b then Some c else cell_of (cells_from rest (c + 1)) k) e ∙ r.3)

not_equal : (a k : ℕ) → nat_eq a k ≡ false → a ≤ k → a + 1 ≤ k
not_equal a k e le =
    ⊎_elim (λ lt. omega arith) (λ le'. let h : false ≡ true = sym e ∙ is_number a k (omega arith) in absurd cc) (cases_lt a k)

-- a word that is carried has a cell
pub carried_found : (test : ℕ → Bool) (k a n c : ℕ) → test k ≡ true → a ≤ k → k < a + n → Found k c (c + n) (filter test (range_with_len a n))
carried_found test k a zero c t le lt = absurd (omega arith)
carried_found test k a (suc n) c t le lt =
    go (test a) refl (λ e. carried_found test k (a + 1) n (c + 1) t (not_equal a k e le) (omega arith)) (λ e. carried_found test k (a + 1) n c t (not_equal a k e le) (omega arith))
  where
    rest : List ℕ
    rest = filter test (range_with_len (a + 1) n)

    go : (b : Bool) → test a ≡ b → (nat_eq a k ≡ false → Found k (c + 1) (c + 1 + n) (filter test (range_with_len (a + 1) n))) → (nat_eq a k ≡ false → Found k c (c + n) (filter test (range_with_len (a + 1) n)))
        → Found k c (c + suc n) (if b then a ∷ filter test (range_with_len (a + 1) n) else filter test (range_with_len (a + 1) n))
    go true e one other =
        let same : c + 1 + n ≡ c + suc n = omega arith in
        if_so (nat_eq a k) k a (filter test (range_with_len (a + 1) n)) c (c + suc n) (omega arith) refl (λ ne. subst (λ h. Found k (c + 1) h (filter test (range_with_len (a + 1) n))) same (one ne))
    go false e one other = by_number (nat_eq a k) refl
      where
        by_number : (b : Bool) → nat_eq a k ≡ b → Found k c (c + suc n) (filter test (range_with_len (a + 1) n))
        by_number true ne = let h : false ≡ true = sym e ∙ ap test (same_number a k ne) ∙ t in absurd cc
        by_number false ne = let r = other ne in let high = r.2 in (r.0, r.1, omega arith, r.3)

-- and one that isn't has none
pub carried_absent : (test : ℕ → Bool) (k a n c : ℕ) → test k ≡ false → cell_of (cells_from (filter test (range_with_len a n)) c) k ≡ None
carried_absent test k a zero c t = refl
carried_absent test k a (suc n) c t = go (test a) refl (carried_absent test k (a + 1) n (c + 1) t) (carried_absent test k (a + 1) n c t)
  where
    go : (b : Bool) → test a ≡ b → cell_of (cells_from (filter test (range_with_len (a + 1) n)) (c + 1)) k ≡ None → cell_of (cells_from (filter test (range_with_len (a + 1) n)) c) k ≡ None
        → cell_of (cells_from (if b then a ∷ filter test (range_with_len (a + 1) n) else filter test (range_with_len (a + 1) n)) c) k ≡ None
    go true e one other =
        let ne : a ≡ k → ⊥ = λ s. (let h : true ≡ false = sym e ∙ ap test s ∙ t in absurd cc) in
        ap (λ b. if b then Some c else cell_of (cells_from (filter test (range_with_len (a + 1) n)) (c + 1)) k) (differ a k ne) ∙ one
    go false e one other = other

-- cells are numbered from the first on
pub cell_bounds : (ks : List ℕ) (k c d : ℕ) → cell_of (cells_from ks c) k ≡ Some d → (c ≤ d) × (d < c + length ks)
cell_bounds [] k c d h = absurd cc
cell_bounds (j ∷ ks) k c d h = go (nat_eq j k) h (cell_bounds ks k (c + 1) d)
  where
    go : (b : Bool) → (if b then Some c else cell_of (cells_from ks (c + 1)) k) ≡ Some d → (cell_of (cells_from ks (c + 1)) k ≡ Some d → (c + 1 ≤ d) × (d < c + 1 + length ks)) → (c ≤ d) × (d < c + suc (length ks))
    go true h more = let same : c ≡ d = cc in (omega arith, omega arith)
    go false h more = let r = more h in let low = r.0 in let high = r.1 in (omega arith, omega arith)

pub cells_apart : (ks : List ℕ) (j k c d : ℕ) → cell_of (cells_from ks c) j ≡ Some d → cell_of (cells_from ks c) k ≡ Some d → j ≡ k
cells_apart [] j k c d h h' = absurd cc
cells_apart (i ∷ ks) j k c d h h' = go (nat_eq i j) (nat_eq i k) refl refl h h' (cells_apart ks j k (c + 1) d) (cell_bounds ks j (c + 1) d) (cell_bounds ks k (c + 1) d)
  where
    go : (a b : Bool) → nat_eq i j ≡ a → nat_eq i k ≡ b → (if a then Some c else cell_of (cells_from ks (c + 1)) j) ≡ Some d → (if b then Some c else cell_of (cells_from ks (c + 1)) k) ≡ Some d
        → (cell_of (cells_from ks (c + 1)) j ≡ Some d → cell_of (cells_from ks (c + 1)) k ≡ Some d → j ≡ k)
        → (cell_of (cells_from ks (c + 1)) j ≡ Some d → (c + 1 ≤ d) × (d < c + 1 + length ks)) → (cell_of (cells_from ks (c + 1)) k ≡ Some d → (c + 1 ≤ d) × (d < c + 1 + length ks)) → j ≡ k
    go true true e f h h' more bj bk = sym (same_number i j e) ∙ same_number i k f
    go true false e f h h' more bj bk = let same : c ≡ d = cc in let r = bk h' in let low = r.0 in absurd (omega arith)
    go false true e f h h' more bj bk = let same : c ≡ d = cc in let r = bj h in let low = r.0 in absurd (omega arith)
    go false false e f h h' more bj bk = more h h'

-- ---- into the cells

into_other : (g : ℕ) (ks : List ℕ) (c : ℕ) (ps st : List ℤ) (i : ℕ) → i < g + c → slice_index_or (into_cells g (cells_from ks c) ps st) i (pos 0) ≡ slice_index_or st i (pos 0)
into_other g [] c ps st i lt = refl
into_other g (j ∷ ks) c ps st i lt =
    into_other g ks (c + 1) ps (slice_set st (g + c) (slice_index_or ps j (pos 0))) i (omega arith)
    ∙ get_or-set_other st (g + c) i (slice_index_or ps j (pos 0)) (pos 0) (λ e. omega arith)

pub into_at : (g : ℕ) (ks : List ℕ) (c : ℕ) (ps st : List ℤ) (k d : ℕ) → cell_of (cells_from ks c) k ≡ Some d → g + c + length ks ≤ length st
    → slice_index_or (into_cells g (cells_from ks c) ps st) (g + d) (pos 0) ≡ slice_index_or ps k (pos 0)
into_at g [] c ps st k d h room = absurd cc
into_at g (j ∷ ks) c ps st k d h room =
    go (nat_eq j k) refl h (λ h'. into_at g ks (c + 1) ps (slice_set st (g + c) (slice_index_or ps j (pos 0))) k d h' (omega (arith, length-set st (g + c) (slice_index_or ps j (pos 0)))))
  where
    st' : List ℤ
    st' = slice_set st (g + c) (slice_index_or ps j (pos 0))

    go : (b : Bool) → nat_eq j k ≡ b → (if b then Some c else cell_of (cells_from ks (c + 1)) k) ≡ Some d
        → (cell_of (cells_from ks (c + 1)) k ≡ Some d → slice_index_or (into_cells g (cells_from ks (c + 1)) ps st') (g + d) (pos 0) ≡ slice_index_or ps k (pos 0))
        → slice_index_or (into_cells g (cells_from ks (c + 1)) ps st') (g + d) (pos 0) ≡ slice_index_or ps k (pos 0)
    go true e h more =
        let same : c ≡ d = cc in
        into_other g ks (c + 1) ps st' (g + d) (omega arith)
        ∙ ap (λ i. slice_index_or st' (g + i) (pos 0)) (sym same)
        ∙ get_or-set_same st (g + c) (slice_index_or ps j (pos 0)) (pos 0) (omega arith)
        ∙ ap (λ i. slice_index_or ps i (pos 0)) (same_number j k e)
    go false e h more = more h

-- ---- and back

pub length-from_cells : (g : ℕ) (cs : List Carried) (st ps : List ℤ) → length (from_cells g cs st ps) ≡ length ps
length-from_cells g [] st ps = refl
length-from_cells g (x ∷ cs) st ps = length-from_cells g cs st (slice_set ps x.private (slice_index_or st (g + x.cell) (pos 0))) ∙ length-set ps x.private (slice_index_or st (g + x.cell) (pos 0))

pub from_other : (g : ℕ) (ks : List ℕ) (c : ℕ) (st ps : List ℤ) (k : ℕ) → cell_of (cells_from ks c) k ≡ None → slice_index_or (from_cells g (cells_from ks c) st ps) k (pos 0) ≡ slice_index_or ps k (pos 0)
from_other g [] c st ps k h = refl
from_other g (j ∷ ks) c st ps k h = go (nat_eq j k) refl h (from_other g ks (c + 1) st (slice_set ps j (slice_index_or st (g + c) (pos 0))) k)
  where
    ps' : List ℤ
    ps' = slice_set ps j (slice_index_or st (g + c) (pos 0))

    go : (b : Bool) → nat_eq j k ≡ b → (if b then Some c else cell_of (cells_from ks (c + 1)) k) ≡ None
        → (cell_of (cells_from ks (c + 1)) k ≡ None → slice_index_or (from_cells g (cells_from ks (c + 1)) st ps') k (pos 0) ≡ slice_index_or ps' k (pos 0))
        → slice_index_or (from_cells g (cells_from ks (c + 1)) st ps') k (pos 0) ≡ slice_index_or ps k (pos 0)
    go true e h more = absurd cc
    go false e h more = more h ∙ get_or-set_other ps j k (slice_index_or st (g + c) (pos 0)) (pos 0) (λ s. (let t : true ≡ false = sym (is_number j k (sym s)) ∙ e in absurd cc))

pub from_at : (g : ℕ) (ks : List ℕ) (n c : ℕ) (st ps : List ℤ) (k d : ℕ) → cell_of (cells_from ks c) k ≡ Some d → From n ks → k < length ps
    → slice_index_or (from_cells g (cells_from ks c) st ps) k (pos 0) ≡ slice_index_or st (g + d) (pos 0)
from_at g [] n c st ps k d h rises lt = absurd cc
from_at g (j ∷ ks) n c st ps k d h rises lt =
    go (nat_eq j k) refl h (λ h'. from_at g ks (j + 1) (c + 1) st (slice_set ps j (slice_index_or st (g + c) (pos 0))) k d h' rises.1 (omega (arith, length-set ps j (slice_index_or st (g + c) (pos 0)))))
  where
    ps' : List ℤ
    ps' = slice_set ps j (slice_index_or st (g + c) (pos 0))

    go : (b : Bool) → nat_eq j k ≡ b → (if b then Some c else cell_of (cells_from ks (c + 1)) k) ≡ Some d
        → (cell_of (cells_from ks (c + 1)) k ≡ Some d → slice_index_or (from_cells g (cells_from ks (c + 1)) st ps') k (pos 0) ≡ slice_index_or st (g + d) (pos 0))
        → slice_index_or (from_cells g (cells_from ks (c + 1)) st ps') k (pos 0) ≡ slice_index_or st (g + d) (pos 0)
    go true e h more =
        let same : c ≡ d = cc in
        let it : j ≡ k = same_number j k e in
        from_other g ks (c + 1) st ps' k (before_all k (j + 1) ks (c + 1) (omega arith) rises.1)
        ∙ ap (λ i. slice_index_or ps' i (pos 0)) (sym it)
        ∙ get_or-set_same ps j (slice_index_or st (g + c) (pos 0)) (pos 0) (omega arith)
        ∙ ap (λ i. slice_index_or st (g + i) (pos 0)) same
    go false e h more = more h

-- ---- copies

pub length-copied : (ks : List ℕ) (from to : List ℤ) → length (copied_words ks from to) ≡ length to
length-copied [] from to = refl
length-copied (k ∷ ks) from to = length-copied ks from (slice_set to k (slice_index_or from k (pos 0))) ∙ length-set to k (slice_index_or from k (pos 0))

copied_other : (ks : List ℕ) (n k : ℕ) (from to : List ℤ) → k < n → From n ks → slice_index_or (copied_words ks from to) k (pos 0) ≡ slice_index_or to k (pos 0)
copied_other [] n k from to lt h = refl
copied_other (j ∷ ks) n k from to lt h =
    let le = h.0 in
    copied_other ks (j + 1) k from (slice_set to j (slice_index_or from j (pos 0))) (omega arith) h.1
    ∙ get_or-set_other to j k (slice_index_or from j (pos 0)) (pos 0) (λ e. omega arith)

pub copied_at : (test : ℕ → Bool) (k a n : ℕ) (from to : List ℤ) → test k ≡ true → a ≤ k → k < a + n → k < length to
    → slice_index_or (copied_words (filter test (range_with_len a n)) from to) k (pos 0) ≡ slice_index_or from k (pos 0)
copied_at test k a zero from to t le lt room = absurd (omega arith)
copied_at test k a (suc n) from to t le lt room =
    go (test a) refl
    (λ e. copied_at test k (a + 1) n from (slice_set to a (slice_index_or from a (pos 0))) t (not_equal a k e le) (omega arith) (omega (arith, length-set to a (slice_index_or from a (pos 0)))))
    (λ e. copied_at test k (a + 1) n from to t (not_equal a k e le) (omega arith) room)
  where
    to' : List ℤ
    to' = slice_set to a (slice_index_or from a (pos 0))

    go : (b : Bool) → test a ≡ b
        → (nat_eq a k ≡ false → slice_index_or (copied_words (filter test (range_with_len (a + 1) n)) from to') k (pos 0) ≡ slice_index_or from k (pos 0))
        → (nat_eq a k ≡ false → slice_index_or (copied_words (filter test (range_with_len (a + 1) n)) from to) k (pos 0) ≡ slice_index_or from k (pos 0))
        → slice_index_or (copied_words (if b then a ∷ filter test (range_with_len (a + 1) n) else filter test (range_with_len (a + 1) n)) from to) k (pos 0) ≡ slice_index_or from k (pos 0)
    go true e one other = by_number (nat_eq a k) refl
      where
        by_number : (b : Bool) → nat_eq a k ≡ b → slice_index_or (copied_words (filter test (range_with_len (a + 1) n)) from to') k (pos 0) ≡ slice_index_or from k (pos 0)
        by_number true ne =
            let it : a ≡ k = same_number a k ne in
            copied_other (filter test (range_with_len (a + 1) n)) (a + 1) k from to' (omega arith) (filter_rises test (a + 1) n)
            ∙ ap (λ i. slice_index_or to' i (pos 0)) (sym it)
            ∙ get_or-set_same to a (slice_index_or from a (pos 0)) (pos 0) (omega arith)
            ∙ ap (λ i. slice_index_or from i (pos 0)) it
        by_number false ne = one ne
    go false e one other = by_number (nat_eq a k) refl
      where
        by_number : (b : Bool) → nat_eq a k ≡ b → slice_index_or (copied_words (filter test (range_with_len (a + 1) n)) from to) k (pos 0) ≡ slice_index_or from k (pos 0)
        by_number true ne = let h : false ≡ true = sym e ∙ ap test (same_number a k ne) ∙ t in absurd cc
        by_number false ne = other ne
