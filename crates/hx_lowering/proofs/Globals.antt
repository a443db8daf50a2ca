-- The globals of a program, and the words that they take in a store.
use Rattle.std.proofs.Common.{◌≡◌, ℕ, ◌+◌, ◌≤◌, ◌-◌, ◌<◌, Bool, true, false, List, [], ◌∷◌, ◌++◌, length, take, drop, Option, Some, None, ℤ, pos, refl, sym, ap, subst, ◌∙◌, arith, if◌then◌else◌}
use Rattle.std.specs.Prelude.{bytes_eq, slice_set, option_map, flat_map}
use Rattle.std.proofs.lemmas.List.{take-set-le, drop-set-lt, drop-set-add, length-take, length-drop, take-append-drop, take-take, drop-take, drop-drop}
use Rattle.std.proofs.Math.Seq.{take-set-lt}
use Rattle.std.proofs.lemmas.Bool.{lt-ltb}
use Rattle.hx_tree.specs.World.{Map, look_up, set_word, with_word}
use Rattle.hx_resolved.specs.declared.program.Words.{Words}

-- the globals with how many words each has
abbrev pub Layout : Type 0
Layout = List (List ℕ × ℕ)

-- the words of each global, where they lie in a store from a place on
abbrev pub store_from : Layout → ℕ → List ℤ → Map (List ℤ)
store_from [] a st = []
store_from ((x, n) ∷ rest) a st = (x, take n (drop a st)) ∷ store_from rest (a + n) st

abbrev pub place_of : Layout → ℕ → List ℕ → Option Words
place_of [] a x = None
place_of ((y, n) ∷ rest) a x = if bytes_eq y x then Some (record { base = a; length = n }) else place_of rest (a + n) x

abbrev pub words_in : Layout → ℕ
words_in [] = 0
words_in ((x, n) ∷ rest) = n + words_in rest

pub found : (lay : Layout) (a : ℕ) (st : List ℤ) (x : List ℕ) (w : Words) → place_of lay a x ≡ Some w → look_up (store_from lay a st) x ≡ Some (take w.length (drop w.base st))
found [] a st x w h = absurd cc
found ((y, n) ∷ rest) a st x w h = go (λ e. found rest (a + n) st x w e) (bytes_eq y x) h
  where
    go : (place_of rest (a + n) x ≡ Some w → look_up (store_from rest (a + n) st) x ≡ Some (take w.length (drop w.base st))) → (t : Bool) → (if t then Some (record { base = a; length = n }) else place_of rest (a + n) x) ≡ Some w → (if t then Some (take n (drop a st)) else look_up (store_from rest (a + n) st) x) ≡ Some (take w.length (drop w.base st))
    go next true e = let p : record { base = a; length = n } ≡ w = cc in ap (λ (v : Words). Some (take v.length (drop v.base st))) p
    go next false e = next e

-- a global lies within the words
pub lies_in : (lay : Layout) (a : ℕ) (x : List ℕ) (w : Words) → place_of lay a x ≡ Some w → (a ≤ w.base) × (w.base + w.length ≤ a + words_in lay)
lies_in [] a x w h = absurd cc
lies_in ((y, n) ∷ rest) a x w h = go (λ e. lies_in rest (a + n) x w e) (bytes_eq y x) h
  where
    go : (place_of rest (a + n) x ≡ Some w → (a + n ≤ w.base) × (w.base + w.length ≤ a + n + words_in rest)) → (t : Bool) → (if t then Some (record { base = a; length = n }) else place_of rest (a + n) x) ≡ Some w → (a ≤ w.base) × (w.base + w.length ≤ a + (n + words_in rest))
    go next true e =
        let p : record { base = a; length = n } ≡ w = cc in
        subst (λ (v : Words). (a ≤ v.base) × (v.base + v.length ≤ a + (n + words_in rest))) p (omega arith, omega arith)
    go next false e = let r = next e in (omega (arith, r.0), omega (arith, r.1))

-- a word before or behind the globals isn't theirs
pub elsewhere : (lay : Layout) (a : ℕ) (st : List ℤ) (i : ℕ) (v : ℤ) → (i < a) → store_from lay a (slice_set st i v) ≡ store_from lay a st
elsewhere [] a st i v h = refl
elsewhere ((y, n) ∷ rest) a st i v h =
    ap (λ ws. (y, take n ws) ∷ store_from rest (a + n) (slice_set st i v)) (drop-set-lt a st i v h)
    ∙ ap (λ m. (y, take n (drop a st)) ∷ m) (elsewhere rest (a + n) st i v (omega arith))

past : (a n : ℕ) (st : List ℤ) (i : ℕ) (v : ℤ) → a + n ≤ i → take n (drop a (slice_set st i v)) ≡ take n (drop a st)
past a n st i v h =
    let e : a + (i - a) ≡ i = omega arith in
    ap (λ k. take n (drop a (slice_set st k v))) (sym e) ∙ ap (take n) (drop-set-add a st (i - a) v) ∙ take-set-le n (drop a st) (i - a) v (omega arith)

pub elsewhere_behind : (lay : Layout) (a : ℕ) (st : List ℤ) (i : ℕ) (v : ℤ) → a + words_in lay ≤ i → store_from lay a (slice_set st i v) ≡ store_from lay a st
elsewhere_behind [] a st i v h = refl
elsewhere_behind ((y, n) ∷ rest) a st i v h =
    ap (λ ws. (y, ws) ∷ store_from rest (a + n) (slice_set st i v)) (past a n st i v (omega arith))
    ∙ ap (λ m. (y, take n (drop a st)) ∷ m) (elsewhere_behind rest (a + n) st i v (omega arith))

-- the words of a global, of which there are so many
pub its_words : (lay : Layout) (a : ℕ) (st : List ℤ) (x : List ℕ) (w : Words) → place_of lay a x ≡ Some w → a + words_in lay ≤ length st → length (take w.length (drop w.base st)) ≡ w.length
its_words lay a st x w h room = let l = lies_in lay a x w h in omega (arith, length-take w.length (drop w.base st), length-drop w.base st, l.0, l.1)

-- a word of a global is written where it lies
pub written : (lay : Layout) (a : ℕ) (st : List ℤ) (x : List ℕ) (w : Words) (i : ℕ) (v : ℤ) → place_of lay a x ≡ Some w → a + words_in lay ≤ length st → i < w.length → set_word (store_from lay a st) x (pos i) v ≡ Some (store_from lay a (slice_set st (w.base + i) v))
written [] a st x w i v h room lt = absurd cc
written ((y, n) ∷ rest) a st x w i v h room lt =
    go (λ e. written rest (a + n) st x w i v e (omega arith) lt) (λ e. lies_in rest (a + n) x w e) (bytes_eq y x) h
  where
    go : (place_of rest (a + n) x ≡ Some w → set_word (store_from rest (a + n) st) x (pos i) v ≡ Some (store_from rest (a + n) (slice_set st (w.base + i) v)))
        → (place_of rest (a + n) x ≡ Some w → (a + n ≤ w.base) × (w.base + w.length ≤ a + n + words_in rest))
        → (t : Bool) → (if t then Some (record { base = a; length = n }) else place_of rest (a + n) x) ≡ Some w
        → (if t then option_map (λ words'. (y, words') ∷ store_from rest (a + n) st) (with_word (take n (drop a st)) (pos i) v)
        else option_map (λ rest'. (y, take n (drop a st)) ∷ rest') (set_word (store_from rest (a + n) st) x (pos i) v))
        ≡ Some (store_from ((y, n) ∷ rest) a (slice_set st (w.base + i) v))
    go next within true e =
        let p : record { base = a; length = n } ≡ w = cc in
        let q : a ≡ w.base = ap (λ (v : Words). v.base) p in
        let r : n ≡ w.length = ap (λ (v : Words). v.length) p in
        let len : length (take n (drop a st)) ≡ n = omega (arith, length-take n (drop a st), length-drop a st) in
        let lt' : i < length (take n (drop a st)) = omega arith in
        ap (λ b. option_map (λ words'. (y, words') ∷ store_from rest (a + n) st) (if b then Some (slice_set (take n (drop a st)) i v) else None)) (lt-ltb i (length (take n (drop a st))) lt')
        ∙ ap (λ ws. Some ((y, ws) ∷ store_from rest (a + n) st)) (sym (ap (take n) (drop-set-add a st i v) ∙ take-set-lt n (drop a st) i v (omega arith)))
        ∙ ap (λ m. Some ((y, take n (drop a (slice_set st (a + i) v))) ∷ m)) (sym (elsewhere rest (a + n) st (a + i) v (omega arith)))
        ∙ ap (λ b. Some (store_from ((y, n) ∷ rest) a (slice_set st (b + i) v))) q
    go next within false e =
        let l = within e in
        ap (option_map (λ rest'. (y, take n (drop a st)) ∷ rest')) (next e)
        ∙ ap (λ ws. Some ((y, ws) ∷ store_from rest (a + n) (slice_set st (w.base + i) v))) (sym (past a n st (w.base + i) v (omega (arith, l.0))))

take-sum : (n k : ℕ) (xs : List ℤ) → take (n + k) xs ≡ take n xs ++ take k (drop n xs)
take-sum n k xs =
    sym (take-append-drop n (take (n + k) xs))
    ∙ ap (λ ys. ys ++ drop n (take (n + k) xs)) (take-take n (n + k) xs (omega arith))
    ∙ ap (λ ys. take n xs ++ ys) (drop-take n k xs)

-- all their words
pub flat_store : (lay : Layout) (a : ℕ) (st : List ℤ) → flat_map (λ entry. entry.1) (store_from lay a st) ≡ take (words_in lay) (drop a st)
flat_store [] a st = refl
flat_store ((x, n) ∷ rest) a st =
    ap (λ ws. take n (drop a st) ++ ws) (flat_store rest (a + n) st ∙ ap (take (words_in rest)) (sym (drop-drop n a st)))
    ∙ sym (take-sum n (words_in rest) (drop a st))
