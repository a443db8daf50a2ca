-- A walk down two lists at once, of which the first says what is kept of the second.
use Rattle.std.proofs.Common.{◌≡◌, ℕ, suc, ◌+◌, ◌<◌, min, Bool, true, false, if◌then◌else◌, List, [], ◌∷◌, ◌++◌, length, get_or, drop, refl, sym, ap, ◌∙◌, add-one, drop-cons, inl, inr, arith}
use Rattle.std.specs.List.{items_where_true}
use Rattle.std.proofs.lemmas.Bool.{cases_lt}
use Rattle.std.proofs.lemmas.List.{drop_all}

kept-cons : (b : Bool) (x : ℕ) (bs : List Bool) (xs : List ℕ) → items_where_true (b ∷ bs) (x ∷ xs) ≡ (if b then x ∷ [] else []) ++ items_where_true bs xs
kept-cons true x bs xs = refl
kept-cons false x bs xs = refl

kept-none : (bs : List Bool) → items_where_true {X = ℕ} bs [] ≡ []
kept-none [] = refl
kept-none (b ∷ bs) = refl

front : {A : Type 0} (xs : List A) (n : ℕ) (x : A) → n < length xs → x ≡ get_or xs n x → drop n xs ≡ x ∷ drop (n + 1) xs
front xs n x h is = rw add-one (drop-cons xs n x h ∙ ap (λ y. y ∷ drop (suc n) xs) (sym is))

-- one more of both
pub kept-drop : (bs : List Bool) (xs : List ℕ) (n : ℕ) (b : Bool) (x : ℕ) → n < length xs → n < length bs → x ≡ get_or xs n x → b ≡ get_or bs n b → items_where_true (drop n bs) (drop n xs) ≡ (if b then x ∷ [] else []) ++ items_where_true (drop (n + 1) bs) (drop (n + 1) xs)
kept-drop bs xs n b x in_xs in_bs at_x at_b =
    ap (λ l. items_where_true l (drop n xs)) (front bs n b in_bs at_b)
    ∙ ap (λ l. items_where_true (b ∷ drop (n + 1) bs) l) (front xs n x in_xs at_x)
    ∙ kept-cons b x (drop (n + 1) bs) (drop (n + 1) xs)

-- behind the last of either
pub kept-end : (bs : List Bool) (xs : List ℕ) (n : ℕ) → n ≡ min (length xs) (length bs) → items_where_true (drop n bs) (drop n xs) ≡ []
kept-end bs xs n h = elim (cases_lt (length bs) (length xs)) [
  | inl l ↦ ap (λ l'. items_where_true l' (drop n xs)) (drop_all n bs (omega arith))
  | inr l ↦ ap (λ l'. items_where_true (drop n bs) l') (drop_all n xs (omega arith)) ∙ kept-none (drop n bs)
]
