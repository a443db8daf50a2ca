-- Stores that are lists, as those that are functions.
use Rattle.std.proofs.Common.{◌≡◌, ◌≢◌, ℕ, suc, ◌<◌, ◌⊎◌, inl, inr, ℤ, pos, List, [], ◌∷◌, length, refl, ap, ap₂, sym, subst, ◌∙◌, arith, get_or-set_same, get_or-set_other}
use Rattle.std.specs.Prelude.{if◌then◌else◌, slice_set}
use Rattle.std.proofs.lemmas.Bool.{ne_eqb}
use std.Path.{fun_ext}
use Rattle.hx_speculation.specs.Iteration.{Store, write}
use Rattle.hx_speculation.proofs.Stores.{eq_same, same_or_not}
use Rattle.hx_regions.specs.Region.{store_of}

set_at : (s : List ℤ) (a : ℕ) (v : ℤ) (b : ℕ) → a < length s → (b ≡ a) ⊎ (b ≢ a) → write (store_of s) a v b ≡ store_of (slice_set s a v) b
set_at s a v b lt (inl e) =
    let here : write (store_of s) a v a ≡ store_of (slice_set s a v) a = ap (λ t. if t then v else store_of s a) (eq_same a) ∙ sym (get_or-set_same s a v (pos 0) lt) in
    subst (λ c. write (store_of s) a v c ≡ store_of (slice_set s a v) c) (sym e) here
set_at s a v b lt (inr n) = ap (λ t. if t then v else store_of s b) (ne_eqb b a n) ∙ sym (get_or-set_other s a b v (pos 0) n)

-- a word of the store is written
pub store_set : (s : List ℤ) (a : ℕ) (v : ℤ) → a < length s → write (store_of s) a v ≡ store_of (slice_set s a v)
store_set s a v lt = fun_ext (λ b. set_at s a v b lt (same_or_not b a))

-- stores of as many words that say the same are the same
pub store_tells : (s t : List ℤ) → length s ≡ length t → store_of s ≡ store_of t → s ≡ t
store_tells [] [] long e = refl
store_tells [] (y ∷ ys) long e = absurd (omega (arith, long))
store_tells (x ∷ xs) [] long e = absurd (omega (arith, long))
store_tells (x ∷ xs) (y ∷ ys) long e =
    let first : x ≡ y = ap (λ (u : Store). u 0) e in
    let rest : store_of xs ≡ store_of ys = ap {B = Store} (λ u a. u (suc a)) e in
    ap₂ ◌∷◌ first (store_tells xs ys (omega (arith, long)) rest)
