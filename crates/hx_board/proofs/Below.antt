-- What is written lies in the store, and a store that is a list is laid over as one that is a function.
use Rattle.std.proofs.Common.{◌≡◌, ℕ, zero, suc, ◌+◌, ◌<◌, ◌≤◌, ℤ, pos, List, [], ◌∷◌, ◌++◌, length, map, Some, None, refl, ap, sym, subst, ◌∙◌, arith}
use Rattle.std.specs.Prelude.{◌==◌, nat_lt}
use std.Path.{fun_ext}
use Rattle.std.proofs.lemmas.Bool.Decides.{nat_tests}
use Rattle.hx_marks.specs.Table.{Table, look, put}
use Rattle.hx_buffer.specs.Overlay.{or_else, overlay_from, overlay}
use Rattle.hx_code.specs.Local.{LocalView}
use Rattle.hx_speculation.specs.Iteration.{overlay as laid_over}
use Rattle.hx_speculation.specs.Slots.{Slot, is_at, is_violated, restarted, with_mark, with_write, squashed, restarted_from, first_attempt}
use Rattle.hx_speculation.proofs.Stores.{if_cases}
use Rattle.hx_regions.specs.Region.{store_of}
use Rattle.hx_board.specs.Known.{IsBelow, WriteBelow}

below_put : (n : ℕ) (t : Table) (a : ℕ) (v : ℤ) → a < n → IsBelow n t → IsBelow n (put t a v)
below_put n [] a v lt h = (lt, tt)
below_put n (e ∷ es) a v lt h =
    if_cases (IsBelow n) (nat_lt e.word a) (e ∷ put es a v) _
    (λ _. (h.0, below_put n es a v lt h.1))
    (λ _. if_cases (IsBelow n) (e.word == a) (record { word = a; value = v } ∷ es) (record { word = a; value = v } ∷ e ∷ es) (λ _. (lt, h.1)) (λ _. (lt, (h.0, h.1))))

-- ---- through each call

pub below_mark : (n w attempt a : ℕ) (v : ℤ) (xs : List (Slot LocalView)) → WriteBelow n xs → WriteBelow n (with_mark w attempt a v xs)
below_mark n w attempt a v [] h = tt
below_mark n w attempt a v (x ∷ xs) h = if_cases (WriteBelow n) (is_at x w attempt) _ _ (λ _. h) (λ _. (h.0, below_mark n w attempt a v xs h.1))

below_restarted : (n : ℕ) (xs : List (Slot LocalView)) → WriteBelow n (map restarted xs)
below_restarted n [] = tt
below_restarted n (x ∷ xs) = (tt, below_restarted n xs)

below_squashed : (n a : ℕ) (u : ℤ) (xs : List (Slot LocalView)) → WriteBelow n xs → WriteBelow n (squashed a u xs)
below_squashed n a u [] h = tt
below_squashed n a u (x ∷ xs) h = if_cases (WriteBelow n) (is_violated a u x) _ _ (λ _. below_restarted n (x ∷ xs)) (λ _. (h.0, below_squashed n a (or_else (look x.buffer a) u) xs h.1))

pub below_write : (n w attempt a : ℕ) (v : ℤ) (xs : List (Slot LocalView)) → a < n → WriteBelow n xs → WriteBelow n (with_write w attempt a v xs)
below_write n w attempt a v [] lt h = tt
below_write n w attempt a v (x ∷ xs) lt h =
    if_cases (WriteBelow n) (is_at x w attempt) _ _ (λ _. (below_put n x.buffer a v lt h.0, below_squashed n a v xs h.1)) (λ _. (h.0, below_write n w attempt a v xs lt h.1))

pub below_abandon : (n w : ℕ) (xs : List (Slot LocalView)) → WriteBelow n xs → WriteBelow n (restarted_from w xs)
below_abandon n w [] h = tt
below_abandon n w (x ∷ xs) h = if_cases (WriteBelow n) (x.worker == w) _ _ (λ _. below_restarted n (x ∷ xs)) (λ _. (h.0, below_abandon n w xs h.1))

pub below_last : (n w : ℕ) (q : LocalView) (xs : List (Slot LocalView)) → WriteBelow n xs → WriteBelow n (xs ++ first_attempt w q ∷ [])
below_last n w q [] h = (tt, tt)
below_last n w q (x ∷ xs) h = (h.0, below_last n w q xs h.1)

-- ---- a drain

-- beyond its words a table has none
look_beyond : (n : ℕ) (t : Table) (a : ℕ) → n ≤ a → IsBelow n t → look t a ≡ None
look_beyond n [] a le h = refl
look_beyond n (e ∷ es) a le h = if_cases (λ o. o ≡ None) (e.word == a) (Some e.value) (look es a) (λ same. absurd (grind (arith, nat_tests, same, le, h.0))) (λ _. look_beyond n es a le h.1)

laid_at : (k : ℕ) (t : Table) (s : List ℤ) (a : ℕ) → IsBelow (k + length s) t → store_of (overlay_from k t s) a ≡ or_else (look t (k + a)) (store_of s a)
laid_at k t [] a h = sym (ap (λ o. or_else o (pos 0)) (look_beyond (k + 0) t (k + a) (omega arith) h))
laid_at k t (x ∷ s) zero h = let e : k ≡ k + 0 = omega arith in ap (λ n. or_else (look t n) x) e
laid_at k t (x ∷ s) (suc a) h =
    let e : suc k + a ≡ k + suc a = omega arith in
    let f : k + suc (length s) ≡ suc k + length s = omega arith in
    laid_at (suc k) t s a (subst (λ n. IsBelow n t) f h) ∙ ap (λ n. or_else (look t n) (store_of s a)) e

-- a table laid over a list is that table laid over the store that it stands for
pub laid : (t : Table) (s : List ℤ) → IsBelow (length s) t → laid_over t (store_of s) ≡ store_of (overlay t s)
laid t s h =
    let e : length s ≡ 0 + length s = omega arith in
    let z : (a : ℕ) → 0 + a ≡ a = λ a. omega arith in
    sym (fun_ext (λ a. laid_at 0 t s a (subst (λ n. IsBelow n t) e h) ∙ ap (λ n. or_else (look t n) (store_of s a)) (z a)))
