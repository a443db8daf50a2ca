-- Where a worker's iteration stands.
use Rattle.std.proofs.Common.{◌≡◌, ℕ, zero, suc, ◌+◌, ◌≤◌, List, [], ◌∷◌, length, Option, Some, None, Bool, true, false, refl, ap, ap₂, sym, ◌∙◌, arith}
use Rattle.std.specs.Prelude.{◌==◌, if◌then◌else◌, slice_get}
use Rattle.hx_code.specs.Local.{LocalView}
use Rattle.hx_speculation.specs.Slots.{Slot, of_worker}
use Rattle.hx_speculation.proofs.Stores.{eq_same}
use Rattle.std.proofs.lemmas.Bool.{false≢true}
use Rattle.hx_slots.specs.Slots.{numbered_at, workers_of, IsFree}

pub numbered_some : (j : ℕ) (xs : List (Slot LocalView)) (k : ℕ) (x : Slot LocalView) → slice_get xs k ≡ Some x → numbered_at j xs k ≡ Some (j + k, x)
numbered_some j [] k x e = absurd cc
numbered_some j (y ∷ xs) zero x e = let yx : y ≡ x = cc in let n : j ≡ j + 0 = omega arith in ap₂ {C = Option (ℕ × Slot LocalView)} (λ m z. Some (m, z)) n yx
numbered_some j (y ∷ xs) (suc k) x e = let n : suc j + k ≡ j + suc k = omega arith in numbered_some (suc j) xs k x e ∙ ap {B = Option (ℕ × Slot LocalView)} (λ m. Some (m, x)) n

pub numbered_none : (j : ℕ) (xs : List (Slot LocalView)) (k : ℕ) → length xs ≤ k → numbered_at j xs k ≡ None
numbered_none j [] k h = refl
numbered_none j (y ∷ xs) zero h = absurd (omega (arith, h))
numbered_none j (y ∷ xs) (suc k) h = numbered_none (suc j) xs k (omega (arith, h))

-- a worker without an iteration is free
pub none_free : (w j : ℕ) (xs : List (Slot LocalView)) → of_worker w j xs ≡ None → IsFree w (workers_of xs)
none_free w j [] e = tt
none_free w j (x ∷ xs) e = by (x.worker == w) refl e (none_free w (suc j) xs)
  where
    by : (t : Bool) → (x.worker == w) ≡ t → (if t then Some (j, x) else of_worker w (suc j) xs) ≡ None → (of_worker w (suc j) xs ≡ None → IsFree w (workers_of xs)) → IsFree w (workers_of (x ∷ xs))
    by true same h rest = absurd cc
    by false other h rest = (λ (q : x.worker ≡ w). absurd (false≢true (sym other ∙ ap (λ n. x.worker == n) (sym q) ∙ eq_same x.worker)), rest h)

-- where the tested place is within, there is a slot
pub get_there : (xs : List (Slot LocalView)) (k : ℕ) → suc k ≤ length xs → (x : Slot LocalView) × (slice_get xs k ≡ Some x)
get_there [] k h = absurd (omega (arith, h))
get_there (x ∷ xs) zero h = (x, refl)
get_there (x ∷ xs) (suc k) h = get_there xs k (omega (arith, h))
