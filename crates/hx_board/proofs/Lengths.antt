-- A call on the active iterations leaves as many.
use Rattle.std.proofs.Common.{◌≡◌, ℕ, suc, ℤ, List, [], ◌∷◌, length, refl, ap}
use Rattle.std.specs.Prelude.{◌==◌}
use Rattle.std.proofs.lemmas.List.{length-map}
use Rattle.hx_code.specs.Local.{LocalView}
use Rattle.hx_marks.specs.Table.{look}
use Rattle.hx_buffer.specs.Overlay.{or_else, overlay_from, overlay}
use Rattle.hx_marks.specs.Table.{Table}
use Rattle.hx_speculation.specs.Slots.{Slot, is_at, is_violated, restarted, with_mark, with_write, squashed, restarted_from}
use Rattle.hx_speculation.proofs.Stores.{if_cases}

pub long_mark : (w attempt a : ℕ) (v : ℤ) (xs : List (Slot LocalView)) → length (with_mark w attempt a v xs) ≡ length xs
long_mark w attempt a v [] = refl
long_mark w attempt a v (x ∷ xs) = if_cases (λ l. length l ≡ suc (length xs)) (is_at x w attempt) _ _ (λ _. refl) (λ _. ap suc (long_mark w attempt a v xs))

long_squashed : (a : ℕ) (u : ℤ) (xs : List (Slot LocalView)) → length (squashed a u xs) ≡ length xs
long_squashed a u [] = refl
long_squashed a u (x ∷ xs) = if_cases (λ l. length l ≡ suc (length xs)) (is_violated a u x) _ _ (λ _. length-map (x ∷ xs) restarted) (λ _. ap suc (long_squashed a (or_else (look x.buffer a) u) xs))

pub long_write : (w attempt a : ℕ) (v : ℤ) (xs : List (Slot LocalView)) → length (with_write w attempt a v xs) ≡ length xs
long_write w attempt a v [] = refl
long_write w attempt a v (x ∷ xs) = if_cases (λ l. length l ≡ suc (length xs)) (is_at x w attempt) _ _ (λ _. ap suc (long_squashed a v xs)) (λ _. ap suc (long_write w attempt a v xs))

pub long_restarted : (w : ℕ) (xs : List (Slot LocalView)) → length (restarted_from w xs) ≡ length xs
long_restarted w [] = refl
long_restarted w (x ∷ xs) = if_cases (λ l. length l ≡ suc (length xs)) (x.worker == w) _ _ (λ _. length-map (x ∷ xs) restarted) (λ _. ap suc (long_restarted w xs))

long_from : (n : ℕ) (t : Table) (s : List ℤ) → length (overlay_from n t s) ≡ length s
long_from n t [] = refl
long_from n t (x ∷ s) = ap suc (long_from (suc n) t s)

pub long_overlay : (t : Table) (s : List ℤ) → length (overlay t s) ≡ length s
long_overlay t s = long_from 0 t s
