-- The workers of iterations that go on are the same ones.
use Rattle.std.proofs.Common.{◌≡◌, ℕ, ℤ, List, [], ◌∷◌, map, refl, ap}
use Rattle.std.specs.Prelude.{◌==◌}
use Rattle.hx_marks.specs.Table.{look, put}
use Rattle.hx_buffer.specs.Overlay.{or_else}
use Rattle.hx_code.specs.Local.{LocalView}
use Rattle.hx_speculation.specs.Slots.{Slot, is_at, is_violated, with_mark, with_write, squashed, restarted_from, restarted, Found, New, Known, MarksFull, LoadLost, Written, Restarts, BufferFull, NumbersEnd, StoreLost}
use Rattle.hx_speculation.proofs.Stores.{if_cases}
use Rattle.hx_slots.specs.Slots.{workers_of, after_load, after_store}

marked : (w attempt a : ℕ) (v : ℤ) (xs : List (Slot LocalView)) → workers_of (with_mark w attempt a v xs) ≡ workers_of xs
marked w attempt a v [] = refl
marked w attempt a v (x ∷ xs) =
    if_cases (λ l. workers_of l ≡ workers_of (x ∷ xs)) (is_at x w attempt) (record x { marks = put x.marks a v } ∷ xs) (x ∷ with_mark w attempt a v xs)
    (λ _. refl) (λ _. ap (λ l. x.worker ∷ l) (marked w attempt a v xs))

all_restarted : (xs : List (Slot LocalView)) → workers_of (map restarted xs) ≡ workers_of xs
all_restarted [] = refl
all_restarted (x ∷ xs) = ap (λ l. x.worker ∷ l) (all_restarted xs)

some_squashed : (a : ℕ) (u : ℤ) (xs : List (Slot LocalView)) → workers_of (squashed a u xs) ≡ workers_of xs
some_squashed a u [] = refl
some_squashed a u (x ∷ xs) =
    if_cases (λ l. workers_of l ≡ workers_of (x ∷ xs)) (is_violated a u x) (map restarted (x ∷ xs)) (x ∷ squashed a (or_else (look x.buffer a) u) xs)
    (λ _. all_restarted (x ∷ xs)) (λ _. ap (λ l. x.worker ∷ l) (some_squashed a (or_else (look x.buffer a) u) xs))

written : (w attempt a : ℕ) (v : ℤ) (xs : List (Slot LocalView)) → workers_of (with_write w attempt a v xs) ≡ workers_of xs
written w attempt a v [] = refl
written w attempt a v (x ∷ xs) =
    if_cases (λ l. workers_of l ≡ workers_of (x ∷ xs)) (is_at x w attempt) (record x { buffer = put x.buffer a v } ∷ squashed a v xs) (x ∷ with_write w attempt a v xs)
    (λ _. ap (λ l. x.worker ∷ l) (some_squashed a v xs)) (λ _. ap (λ l. x.worker ∷ l) (written w attempt a v xs))

pub workers_restarted : (w : ℕ) (xs : List (Slot LocalView)) → workers_of (restarted_from w xs) ≡ workers_of xs
workers_restarted w [] = refl
workers_restarted w (x ∷ xs) =
    if_cases (λ l. workers_of l ≡ workers_of (x ∷ xs)) (x.worker == w) (map restarted (x ∷ xs)) (x ∷ restarted_from w xs)
    (λ _. all_restarted (x ∷ xs)) (λ _. ap (λ l. x.worker ∷ l) (workers_restarted w xs))

pub workers_after_load : (w attempt a : ℕ) (f : Found) (xs : List (Slot LocalView)) → workers_of (after_load w attempt a f xs) ≡ workers_of xs
workers_after_load w attempt a (New v) xs = marked w attempt a v xs
workers_after_load w attempt a (Known v) xs = refl
workers_after_load w attempt a MarksFull xs = refl
workers_after_load w attempt a LoadLost xs = refl

pub workers_after_store : (w attempt a : ℕ) (v : ℤ) (z : Written) (xs : List (Slot LocalView)) → workers_of (after_store w attempt a v z xs) ≡ workers_of xs
workers_after_store w attempt a v (Restarts n had) xs = written w attempt a v xs
workers_after_store w attempt a v BufferFull xs = refl
workers_after_store w attempt a v NumbersEnd xs = refl
workers_after_store w attempt a v StoreLost xs = refl
