-- What the calls find and leave, by the place of an iteration.
use Rattle.std.proofs.Common.{◌≡◌, ℕ, suc, ◌<◌, ◌≤◌, ℤ, Bool, true, false, List, [], ◌∷◌, ◌++◌, length, map, get_or, set, take, drop, refl, ap, arith}
use Rattle.std.specs.Prelude.{◌==◌, if◌then◌else◌}
use Rattle.hx_marks.specs.Table.{look, put}
use Rattle.hx_buffer.specs.Overlay.{or_else}
use Rattle.hx_code.specs.Local.{LocalView}
use Rattle.hx_speculation.specs.Slots.{Slot, is_at, of_worker, found, finds_own, with_mark, written, writes_own, with_write, is_violated, violated, squashed, from_worker, restarted_from, restarted, LoadLost, StoreLost}
use Rattle.hx_slots.specs.Slots.{place_of, seen_behind, before_violated, numbered_at}

-- by a test that takes the first or not
first_or : {A : Type 0} (P : A → ℕ → Type 0) (t : Bool) (x y : A) (n : ℕ) → (t ≡ true → P x 0) → (t ≡ false → P y (suc n)) → P (if t then x else y) (if t then 0 else suc n)
first_or P true x y n f g = f refl
first_or P false x y n f g = g refl

-- ---- a worker's attempt

module _ (capacity w attempt a : ℕ) where
  abbrev pub is_it : Slot LocalView → Bool
  is_it x = is_at x w attempt

  pub found_lost : (u : ℤ) (xs : List (Slot LocalView)) → length xs ≤ place_of is_it xs → found capacity w attempt a u xs ≡ LoadLost
  found_lost u [] h = refl
  found_lost u (x ∷ xs) h =
      first_or (λ f n. suc (length xs) ≤ n → f ≡ LoadLost) (is_it x) _ _ _ (λ _ e. absurd (omega (arith, e)))
      (λ _ e. found_lost (or_else (look x.buffer a) u) xs (omega (arith, e))) h

  pub found_there : (u : ℤ) (xs : List (Slot LocalView)) (d : Slot LocalView) → place_of is_it xs < length xs → found capacity w attempt a u xs ≡ finds_own capacity a (seen_behind a u (take (place_of is_it xs) xs)) (get_or xs (place_of is_it xs) d) (look (get_or xs (place_of is_it xs) d).buffer a)
  found_there u [] d lt = absurd (omega (arith, lt))
  found_there u (x ∷ xs) d lt =
      first_or (λ f n. n < suc (length xs) → f ≡ finds_own capacity a (seen_behind a u (take n (x ∷ xs))) (get_or (x ∷ xs) n d) (look (get_or (x ∷ xs) n d).buffer a)) (is_it x) _ _ _
      (λ _ _. refl) (λ _ l. found_there (or_else (look x.buffer a) u) xs d (omega (arith, l))) lt

  pub mark_there : (v : ℤ) (xs : List (Slot LocalView)) (d : Slot LocalView) → place_of is_it xs < length xs → with_mark w attempt a v xs ≡ set xs (place_of is_it xs) (record (get_or xs (place_of is_it xs) d) { marks = put (get_or xs (place_of is_it xs) d).marks a v })
  mark_there v [] d lt = absurd (omega (arith, lt))
  mark_there v (x ∷ xs) d lt =
      first_or (λ l n. n < suc (length xs) → l ≡ set (x ∷ xs) n (record (get_or (x ∷ xs) n d) { marks = put (get_or (x ∷ xs) n d).marks a v })) (is_it x) _ _ _
      (λ _ _. refl) (λ _ l. ap (λ ys. x ∷ ys) (mark_there v xs d (omega (arith, l)))) lt

  pub written_lost : (v : ℤ) (xs : List (Slot LocalView)) → length xs ≤ place_of is_it xs → written capacity w attempt a v xs ≡ StoreLost
  written_lost v [] h = refl
  written_lost v (x ∷ xs) h =
      first_or (λ f n. suc (length xs) ≤ n → f ≡ StoreLost) (is_it x) _ _ _ (λ _ e. absurd (omega (arith, e))) (λ _ e. written_lost v xs (omega (arith, e))) h

  pub written_there : (v : ℤ) (xs : List (Slot LocalView)) (d : Slot LocalView) → place_of is_it xs < length xs → written capacity w attempt a v xs ≡ writes_own capacity a v (get_or xs (place_of is_it xs) d) (drop (suc (place_of is_it xs)) xs)
  written_there v [] d lt = absurd (omega (arith, lt))
  written_there v (x ∷ xs) d lt =
      first_or (λ f n. n < suc (length xs) → f ≡ writes_own capacity a v (get_or (x ∷ xs) n d) (drop (suc n) (x ∷ xs))) (is_it x) _ _ _
      (λ _ _. refl) (λ _ l. written_there v xs d (omega (arith, l))) lt

  pub write_there : (v : ℤ) (xs : List (Slot LocalView)) (d : Slot LocalView) → place_of is_it xs < length xs → with_write w attempt a v xs ≡ take (place_of is_it xs) xs ++ record (get_or xs (place_of is_it xs) d) { buffer = put (get_or xs (place_of is_it xs) d).buffer a v } ∷ squashed a v (drop (suc (place_of is_it xs)) xs)
  write_there v [] d lt = absurd (omega (arith, lt))
  write_there v (x ∷ xs) d lt =
      first_or (λ l n. n < suc (length xs) → l ≡ take n (x ∷ xs) ++ record (get_or (x ∷ xs) n d) { buffer = put (get_or (x ∷ xs) n d).buffer a v } ∷ squashed a v (drop (suc n) (x ∷ xs))) (is_it x) _ _ _
      (λ _ _. refl) (λ _ l. ap (λ ys. x ∷ ys) (write_there v xs d (omega (arith, l)))) lt

-- ---- whom a write violates

pub violated_there : (a : ℕ) (u : ℤ) (xs : List (Slot LocalView)) → violated a u xs ≡ drop (before_violated a u xs) xs
violated_there a u [] = refl
violated_there a u (x ∷ xs) = first_or (λ l n. l ≡ drop n (x ∷ xs)) (is_violated a u x) _ _ _ (λ _. refl) (λ _. violated_there a (or_else (look x.buffer a) u) xs)

pub squashed_there : (a : ℕ) (u : ℤ) (xs : List (Slot LocalView)) → squashed a u xs ≡ take (before_violated a u xs) xs ++ map restarted (drop (before_violated a u xs) xs)
squashed_there a u [] = refl
squashed_there a u (x ∷ xs) =
    first_or (λ l n. l ≡ take n (x ∷ xs) ++ map restarted (drop n (x ∷ xs))) (is_violated a u x) _ _ _ (λ _. refl)
    (λ _. ap (λ ys. x ∷ ys) (squashed_there a (or_else (look x.buffer a) u) xs))

pub few_before_violated : (a : ℕ) (u : ℤ) (xs : List (Slot LocalView)) → before_violated a u xs ≤ length xs
few_before_violated a u [] = omega arith
few_before_violated a u (x ∷ xs) =
    first_or {A = Unit {0}} (λ _ n. n ≤ suc (length xs)) (is_violated a u x) tt tt _ (λ _. omega arith) (λ _. omega (arith, few_before_violated a (or_else (look x.buffer a) u) xs))

-- ---- a worker's iteration

module _ (w : ℕ) where
  abbrev pub is_his : Slot LocalView → Bool
  is_his x = x.worker == w

  pub worker_there : (j : ℕ) (xs : List (Slot LocalView)) → of_worker w j xs ≡ numbered_at j xs (place_of is_his xs)
  worker_there j [] = refl
  worker_there j (x ∷ xs) = first_or (λ o n. o ≡ numbered_at j (x ∷ xs) n) (is_his x) _ _ _ (λ _. refl) (λ _. worker_there (suc j) xs)

  pub from_there : (xs : List (Slot LocalView)) → from_worker w xs ≡ drop (place_of is_his xs) xs
  from_there [] = refl
  from_there (x ∷ xs) = first_or (λ l n. l ≡ drop n (x ∷ xs)) (is_his x) _ _ _ (λ _. refl) (λ _. from_there xs)

  pub restarted_there : (xs : List (Slot LocalView)) → restarted_from w xs ≡ take (place_of is_his xs) xs ++ map restarted (drop (place_of is_his xs) xs)
  restarted_there [] = refl
  restarted_there (x ∷ xs) =
      first_or (λ l n. l ≡ take n (x ∷ xs) ++ map restarted (drop n (x ∷ xs))) (is_his x) _ _ _ (λ _. refl) (λ _. ap (λ ys. x ∷ ys) (restarted_there xs))

pub few_before : (p : Slot LocalView → Bool) (xs : List (Slot LocalView)) → place_of p xs ≤ length xs
few_before p [] = omega arith
few_before p (x ∷ xs) = first_or {A = Unit {0}} (λ _ n. n ≤ suc (length xs)) (p x) tt tt _ (λ _. omega arith) (λ _. omega (arith, few_before p xs))
