-- No more workers are busy than there are.
use Rattle.std.proofs.Common.{◌≡◌, ◌≢◌, ℕ, zero, suc, ◌<◌, ◌≤◌, List, [], ◌∷◌, ◌++◌, length, sym, subst, arith}
use Rattle.std.specs.Prelude.{◌==◌, if◌then◌else◌}
use Rattle.std.proofs.lemmas.Bool.Decides.{nat_tests}
use Rattle.hx_speculation.proofs.Stores.{if_cases}
use Rattle.hx_slots.specs.Slots.{IsFree, AreWorkers}

abbrev without : ℕ → List ℕ → List ℕ
without n [] = []
without n (w ∷ ws) = if w == n then without n ws else w ∷ without n ws

free_without : (n w : ℕ) (ws : List ℕ) → IsFree w ws → IsFree w (without n ws)
free_without n w [] h = tt
free_without n w (x ∷ ws) h =
    if_cases (λ l. IsFree w l) (x == n) (without n ws) (x ∷ without n ws) (λ _. free_without n w ws h.1) (λ _. (h.0, free_without n w ws h.1))

workers_without : (n : ℕ) (ws : List ℕ) → AreWorkers (suc n) ws → AreWorkers n (without n ws)
workers_without n [] h = tt
workers_without n (w ∷ ws) h =
    if_cases (λ l. AreWorkers n l) (w == n) (without n ws) (w ∷ without n ws)
    (λ _. workers_without n ws h.2)
    (λ other. (grind (arith, nat_tests, other, h.0), free_without n w ws h.1, workers_without n ws h.2))

-- where n is free, nothing goes
long_without : (n : ℕ) (ws : List ℕ) → IsFree n ws → length ws ≤ length (without n ws)
long_without n [] h = omega arith
long_without n (w ∷ ws) h =
    if_cases (λ l. suc (length ws) ≤ length l) (w == n) (without n ws) (w ∷ without n ws)
    (λ same. absurd (h.0 (grind (arith, nat_tests, same))))
    (λ _. omega (arith, long_without n ws h.1))

one_goes : (n m : ℕ) (ws : List ℕ) → AreWorkers m ws → length ws ≤ suc (length (without n ws))
one_goes n m [] h = omega arith
one_goes n m (w ∷ ws) h =
    if_cases (λ l. suc (length ws) ≤ suc (length l)) (w == n) (without n ws) (w ∷ without n ws)
    (λ same. let is : w ≡ n = grind (arith, nat_tests, same) in omega (arith, long_without n ws (subst (λ k. IsFree k ws) is h.1)))
    (λ _. omega (arith, one_goes n m ws h.2))

pub few_workers : (n : ℕ) (ws : List ℕ) → AreWorkers n ws → length ws ≤ n
few_workers zero [] h = omega arith
few_workers zero (w ∷ ws) h = absurd (omega (arith, h.0))
few_workers (suc n) ws h = omega (arith, one_goes n (suc n) ws h, few_workers n (without n ws) (workers_without n ws h))

-- so there is a place for one that is free
pub place_for : (n w : ℕ) (ws : List ℕ) → w < n → IsFree w ws → AreWorkers n ws → length ws < n
place_for n w ws lt free h = omega (arith, few_workers n (w ∷ ws) (lt, free, h))

free_last : (w x : ℕ) (ws : List ℕ) → IsFree w ws → x ≢ w → IsFree w (ws ++ x ∷ [])
free_last w x [] h n = (n, tt)
free_last w x (y ∷ ws) h n = (h.0, free_last w x ws h.1 n)

pub workers_last : (n w : ℕ) (ws : List ℕ) → w < n → IsFree w ws → AreWorkers n ws → AreWorkers n (ws ++ w ∷ [])
workers_last n w [] lt free h = (lt, tt, tt)
workers_last n w (x ∷ ws) lt free h = (h.0, free_last x w ws h.1 (λ e. free.0 (sym e)), workers_last n w ws lt free.1 h.2)
