-- Worked loops that are quiet, or aren't.
use Rattle.std.proofs.Common.{◌≡◌, ℕ, ℤ, pos, ◌-◌, ◌+◌, ◌==◌, [], ◌∷◌, refl, arith}
use Rattle.hx_speculation.specs.Iteration.{write, Loads, Stores, Prints, TurnEnds, Leaves}
use Rattle.hx_speculation.specs.Watch.{Exposed, Wrote, IsIndependent, IsQuiet}
use Rattle.hx_speculation.proofs.Stores.{if_cases}
use Rattle.hx_speculation.proofs.Rows.{nat_of, full, zeros, printing, printer, coverer}

-- ---- for (i = 0; i < 2; i++) { if (i == 0) d = 0; else print(d); }, where d is word 0 and 0 as the loop is entered

wrote_d : Wrote printer.region zeros 0 0 (pos 0)
wrote_d = (0, zeros, [], 2, (0, refl), refl)

exposed_d : Exposed printer.region zeros 1 0
exposed_d = (1, write zeros 0 (pos 0), [], [], _, (2, refl), refl, refl)

printer_depends : IsIndependent printer.region zeros → ⊥
printer_depends h = h 0 1 0 (pos 0) (omega arith) wrote_d exposed_d

stores_0 : (q a : ℕ) (v : ℤ) (next : ℕ) → printing q ≡ Stores a v next → v ≡ pos 0
stores_0 q a v next =
    if_cases (λ z. z ≡ Stores a v next → v ≡ pos 0) (q == 0) (Stores 0 (pos 0) 2) _ (λ _ e. cc)
    (λ _. if_cases (λ z. z ≡ Stores a v next → v ≡ pos 0) (q == 1) (Loads 0 (λ u. 100 + nat_of u)) _ (λ _ e. absurd (cc))
    (λ _. if_cases (λ z. z ≡ Stores a v next → v ≡ pos 0) (q == 2) TurnEnds _ (λ _ e. absurd (cc))
    (λ _. if_cases (λ z. z ≡ Stores a v next → v ≡ pos 0) (q == 3) Leaves (Prints ((q - 100) ∷ []) 2 full) (λ _ e. absurd (cc)) (λ _ e. absurd (cc)))))

printer_is_quiet : IsQuiet printer.region zeros
printer_is_quiet i j a v lt w e = stores_0 w.0 a v w.3 w.5

-- ---- for (i = 0; i < 3; i++) { if (i < 2) d = i + 4; else print(d); }

wrote_4 : Wrote coverer.region zeros 0 0 (pos 4)
wrote_4 = (0, zeros, [], 5, (0, refl), refl)

exposed_5 : Exposed coverer.region zeros 2 0
exposed_5 = (2, write (write zeros 0 (pos 4)) 0 (pos 5), [], [], _, (4, refl), refl, refl)

coverer_is_loud : IsQuiet coverer.region zeros → ⊥
coverer_is_loud h = let same : pos 4 ≡ pos 0 = h 0 2 0 (pos 4) (omega arith) wrote_4 exposed_5 in absurd (cc)
