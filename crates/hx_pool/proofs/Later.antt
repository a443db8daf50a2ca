-- The plain region goes on from where it came.
use Rattle.std.proofs.Common.{◌≡◌, ℕ, zero, suc, ◌+◌, ap, ◌∙◌, arith}
use Rattle.hx_code.specs.Code.{CodeView}
use Rattle.hx_code.specs.Region.{RegionState, region_step, region_after}

after_more : (code : CodeView) (n k : ℕ) (z : RegionState) → region_after code n (region_after code k z) ≡ region_after code (n + k) z
after_more code zero k z = let e : k ≡ 0 + k = omega arith in ap (λ j. region_after code j z) e
after_more code (suc n) k z =
    let e : suc (n + k) ≡ suc n + k = omega arith in
    ap (region_step code) (after_more code n k z) ∙ ap (λ j. region_after code j z) e

-- behind some words, some more
pub later : (code : CodeView) (z y x : RegionState) (n : ℕ) → (k : ℕ) × (y ≡ region_after code k z) → x ≡ region_after code n y → (k : ℕ) × (x ≡ region_after code k z)
later code z y x n (k, is) then = (n + k, then ∙ ap (region_after code n) is ∙ after_more code n k z)
