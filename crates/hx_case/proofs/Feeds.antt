-- One byte further towards the line that is looked for.
use Rattle.std.proofs.Common.{◌≡◌, ℕ, zero, suc, ◌-◌, ◌<◌, true, false, ◌==◌, List, [], ◌∷◌, refl, arith}
use Rattle.hx_case.specs.Pointed.{behind_feeds}

pub behind_nothing : (n : ℕ) → behind_feeds n [] ≡ []
behind_nothing zero = refl
behind_nothing (suc n) = refl

pub behind_feed : (n b : ℕ) (bs : List ℕ) → 0 < n → (b == 10) ≡ true → behind_feeds n (b ∷ bs) ≡ behind_feeds (n - 1) bs
behind_feed zero b bs some is = absurd (omega arith)
behind_feed (suc n) b bs some is = let one : suc n - 1 ≡ n = omega arith in rw (is, one) refl

pub behind_other : (n b : ℕ) (bs : List ℕ) → 0 < n → (b == 10) ≡ false → behind_feeds n (b ∷ bs) ≡ behind_feeds n bs
behind_other zero b bs some is = absurd (omega arith)
behind_other (suc n) b bs some is = rw is refl
