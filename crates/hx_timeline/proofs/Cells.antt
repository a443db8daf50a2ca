-- Cells beside one another, and the blanks between them.
use Rattle.std.proofs.Common.{◌≡◌, ℕ, zero, suc, ◌+◌, ◌-◌, ◌<◌, ◌≤◌, max, List, [], ◌∷◌, ◌++◌, length, replicate, refl, ap, sym, ◌∙◌, arith, append_assoc, append-nil}
use Rattle.std.specs.List.{range_with_len}
use Rattle.std.proofs.lemmas.List.{replicate-append-replicate}
use Rattle.hx_timeline.specs.Columns.{blanks_ahead, cell_ahead, lanes_from, PutsCell}

-- blanks behind blanks
pub blanks_add : (m n : ℕ) (rest : List ℕ) → blanks_ahead m (blanks_ahead n rest) ≡ blanks_ahead (m + n) rest
blanks_add m n [] = refl
blanks_add m zero (b ∷ bs) = ap (λ k. replicate k 32 ++ b ∷ bs) (omega arith)
blanks_add m (suc n) (b ∷ bs) = sym (append_assoc (replicate m 32) (replicate (suc n) 32) (b ∷ bs)) ∙ ap (λ l. l ++ b ∷ bs) (replicate-append-replicate m (suc n) 32)

-- an empty cell is blank
pub blank_cell : (blanks width left : ℕ) (cell rest : List ℕ) → cell ≡ [] → left ≡ blanks + max (width - length cell) 1 → blanks_ahead left rest ≡ blanks_ahead blanks (cell_ahead width cell rest)
blank_cell blanks width left [] rest e is = ap (λ n. blanks_ahead n rest) is ∙ sym (blanks_add blanks (max (width - 0) 1) rest)
blank_cell blanks width left (x ∷ xs) rest e is = absurd cc

module _ (words : ℕ → List ℕ) (n w : ℕ) (whole : List ℕ) where
  -- the lanes of the workers from this one on
  abbrev left_from : ℕ → List ℕ
  left_from v = lanes_from words (range_with_len v (n - v))

  -- one lane more
  pub lane_put : (old new cell : List ℕ) (blanks left : ℕ) → w < n → cell ≡ words w → PutsCell old blanks 28 cell new left → old ++ blanks_ahead blanks (left_from w) ≡ whole → new ++ blanks_ahead left (left_from (w + 1)) ≡ whole
  lane_put old new cell blanks left lt is puts before =
      let one : n - w ≡ suc (n - (w + 1)) = omega arith in
      puts.put (left_from (w + 1)) ∙ ap (λ c. old ++ blanks_ahead blanks (cell_ahead 28 c (left_from (w + 1)))) is ∙ sym (ap (λ k. old ++ blanks_ahead blanks (lanes_from words (range_with_len w k))) one) ∙ before

  -- no lane is left
  pub lanes_put : (text : List ℕ) (blanks : ℕ) → n ≤ w → text ++ blanks_ahead blanks (left_from w) ≡ whole → text ≡ whole
  lanes_put text blanks le before =
      let none : n - w ≡ 0 = omega arith in
      sym (append-nil text) ∙ sym (ap (λ k. text ++ blanks_ahead blanks (lanes_from words (range_with_len w k))) none) ∙ before
