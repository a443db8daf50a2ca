-- One bit in a row, and one row among others.
use Rattle.std.proofs.Common.{◌≡◌, ◌≢◌, ℕ, ◌*◌, ◌%◌, ◌^◌, ◌<◌, ◌⊎◌, inl, inr, false, List, length, set, slice_index, bit_or, ap, ◌∙◌, arith, get_or-set_same, get_or-set_other, length-set}
use Rattle.std.specs.Prelude.{◌==◌, if◌then◌else◌}
use Rattle.std.specs.Int.{bit_at}
use Rattle.std.proofs.lemmas.Nat.{pow_below}
use Rattle.std.proofs.lemmas.Nat.Bits.{bit_at-lt, bit_at_or, bit_at-pow_same, bit_at-pow_other}
use Rattle.hx_speculation.proofs.Stores.{same_or_not, eq_same}
use Rattle.std.proofs.lemmas.Bool.Decides.{nat_tests}
use Rattle.hx_slots.specs.Index.{bit_of, IsWithBit}

pub is_other : (a b : ℕ) → a ≢ b → (a == b) ≡ false
is_other a b h = grind (arith, nat_tests)

-- ---- one bit

pub or_same : (row k : ℕ) → k < 16 → bit_at (bit_or row (1 * 2 ^ k % 65536)) k ≡ 1
or_same row k lt =
    let mask : 1 * 2 ^ k % 65536 ≡ 2 ^ k = omega (arith, pow_below k 16 lt) in
    ap (λ m. bit_at (bit_or row m) k) mask ∙ bit_at_or row (2 ^ k) k ∙ omega (arith, bit_at-pow_same k, bit_at-lt row k)

pub or_other : (row k w : ℕ) → k < 16 → w ≢ k → bit_at (bit_or row (1 * 2 ^ k % 65536)) w ≡ bit_at row w
or_other row k w lt n =
    let mask : 1 * 2 ^ k % 65536 ≡ 2 ^ k = omega (arith, pow_below k 16 lt) in
    ap (λ m. bit_at (bit_or row m) w) mask ∙ bit_at_or row (2 ^ k) w ∙ omega (arith, bit_at-pow_other k w n)

-- ---- one row

module _ (bit word worker row : ℕ) (rows : List ℕ) (own : bit_at row worker ≡ bit) (others : (w : ℕ) → w < 16 → w ≢ worker → bit_at row w ≡ bit_at (slice_index rows word) w) (there : word < length rows) where
  in_row : (w : ℕ) → w < 16 → (w ≡ worker) ⊎ (w ≢ worker) → bit_at row w ≡ (if w == worker then bit else bit_at (slice_index rows word) w)
  in_row w lt (inl e) = rw e (rw (eq_same worker) own)
  in_row w lt (inr n) = rw (is_other w worker n) (others w lt n)

  in_rows : (a w : ℕ) → w < 16 → (a ≡ word) ⊎ (a ≢ word) → bit_of (set rows word row) a w ≡ (if a == word then (if w == worker then bit else bit_of rows a w) else bit_of rows a w)
  in_rows a w lt (inl e) =
      let here : bit_of (set rows word row) word w ≡ bit_at row w = ap (λ r. bit_at r w) (get_or-set_same rows word row 0 there) in
      rw e (rw (eq_same word) (here ∙ in_row w lt (same_or_not w worker)))
  in_rows a w lt (inr n) = rw (is_other a word n) (ap (λ r. bit_at r w) (get_or-set_other rows word a row 0 n))

  pub row_changed : IsWithBit bit word worker rows (set rows word row)
  row_changed = record {
    long = length-set rows word row;
    each = λ a w la lw. in_rows a w lw (same_or_not a word);
  }

-- where there is no such row or no such bit, nothing changes
no_row : (bit word worker : ℕ) (rows : List ℕ) (a w : ℕ) → a ≢ word → bit_of rows a w ≡ (if a == word then (if w == worker then bit else bit_of rows a w) else bit_of rows a w)
no_row bit word worker rows a w n = rw (is_other a word n)

no_bit : (bit word worker : ℕ) (rows : List ℕ) (a w : ℕ) → w ≢ worker → (a ≡ word) ⊎ (a ≢ word) → bit_of rows a w ≡ (if a == word then (if w == worker then bit else bit_of rows a w) else bit_of rows a w)
no_bit bit word worker rows a w n (inl e) = rw (is_other w worker n) (rw e (rw (eq_same word)))
no_bit bit word worker rows a w n (inr m) = no_row bit word worker rows a w m
