-- What 16 numbers at a time say of the whole list.
use Rattle.std.proofs.Common.{◌≡◌, ℕ, ◌+◌, ◌<◌, ◌≤◌, ◌==◌, true, not, List, length, arith, slice_index}
use Rattle.std.specs.List.{prefix_len}
use Rattle.std.specs.Simd.Lanes.{chunk}
use Rattle.std.proofs.lemmas.Bool.{eqb-true, eq-eqb}
use Rattle.std.proofs.lemmas.Simd.{run_in_chunk_fails, run_in_chunk_stops}
use Rattle.hx_marks.specs.Place.{NoneBelow}

-- none of the numbers that come before the first hit is a
pub below_more : (words : List ℕ) (a at r : ℕ) → at + 16 ≤ length words → r ≡ prefix_len (λ x. not (x == a)) (chunk at 16 words) → NoneBelow words a at → NoneBelow words a (at + r)
below_more words a at r room run none k h e =
    let fails = run_in_chunk_fails (λ x. x == a) words at 16 r 0 room run in
    let is_a : (slice_index words k == a) ≡ true = eq-eqb _ _ e in
    grind (arith, fails k, none k, is_a, e)

pub hit : (words : List ℕ) (a at r : ℕ) → at + 16 ≤ length words → r ≡ prefix_len (λ x. not (x == a)) (chunk at 16 words) → r < 16 → slice_index words (at + r) ≡ a
hit words a at r room run h = eqb-true _ _ (run_in_chunk_stops (λ x. x == a) words at 16 r 0 room run h)
