-- What 16 numbers among rising ones say of all.
use Rattle.std.proofs.Common.{◌≡◌, ℕ, ◌+◌, ◌-◌, ◌<◌, ◌≤◌, List, length, arith, slice_index, sym, ap, ◌∙◌, inl, inr, take, drop}
use Rattle.std.proofs.lemmas.Bool.{cases_lt}
use Rattle.std.proofs.lemmas.List.{get_or-take, get_or-drop, length-take-le, length-drop}
use Rattle.hx_marks.specs.Place.{NoneBelow}

module _ (words : List ℕ) (a start end : ℕ) (room : start ≤ end) (within : end ≤ length words)
    (before : (i : ℕ) → i < start → slice_index words i < a)
  where
    window_at : (k : ℕ) → start ≤ k → k < end → slice_index (take (end - start) (drop start words)) (k - start) ≡ slice_index words k
    window_at k low high =
        let place : start + (k - start) ≡ k = omega (arith, low) in
        get_or-take (end - start) (drop start words) (k - start) 0 (omega (arith, low, high)) ∙ get_or-drop start words (k - start) 0 ∙ ap (slice_index words) place

    window_long : length (take (end - start) (drop start words)) ≡ end - start
    window_long = length-take-le (end - start) (drop start words) (omega (arith, length-drop start words, within))

    none_before : (p : ℕ) → start + p ≤ end → NoneBelow (take (end - start) (drop start words)) a p → NoneBelow words a (start + p)
    none_before p le none k h e = elim (cases_lt k start) [
      | inl low ↦ omega (arith, before k low, e)
      | inr high ↦ none (k - start) (omega (arith, h, high)) (window_at k high (omega (arith, h, le)) ∙ e)
    ]

    pub found_in_window : (p : ℕ) → p < length (take (end - start) (drop start words)) → slice_index (take (end - start) (drop start words)) p ≡ a → NoneBelow (take (end - start) (drop start words)) a p → (start + p < length words) × (slice_index words (start + p) ≡ a) × NoneBelow words a (start + p)
    found_in_window p lt is none =
        let long = window_long in
        let place : start + p - start ≡ p = omega arith in
        let at = window_at (start + p) (omega arith) (omega (arith, lt, long, room)) in
        (omega (arith, lt, long, within, room), sym at ∙ ap (slice_index (take (end - start) (drop start words))) place ∙ is, none_before p (omega (arith, lt, long, room)) none)

    pub none_in_window : ((i : ℕ) → end ≤ i → i < length words → a < slice_index words i) → NoneBelow (take (end - start) (drop start words)) a (length (take (end - start) (drop start words))) → NoneBelow words a (length words)
    none_in_window behind none k h e = elim (cases_lt k end) [
      | inl low ↦ none_before (end - start) (omega (arith, room)) (let long = window_long in λ i lt. none i (omega (arith, lt, long))) k (omega (arith, low, room)) e
      | inr high ↦ omega (arith, behind k high h, e)
    ]
