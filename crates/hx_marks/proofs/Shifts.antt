-- Room made in a list, from its end on: the items go one up, one after another.
use Rattle.std.proofs.Common.{◌≡◌, ◌≢◌, ℕ, zero, suc, ◌-◌, ◌<◌, ◌≤◌, [], ◌∷◌, ◌++◌, List, refl, sym, ap, ◌∙◌, arith, length, get_or, slice_set, insert}
use Rattle.std.proofs.lemmas.List.{set-set, get_or-set_other}
use Rattle.std.proofs.lemmas.List.Edits.{get_or-insert_below}

-- an item behind the last
pub pushed_is_insert : {X : Type 0} (xs : List X) (x : X) → slice_set (xs ++ x ∷ []) (length xs) x ≡ insert xs (length xs) x
pushed_is_insert [] x = refl
pushed_is_insert (y ∷ xs) x = ap (λ l. y ∷ l) (pushed_is_insert xs x)

step : {X : Type 0} (xs : List X) (k : ℕ) (x y : X) → k < length xs → y ≡ get_or xs k y → slice_set (slice_set (insert xs (suc k) x) (suc k) y) k x ≡ insert xs k x
step [] k x y lt is = absurd (omega (arith, lt))
step (z ∷ xs) zero x y lt is = ap (λ w. x ∷ w ∷ xs) is
step (z ∷ xs) (suc k) x y lt is = ap (λ l. z ∷ l) (step xs k x y (omega (arith, lt)) is)

-- the room at a place goes one down, where the item y before it goes up
pub room_goes_down : {X : Type 0} (xs s : List X) (at : ℕ) (x y : X) → 0 < at → at ≤ length xs → slice_set s at x ≡ insert xs at x → y ≡ get_or s (at - 1) y → slice_set (slice_set s at y) (at - 1) x ≡ insert xs (at - 1) x
room_goes_down xs s at x y pos le room is =
    let other : at - 1 ≢ at = λ (e : at - 1 ≡ at). omega (arith, e, pos) in
    let before : y ≡ get_or xs (at - 1) y =
    is ∙ sym (get_or-set_other s at (at - 1) x y other) ∙ ap (λ l. get_or l (at - 1) y) room ∙ get_or-insert_below xs at x y (at - 1) (omega (arith, pos)) le in
    let next : at ≡ suc (at - 1) = omega (arith, pos) in
    ap (λ l. slice_set l (at - 1) x) (sym (set-set s at x y) ∙ ap (λ l. slice_set l at y) room) ∙ ap (λ n. slice_set (slice_set (insert xs n x) n y) (at - 1) x) next ∙ step xs (at - 1) x y (omega (arith, pos, le)) before
