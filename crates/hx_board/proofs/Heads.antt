-- What asking for the head comes to.
use Rattle.std.proofs.Common.{◌≡◌, ℕ, zero, suc, ◌+◌, ◌<◌, List, [], ◌∷◌, Option, Some, None, Bool, true, false, ◌&&◌, not, refl, ap, sym, ◌∙◌, arith}
use Rattle.std.specs.Prelude.{◌==◌, if◌then◌else◌}
use Rattle.std.proofs.lemmas.Bool.Decides.{nat_tests}
use Rattle.hx_code.specs.Local.{LocalView}
use Rattle.hx_speculation.specs.Slots.{Slot, of_worker}
use Rattle.hx_speculation.specs.Board.{Answer, Board, Head, Yours, NotYet, Squashed, asks_head, gives_head}
use Rattle.hx_slots.specs.Slots.{numbered_at}
use Rattle.hx_board.specs.Board.{BoardView, board_of, is_over}
use Rattle.hx_board.specs.Calls.{Does}
use Rattle.hx_board.specs.Effect.{has_attempt}
use Rattle.hx_board.proofs.Kept.{IsPlace}
use Rattle.hx_board.proofs.Steps.{runs}

-- the number of what stands at a place
numbered_is : (j : ℕ) (xs : List (Slot LocalView)) (k : ℕ) (p : ℕ × Slot LocalView) → numbered_at j xs k ≡ Some p → p.0 ≡ j + k
numbered_is j [] k p e = absurd cc
numbered_is j (x ∷ xs) zero p e = let same : (j, x) ≡ p = cc in sym (ap (λ (q : ℕ × Slot LocalView). q.0) same) ∙ omega arith
numbered_is j (x ∷ xs) (suc k) p e = numbered_is (suc j) xs k p e ∙ omega arith

-- the answer by whether the number is the head's
abbrev by_number : BoardView → ℕ → ℕ → ℕ → Bool → Answer LocalView × Board LocalView
by_number b w attempt j t = if t && not b.is_out then (Yours (record { worker = w; iteration = j; attempt = attempt }), record (board_of b) { is_out = true }) else (NotYet, board_of b)

asked : (b : BoardView) (w attempt k : ℕ) (o : Option (ℕ × Slot LocalView)) → has_attempt attempt o ≡ true → ((p : ℕ × Slot LocalView) → o ≡ Some p → p.0 ≡ b.head + k) → asks_head w attempt (board_of b) o ≡ by_number b w attempt (b.head + k) ((b.head + k) == b.head)
asked b w attempt k None has at = absurd cc
asked b w attempt k (Some p) has at =
    ap (λ t. if t then gives_head w attempt p.0 (board_of b) else (Squashed, board_of b)) has ∙ ap (λ j. gives_head w attempt j (board_of b)) (at p refl)

head_runs : (b : BoardView) (w attempt k : ℕ) → is_over b ≡ false → IsPlace w b.active k → has_attempt attempt (of_worker w b.head b.active) ≡ true → asks_head w attempt (board_of b) (of_worker w b.head b.active) ≡ by_number b w attempt (b.head + k) ((b.head + k) == b.head)
head_runs b w attempt k over at has = asked b w attempt k (of_worker w b.head b.active) has (λ p e. numbered_is b.head b.active k p (sym (at b.head) ∙ e))

pub head_behind : (b : BoardView) (w attempt k : ℕ) → is_over b ≡ false → IsPlace w b.active k → has_attempt attempt (of_worker w b.head b.active) ≡ true → 0 < k → Does b (Head w attempt) NotYet b
head_behind b w attempt k over at has lt =
    let other : ((b.head + k) == b.head) ≡ false = grind (arith, nat_tests, lt) in
    record { step = runs b (Head w attempt) over ∙ head_runs b w attempt k over at has ∙ ap (by_number b w attempt (b.head + k)) other; setup = refl }

pub head_yours : (b : BoardView) (w attempt k : ℕ) → is_over b ≡ false → IsPlace w b.active k → has_attempt attempt (of_worker w b.head b.active) ≡ true → k ≡ 0 → b.is_out ≡ false → Does b (Head w attempt) (Yours (record { worker = w; iteration = b.head; attempt = attempt })) (record b { is_out = true })
head_yours b w attempt k over at has z out =
    let here : b.head + k ≡ b.head = omega (arith, z) in
    let same : ((b.head + k) == b.head) ≡ true = grind (arith, nat_tests, here) in
    let yours = ap (by_number b w attempt (b.head + k)) same ∙ ap (λ t. if not t then (Yours (record { worker = w; iteration = b.head + k; attempt = attempt }), record (board_of b) { is_out = true }) else (NotYet, board_of b)) out in
    record { step = runs b (Head w attempt) over ∙ head_runs b w attempt k over at has ∙ yours ∙ ap (λ j. (Yours (record { worker = w; iteration = j; attempt = attempt }), record (board_of b) { is_out = true })) here; setup = refl }
