-- What asking for an iteration comes to.
use Rattle.std.proofs.Common.{◌≡◌, ℕ, ◌+◌, ◌<◌, ◌≤◌, ◌^◌, [], ◌∷◌, ◌++◌, length, Some, true, false, refl, ap, sym, ◌∙◌, arith, length-append}
use Rattle.std.specs.Prelude.{nat_lt, if◌then◌else◌, slice_get}
use Rattle.std.proofs.lemmas.Bool.Decides.{nat_tests}
use Rattle.hx_code.specs.Code.{store_words}
use Rattle.hx_code.specs.Local.{LocalView}
use Rattle.hx_code.specs.Region.{opening}
use Rattle.hx_speculation.specs.Frame.{Frame, begins}
use Rattle.hx_speculation.specs.Slots.{Slot, first_attempt, of_worker}
use Rattle.hx_speculation.specs.Board.{Start, Go, Ended, starts, starts_next, spends}
use Rattle.hx_board.specs.Board.{BoardView, opened_at, region_on, board_of, is_over}
use Rattle.hx_board.specs.Calls.{Does}
use Rattle.hx_board.specs.Known.{IsKept}
use Rattle.hx_board.proofs.Below.{below_last}
use Rattle.hx_board.proofs.Kept.{IsPlace}
use Rattle.hx_board.proofs.Places.{numbered_some, numbered_none}
use Rattle.hx_board.proofs.Steps.{runs, sound_after, becomes}

-- its own
pub start_given : (b : BoardView) (w k : ℕ) (x : Slot LocalView) → is_over b ≡ false → IsPlace w b.active k → slice_get b.active k ≡ Some x → Does b (Start w true) (Go (begins w (b.head + k) x.attempt x.start)) b
start_given b w k x over at g =
    record { step = runs b (Start w true) over ∙ ap (starts (region_on b.setup) w (board_of b)) (at b.head ∙ numbered_some b.head b.active k x g); setup = refl }

start_free : (b : BoardView) (w k : ℕ) → IsPlace w b.active k → length b.active ≤ k → starts (region_on b.setup) w (board_of b) (of_worker w b.head b.active) ≡ starts_next (region_on b.setup) w (board_of b)
start_free b w k at le = ap (starts (region_on b.setup) w (board_of b)) (at b.head ∙ numbered_none b.head b.active k le)

-- a board with one more iteration
abbrev pub with_next : BoardView → ℕ → LocalView → BoardView
with_next b w q = record b { active = b.active ++ first_attempt w q ∷ [] }

-- the next one
pub start_next : (b : BoardView) (w k : ℕ) (q : LocalView) → is_over b ≡ false → IsPlace w b.active k → length b.active ≤ k → b.head + length b.active < 2 ^ 64 → q ≡ opening b.setup.code (opened_at b.setup) (b.head + length b.active) → Does b (Start w true) (Go (begins w (b.head + length b.active) 1 q)) (with_next b w q)
start_next b w k q over at le lt e =
    let few : nat_lt (b.head + length b.active) (2 ^ 64) ≡ true = grind (arith, nat_tests, lt) in
    let step = runs b (Start w true) over ∙ start_free b w k at le ∙ ap (λ t. if t then (Go (begins w (b.head + length b.active) 1 (opening b.setup.code (opened_at b.setup) (b.head + length b.active))), board_of (with_next b w (opening b.setup.code (opened_at b.setup) (b.head + length b.active)))) else spends (board_of b)) few in
    record { step = step ∙ ap (λ z. (Go (begins w (b.head + length b.active) 1 z), board_of (with_next b w z))) (sym e); setup = refl }

-- no number is left
pub start_spends : (b : BoardView) (w k : ℕ) → is_over b ≡ false → IsPlace w b.active k → length b.active ≤ k → 2 ^ 64 ≤ b.head + length b.active → Does b (Start w true) Ended (record b { is_spent = true })
start_spends b w k over at le ge =
    let many : nat_lt (b.head + length b.active) (2 ^ 64) ≡ false = grind (arith, nat_tests, ge) in
    record { step = runs b (Start w true) over ∙ start_free b w k at le ∙ ap (λ t. if t then (Go (begins w (b.head + length b.active) 1 (opening b.setup.code (opened_at b.setup) (b.head + length b.active))), board_of (with_next b w (opening b.setup.code (opened_at b.setup) (b.head + length b.active)))) else spends (board_of b)) many; setup = refl }

pub start_kept : (b : BoardView) (w : ℕ) (q : LocalView) (f : Frame LocalView) → b.head + length b.active < 2 ^ 64 → Does b (Start w true) (Go f) (with_next b w q) → IsKept b → IsKept (with_next b w q)
start_kept b w q f lt is k = record {
  sound = sound_after b (with_next b w q) (Start w true) tt (becomes b (with_next b w q) (Start w true) (Go f) is) k.sound;
  long = k.long;
  below = below_last (store_words b.setup.code) w q b.active k.below;
  numbers = let long = length-append b.active (first_attempt w q ∷ []) in omega (arith, lt, long);
}
