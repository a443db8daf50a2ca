-- A token in a worker's hand, and the board that gave it.
use Rattle.std.specs.Prelude.{◌≡◌, ℕ, ◌≤◌, Option, Some, None, true, false}
use Rattle.hx_code.specs.Local.{LocalView}
use Rattle.hx_speculation.specs.Slots.{Slot, of_worker}
use Rattle.hx_speculation.specs.Board.{Board, Token, has_ended}

-- a worker's iteration, if it has one, has no lower attempt
abbrev pub AtLeast : ℕ → Option (ℕ × Slot LocalView) → Type 0
AtLeast k None = Unit {0}
AtLeast k (Some p) = k ≤ p.1.attempt

-- no other token is given out, and an attempt after this one is another
pub record IsOutOf (b : Board LocalView) (t : Token) : Type 0 where
  pub out : has_ended b.exit b.is_spent ≡ false → b.is_out ≡ true
  pub least : AtLeast t.attempt (of_worker t.worker b.head b.active)
