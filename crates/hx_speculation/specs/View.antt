-- What an iteration reads, in the words of the nearest earlier one.
use Rattle.std.specs.Prelude.{ℕ, ℤ, List, [], ◌∷◌, Option, Some, None}
use Rattle.hx_marks.specs.Table.{look}
use Rattle.hx_buffer.specs.Overlay.{or_else}
use Rattle.hx_speculation.specs.Iteration.{Store}
use Rattle.hx_speculation.specs.Slots.{Slot}

abbrev pub or_first : Option ℤ → Option ℤ → Option ℤ
or_first None o = o
or_first (Some v) o = Some v

-- the value in the buffer of the last of these that has the word
abbrev pub nearest : {σ : Type 0} → List (Slot σ) → ℕ → Option ℤ
nearest [] a = None
nearest (x ∷ xs) a = or_first (nearest xs a) (look x.buffer a)

-- that, or the committed word
abbrev pub view : {σ : Type 0} → Store → List (Slot σ) → ℕ → ℤ
view s before a = or_else (nearest before a) (s a)
