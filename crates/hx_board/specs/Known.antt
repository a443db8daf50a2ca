-- What every board shows, whatever calls came.
use Rattle.std.specs.Prelude.{◌≡◌, ℕ, ◌+◌, ◌<◌, ◌≤◌, ◌^◌, List, [], ◌∷◌, length}
use Rattle.hx_marks.specs.Table.{Table}
use Rattle.hx_code.specs.Code.{store_words}
use Rattle.hx_code.specs.Local.{LocalView}
use Rattle.hx_regions.specs.Region.{store_of}
use Rattle.hx_speculation.specs.Slots.{Slot}
use Rattle.hx_speculation.specs.Sound.{IsSound}
use Rattle.hx_board.specs.Board.{BoardView, region_on, board_of}

-- the words of a table are among the first n
abbrev pub IsBelow : ℕ → Table → Type 0
IsBelow n [] = Unit {0}
IsBelow n (e ∷ es) = (e.word < n) × IsBelow n es

abbrev pub WriteBelow : ℕ → List (Slot LocalView) → Type 0
WriteBelow n [] = Unit {0}
WriteBelow n (x ∷ xs) = IsBelow n x.buffer × WriteBelow n xs

-- what is committed is a state that the plain region comes to from the entry, or its end; each mark is what its iteration sees; the
-- iterations behind the head stand where they begin; its own region is counted, and as many whole turns as the head's number says; the
-- store has all words of the code, and what was written is among them; and no number passes 64 bits
pub record IsKept (b : BoardView) : Type 0 where
  pub sound : IsSound (region_on b.setup) (store_of b.setup.entry.store) (board_of b)
  pub long : length b.store ≡ store_words b.setup.code
  pub below : WriteBelow (store_words b.setup.code) b.active
  pub numbers : b.head + length b.active ≤ 2 ^ 64
