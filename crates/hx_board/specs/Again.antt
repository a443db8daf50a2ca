-- A board that is used again.
use Rattle.std.specs.Prelude.{ℕ}
use Rattle.hx_word.specs.declared.entry.Entry.{Entry}
use Rattle.hx_board.specs.Board.{BoardView, opening_board}

-- a board on which nothing has run, for a region of b's code and its entry, with as many workers and with the same capacities as b
abbrev pub reopened : BoardView → ℕ → Entry → BoardView
reopened b region e = opening_board b.setup.code region e b.setup.slots (record { marks = b.setup.capacities.marks; buffer = b.setup.capacities.buffer })
