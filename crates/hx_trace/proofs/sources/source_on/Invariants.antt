use Rattle.std.proofs.Common.{◌≡◌, ◌+◌, drop}
use Rattle.hx_board.specs.Board.{board_of}
use Rattle.hx_trace.specs.Events.{source_in, source_on}
use Rattle.hx_trace.proofs.sources.source_on.Given as goal

abbrev pub invariant-loop-place : goal.invariant-loop-place
invariant-loop-place l =
    source_on l.worker l.attempt l.word (board_of l.board) ≡ source_in l.worker l.attempt l.word (l.board.head + l.place) l.source (drop l.place l.board.active)
