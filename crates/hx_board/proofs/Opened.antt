-- A board on which nothing has run.
use Rattle.std.proofs.Common.{◌≡◌, [], length, None, false, arith}
use Rattle.hx_code.specs.Code.{store_words}
use Rattle.hx_regions.specs.Region.{store_of}
use Rattle.hx_speculation.proofs.Calls.{opened_sound}
use Rattle.hx_board.specs.Board.{BoardView, Setup, region_on, first_counts}
use Rattle.hx_board.specs.Known.{IsKept}

abbrev pub first_board : Setup → BoardView
first_board s = record { setup = s; head = 0; active = []; store = s.entry.store; text = []; exit = None; is_out = false; is_spent = false; counts = first_counts }

pub first_kept : (s : Setup) → length s.entry.store ≡ store_words s.code → IsKept (first_board s)
first_kept s long = record { sound = opened_sound (region_on s) (store_of s.entry.store); long = long; below = tt; numbers = omega arith }
