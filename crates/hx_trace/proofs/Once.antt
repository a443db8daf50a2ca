-- A replay of a quiet loop repeats no turn.
use Rattle.std.proofs.Common.{◌≡◌, ℕ, List, ap, sym, ◌∙◌}
use Rattle.hx_code.specs.Code.{CodeView}
use Rattle.hx_word.specs.declared.entry.Entry.{Entry}
use Rattle.hx_frame.specs.declared.frame.Capacities.{Capacities}
use Rattle.hx_regions.specs.Region.{store_of}
use Rattle.hx_speculation.proofs.Attempts.{independent_is_quiet}
use Rattle.hx_speculation.proofs.Repeats.{no_repeats}
use Rattle.hx_board.specs.Board.{opening_board}
use Rattle.hx_trace.specs.declared.trace.Trace.{Trace}
use Rattle.hx_trace.specs.Trace.{board_after, IsTraceOf, IsIndependentFrom, IsQuietFrom, region_from}
use Rattle.hx_trace.specs.Turns.{course_of}

pub once : (code : CodeView) (region : ℕ) (e : Entry) (slots : ℕ) (rooms : Capacities) (schedule : List ℕ) (t : Trace) → IsTraceOf (board_after code region e slots rooms schedule) t → IsQuietFrom code region e → t.counts.abandons ≡ 0 → t.counts.repeats ≡ 0
once code region e slots rooms schedule t told quiet none =
    let course = course_of (opening_board code region e slots rooms).setup in
    ap (λ c. c.repeats) told.counts ∙ no_repeats course (store_of e.store.items) quiet schedule (sym (ap (λ c. c.abandons) told.counts) ∙ none)

-- an independent loop is quiet
pub alone : (code : CodeView) (region : ℕ) (e : Entry) → IsIndependentFrom code region e → IsQuietFrom code region e
alone code region e h = independent_is_quiet (region_from code region e) (store_of e.store.items) h
