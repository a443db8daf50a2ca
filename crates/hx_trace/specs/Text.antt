-- A trace as text.
use Rattle.std.specs.Prelude.{ℕ, List, [], ◌∷◌, ◌++◌, codes}
use Rattle.std.specs.Fmt.{signed_decimal}
use Rattle.hx_stats.specs.Report.{fault_text, count_lines}
use Rattle.hx_board.specs.declared.answers.State.{State}
use Rattle.hx_board.specs.declared.answers.State.TheVariants.{Running, Left, Returned, Faulted}
use Rattle.hx_trace.specs.declared.trace.Trace.{Trace}

-- how far the region is, in words
abbrev pub state_words : State → List ℕ
state_words Running = codes "running"
state_words Left = codes "left"
state_words (Returned v) = codes "returned " ++ signed_decimal v
state_words (Faulted f) = fault_text f

abbrev pub state_line : State → List ℕ
state_line s = codes "state " ++ state_words s ++ 10 ∷ []

-- THE listing
abbrev pub listing_of : Trace → List ℕ
listing_of t = t.text.items ++ state_line t.state ++ count_lines t.counts
