-- A timeline as text.
use Rattle.std.specs.Prelude.{◌≡◌, ℕ, ◌+◌, ◌-◌, ◌≤◌, max, ℤ, List, [], ◌∷◌, ◌++◌, length, take, drop, flat_map, replicate, Bool, not, ◌&&◌, nat_le, ◌==◌, if◌then◌else◌, codes, decimal}
use Rattle.std.specs.Fmt.{signed_decimal}
use Rattle.std.specs.List.{range_with_len, enumerate_from}
use Rattle.hx_trace.specs.declared.event.Event.{Event}
use Rattle.hx_trace.specs.declared.event.Deed.{Deed}
use Rattle.hx_trace.specs.declared.event.Deed.TheVariants.{Starts, Loads, Stores, FindsMarksFull, FindsBufferFull, ComputesOn, GetsHead, Waits, GoesOn, Passes, Ends, IsSquashed, IsRefused, FindsEnd}
use Rattle.hx_trace.specs.declared.event.Source.{Source}
use Rattle.hx_trace.specs.declared.event.Source.TheVariants.{Iteration}
use Rattle.hx_trace.specs.declared.telling.Called.{Called}
use Rattle.hx_trace.specs.declared.trace.Told.{Told}
use Rattle.hx_trace.specs.Telling.{word_name, printed_words, attempt_words}
use Rattle.hx_timeline.specs.declared.chart.Attempt.{Attempt}
use Rattle.hx_timeline.specs.Chart.{runs, lane_count, attempts_of}

-- ---- what stands beside an event

abbrev pub start_label : ℕ → ℕ → List ℕ
start_label j attempt = codes "iteration " ++ decimal j ++ attempt_words attempt

abbrev pub word_label : List ℕ → List ℕ → ℤ → List ℕ
word_label deed name v = deed ++ name ++ codes ": " ++ signed_decimal v

abbrev pub hold_label : List ℕ → List ℕ
hold_label name = codes "table full at " ++ name

-- a commit in the middle of a turn, and what it prints
abbrev pub part_label : List ℕ → ℕ → ℕ → List ℕ
part_label printed from to = if nat_le to from then codes "commits so far" else codes "commits, prints " ++ printed_words (drop from (take to printed))

abbrev pub label_of : List Called → List ℕ → Event → Deed → List ℕ
label_of names printed e Starts = start_label e.iteration e.attempt
label_of names printed e (Loads a v found) = word_label (codes "loads ") (word_name names a) v
label_of names printed e (Stores a v n last) = word_label (codes "stores ") (word_name names a) v
label_of names printed e (FindsMarksFull a) = hold_label (word_name names a)
label_of names printed e (FindsBufferFull a v) = hold_label (word_name names a)
label_of names printed e ComputesOn = codes "computes on"
label_of names printed e GetsHead = codes "gets the head"
label_of names printed e Waits = codes "not the head yet"
label_of names printed e (GoesOn from to) = part_label printed from to
label_of names printed e Passes = codes "commits"
label_of names printed e (Ends now n last) = codes "commits, loop over"
label_of names printed e IsSquashed = codes "squashed"
label_of names printed e IsRefused = codes "refused"
label_of names printed e FindsEnd = codes "loop over"

-- the iteration that a forwarded value comes from
abbrev pub source_label : Source → List ℕ
source_label (Iteration j) = codes " < iteration " ++ decimal j
source_label _ = []

abbrev pub origin_label : Deed → List ℕ
origin_label (Loads a v found) = source_label found
origin_label _ = []

-- ---- marks

-- an attempt of worker w goes on in a row, or ends there
abbrev pub is_on : Attempt → ℕ → ℕ → Bool
is_on x row w = x.worker == w && nat_le x.first row && nat_le row x.last

-- it ends there
abbrev pub is_over : Attempt → ℕ → Bool
is_over x row = x.last == row && not (runs x.fate)

abbrev pub mark_of : Attempt → ℕ → List ℕ
mark_of x row = if is_over x row then codes "x" else codes "|"

-- in the lane of a worker while another does something: a cross where its attempt ends, and a bar where it goes on
abbrev pub mark_at : ℕ → ℕ → List Attempt → List ℕ
mark_at row w [] = []
mark_at row w (x ∷ xs) = if is_on x row w then mark_of x row else mark_at row w xs

-- in the lane of worker w
abbrev pub lane_words : List Called → List ℕ → List Attempt → ℕ → Event → ℕ → List ℕ
lane_words names printed attempts row e w = if w == e.worker then label_of names printed e e.deed ++ origin_label e.deed else mark_at row w attempts

-- ---- cells

-- so many blanks ahead of what stands there, if anything does
abbrev pub blanks_ahead : ℕ → List ℕ → List ℕ
blanks_ahead n [] = []
blanks_ahead n (b ∷ bs) = replicate n 32 ++ b ∷ bs

-- a cell of this width, and what stands behind it: one blank is between them at least
abbrev pub cell_ahead : ℕ → List ℕ → List ℕ → List ℕ
cell_ahead width cell rest = cell ++ blanks_ahead (max (width - length cell) 1) rest

-- a lane for each of these workers
abbrev pub lanes_from : (ℕ → List ℕ) → List ℕ → List ℕ
lanes_from words [] = []
lanes_from words (w ∷ ws) = cell_ahead 28 (words w) (lanes_from words ws)

-- the number of a row, and a lane for each of the first n workers
abbrev pub line_of : List ℕ → ℕ → (ℕ → List ℕ) → List ℕ
line_of number n words = cell_ahead 6 number (lanes_from words (range_with_len 0 n)) ++ 10 ∷ []

-- ---- lines

abbrev pub head_words : ℕ → List ℕ
head_words w = codes "worker " ++ decimal w

abbrev pub head_line : ℕ → List ℕ
head_line n = line_of [] n head_words

-- rows are numbered from 1
abbrev pub row_line : List Called → List ℕ → ℕ → List Attempt → ℕ → Event → List ℕ
row_line names printed n attempts row e = line_of (decimal (row + 1)) n (lane_words names printed attempts row e)

abbrev pub row_lines : List Called → List ℕ → ℕ → List Attempt → ℕ → List Event → List ℕ
row_lines names printed n attempts row events = flat_map (λ p. row_line names printed n attempts p.0 p.1) (enumerate_from row events)

-- the table of events; `printed` is what the region has printed
abbrev pub table_of : List Called → List ℕ → List Event → List ℕ
table_of names printed events = let n = lane_count events in head_line n ++ row_lines names printed n (attempts_of events) 0 events

-- THE table of a replay that is told
abbrev pub timeline_table : List Called → Told → List ℕ
timeline_table names t = table_of names t.trace.text.items t.events.items

-- ---- within a table

-- a cell is put behind so many blanks, and so many are left to put behind it
pub record PutsCell (old : List ℕ) (blanks width : ℕ) (cell new : List ℕ) (left : ℕ) : Type 0 where
  pub few : left ≤ blanks + max width 1
  pub put : (rest : List ℕ) → new ++ blanks_ahead left rest ≡ old ++ blanks_ahead blanks (cell_ahead width cell rest)
