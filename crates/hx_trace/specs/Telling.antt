-- Events as text.
use Rattle.std.specs.Prelude.{ℕ, suc, ◌+◌, ◌-◌, ℤ, List, [], ◌∷◌, ◌++◌, length, take, drop, flat_map, Bool, ◌&&◌, nat_le, nat_lt, ◌==◌, if◌then◌else◌, codes, decimal}
use Rattle.std.specs.Fmt.{signed_decimal}
use Rattle.hx_tree.specs.declared.outcome.Fault.{Fault}
use Rattle.hx_stats.specs.Report.{fault_text}
use Rattle.hx_board.specs.declared.answers.State.{State}
use Rattle.hx_board.specs.declared.answers.State.TheVariants as state
use Rattle.hx_trace.specs.declared.event.Event.{Event}
use Rattle.hx_trace.specs.declared.event.Deed.{Deed}
use Rattle.hx_trace.specs.declared.event.Deed.TheVariants.{Starts, Loads, Stores, FindsMarksFull, FindsBufferFull, ComputesOn, GetsHead, Waits, GoesOn, Passes, Ends, IsSquashed, IsRefused, FindsEnd}
use Rattle.hx_trace.specs.declared.event.Source.{Source}
use Rattle.hx_trace.specs.declared.event.Source.TheVariants as source
use Rattle.hx_trace.specs.declared.telling.Called.{Called}
use Rattle.hx_trace.specs.declared.trace.Told.{Told}
use Rattle.hx_trace.specs.Text.{listing_of}

-- ---- words

abbrev pub is_called : ℕ → Called → Bool
is_called a c = nat_le c.base a && nat_lt (a - c.base) c.length

abbrev pub place_words : ℕ → List ℕ
place_words place = codes "[" ++ decimal place ++ codes "]"

abbrev pub name_of : ℕ → Called → List ℕ
name_of a c = c.name.items ++ (if c.is_array then place_words (a - c.base) else [])

-- by the first name that has the word
abbrev pub word_name : List Called → ℕ → List ℕ
word_name [] a = codes "word " ++ decimal a
word_name (c ∷ cs) a = if is_called a c then name_of a c else word_name cs a

-- ---- iterations

-- one iteration, or those from the first to the last
abbrev pub iterations : ℕ → ℕ → List ℕ
iterations first last = if nat_le last first then codes "iteration " ++ decimal last else codes "iterations " ++ decimal first ++ codes " to " ++ decimal last

-- the last n iterations, up to this one
abbrev pub last_iterations : ℕ → ℕ → List ℕ
last_iterations n last = iterations (last - (n - 1)) last

abbrev pub restarted_words : ℕ → ℕ → List ℕ
restarted_words n last = if n == 0 then [] else codes ", and " ++ last_iterations n last ++ (if nat_le n 1 then codes " begins again" else codes " begin again")

abbrev pub dropped_words : ℕ → ℕ → List ℕ
dropped_words n last = if n == 0 then [] else codes "; " ++ last_iterations n last ++ (if nat_le n 1 then codes " is dropped" else codes " are dropped")

-- ---- prints

-- a byte, and a number without the end of its line
abbrev pub printed_words : List ℕ → List ℕ
printed_words [] = []
printed_words (b ∷ []) = codes "byte " ++ decimal b
printed_words (b ∷ c ∷ bs) = take (suc (length bs)) (b ∷ c ∷ bs)

-- ---- deeds

abbrev pub attempt_words : ℕ → List ℕ
attempt_words attempt = if nat_le attempt 1 then [] else codes ", attempt " ++ decimal attempt

abbrev pub start_words : ℕ → ℕ → List ℕ
start_words j attempt = codes "starts iteration " ++ decimal j ++ attempt_words attempt

abbrev pub source_words : Source → List ℕ
source_words (source.Iteration j) = codes ", from iteration " ++ decimal j
source_words source.Store = []
source_words source.Buffer = codes ", from its own buffer"
source_words source.Marks = codes ", from its own marks"

abbrev pub load_words : List ℕ → ℤ → Source → List ℕ
load_words name v found = codes "loads " ++ name ++ codes ": " ++ signed_decimal v ++ source_words found

abbrev pub store_words : List ℕ → ℤ → ℕ → ℕ → List ℕ
store_words name v n last = codes "stores " ++ name ++ codes ": " ++ signed_decimal v ++ restarted_words n last

abbrev pub hold_words : List ℕ → List ℕ
hold_words name = codes "finds its table full at " ++ name ++ codes ", and holds"

abbrev pub commit_words : ℕ → List ℕ
commit_words j = codes "commits iteration " ++ decimal j

abbrev pub print_words : List ℕ → ℕ → ℕ → List ℕ
print_words text from to = if nat_le to from then [] else codes ", prints " ++ printed_words (drop from (take to text))

abbrev pub part_words : ℕ → List ℕ → ℕ → ℕ → List ℕ
part_words j text from to = commit_words j ++ codes " so far" ++ print_words text from to ++ codes ", and goes on"

abbrev pub returned_words : ℤ → List ℕ
returned_words v = codes ", and returns " ++ signed_decimal v

abbrev pub faulted_words : Fault → List ℕ
faulted_words fault = codes ", and ends by " ++ fault_text fault

-- a region that runs still has no number for its next iteration
abbrev pub end_words : State → List ℕ
end_words state.Left = codes ", and leaves the loop"
end_words (state.Returned v) = returned_words v
end_words (state.Faulted fault) = faulted_words fault
end_words state.Running = codes ", and numbers end"

abbrev pub closing_words : ℕ → State → ℕ → ℕ → List ℕ
closing_words j now n last = commit_words j ++ end_words now ++ dropped_words n last

abbrev pub deed_words : List Called → List ℕ → Event → Deed → List ℕ
deed_words names text e Starts = start_words e.iteration e.attempt
deed_words names text e (Loads a v found) = load_words (word_name names a) v found
deed_words names text e (Stores a v n last) = store_words (word_name names a) v n last
deed_words names text e (FindsMarksFull a) = hold_words (word_name names a)
deed_words names text e (FindsBufferFull a v) = hold_words (word_name names a)
deed_words names text e ComputesOn = codes "computes on"
deed_words names text e GetsHead = codes "gets the head"
deed_words names text e Waits = codes "isn't the head yet"
deed_words names text e (GoesOn from to) = part_words e.iteration text from to
deed_words names text e Passes = commit_words e.iteration
deed_words names text e (Ends now n last) = closing_words e.iteration now n last
deed_words names text e IsSquashed = codes "is squashed"
deed_words names text e IsRefused = codes "is refused, and gives its iteration up"
deed_words names text e FindsEnd = codes "finds the loop over"

-- an event's line; the text is what the region has printed
abbrev pub line_of : List Called → List ℕ → Event → List ℕ
line_of names text e = codes "worker " ++ decimal e.worker ++ codes " " ++ deed_words names text e e.deed ++ 10 ∷ []

abbrev pub lines_of : List Called → List ℕ → List Event → List ℕ
lines_of names text events = flat_map (line_of names text) events

-- THE text of a replay that is told: its events, and the listing of its trace
abbrev pub told_listing : List Called → Told → List ℕ
told_listing names t = lines_of names t.trace.text.items t.events.items ++ listing_of t.trace
