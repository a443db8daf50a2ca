-- What is drawn of events.
use Rattle.std.specs.Prelude.{◌≡◌, ℕ, ◌+◌, ◌-◌, ◌^◌, min, max, List, [], ◌∷◌, ◌++◌, length, take, map, filter, fold, Option, Some, None, Bool, true, false, ◌&&◌, nat_le, nat_lt, ◌==◌, if◌then◌else◌}
use Rattle.hx_trace.specs.declared.event.Event.{Event}
use Rattle.hx_trace.specs.declared.event.Deed.{Deed}
use Rattle.hx_trace.specs.declared.event.Deed.TheVariants.{Starts, Loads, Stores, Passes, Ends, IsSquashed, IsRefused, FindsEnd}
use Rattle.hx_trace.specs.declared.event.Source.TheVariants.{Iteration}
use Rattle.hx_timeline.specs.declared.chart.Fate.{Fate}
use Rattle.hx_timeline.specs.declared.chart.Fate.TheVariants.{Runs, Committed, Squashed, Dropped}
use Rattle.hx_timeline.specs.declared.chart.Attempt.{Attempt}
use Rattle.hx_timeline.specs.declared.chart.Link.{Link}
use Rattle.hx_timeline.specs.declared.chart.Chart.{Chart}

-- ---- lanes

-- one for each worker up to the last that does something, as far as 32 bits count
abbrev pub more_lanes : ℕ → Event → ℕ
more_lanes n e = max n (min (e.worker + 1) (2 ^ 32 - 1))

abbrev pub lane_count : List Event → ℕ
lane_count events = fold more_lanes 0 events

-- ---- attempts

abbrev pub runs : Fate → Bool
runs Runs = true
runs _ = false

-- an attempt runs, at one of the last n iterations up to this
abbrev pub is_among : Attempt → ℕ → ℕ → Bool
is_among x n last = runs x.fate && nat_le x.iteration last && nat_lt (last - x.iteration) n

-- the fate of an attempt, where this becomes of those at the last n iterations up to this
abbrev pub fate_among : Attempt → ℕ → ℕ → Fate → Fate
fate_among x n last f = if is_among x n last then f else x.fate

-- and where it becomes of worker w's
abbrev pub fate_of_worker : Attempt → ℕ → Fate → Fate
fate_of_worker x w f = if x.worker == w then f else x.fate

-- what becomes of an attempt that runs, where worker w does this
abbrev pub fate_by : Attempt → ℕ → Deed → Fate
fate_by x w (Stores a v n last) = fate_among x n last Squashed
fate_by x w Passes = fate_of_worker x w Committed
fate_by x w (Ends s n last) = if x.worker == w then Committed else fate_among x n last Dropped
fate_by x w IsSquashed = fate_of_worker x w Squashed
fate_by x w IsRefused = fate_of_worker x w Squashed
fate_by x w FindsEnd = fate_of_worker x w Dropped
fate_by x w _ = x.fate

-- an attempt behind the event of a row: one that runs lasts to that row
abbrev pub behind : ℕ → Event → Attempt → Attempt
behind row e x = if runs x.fate then record x { last = row; fate = fate_by x e.worker e.deed } else x

-- the attempt that an event starts
abbrev pub started : ℕ → Event → Deed → List Attempt
started row e Starts = record { worker = e.worker; iteration = e.iteration; attempt = e.attempt; first = row; last = row; fate = Runs } ∷ []
started row e _ = []

-- the attempts behind the event of a row
abbrev pub attempts_behind : ℕ → Event → List Attempt → List Attempt
attempts_behind row e xs = map (behind row e) xs ++ started row e e.deed

-- and behind all events from a row on
abbrev pub attempts_after : ℕ → List Event → List Attempt → List Attempt
attempts_after row [] xs = xs
attempts_after row (e ∷ es) xs = attempts_after (row + 1) es (attempts_behind row e xs)

abbrev pub attempts_of : List Event → List Attempt
attempts_of events = attempts_after 0 events []

-- ---- violations: a store has a line to each attempt that it ends

abbrev pub line_to : ℕ → ℕ → Attempt → Link
line_to row w x = record { from = w; from_row = row; to = x.worker; to_row = row }

abbrev pub violations_at : ℕ → ℕ → List Attempt → Deed → List Link
violations_at row w xs (Stores a v n last) = map (line_to row w) (filter (λ x. is_among x n last) xs)
violations_at row w xs _ = []

abbrev pub violations_after : ℕ → List Event → List Attempt → List Link
violations_after row [] xs = []
violations_after row (e ∷ es) xs = violations_at row e.worker xs e.deed ++ violations_after (row + 1) es (attempts_behind row e xs)

abbrev pub violations_of : List Event → List Link
violations_of events = violations_after 0 events []

-- ---- forwarded values: an arrow leads from the last store of the word by that iteration before

abbrev pub is_store_of : ℕ → Deed → Bool
is_store_of a (Stores b v n last) = b == a
is_store_of a _ = false

-- the row and the worker of iteration j's last store of word a among the events from this row on, or else what was found
abbrev pub last_store : ℕ → ℕ → ℕ → List Event → Option (ℕ × ℕ) → Option (ℕ × ℕ)
last_store a j row [] found = found
last_store a j row (e ∷ es) found = last_store a j (row + 1) es (if e.iteration == j && is_store_of a e.deed then Some (row, e.worker) else found)

abbrev pub arrow : ℕ → ℕ → Option (ℕ × ℕ) → List Link
arrow row w None = []
arrow row w (Some p) = record { from = p.1; from_row = p.0; to = w; to_row = row } ∷ []

-- the arrow of a load by worker w, behind these events
abbrev pub forwards_at : ℕ → ℕ → List Event → Deed → List Link
forwards_at row w before (Loads a v (Iteration j)) = arrow row w (last_store a j 0 before None)
forwards_at row w before _ = []

abbrev pub forwards_from : List Event → ℕ → List Event → List Link
forwards_from all row [] = []
forwards_from all row (e ∷ es) = forwards_at row e.worker (take row all) e.deed ++ forwards_from all (row + 1) es

abbrev pub forwards_of : List Event → List Link
forwards_of events = forwards_from events 0 events

-- ---- THE chart of events
pub record IsChartOf (events : List Event) (c : Chart) : Type 0 where
  pub lanes : c.lanes ≡ lane_count events
  pub rows : c.rows ≡ length events
  pub attempts : c.attempts.items ≡ attempts_of events
  pub forwards : c.forwards.items ≡ forwards_of events
  pub violations : c.violations.items ≡ violations_of events
