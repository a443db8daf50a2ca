-- What a replay tells.
use Rattle.std.specs.Prelude.{◌≡◌, ℕ, ◌-◌, List, false}
use Rattle.hx_code.specs.Code.{CodeView}
use Rattle.hx_code.specs.Local.{LocalView}
use Rattle.hx_code.specs.Region.{region_after}
use Rattle.hx_word.specs.declared.entry.Entry.{Entry}
use Rattle.hx_word.specs.Laws.{begun_from}
use Rattle.hx_frame.specs.declared.frame.Capacities.{Capacities}
use Rattle.hx_regions.specs.Region.{store_of, region_in}
use Rattle.hx_speculation.specs.Region.{Region}
use Rattle.hx_speculation.specs.Watch.{IsIndependent, IsQuiet}
use Rattle.hx_word.specs.Entry.{padded}
use Rattle.hx_speculation.specs.Board.{Board}
use Rattle.hx_speculation.specs.Replay.{replayed, world_at}
use Rattle.hx_board.specs.Board.{BoardView, rooms_of, opening_board}
use Rattle.hx_board.specs.Ends.{state_of}
use Rattle.hx_trace.specs.declared.trace.Trace.{Trace}
use Rattle.hx_trace.specs.declared.worker.Worker.{Worker}
use Rattle.hx_trace.specs.declared.event.Event.{Event}
use Rattle.hx_trace.specs.Turns.{course_of}
use Rattle.hx_trace.specs.Events.{events_of}

-- the board that a schedule leads to, by the definition, from an entry on which nothing has run
abbrev pub board_after : CodeView → ℕ → Entry → ℕ → Capacities → List ℕ → Board LocalView
board_after code region e slots rooms schedule = (replayed (course_of (opening_board code region e slots rooms).setup) schedule (world_at (store_of e.store.items))).board

-- the events of a schedule, by the definition, from the same entry
abbrev pub events_from : CodeView → ℕ → Entry → ℕ → Capacities → List ℕ → List Event
events_from code region e slots rooms schedule = events_of (course_of (opening_board code region e slots rooms).setup) schedule (world_at (store_of e.store.items))

-- one thread's region of this code from this entry
abbrev pub region_from : CodeView → ℕ → Entry → Region LocalView
region_from code region e = region_in code (record { region = region; below = e.depth - 1; words = padded e.locals.items; printed = e.text_len })

-- none of its turns reads, before it writes it, a word that an earlier turn wrote
abbrev pub IsIndependentFrom : CodeView → ℕ → Entry → Type 0
IsIndependentFrom code region e = IsIndependent (region_from code region e) (store_of e.store.items)

-- what earlier turns write in a word that a turn reads before it writes it is what the entry has there
abbrev pub IsQuietFrom : CodeView → ℕ → Entry → Type 0
IsQuietFrom code region e = IsQuiet (region_from code region e) (store_of e.store.items)

-- a trace tells a board's store, text, state and counts
pub record IsTraceOf (b : Board LocalView) (t : Trace) : Type 0 where
  pub store : store_of t.store.items ≡ b.store
  pub text : t.text.items ≡ b.text
  pub state : t.state ≡ state_of b.exit
  pub counts : t.counts ≡ b.counts

-- one thread's region of this code, from the same entry, has this store, text, state and so many whole turns after some words
pub record ShowsPlain (code : CodeView) (region : ℕ) (e : Entry) (t : Trace) : Type 0 where
  pub words : ℕ
  pub store : t.store.items ≡ (region_after code words (begun_from code region e)).store
  pub text : t.text.items ≡ (region_after code words (begun_from code region e)).text
  pub state : t.state ≡ state_of (region_after code words (begun_from code region e)).exit
  pub turns : t.counts.turns ≡ (region_after code words (begun_from code region e)).turns
  pub regions : t.counts.regions ≡ 1

-- ---- within a replay

-- a trace copied from a board
pub record IsTold (b : BoardView) (t : Trace) : Type 0 where
  pub store : t.store.items ≡ b.store
  pub text : t.text.items ≡ b.text
  pub state : t.state ≡ state_of b.exit
  pub counts : t.counts ≡ b.counts

-- a worker that has not begun
pub record IsNew (c : CodeView) (r : Capacities) (x : Worker) : Type 0 where
  pub code : x.frame.code ≡ c
  pub rooms : rooms_of x.frame.capacities ≡ rooms_of r
  pub stands : x.is_running ≡ false
