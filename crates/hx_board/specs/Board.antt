-- What contracts see of a board.
use Rattle.std.specs.Prelude.{ℕ, ◌-◌, ℤ, List, [], Option, None, Bool, false}
use Rattle.hx_tree.specs.declared.outcome.Counts.{Counts}
use Rattle.hx_code.specs.declared.word.Exit.{Exit}
use Rattle.hx_code.specs.Code.{CodeView}
use Rattle.hx_code.specs.Local.{LocalView}
use Rattle.hx_code.specs.Region.{Opened}
use Rattle.hx_word.specs.declared.entry.Entry.{Entry}
use Rattle.hx_word.specs.Entry.{padded}
use Rattle.hx_frame.specs.declared.frame.Capacities.{Capacities as Rooms}
use Rattle.hx_speculation.specs.Region.{Region}
use Rattle.hx_speculation.specs.Slots.{Slot}
use Rattle.hx_speculation.specs.Board.{Board, Capacities, has_ended}
use Rattle.hx_regions.specs.Region.{store_of, region_in}

-- how a region was entered: the store, the private words of the call that opened it, that call's depth, and how many bytes were
-- printed before
pub record EntryView : Type 0 where
  pub store : List ℤ
  pub locals : List ℤ
  pub depth : ℕ
  pub printed : ℕ

abbrev pub entry_view : Entry → EntryView
entry_view e = record { store = e.store.items; locals = e.locals.items; depth = e.depth; printed = e.text_len }

-- what a board was made for: a region of a code, its entry, how many workers, and how many words their tables may have
pub record Setup : Type 0 where
  pub code : CodeView
  pub region : ℕ
  pub entry : EntryView
  pub slots : ℕ
  pub capacities : Capacities

-- that, and the board of the definition, with its store as a list
pub record BoardView : Type 0 where
  pub setup : Setup
  pub head : ℕ
  pub active : List (Slot LocalView)
  pub store : List ℤ
  pub text : List ℕ
  pub exit : Option Exit
  pub is_out : Bool
  pub is_spent : Bool
  pub counts : Counts

abbrev pub rooms_of : Rooms → Capacities
rooms_of c = record { marks = c.marks; buffer = c.buffer }

-- the region as it was opened
abbrev pub opened_at : Setup → Opened
opened_at s = record { region = s.region; below = s.entry.depth - 1; words = padded s.entry.locals; printed = s.entry.printed }

-- the plain region of the theorem
abbrev pub region_on : Setup → Region LocalView
region_on s = region_in s.code (opened_at s)

-- the board of the definition
abbrev pub board_of : BoardView → Board LocalView
board_of b = record {
  head = b.head;
  active = b.active;
  store = store_of b.store;
  text = b.text;
  exit = b.exit;
  is_out = b.is_out;
  is_spent = b.is_spent;
  counts = b.counts;
}

-- a board that does nothing any more
abbrev pub is_over : BoardView → Bool
is_over b = has_ended b.exit b.is_spent

abbrev pub first_counts : Counts
first_counts = record { regions = 1; turns = 0; repeats = 0; violations = 0; restarts = 0; holds = 0; abandons = 0; discarded = 0; spared = 0 }

-- a board on which nothing has run
abbrev pub opening_board : CodeView → ℕ → Entry → ℕ → Rooms → BoardView
opening_board code region e slots rooms = record {
  setup = record { code = code; region = region; entry = entry_view e; slots = slots; capacities = rooms_of rooms };
  head = 0;
  active = [];
  store = e.store.items;
  text = [];
  exit = None;
  is_out = false;
  is_spent = false;
  counts = first_counts;
}
