-- What a board of a run was made for, and what its workers' frames keep.
use Rattle.std.specs.Prelude.{◌≡◌, ℕ, ◌<◌, [], None}
use Rattle.hx_code.specs.Code.{CodeView, store_words}
use Rattle.hx_word.specs.declared.entry.Entry.{Entry}
use Rattle.hx_frame.specs.declared.frame.Capacities.{Capacities as Rooms}
use Rattle.hx_frame.specs.declared.action.Stop.{Stop}
use Rattle.hx_frame.specs.declared.action.Stop.TheVariants.{NeedLoad, NeedStore, NeedHead, Limit}
use Rattle.hx_frame.specs.Frame.{FrameView}
use Rattle.hx_tree.specs.declared.outcome.Settings.{Settings}
use Rattle.hx_board.specs.Board.{Setup, EntryView, entry_view, rooms_of}

abbrev pub no_entry : EntryView
no_entry = record { store = []; locals = []; depth = 0; printed = 0 }

-- a region of a code, its entry, so many workers, and so many words for their tables
abbrev pub setup_by : CodeView → ℕ → Entry → ℕ → Rooms → Setup
setup_by code region e workers rooms = record { code = code; region = region; entry = entry_view e; slots = workers; capacities = rooms_of rooms }

-- for the workers of a station, whatever the region: a code, so many workers, and so many words for their tables
abbrev pub crew_setup : CodeView → Settings → Setup
crew_setup code s = record { code = code; region = 0; entry = no_entry; slots = s.workers; capacities = record { marks = s.marks; buffer = s.buffer } }

-- of no region, which the marker of a run stands for before a run is named
abbrev pub no_setup : Setup
no_setup = record {
  code = record { words = []; spots = []; functions = []; regions = []; globals = 0; opening = []; main = 0; input = None; input_length = None };
  region = 0;
  entry = no_entry;
  slots = 0;
  capacities = record { marks = 0; buffer = 0 };
}

-- a worker's frame keeps its code and its capacities
pub record StaysOwn (f g : FrameView) : Type 0 where
  pub code : g.code ≡ f.code
  pub capacities : g.capacities ≡ f.capacities

-- a word that a stretch stops for is one of the store
abbrev pub StopFits : CodeView → Stop → Type 0
StopFits code (NeedLoad a) = a < store_words code
StopFits code (NeedStore a v) = a < store_words code
StopFits code (NeedHead action) = Unit {0}
StopFits code Limit = Unit {0}
