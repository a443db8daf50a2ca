-- What every board keeps.
use Rattle.std.specs.Prelude.{◌≡◌, ◌≤◌, vec_capacity}
use Rattle.hx_tree.specs.declared.limits.TheConstants.{PRIVATE_LIMIT, TEXT_LIMIT}
use Rattle.hx_word.specs.Entry.{EntryFits}
use Rattle.hx_word.specs.Opening.{opened_of}
use Rattle.hx_word.specs.Running.{IsOpened}
use Rattle.hx_board.specs.declared.board.Board.TheInside.{Inside}
use Rattle.hx_board.specs.Board.{BoardView, entry_view, opened_at, rooms_of}
use Rattle.hx_board.specs.Known.{IsKept}

abbrev pub view_of : Inside → BoardView
view_of b = record {
  setup = record { code = b.job.code.now; region = b.job.region; entry = entry_view b.entry; slots = b.slots.slots; capacities = rooms_of b.capacities };
  head = b.head;
  active = b.slots.active;
  store = b.store.items;
  text = b.text.items;
  exit = b.exit;
  is_out = b.is_out;
  is_spent = b.is_spent;
  counts = b.counts;
}

pub record Kept (b : Inside) : Type 0 where
  pub fits : EntryFits b.job.code.now b.job.region b.entry
  pub opened : opened_of b.opened ≡ opened_at (view_of b).setup
  pub is_opened : IsOpened b.job.code.now (opened_at (view_of b).setup)
  pub kept : IsKept (view_of b)
  pub rooms : b.slots.rooms ≡ rooms_of b.capacities
  pub room : TEXT_LIMIT ≤ vec_capacity b.text
  pub own_room : PRIVATE_LIMIT ≤ vec_capacity b.entry.locals
