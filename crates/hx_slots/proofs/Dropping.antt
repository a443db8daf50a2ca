-- One after another is dropped.
use Rattle.std.proofs.Common.{◌≡◌, ℕ, ◌+◌, ◌≤◌, List, [], length}
use Rattle.hx_speculation.specs.Board.{Capacities}
use Rattle.hx_slots.specs.Slot.{SlotView}
use Rattle.hx_slots.specs.Slots.{HaveRooms}
use Rattle.hx_slots.specs.Index.{IsIndexOf}

pub record Dropping (rooms : Capacities) (slots : ℕ) (active : List SlotView) (active_room : ℕ) (free : List SlotView) (free_room : ℕ) (rows : List ℕ) : Type 0 where
  pub active_rooms : HaveRooms rooms active
  pub free_rooms : HaveRooms rooms free
  pub all : length active + length free ≡ slots
  pub active_fit : slots ≤ active_room
  pub free_fit : slots ≤ free_room
  pub index : IsIndexOf rows []
