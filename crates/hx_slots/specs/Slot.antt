-- What contracts see of an active iteration.
use Rattle.std.specs.Prelude.{◌≡◌, ℕ, List, map, false}
use Rattle.hx_marks.specs.Table.{put}
use Rattle.hx_code.specs.Local.{LocalView}
use Rattle.hx_speculation.specs.Frame.{is_full}
use Rattle.hx_speculation.specs.Board.{Capacities}
use Rattle.hx_speculation.specs.Slots.{Slot, Found as Finding, Known, New, MarksFull, LoadLost}
use Rattle.hx_slots.specs.declared.slot.Found.{Found}
use Rattle.hx_slots.specs.declared.slot.Found.TheVariants.{Known as IsKnown, New as IsNew, Full as IsFull, Lost as IsLost}

-- an iteration, and how many words its tables may have
pub record SlotView : Type 0 where
  pub slot : Slot LocalView
  pub rooms : Capacities

abbrev pub rooms_for : ℕ → ℕ → Capacities
rooms_for marks buffer = record { marks = marks; buffer = buffer }

-- what a load comes to, as the definition has it
abbrev pub found_of : Found → Finding
found_of (IsKnown v) = Known v
found_of (IsNew v) = New v
found_of IsFull = MarksFull
found_of IsLost = LoadLost

-- the iteration with a mark more, where the load came to one
abbrev pub marked_by : ℕ → Found → SlotView → SlotView
marked_by a (IsNew v) x = record x { slot = record x.slot { marks = put x.slot.marks a v } }
marked_by a (IsKnown v) x = x
marked_by a IsFull x = x
marked_by a IsLost x = x

abbrev pub HasRoomFor : ℕ → SlotView → Type 0
HasRoomFor a x = is_full x.rooms.buffer x.slot.buffer a ≡ false

abbrev pub slots_of : List SlotView → List (Slot LocalView)
slots_of xs = map (λ x. x.slot) xs

abbrev pub rooms_of : List SlotView → List Capacities
rooms_of xs = map (λ x. x.rooms) xs
