-- What contracts see of the active iterations of a board, in order from the head.
use Rattle.std.specs.Prelude.{◌≡◌, ◌≢◌, ℕ, zero, suc, ◌+◌, ◌<◌, ℤ, List, [], ◌∷◌, length, map, ◌≤◌, Option, Some, None, Bool, if◌then◌else◌}
use Rattle.hx_marks.specs.Table.{look}
use Rattle.hx_buffer.specs.Overlay.{or_else}
use Rattle.hx_code.specs.Local.{LocalView}
use Rattle.hx_speculation.specs.Board.{Capacities}
use Rattle.hx_speculation.specs.Slots.{Slot, is_violated, Found as Finding, Known, New, MarksFull, LoadLost, with_mark, Written as Writing, Restarts, BufferFull, NumbersEnd, StoreLost, with_write}
use Rattle.hx_slots.specs.Slot.{SlotView, slots_of}
use Rattle.hx_slots.specs.Index.{IsIndexOf}
use Rattle.hx_slots.specs.declared.slots.Written.{Written}
use Rattle.hx_slots.specs.declared.slots.Written.TheVariants.{Restarts as DoRestart, Full as IsFull, NumbersEnd as DoEnd, Lost as IsLost}

-- the active iterations, how many there may be, and how many words their tables may have
pub record SlotsView : Type 0 where
  pub active : List (Slot LocalView)
  pub slots : ℕ
  pub rooms : Capacities

-- all have this room
abbrev pub HaveRooms : Capacities → List SlotView → Type 0
HaveRooms r [] = Unit {0}
HaveRooms r (x ∷ xs) = (x.rooms ≡ r) × HaveRooms r xs

-- how many stand before the first that a test takes; all of them where it takes none
abbrev pub place_of : (Slot LocalView → Bool) → List (Slot LocalView) → ℕ
place_of p [] = 0
place_of p (x ∷ xs) = if p x then 0 else suc (place_of p xs)

-- a word behind these iterations, of which the first sees u there
abbrev pub seen_behind : ℕ → ℤ → List (Slot LocalView) → ℤ
seen_behind a u [] = u
seen_behind a u (x ∷ xs) = seen_behind a (or_else (look x.buffer a) u) xs

-- how many stand before the first that a write violates; u is what the first of all sees there now
abbrev pub before_violated : ℕ → ℤ → List (Slot LocalView) → ℕ
before_violated a u [] = 0
before_violated a u (x ∷ xs) = if is_violated a u x then 0 else suc (before_violated a (or_else (look x.buffer a) u) xs)

-- the iterations after a load that comes to this
abbrev pub after_load : ℕ → ℕ → ℕ → Finding → List (Slot LocalView) → List (Slot LocalView)
after_load w attempt a (New v) xs = with_mark w attempt a v xs
after_load w attempt a (Known v) xs = xs
after_load w attempt a MarksFull xs = xs
after_load w attempt a LoadLost xs = xs

-- what a write comes to, as the definition has it
abbrev pub written_of : Written → Writing
written_of (DoRestart n had_readers) = Restarts n had_readers
written_of IsFull = BufferFull
written_of DoEnd = NumbersEnd
written_of IsLost = StoreLost

-- the iterations after a write that comes to this
abbrev pub after_store : ℕ → ℕ → ℕ → ℤ → Writing → List (Slot LocalView) → List (Slot LocalView)
after_store w attempt a v (Restarts n had_readers) xs = with_write w attempt a v xs
after_store w attempt a v BufferFull xs = xs
after_store w attempt a v NumbersEnd xs = xs
after_store w attempt a v StoreLost xs = xs

-- the number and the slot at a place, where the first has number j
abbrev pub numbered_at : ℕ → List (Slot LocalView) → ℕ → Option (ℕ × Slot LocalView)
numbered_at j [] k = None
numbered_at j (x ∷ xs) zero = Some (j, x)
numbered_at j (x ∷ xs) (suc k) = numbered_at (suc j) xs k

abbrev pub workers_of : List (Slot LocalView) → List ℕ
workers_of xs = map (λ x. x.worker) xs

-- none of them is this one
abbrev pub IsFree : ℕ → List ℕ → Type 0
IsFree w [] = Unit {0}
IsFree w (x ∷ xs) = (x ≢ w) × IsFree w xs

-- each is another of so many
abbrev pub AreWorkers : ℕ → List ℕ → Type 0
AreWorkers n [] = Unit {0}
AreWorkers n (x ∷ xs) = (x < n) × IsFree x xs × AreWorkers n xs

-- no two are one worker's
abbrev pub AreApart : List ℕ → Type 0
AreApart [] = Unit {0}
AreApart (x ∷ xs) = IsFree x xs × AreApart xs

-- what is kept of them: the tables' room, that no two are one worker's, room for all among the active and among the free, and that the
-- index and the marks agree
pub record KeepsSlots (rooms : Capacities) (active : List SlotView) (active_room : ℕ) (free : List SlotView) (free_room : ℕ) (rows : List ℕ) : Type 0 where
  pub active_rooms : HaveRooms rooms active
  pub free_rooms : HaveRooms rooms free
  pub workers : AreWorkers (length active + length free) (workers_of (slots_of active))
  pub active_fit : length active + length free ≤ active_room
  pub free_fit : length active + length free ≤ free_room
  pub index : IsIndexOf rows (slots_of active)
