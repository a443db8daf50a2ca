-- What contracts see of the index of marks: a row of bits for each word, one bit a worker.
use Rattle.std.specs.Prelude.{◌≡◌, ℕ, ◌<◌, ℤ, List, [], ◌∷◌, length, Option, Some, None, ◌==◌, slice_index, if◌then◌else◌}
use Rattle.std.specs.Int.{bit_at}
use Rattle.hx_marks.specs.Table.{Table, look}
use Rattle.hx_code.specs.Local.{LocalView}
use Rattle.hx_speculation.specs.Slots.{Slot, Found, Known, New, MarksFull, LoadLost}

-- the bit of a worker for a word
abbrev pub bit_of : List ℕ → ℕ → ℕ → ℕ
bit_of rows a w = bit_at (slice_index rows a) w

-- 1 for a word that is marked
abbrev pub marked_bit : Option ℤ → ℕ
marked_bit None = 0
marked_bit (Some v) = 1

-- what a worker's iteration has marked; nothing, where it has none
abbrev pub marks_of : ℕ → List (Slot LocalView) → Table
marks_of w [] = []
marks_of w (x ∷ xs) = if x.worker == w then x.marks else marks_of w xs

-- a bit is set exactly where the worker's iteration has marked the word
abbrev pub IsIndexOf : List ℕ → List (Slot LocalView) → Type 0
IsIndexOf rows xs = (a w : ℕ) → a < length rows → w < 16 → bit_of rows a w ≡ marked_bit (look (marks_of w xs) a)

-- where the bits of a word rule out a worker, its iteration hasn't marked the word
abbrev pub IsReader : ℕ → ℕ → Slot LocalView → Type 0
IsReader bits a x = x.worker < 16 → bit_at bits x.worker ≡ 0 → look x.marks a ≡ None

abbrev pub AreReaders : ℕ → ℕ → List (Slot LocalView) → Type 0
AreReaders bits a [] = Unit {0}
AreReaders bits a (x ∷ xs) = IsReader bits a x × AreReaders bits a xs

-- none of them has marked the word
abbrev pub HaveNot : ℕ → List (Slot LocalView) → Type 0
HaveNot a [] = Unit {0}
HaveNot a (x ∷ xs) = (look x.marks a ≡ None) × HaveNot a xs

-- ---- changes

-- as many rows, with this bit for a worker and a word, and else the same bits
pub record IsWithBit (bit word worker : ℕ) (old new : List ℕ) : Type 0 where
  pub long : length new ≡ length old
  pub each : (a w : ℕ) → a < length old → w < 16 → bit_of new a w ≡ (if a == word then (if w == worker then bit else bit_of old a w) else bit_of old a w)

-- a bit, unless the word is marked
abbrev pub unless : Option ℤ → ℕ → ℕ
unless None b = b
unless (Some v) b = 0

-- as many rows, without the bits of a worker for these words
pub record IsWithout (t : Table) (worker : ℕ) (old new : List ℕ) : Type 0 where
  pub long : length new ≡ length old
  pub each : (a w : ℕ) → a < length old → w < 16 → bit_of new a w ≡ (if w == worker then unless (look t a) (bit_of old a w) else bit_of old a w)

-- a load's new mark has its bit
abbrev pub IsNoted : Found → ℕ → ℕ → List ℕ → List ℕ → Type 0
IsNoted (New v) word worker old new = IsWithBit 1 word worker old new
IsNoted (Known v) word worker old new = new ≡ old
IsNoted MarksFull word worker old new = new ≡ old
IsNoted LoadLost word worker old new = new ≡ old
