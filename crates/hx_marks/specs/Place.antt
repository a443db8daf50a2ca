-- The place of a number in a list.
use Rattle.std.specs.Prelude.{◌≡◌, ◌≢◌, ℕ, ◌<◌, ◌≤◌, List, Option, MatchOption, length, slice_index}

-- none of the first n numbers is a
abbrev pub NoneBelow : List ℕ → ℕ → ℕ → Type 0
NoneBelow words a n = (k : ℕ) → k < n → slice_index words k ≢ a

-- the least place that holds a, or none where no place does
abbrev pub IsLeastPlace : List ℕ → ℕ → Option ℕ → Type 0
IsLeastPlace words a found =
    MatchOption found (NoneBelow words a (length words)) (λ i. (i < length words) × (slice_index words i ≡ a) × NoneBelow words a i)

-- each number is above those before it
abbrev pub Rises : List ℕ → Type 0
Rises words = (i j : ℕ) → i < j → j < length words → slice_index words i < slice_index words j

-- the first k numbers are below a, and those behind them above it
abbrev pub IsBetween : List ℕ → ℕ → ℕ → Type 0
IsBetween words a k =
    ((i : ℕ) → i < k → slice_index words i < a) × ((i : ℕ) → k ≤ i → i < length words → a < slice_index words i)
