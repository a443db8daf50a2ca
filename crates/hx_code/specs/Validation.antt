-- What the tests of a validator say of words and tables, and how they come together.
use Rattle.std.specs.Prelude.{◌≡◌, ℕ, ◌+◌, ◌-◌, ◌<◌, ◌≤◌, List, [], Some, None, slice_get, slice_index_or, ◌⊎◌, length}
use Rattle.std.specs.List.{AllByRecursion}
use Rattle.hx_code.specs.declared.word.Word.{Word}
use Rattle.hx_code.specs.declared.word.Word.TheVariants.{Enter}
use Rattle.hx_code.specs.declared.table.Spot.{Spot}
use Rattle.hx_code.specs.declared.table.Tables.{Tables}
use Rattle.hx_code.specs.Code.{CodeView, RegionView}
use Rattle.hx_code.specs.Valid.{NamesKnown, successors, pops, pushes, StandsRight, IsSpotAt}

-- the code of these words and tables
abbrev pub code_of : List Word → Tables → CodeView
code_of words t = record {
  words = words;
  spots = t.spots.items;
  functions = t.functions.items;
  regions = t.regions.items;
  globals = t.globals;
  opening = t.opening.items;
  main = t.main;
  input = t.input;
  input_length = t.input_length;
}

-- the tables alone, for what looks at no word
abbrev pub tables_of : Tables → CodeView
tables_of t = code_of [] t

-- a place of the same function and region, with so many operands
abbrev pub IsLed : CodeView → Spot → ℕ → ℕ → Type 0
IsLed code s h p = slice_get code.spots p ≡ Some (record { function = s.function; region = s.region; height = h })

-- all that is asked of a word at its place
abbrev pub IsFine : CodeView → ℕ → Word → Spot → Type 0
IsFine code p w s =
    NamesKnown code w s
    × (pops code w ≤ s.height)
    × AllByRecursion (IsLed code s (s.height - pops code w + pushes w)) (successors p w)
    × StandsRight w s

-- ---- the enters of regions

abbrev pub EntersRegion : Word → ℕ → Type 0
EntersRegion w r = (t : ℕ) × (w ≡ Enter r t)

abbrev pub IsEnterIn : List Word → ℕ → ℕ → Type 0
IsEnterIn words r p = (t : ℕ) × (slice_get words p ≡ Some (Enter r t))

-- v stands for the one `enter` of region r among the first n words: its place, or the mark where there is none
abbrev pub IsOnlyEnter : List Word → ℕ → ℕ → ℕ → ℕ → Type 0
IsOnlyEnter words mark n r v =
    ((v ≡ mark) × ((p : ℕ) → p < n → IsEnterIn words r p → ⊥))
    ⊎ ((v < n) × IsEnterIn words r v × ((p : ℕ) → p < n → IsEnterIn words r p → p ≡ v))

-- a table of them for the regions from first on
abbrev pub AreOnlyEnters : List Word → ℕ → ℕ → ℕ → List ℕ → Type 0
AreOnlyEnters words mark n first table = (i : ℕ) → i < 256 → IsOnlyEnter words mark n (first + i) (slice_index_or table i 0)

-- the table reaches to a region
pub record Reaches (words : List Word) (mark index first : ℕ) (table : List ℕ) : Type 0 where
  pub low : first ≤ index
  pub near : index < first + 256
  pub found : AreOnlyEnters words mark (length words) first table

-- some region has two
abbrev pub HasTwoEnters : List Word → Type 0
HasTwoEnters words = (r : ℕ) × (p : ℕ) × (q : ℕ) × IsEnterIn words r p × IsEnterIn words r q × (p < q)

-- region r begins and ends in the function of its `enter`, which has this spot
abbrev pub BeginsAt : CodeView → ℕ → RegionView → Spot → Type 0
BeginsAt code r g s = IsSpotAt code g.start s.function (Some r) × IsSpotAt code g.exit s.function None
