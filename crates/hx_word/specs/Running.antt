-- What is kept of a region that runs, and what is known of it in valid code.
use Rattle.std.specs.Prelude.{◌≡◌, ℕ, suc, ◌+◌, ◌<◌, ◌≤◌, ℤ, List, length, Option, Some, None}
use Rattle.hx_tree.specs.declared.limits.TheConstants.{CALL_LIMIT, PRIVATE_LIMIT, TEXT_LIMIT}
use Rattle.hx_code.specs.declared.word.Exit.{Exit}
use Rattle.hx_word.specs.declared.iterations.Iterations.{Iterations}
use Rattle.hx_code.specs.Code.{CodeView, store_words}
use Rattle.hx_code.specs.Fits.{FitsLocal}
use Rattle.hx_code.specs.Region.{Opened, RegionState, region_after}
use Rattle.hx_word.specs.Opening.{opened_of}

-- a region that runs over a store, or has ended there
abbrev pub running : Iterations → List ℤ → Option Exit → RegionState
running i store exit =
    record { opened = opened_of i.opened; iteration = i.number; local = i.local; store = store; text = i.text.items; turns = i.turns; exit = exit }

-- a region that may have been opened so
pub record IsOpened (code : CodeView) (o : Opened) : Type 0 where
  pub region : o.region < length code.regions
  pub below : o.below < CALL_LIMIT
  pub words : length o.words ≡ PRIVATE_LIMIT
  pub printed : o.printed ≤ TEXT_LIMIT

-- an iteration of valid code that goes on
pub record RunsWell (code : CodeView) (z : RegionState) : Type 0 where
  pub opened : IsOpened code z.opened
  pub local : FitsLocal code z.local
  pub region : z.local.region ≡ Some z.opened.region
  pub store : length z.store ≡ store_words code
  pub text : z.opened.printed + length z.text ≤ TEXT_LIMIT

-- the region ends with the last of so many words, and not before
abbrev pub BeforeLast : CodeView → ℕ → RegionState → Type 0
BeforeLast code n z = (k : ℕ) × (n ≡ suc k) × ((region_after code k z).exit ≡ None)

-- ---- a region by itself

-- a region and its code, and how many private words its entry had
pub record RunView : Type 0 where
  pub code : CodeView
  pub state : RegionState
  pub locals : ℕ

-- what is known of a region that goes on or has ended: its room, and that its store and its text fit
pub record KeepsRegion (code : CodeView) (z : RegionState) (reserved count locals_reserved : ℕ) : Type 0 where
  pub opened : IsOpened code z.opened
  pub store : length z.store ≡ store_words code
  pub goes : z.exit ≡ None → RunsWell code z
  pub text : z.opened.printed + length z.text ≤ TEXT_LIMIT
  pub room : TEXT_LIMIT ≤ reserved
  pub locals : count ≤ PRIVATE_LIMIT
  pub own_room : PRIVATE_LIMIT ≤ locals_reserved
