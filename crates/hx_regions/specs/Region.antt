-- The region of valid code, as the theorem on speculation knows one, and what the machine's own region has to show of it.
use Rattle.std.specs.Prelude.{◌≡◌, ℕ, ◌+◌, ◌<◌, ◌≤◌, ◌%◌, ◌^◌, ℤ, pos, List, [], length, Option, Some, None, slice_index_or}
use Rattle.hx_tree.specs.declared.limits.TheConstants.{TEXT_LIMIT}
use Rattle.hx_code.specs.declared.word.Exit.{Exit}
use Rattle.hx_code.specs.Code.{CodeView, store_words}
use Rattle.hx_code.specs.Local.{LocalView}
use Rattle.hx_code.specs.Fits.{FitsLocal}
use Rattle.hx_code.specs.Region.{held, Opened, opening, RegionState}
use Rattle.hx_speculation.specs.Iteration.{Store, Ask, Goes, Loads, Stores, Prints, TurnEnds, Leaves, Returns, Faults}
use Rattle.hx_speculation.specs.Region.{Region, Plain, Going, Over, steps}
use Rattle.hx_frame.specs.Automaton.{ask_in}
use Rattle.hx_regions.specs.Same.{same_local}
use Rattle.hx_regions.specs.SameHolds.{same_local_holds, same_local_itself}

-- a store of words, by their addresses
abbrev pub store_of : List ℤ → Store
store_of words = λ a. slice_index_or words a (pos 0)

-- a region of the code that was opened so
abbrev pub region_in : CodeView → Opened → Region LocalView
region_in code o =
    record { ask = ask_in code; opening = opening code o; printed = o.printed; same = same_local; same_holds = same_local_holds; same_itself = same_local_itself }

-- from its entry, after n words
abbrev pub plain_after : CodeView → Opened → Store → ℕ → Plain LocalView
plain_after code o entry n = steps (region_in code o) n (Going (opening code o 0) entry [] 0)

-- ---- the machine's region shows the same

-- it was opened so, is at iteration k, has ended so, or goes on, with this store, this text and so many whole turns
pub record ShowsAt (o : Opened) (z : RegionState) (e : Option Exit) (s : Store) (bytes : List ℕ) (k : ℕ) : Type 0 where
  pub opened : z.opened ≡ o
  pub iteration : z.iteration ≡ k % 2 ^ 64
  pub exit : z.exit ≡ e
  pub store : store_of z.store ≡ s
  pub text : z.text ≡ bytes
  pub turns : z.turns ≡ held k

-- and one that goes on is at the same state
abbrev pub Shows : Opened → RegionState → Plain LocalView → Type 0
Shows o z (Going q s text k) = ShowsAt o z None s text k × (z.local ≡ q)
Shows o z (Over e s text k) = ShowsAt o z (Some e) s text k

-- ---- what valid code keeps

-- a local state that fits, in region r
pub record StandsIn (code : CodeView) (r : ℕ) (l : LocalView) : Type 0 where
  pub fits : FitsLocal code l
  pub region : l.region ≡ Some r

-- a word that is asked for is one of the store, and what goes on stands in the region
abbrev pub FitsAsked : CodeView → ℕ → Ask LocalView → Type 0
FitsAsked code r (Goes q) = StandsIn code r q
FitsAsked code r (Loads a q) = (a < store_words code) × ((v : ℤ) → StandsIn code r (q v))
FitsAsked code r (Stores a v q) = (a < store_words code) × StandsIn code r q
FitsAsked code r (Prints bytes q full) = StandsIn code r q
FitsAsked code r TurnEnds = Unit {0}
FitsAsked code r Leaves = Unit {0}
FitsAsked code r (Returns v) = Unit {0}
FitsAsked code r (Faults fault) = Unit {0}

-- a plain region that goes on stands in its region, and its text fits behind what was printed before
abbrev pub FitsPlain : CodeView → Opened → Plain LocalView → Type 0
FitsPlain code o (Going q s text k) = StandsIn code o.region q × (o.printed + length text ≤ TEXT_LIMIT)
FitsPlain code o (Over e s text k) = o.printed + length text ≤ TEXT_LIMIT
