-- What a run of the plain machine comes to.
use Rattle.std.specs.Prelude.{◌≡◌, ℕ, suc, ◌+◌, ◌<◌, true, Some, None, IsSome}
use Rattle.hx_code.specs.Code.{CodeView}
use Rattle.hx_code.specs.Region.{RegionState}
use Rattle.hx_code.specs.Machine.{Machine, machine_after, EndsWith, counts_of}
use Rattle.hx_word.specs.declared.plain.Ran.{Ran}
use Rattle.hx_word.specs.declared.plain.Ran.TheVariants.{Ended, More}
use Rattle.hx_word.specs.declared.plain.Paused.{Paused}
use Rattle.hx_word.specs.declared.plain.Paused.TheVariants.{At, Ended as EndedBefore, More as MoreBefore}
use Rattle.hx_word.specs.declared.plain.Reached.{Reached}
use Rattle.hx_word.specs.declared.plain.Reached.TheVariants.{At as AtRegion, Ended as NeverReached, More as NotYet}
use Rattle.hx_word.specs.declared.entry.Entry.{Entry}
use Rattle.hx_word.specs.Plain.{whole, one_store, opens_next, openings, Quiet}
use Rattle.hx_word.specs.Entry.{EntryFits, IsEntryOf}

-- what n words from m come to: the end with its outcome and counts, or else the machine after them
abbrev pub RanFrom : CodeView → Machine → ℕ → Ran → Type 0
RanFrom code m n (Ended outcome counts) = EndsWith code (machine_after code n m) outcome × (counts ≡ counts_of (machine_after code n m))
RanFrom code m n (More p) = (p.code ≡ code) × (p.machine ≡ one_store (machine_after code n m)) × ((machine_after code n m).end ≡ None)

-- the first region that opens within n words from m, with the machine there; or the end before one, or the machine after them
abbrev pub PausedFrom : CodeView → Machine → ℕ → Paused → Type 0
PausedFrom code m n (At o) =
    (k : ℕ) × (k < n) × Quiet code k m × (opens_next code (machine_after code k m) ≡ true) × (o.code ≡ code) × (whole o ≡ one_store (machine_after code (suc k) m))
PausedFrom code m n (EndedBefore outcome counts) = Quiet code n m × EndsWith code (machine_after code n m) outcome × (counts ≡ counts_of (machine_after code n m))
PausedFrom code m n (MoreBefore p) = Quiet code n m × (p.code ≡ code) × (p.machine ≡ one_store (machine_after code n m)) × ((machine_after code n m).end ≡ None)

-- a region and its entry, as the machine runs it
pub record RunsRegion (code : CodeView) (m : Machine) (r : ℕ) (e : Entry) : Type 0 where
  pub region : RegionState
  pub within : m.within ≡ Some region
  pub number : region.opened.region ≡ r
  pub entry : IsEntryOf code region.opened region.store e
  pub fits : EntryFits code r e

-- the j-th region that opens from m on, counted from 1, with its entry, within n words; or the end before it, or neither
abbrev pub ReachedFrom : CodeView → Machine → ℕ → ℕ → Reached → Type 0
ReachedFrom code m j n (AtRegion r e) =
    (k : ℕ) × (k < n) × (openings code k m + 1 ≡ j) × (opens_next code (machine_after code k m) ≡ true) × RunsRegion code (machine_after code (suc k) m) r e
ReachedFrom code m j n NeverReached = (openings code n m < j) × IsSome (machine_after code n m).end
ReachedFrom code m j n NotYet = (openings code n m < j) × ((machine_after code n m).end ≡ None)
