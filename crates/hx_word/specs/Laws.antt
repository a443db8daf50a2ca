-- What holds of every region: by itself, from its entry, it goes as the machine goes that opened it.
use Rattle.std.specs.Prelude.{◌≡◌, ℕ, suc, true, Some, None, length}
use Rattle.hx_code.specs.Code.{CodeView}
use Rattle.hx_code.specs.Valid.{IsValid}
use Rattle.hx_code.specs.Region.{RegionState, region_opening, region_after}
use Rattle.hx_code.specs.Machine.{Machine, machine_step, machine_after, resumed}
use Rattle.hx_word.specs.declared.entry.Entry.{Entry}
use Rattle.hx_word.specs.declared.entry.RegionEnd.{RegionEnd}
use Rattle.hx_word.specs.Running.{BeforeLast}
use Rattle.hx_word.specs.Plain.{OpenView, whole, one_store, opens_next}
use Rattle.hx_word.specs.Entry.{EntryFits, IsEntryOf, IsEndOf, opened_from, result_from}

-- the next word of machine m opens a region, as o shows it, and this is its entry
pub record OpensWith (code : CodeView) (m : Machine) (o : OpenView) (entry : Entry) : Type 0 where
  pub opens : opens_next code m ≡ true
  pub here : whole o ≡ one_store (machine_step code m)
  pub shows : IsEntryOf code o.region.opened o.region.store entry
  pub fits : EntryFits code o.region.opened.region entry

-- a region as it begins from an entry
abbrev pub begun_from : CodeView → ℕ → Entry → RegionState
begun_from code r entry = region_opening code (opened_from r entry) entry.store.items

-- Where the region by itself ends with the last of n words, the machine that it is resumed in is the one after these words.
abbrev pub EndsAlike : Type 0
EndsAlike =
    (code : CodeView) → IsValid code → (m : Machine) (o : OpenView) (entry : Entry) (n : ℕ) (end : RegionEnd) → OpensWith code m o entry → BeforeLast code n (begun_from code o.region.opened.region entry)
    → IsEndOf code (region_after code n (begun_from code o.region.opened.region entry)) (length entry.locals.items) end → resumed code o.region.opened.region (result_from o.region.opened end) (whole o) ≡ machine_after code (suc n) m

-- Where it goes on after n words, the machine is within it after them: with the same calls, store, text and turns.
abbrev pub GoesAlike : Type 0
GoesAlike =
    (code : CodeView) → IsValid code → (m : Machine) (o : OpenView) (entry : Entry) (n : ℕ) → OpensWith code m o entry → (region_after code n (begun_from code o.region.opened.region entry)).exit ≡ None
    → (machine_after code (suc n) m).within ≡ Some (record (region_after code n (begun_from code o.region.opened.region entry)) { opened = o.region.opened })
