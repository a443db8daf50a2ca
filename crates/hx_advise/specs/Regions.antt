-- What the turns of a region read and write.
use Rattle.std.specs.Prelude.{◌≡◌, ◌↔◌, ◌<◌, ℕ, zero, suc, ◌+◌, List, [], ◌∷◌, IsTrue, true}
use Rattle.hx_code.specs.Code.{CodeView}
use Rattle.hx_code.specs.Local.{LocalView}
use Rattle.hx_word.specs.declared.entry.Entry.{Entry}
use Rattle.hx_word.specs.Entry.{opened_from}
use Rattle.hx_speculation.specs.Iteration.{Store, Ask, Goes, Loads, Stores, Prints, TurnEnds, Leaves, Returns, Faults}
use Rattle.hx_speculation.specs.Region.{Region, Plain, Going, Over, steps}
use Rattle.hx_speculation.specs.Watch.{IsIndependent as IsIndependentLoop}
use Rattle.hx_regions.specs.Region.{store_of, region_in}
use Rattle.hx_advise.specs.declared.region.Watched.{Watched}
use Rattle.hx_advise.specs.Events.{Event, Read, Write, TurnEnd}
use Rattle.hx_advise.specs.Watch.{Tells}

-- a word that asks this, behind other events
abbrev pub noted : {σ : Type 0} → Ask σ → List Event → List Event
noted (Goes q) es = es
noted (Loads a q) es = Read a ∷ es
noted (Stores a v q) es = Write a ∷ es
noted (Prints bytes q full) es = es
noted TurnEnds es = TurnEnd ∷ es
noted Leaves es = es
noted (Returns v) es = es
noted (Faults fault) es = es

abbrev pub noted_of : {σ : Type 0} → Region σ → Plain σ → List Event → List Event
noted_of r (Going q s text k) es = noted (r.ask q) es
noted_of r (Over e s text k) es = es

-- the plain region after n words
abbrev pub after : {σ : Type 0} → Region σ → Store → ℕ → Plain σ
after r entry n = steps r n (Going (r.opening 0) entry [] 0)

-- and what its turns have read and written
abbrev pub events_after : {σ : Type 0} → Region σ → Store → ℕ → List Event
events_after r entry zero = []
events_after r entry (suc n) = noted_of r (after r entry n) (events_after r entry n)

abbrev pub IsOver : {σ : Type 0} → Plain σ → Type 0
IsOver (Going q s text k) = ⊥
IsOver (Over e s text k) = Unit {0}

-- one thread's region of this code from this entry, its store, and its events
abbrev pub region_from : CodeView → ℕ → Entry → Region LocalView
region_from code region e = region_in code (opened_from region e)

abbrev pub entry_store : Entry → Store
entry_store e = store_of e.store.items

-- how many of the first n words the region does before it is over
abbrev pub one_of : {σ : Type 0} → Plain σ → ℕ
one_of (Going q s text k) = 1
one_of (Over e s text k) = 0

abbrev pub words_done : {σ : Type 0} → Region σ → Store → ℕ → ℕ
words_done r entry zero = 0
words_done r entry (suc n) = words_done r entry n + one_of (after r entry n)

-- what was watched are the first words of the region from this entry: their events, and whether the region is over behind them, and
-- not behind fewer
pub record IsWatched (code : CodeView) (region : ℕ) (e : Entry) (w : Watched) : Type 0 where
  pub tells : Tells w.watch (events_after (region_from code region e) (entry_store e) w.words)
  pub ended : IsTrue w.has_ended ↔ IsOver (after (region_from code region e) (entry_store e) w.words)
  pub least : (k : ℕ) → k < w.words → IsOver (after (region_from code region e) (entry_store e) k) → ⊥

-- of a region that has ended, the verdict is the definition's: none of its turns reads, before it writes it, a word that an earlier one wrote
abbrev pub IsVerdict : CodeView → ℕ → Entry → Watched → Type 0
IsVerdict code region e w = w.has_ended ≡ true → (IsTrue w.watch.is_independent ↔ IsIndependentLoop (region_from code region e) (entry_store e))
