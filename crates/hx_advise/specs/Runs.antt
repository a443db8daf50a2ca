-- A run whose loops are watched: which regions it opens, and what is seen of each loop.
use Rattle.std.specs.Prelude.{◌≡◌, ◌≢◌, ◌⊎◌, ◌↔◌, ℕ, zero, suc, ◌+◌, ◌-◌, ◌*◌, ◌<◌, ◌≤◌, min, Bool, true, false, ◌==◌, if◌then◌else◌, List, [], ◌∷◌, Option, Some, None, IsTrue, IsSome, length, slice_get}
use Rattle.hx_code.specs.Code.{CodeView}
use Rattle.hx_code.specs.Region.{RegionState, held}
use Rattle.hx_code.specs.Machine.{Machine, machine_step, machine_after}
use Rattle.hx_word.specs.Plain.{PlainView, OpenView, whole, one_store, opens_next, Quiet}
use Rattle.hx_regions.specs.Region.{store_of, region_in}
use Rattle.hx_advise.specs.declared.program.Advice.{Advice}
use Rattle.hx_advise.specs.declared.program.Seen.{Seen}
use Rattle.hx_advise.specs.declared.region.TheConstants.{WORD_LIMIT}
use Rattle.hx_advise.specs.declared.region.Watched.{Watched}
use Rattle.hx_advise.specs.declared.watch.Need.{Need}
use Rattle.hx_advise.specs.Events.{Event, turn_of, reads_in, writes_in, IsIndependent, HowMany, NeedsOne}
use Rattle.hx_advise.specs.Watch.{Tells, AnyWord, NoneNearer, OneAsNear, need_at}
use Rattle.hx_advise.specs.Regions.{after, events_after, words_done, IsOver}

-- ---- the regions that a run opens

-- a region as a run opens it: by which of its words, counted from 0, and as it begins
pub record Opening : Type 0 where
  pub at : ℕ
  pub region : RegionState

abbrev pub adds : ℕ → Bool → Option RegionState → List Opening → List Opening
adds n true (Some z) os = record { at = n; region = z } ∷ os
adds n true None os = os
adds n false w os = os

-- those that the first n words from m open, the latest first
abbrev pub opened_in : CodeView → ℕ → Machine → List Opening
opened_in code zero m = []
opened_in code (suc n) m = adds n (opens_next code (machine_after code n m)) (machine_after code (suc n) m).within (opened_in code n m)

-- ---- what becomes of them

-- a region that was opened: its number, how many of its words were done, and what its turns read and wrote in them
pub record Story : Type 0 where
  pub region : ℕ
  pub words : ℕ
  pub events : List Event

-- that of k words from its beginning, or of fewer up to its end
abbrev pub story_in : CodeView → RegionState → ℕ → Story
story_in code z k = record {
  region = z.opened.region;
  words = words_done (region_in code z.opened) (store_of z.store) k;
  events = events_after (region_in code z.opened) (store_of z.store) k;
}

-- and that of a region within the first n words of the run: those behind the word that opened it
abbrev pub story_of : CodeView → ℕ → Opening → Story
story_of code n o = story_in code o.region (n - suc o.at)

abbrev pub stories_of : CodeView → ℕ → List Opening → List Story
stories_of code n [] = []
stories_of code n (o ∷ os) = story_of code n o ∷ stories_of code n os

-- those of all regions that the first n words from m open
abbrev pub stories : CodeView → ℕ → Machine → List Story
stories code n m = stories_of code n (opened_in code n m)

-- ---- what is seen of one loop

-- a sum over the times that region r was opened
abbrev pub total : ℕ → (Story → ℕ) → List Story → ℕ
total r f [] = 0
total r f (x ∷ xs) = (if x.region == r then f x else 0) + total r f xs

-- and what holds of each of them
abbrev pub Each : ℕ → (Story → Type 0) → List Story → Type 0
Each r P [] = Unit {0}
Each r P (x ∷ xs) = (x.region ≡ r → P x) × Each r P xs

-- and what holds of one of them
abbrev pub SomeTime : ℕ → (Story → Type 0) → List Story → Type 0
SomeTime r P [] = ⊥
SomeTime r P (x ∷ xs) = ((x.region ≡ r) × P x) ⊎ SomeTime r P xs

-- k is a sum over the times that region r was opened, of a number for each, that R tells
abbrev pub SumsTo : ℕ → (Story → ℕ → Type 0) → List Story → ℕ → Type 0
SumsTo r R [] k = k ≡ 0
SumsTo r R (x ∷ xs) k = (n : ℕ) × (m : ℕ) × (x.region ≡ r → R x n) × (x.region ≢ r → n ≡ 0) × SumsTo r R xs m × (k ≡ n + m)

-- the need of one of these words in all these times together: the turns that needed one, and the least distance
pub record AreNeeds (r : ℕ) (P : ℕ → Type 0) (xs : List Story) (n : Need) : Type 0 where
  pub turns : (k : ℕ) × SumsTo r (λ x. HowMany (NeedsOne x.events P) (suc (turn_of x.events))) xs k × (n.turns ≡ held k)
  pub least : Each r (λ x. NoneNearer x.events P n.distance) xs
  pub nearest : 0 < n.turns → SomeTime r (λ x. OneAsNear x.events P n.distance) xs
  pub none : n.turns ≡ 0 → n.distance ≡ 0

-- of region r it is told how often it was opened, and of all these times together how many whole turns, words, loads and stores there
-- were, whether its turns were independent each time, and which words were needed
pub record IsSeen (r : ℕ) (xs : List Story) (s : Seen) : Type 0 where
  pub opened : s.opened ≡ held (total r (λ x. 1) xs)
  pub turns : s.turns ≡ held (total r (λ x. turn_of x.events) xs)
  pub words : s.words ≡ held (total r (λ x. x.words) xs)
  pub loads : s.loads ≡ held (total r (λ x. reads_in x.events) xs)
  pub stores : s.stores ≡ held (total r (λ x. writes_in x.events) xs)
  pub verdict : IsTrue s.is_independent ↔ Each r (λ x. IsIndependent x.events) xs
  pub needed : AreNeeds r AnyWord xs s.needed
  pub needs : (a : ℕ) → AreNeeds r (λ b. b ≡ a) xs (need_at s.needs.items a)

-- the same of each loop
abbrev pub AreSeen : List Story → List Seen → Type 0
AreSeen xs loops = (r : ℕ) (s : Seen) → slice_get loops r ≡ Some s → IsSeen r xs s

-- ---- what is told of a whole run

-- Told are the first `words` words of the run from m: of each of the code's loops what was seen, and whether the run is over behind them. One
-- that isn't is told of for as many words as may be, but for 255 for each region that was opened.
pub record IsAdvice (code : CodeView) (m : Machine) (steps : ℕ) (a : Advice) : Type 0 where
  pub words : ℕ
  pub few : words ≤ steps
  pub ended : IsTrue a.has_ended ↔ IsSome (machine_after code words m).end
  pub many : a.has_ended ≡ false → min steps WORD_LIMIT ≤ words + 255 * length (opened_in code words m)
  pub loops : length a.loops.items ≡ length code.regions
  pub seen : AreSeen (stories code words m) a.loops.items

-- ---- a run on its way

-- x is the story of a region that was watched
pub record IsTold (x : Story) (w : Watched) : Type 0 where
  pub words : x.words ≡ w.words
  pub events : Tells w.watch x.events

-- the region is over within k words from its beginning
abbrev pub IsDone : CodeView → RegionState → ℕ → Type 0
IsDone code z k = IsOver (after (region_in code z.opened) (store_of z.store) k)

abbrev pub AreDone : CodeView → ℕ → List Opening → Type 0
AreDone code n [] = Unit {0}
AreDone code n (o ∷ os) = IsDone code o.region (n - suc o.at) × AreDone code n os

-- the machine behind so many words from m, between loops, and what was seen
pub record Stands (code : CodeView) (m : Machine) (limit left : ℕ) (p : PlainView) (loops : List Seen) : Type 0 where
  pub words : ℕ
  pub same : p.code ≡ code
  pub is : one_store (machine_after code words m) ≡ p.machine
  pub few : words + left ≤ limit
  pub many : limit ≤ words + left + 255 * length (opened_in code words m)
  pub done : AreDone code words (opened_in code words m)
  pub long : length loops ≡ length code.regions
  pub seen : AreSeen (stories code words m) loops

-- the next word of m opens the region that o shows
pub record OpensAs (code : CodeView) (m : Machine) (o : OpenView) : Type 0 where
  pub opens : opens_next code m ≡ true
  pub here : whole o ≡ one_store (machine_step code m)

-- k words of it: no other region is opened, and they are seen beside what was seen before
pub record GoesBy (code : CodeView) (m : Machine) (o : OpenView) (k : ℕ) (old new : List Seen) : Type 0 where
  pub quiet : Quiet code k (machine_step code m)
  pub seen : (xs : List Story) → AreSeen xs old → AreSeen (story_in code o.region k ∷ xs) new

-- the machine behind it
pub record IsBehind (code : CodeView) (m : Machine) (o : OpenView) (k : ℕ) (p : PlainView) : Type 0 where
  pub done : IsDone code o.region k
  pub same : p.code ≡ code
  pub is : p.machine ≡ machine_after code (suc k) m
  pub outside : p.machine.within ≡ None

-- a region that was opened is passed within so many words, or isn't
abbrev pub Passed : CodeView → OpenView → ℕ → List Seen → List Seen → Option (PlainView × ℕ) → Type 0
Passed code o steps old new None = (m : Machine) → OpensAs code m o → GoesBy code m o steps old new × ((machine_after code (suc steps) m).end ≡ None)
Passed code o steps old new (Some r) = (r.1 ≤ steps) × ((m : Machine) → OpensAs code m o → GoesBy code m o r.1 old new × IsBehind code m o r.1 r.0)
