-- A region as it is watched.
use Rattle.std.specs.Prelude.{◌≡◌, ◌↔◌, ℕ, ◌+◌, ◌<◌, ◌≤◌, ℤ, List, Bool, IsTrue, length, vec_capacity}
use Rattle.hx_tree.specs.declared.limits.TheConstants.{TEXT_LIMIT}
use Rattle.hx_code.specs.Code.{CodeView, store_words}
use Rattle.hx_code.specs.Region.{Opened}
use Rattle.hx_speculation.specs.Region.{Going}
use Rattle.hx_regions.specs.Region.{store_of, region_in, StandsIn}
use Rattle.hx_advise.specs.declared.region.Course.{Course}
use Rattle.hx_advise.specs.Regions.{after, events_after, IsOver}
use Rattle.hx_advise.specs.Watch.{Tells}

-- what a region that goes on is known to be after so many words from an entry's store: the plain one after as many, its events told
pub record Keeps (code : CodeView) (o : Opened) (entry : List ℤ) (words : ℕ) (c : Course) : Type 0 where
  pub going : after (region_in code o) (store_of entry) words ≡ Going c.local (store_of c.store.items) c.text.items c.watch.turn
  pub tells : Tells c.watch (events_after (region_in code o) (store_of entry) words)
  pub stands : StandsIn code o.region c.local
  pub store : length c.store.items ≡ store_words code
  pub writers : length c.watch.writers ≡ store_words code
  pub text : o.printed + length c.text.items ≤ TEXT_LIMIT
  pub room : TEXT_LIMIT ≤ vec_capacity c.text
  pub turns : c.watch.turn ≤ words

-- it was followed for so many words, and has ended with the last of them or goes on
pub record Followed (code : CodeView) (o : Opened) (entry : List ℤ) (words : ℕ) (ended : Bool) (c : Course) : Type 0 where
  pub tells : Tells c.watch (events_after (region_in code o) (store_of entry) words)
  pub over : IsTrue ended ↔ IsOver (after (region_in code o) (store_of entry) words)
  pub least : (k : ℕ) → k < words → IsOver (after (region_in code o) (store_of entry) k) → ⊥
