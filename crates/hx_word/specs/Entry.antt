-- A region's entry, and its end, as they are handed on.
use Rattle.std.specs.Prelude.{◌≡◌, ℕ, ◌+◌, ◌-◌, ◌<◌, ◌≤◌, ℤ, pos, List, ◌++◌, length, take, drop, replicate, Option, Some, None, slice_get}
use Rattle.hx_tree.specs.declared.limits.TheConstants.{CALL_LIMIT, PRIVATE_LIMIT, TEXT_LIMIT}
use Rattle.hx_tree.specs.declared.outcome.Counts.{Counts}
use Rattle.hx_code.specs.declared.table.Spot.{Spot}
use Rattle.hx_code.specs.Code.{CodeView, region_of, store_words}
use Rattle.hx_code.specs.Valid.{privates_of}
use Rattle.hx_code.specs.Region.{Opened, RegionState, RegionResult, words_after}
use Rattle.hx_word.specs.declared.entry.Entry.{Entry}
use Rattle.hx_word.specs.declared.entry.RegionEnd.{RegionEnd}

-- ---- the private words of a region's function

abbrev pub function_in : Option Spot → ℕ
function_in None = 0
function_in (Some s) = s.function

-- how many private words the function of a region has: that of its start
abbrev pub privates_in : CodeView → ℕ → ℕ
privates_in code r = privates_of (slice_get code.functions (function_in (slice_get code.spots (region_of code r).start)))

-- ---- entries

-- an entry that fits a region of the code
pub record EntryFits (code : CodeView) (r : ℕ) (e : Entry) : Type 0 where
  pub region : r < length code.regions
  pub store : length e.store.items ≡ store_words code
  pub locals : length e.locals.items ≡ privates_in code r
  pub least : 1 ≤ e.depth
  pub depth : e.depth ≤ CALL_LIMIT
  pub text : e.text_len ≤ TEXT_LIMIT

-- e is the entry of the region that was opened so, over a store of these words
pub record IsEntryOf (code : CodeView) (o : Opened) (words : List ℤ) (e : Entry) : Type 0 where
  pub store : e.store.items ≡ words
  pub locals : e.locals.items ≡ take (privates_in code o.region) o.words
  pub depth : e.depth ≡ o.below + 1
  pub text : e.text_len ≡ o.printed

-- private words, and 0 behind them
abbrev pub padded : List ℤ → List ℤ
padded words = words ++ replicate (PRIVATE_LIMIT - length words) (pos 0)

-- the region that opens with an entry
abbrev pub opened_from : ℕ → Entry → Opened
opened_from r e = record { region = r; below = e.depth - 1; words = padded e.locals.items; printed = e.text_len }

-- ---- ends

abbrev pub region_counts : ℕ → Counts
region_counts turns = record { regions = 1; turns = turns; repeats = 0; violations = 0; restarts = 0; holds = 0; abandons = 0; discarded = 0; spared = 0 }

-- e is the end of a region that has ended, which began with n private words
pub record IsEndOf (code : CodeView) (z : RegionState) (n : ℕ) (e : RegionEnd) : Type 0 where
  pub exit : z.exit ≡ Some e.exit
  pub store : e.store.items ≡ z.store
  pub locals : e.locals.items ≡ take n (words_after code e.exit z.opened z.iteration z.store)
  pub text : e.text.items ≡ z.text
  pub counts : e.counts ≡ region_counts z.turns

-- it has the lengths of its entry, and its text fits behind what was printed before
pub record EndLasts (code : CodeView) (z : RegionState) (n : ℕ) (e : RegionEnd) : Type 0 where
  pub store : length e.store.items ≡ store_words code
  pub locals : length e.locals.items ≡ n
  pub text : z.opened.printed + length e.text.items ≤ TEXT_LIMIT

-- an end that fits the region that was opened so, behind this text
pub record EndFits (code : CodeView) (o : Opened) (printed : List ℕ) (e : RegionEnd) : Type 0 where
  pub store : length e.store.items ≡ store_words code
  pub locals : length e.locals.items ≡ privates_in code o.region
  pub text : length printed + length e.text.items ≤ TEXT_LIMIT

-- what an end says of the region that was opened so: private words that it doesn't name stay
abbrev pub result_from : Opened → RegionEnd → RegionResult
result_from o e = record {
  exit = e.exit;
  store = e.store.items;
  words = e.locals.items ++ drop (length e.locals.items) o.words;
  text = e.text.items;
  regions = e.counts.regions;
  turns = e.counts.turns;
}
