-- Room that is made once, for entries and ends of all regions of a code.
use Rattle.std.specs.Prelude.{◌≡◌, ℕ, ◌≤◌, pos, replicate, vec_capacity}
use Rattle.hx_tree.specs.declared.limits.TheConstants.{PRIVATE_LIMIT, TEXT_LIMIT}
use Rattle.hx_code.specs.Code.{CodeView, store_words}
use Rattle.hx_word.specs.declared.entry.Entry.{Entry}
use Rattle.hx_word.specs.declared.entry.RegionEnd.{RegionEnd}
use Rattle.hx_word.specs.Entry.{privates_in}

-- the store of the code and the private words of any function
pub record HasEntryRoom (code : CodeView) (e : Entry) : Type 0 where
  pub store : store_words code ≤ vec_capacity e.store
  pub locals : PRIVATE_LIMIT ≤ vec_capacity e.locals

-- these, and any text
pub record HasEndRoom (code : CodeView) (e : RegionEnd) : Type 0 where
  pub store : store_words code ≤ vec_capacity e.store
  pub locals : PRIVATE_LIMIT ≤ vec_capacity e.locals
  pub text : TEXT_LIMIT ≤ vec_capacity e.text

-- an entry of region r with words 0, opened by a run's first call before anything was printed
pub record IsBlank (code : CodeView) (r : ℕ) (e : Entry) : Type 0 where
  pub store : e.store.items ≡ replicate (store_words code) (pos 0)
  pub locals : e.locals.items ≡ replicate (privates_in code r) (pos 0)
  pub depth : e.depth ≡ 1
  pub text : e.text_len ≡ 0
