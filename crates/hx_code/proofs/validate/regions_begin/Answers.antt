use Rattle.std.proofs.Common.{◌≡◌, ◌⊎◌, inl, inr, ℕ, ◌<◌, ◌+◌, ◌-◌, arith, refl, subst, length, false, List}
use Rattle.std.specs.Prelude.{slice_index_or}
use Rattle.std.specs.Bool.{IsTrue}
use Rattle.std.proofs.lemmas.Option.{slice_get_within}
use Rattle.hx_code.specs.declared.word.Word.{Word}
use Rattle.hx_code.specs.declared.table.Tables.{Tables}
use Rattle.hx_code.specs.Valid.{HasSpots, EachWord, EachRegion, BeginsRegion}
use Rattle.hx_code.specs.Validation.{code_of, tables_of, IsFine, IsOnlyEnter, HasTwoEnters, Reaches}
use Rattle.hx_code.proofs.Validation.{one_more, there, not_twice, has_enter, begins_back, begins_made}
use Rattle.hx_code.proofs.validate.regions_begin.Goals as goal

-- where some region has two there is no code
two : (words : List Word) (t : Tables) → HasSpots (code_of words t) → EachWord (code_of words t) (IsFine (tables_of t)) → IsTrue false ⊎ HasTwoEnters words → EachRegion (code_of words t) (BeginsRegion (code_of words t)) → IsTrue false
two words t spots fine (inl h) all = h
two words t spots fine (inr h) all = absurd (not_twice words t spots fine all h)

-- the entry of a region in the table
entry : (words : List Word) (mark index first : ℕ) (table : List ℕ) → Reaches words mark index first table → IsOnlyEnter words mark (length words) index (slice_index_or table (index - first) 0)
entry words mark index first table r =
    let low = r.low in let near = r.near in
    let same : first + (index - first) ≡ index = omega arith in
    subst (λ k. IsOnlyEnter words mark (length words) k (slice_index_or table (index - first) 0)) same (r.found (index - first) (omega arith))

pub returns-then-not-find_enters : goal.returns-then-not-find_enters
returns-then-not-find_enters c = (λ e. absurd cc, two c.args.words.now c.args.tables.now c.requires.spots c.requires.words c.if-not-find_enters.ensures.twice)

pub returns-then-not-reach : goal.returns-then-not-reach
returns-then-not-reach c = (λ e. absurd cc, two c.args.words.now c.args.tables.now c.requires.spots c.requires.words c.if-not-reach.ensures.twice)

pub returns-then-place : goal.returns-then-place
returns-then-place c = (
  λ e. absurd cc,
  λ all.
      let below : c.loop-index.index < length c.args.tables.now.regions.items = omega arith in
      let g = there c.args.tables.now.regions.items c.loop-index.index below in
      let e = entry c.args.words.now 4294967295 c.loop-index.index c.reach.new.first c.reach.new.places (c.if-not-reach.ensures.reached refl) in
      let few = c.requires.spots.few in
      absurd (has_enter c.args.words.now c.args.tables.now 4294967295 c.loop-index.index _ g.0 all g.1 e c.if-place.true (omega (arith, few))),
)

pub returns-then-not-begins_at : goal.returns-then-not-begins_at
returns-then-not-begins_at c = (
  λ e. absurd cc,
  λ all.
      let at = rw c.deref.ensures.value at c.region_in-region.ensures in
      let spot = rw c.deref-in-loop-index.ensures.value at c.spot_in-enter.ensures in
      let e = entry c.args.words.now 4294967295 c.loop-index.index c.reach.new.first c.reach.new.places (c.if-not-reach.ensures.reached refl) in
      c.if-not-begins_at.ensures.1 (begins_back c.args.words.now c.args.tables.now 4294967295 c.loop-index.index _ c.region_in-region.result.now c.spot_in-enter.result (all c.loop-index.index c.region_in-region.result.now at) e c.if-place.false spot),
)

pub loop-index-preserved : goal.loop-index-preserved
loop-index-preserved c =
    let at = rw c.deref.ensures.value at c.region_in-region.ensures in
    let spot = rw c.deref-in-loop-index.ensures.value at c.spot_in-enter.ensures in
    let r = c.if-not-reach.ensures.reached refl in
    let e = entry c.args.words.now 4294967295 c.loop-index.index c.reach.new.first c.reach.new.places r in
    let made = begins_made c.args.words.now c.args.tables.now 4294967295 c.loop-index.index _ c.region_in-region.result.now c.spot_in-enter.result e c.if-place.false spot (c.if-not-begins_at.ensures.0 refl) in
    record {
      low = let low = r.low in omega (arith, low);
      found = r.found;
      before = one_more c.args.tables.now.regions.items (BeginsRegion (code_of c.args.words.now c.args.tables.now)) c.loop-index.index c.region_in-region.result.now at made c.loop-index.invariant.before;
    }

pub returns : goal.returns
returns c = (λ _ r g at. let lt = slice_get_within c.args.tables.now.regions.items r g at in c.loop-index.invariant.before r g (omega (arith, lt)) at, λ _. refl)
