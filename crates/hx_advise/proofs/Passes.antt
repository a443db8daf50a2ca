-- A region that a run opens, as it goes by itself from its entry.
use Rattle.std.proofs.Common.{◌≡◌, ℕ, zero, suc, ◌+◌, ◌-◌, ◌<◌, pos, List, length, replicate, Option, Some, None, true, false, is_some, ◌∷◌, get_or, refl, ap, sym, subst, ◌∙◌, arith, length-append}
use Rattle.std.specs.Prelude.{slice_get, slice_set}
use Rattle.std.proofs.lemmas.List.{length-replicate}
use Rattle.std.proofs.lemmas.Option.{slice_get_read}
use std.Path.{fun_ext}
use Rattle.hx_tree.specs.declared.limits.TheConstants.{PRIVATE_LIMIT}
use Rattle.hx_code.specs.Code.{CodeView}
use Rattle.hx_code.specs.Local.{LocalView}
use Rattle.hx_code.specs.Valid.{IsValid}
use Rattle.hx_code.specs.Region.{Opened, RegionState, region_opening, region_after}
use Rattle.hx_code.specs.Machine.{Machine, machine_step, machine_after, resumed}
use Rattle.hx_word.specs.declared.entry.Entry.{Entry}
use Rattle.hx_word.specs.declared.entry.RegionEnd.{RegionEnd}
use Rattle.hx_word.specs.Entry.{opened_from, result_from, EntryFits, IsEntryOf, IsEndOf}
use Rattle.hx_word.specs.Laws.{OpensWith, begun_from}
use Rattle.hx_word.specs.Running.{IsOpened, BeforeLast}
use Rattle.hx_word.specs.Plain.{PlainView, OpenView, whole, Quiet}
use Rattle.hx_word.proofs.Entries.{privates_few}
use Rattle.hx_word.proofs.Alone.{OpenedAlike, IsOpening, at_opened, opening_alike, after_alike, from_entry, opens_well, regions_end}
use Rattle.hx_word.proofs.Inside.{in_region, inside_after, quiet_next, resumed_none}
use Rattle.hx_word.proofs.Advance.{runs_there}
use Rattle.hx_word.proofs.MachineSteps.{machine_then}
use Rattle.hx_speculation.specs.Iteration.{Store}
use Rattle.hx_speculation.specs.Region.{Region, Plain, Going, Over}
use Rattle.hx_frame.specs.Automaton.{ask_in}
use Rattle.hx_regions.specs.Region.{store_of, region_in, Shows}
use Rattle.hx_regions.specs.Same.{same_local}
use Rattle.hx_regions.specs.SameHolds.{same_local_holds, same_local_itself}
use Rattle.hx_regions.proofs.Agree.{agree}
use Rattle.hx_advise.specs.declared.region.Watched.{Watched}
use Rattle.hx_advise.specs.declared.program.Seen.{Seen}
use Rattle.hx_advise.specs.Watch.{Tells}
use Rattle.hx_advise.specs.Regions.{after, events_after, words_done, IsOver, region_from, entry_store, IsWatched}
use Rattle.hx_advise.specs.Runs.{Story, story_in, IsSeen, AreSeen, IsTold, IsDone, OpensAs, GoesBy, IsBehind}
use Rattle.hx_advise.proofs.Loops.{all_done}
use Rattle.hx_advise.proofs.Sums.{are_seen}

-- ---- whether it is over

shows_over : (o : Opened) (z : RegionState) (p : Plain LocalView) → Shows o z p → IsOver p → is_some z.exit ≡ true
shows_over o z (Going q s text k) h over = absurd over
shows_over o z (Over e s text k) h over = ap (λ x. is_some x) h.exit

shows_going : (o : Opened) (z : RegionState) (p : Plain LocalView) → Shows o z p → (IsOver p → ⊥) → z.exit ≡ None
shows_going o z (Going q s text k) h going = h.0.exit
shows_going o z (Over e s text k) h going = absurd (going tt)

opened_fits : (code : CodeView) → IsValid code → (r : ℕ) (e : Entry) → EntryFits code r e → IsOpened code (opened_from r e)
opened_fits code v r e fits =
    let few = privates_few code v r in
    let locals = fits.locals in
    let least = fits.least in
    let deep = fits.depth in
    let xs = e.locals.items in
    record {
      region = fits.region;
      below = omega (arith, least, deep);
      words = length-append xs (replicate (PRIVATE_LIMIT - length xs) (pos 0)) ∙ ap (λ n. length xs + n) (length-replicate (PRIVATE_LIMIT - length xs) (pos 0)) ∙ omega (arith, few, locals);
      printed = fits.text;
    }

region_alike : (code : CodeView) (o p : Opened) → OpenedAlike code o p → region_in code p ≡ region_in code o
region_alike code o p a =
    let made : region_in code o ≡ region_in code p = λ i. record { ask = ask_in code; opening = fun_ext a.begins i; printed = a.printed i; same = same_local; same_holds = same_local_holds; same_itself = same_local_itself } in
    sym made

module _ (code : CodeView) (v : IsValid code) (o : OpenView) (e : Entry) (shows : IsEntryOf code o.region.opened o.region.store e) (fits : EntryFits code o.region.opened.region e) where
  abbrev r : ℕ
  r = o.region.opened.region

  -- by itself, after k words
  alone : (k : ℕ) → Shows (opened_from r e) (region_after code k (begun_from code r e)) (after (region_from code r e) (entry_store e) k)
  alone k = agree code v (opened_from r e) (opened_fits code v r e fits) e.store.items fits.store k

  pub exits : (k : ℕ) → IsOver (after (region_from code r e) (entry_store e) k) → is_some (region_after code k (begun_from code r e)).exit ≡ true
  exits k over = shows_over (opened_from r e) _ _ (alone k) over

  goes_at : (k : ℕ) → (IsOver (after (region_from code r e) (entry_store e) k) → ⊥) → (region_after code k (begun_from code r e)).exit ≡ None
  goes_at k going = shows_going (opened_from r e) _ _ (alone k) going

  same_region : region_from code r e ≡ region_in code o.region.opened
  same_region = region_alike code o.region.opened (opened_from r e) (from_entry code v o.region.opened o.region.store e shows fits)

  same_store : entry_store e ≡ store_of o.region.store
  same_store = ap store_of shows.store

  -- what holds of it by itself holds of it within the run
  carried : (P : Region LocalView → Store → Type 0) → P (region_from code r e) (entry_store e) → P (region_in code o.region.opened) (store_of o.region.store)
  carried P h = subst (P (region_in code o.region.opened)) same_store (subst (λ x. P x (entry_store e)) same_region h)

  module _ (w : Watched) (watched : IsWatched code r e w) where
    pub is_told : IsTold (story_in code o.region w.words) w
    is_told = record {
      words = carried (λ x s. words_done x s w.words ≡ w.words) (all_done (region_from code r e) (entry_store e) w.words watched.least);
      events = carried (λ x s. Tells w.watch (events_after x s w.words)) watched.tells;
    }

    pub is_done : w.has_ended ≡ true → IsDone code o.region w.words
    is_done h = carried (λ x s. IsOver (after x s w.words)) (watched.ended.0 h)

    -- within the run
    module _ (m : Machine) (opens : OpensAs code m o) where
      with_entry : OpensWith code m o e
      with_entry = record { opens = opens.opens; here = opens.here; shows = shows; fits = fits }

      -- as it opens, and after n words of its own
      abbrev first : Machine
      first = machine_step code m

      some_there : first.within ≡ Some o.region
      some_there = runs_there first (whole o) o.region (sym opens.here) refl

      begins : IsOpening code first o.region
      begins = opens_well code m o.region opens.opens some_there

      inside : first ≡ in_region first o.region
      inside = ap (λ (x : Option RegionState). record first { within = x }) some_there

      goes_within : (n : ℕ) → (IsOver (after (region_from code r e) (entry_store e) n) → ⊥) → (region_after code n o.region).exit ≡ None
      goes_within n not =
          let from = opened_from r e in
          let alike = from_entry code v o.region.opened o.region.store e shows fits in
          let begun : begun_from code r e ≡ at_opened from o.region = ap (region_opening code from) shows.store ∙ opening_alike code o.region.opened from o.region.store alike ∙ ap (at_opened from) (sym begins.0) in
          let goes : region_after code n (begun_from code r e) ≡ at_opened from (region_after code n o.region) = ap (region_after code n) begun ∙ after_alike code o.region.opened from alike n o.region refl in
          ap (λ (z : RegionState). z.exit) (sym goes) ∙ goes_at n not

      -- its words open no region
      quiet_to : (n : ℕ) → ((k : ℕ) → k < n → IsOver (after (region_from code r e) (entry_store e) k) → ⊥) → Quiet code n first
      quiet_to zero f = refl
      quiet_to (suc k) f =
          let last : k < suc k = omega arith in
          subst (Quiet code (suc k)) (sym inside) (quiet_next code k first o.region begins.1 (goes_within k (f k last)))

      pub goes_by : (old new : List Seen) → ((xs : List Story) → AreSeen xs old → AreSeen (story_in code o.region w.words ∷ xs) new) → GoesBy code m o w.words old new
      goes_by old new f = record { quiet = quiet_to w.words watched.least; seen = f }

      -- it goes on
      pub still_going : w.has_ended ≡ false → (machine_after code (suc w.words) m).end ≡ None
      still_going h =
          let n = w.words in
          let not : IsOver (after (region_from code r e) (entry_store e) n) → ⊥ = λ over. let no : false ≡ true = sym h ∙ watched.ended.1 over in absurd cc in
          let there : machine_after code n first ≡ in_region first (region_after code n o.region) = ap (machine_after code n) inside ∙ inside_after code n first o.region begins.1 (goes_within n not) in
          let sum : 1 + n ≡ suc n = omega arith in
          let here : machine_after code (suc n) m ≡ machine_after code n first = ap (λ k. machine_after code k m) (sym sum) ∙ machine_then code 1 n m in
          ap (λ (x : Machine). x.end) (here ∙ there) ∙ begins.1

      before_last : (n : ℕ) → IsOver (after (region_from code r e) (entry_store e) n) → ((k : ℕ) → k < n → IsOver (after (region_from code r e) (entry_store e) k) → ⊥) → BeforeLast code n (begun_from code r e)
      before_last zero over f = absurd over
      before_last (suc k) over f = let last : k < suc k = omega arith in (k, refl, goes_at k (f k last))

      -- it is over
      pub is_behind : (other : CodeView) (end : RegionEnd) (p : PlainView) → other ≡ code → w.has_ended ≡ true → IsEndOf code (region_after code w.words (begun_from code r e)) (length e.locals.items) end → p ≡ record { code = other; machine = resumed other r (result_from o.region.opened end) (whole o) } → IsBehind code m o w.words p
      is_behind other end p same h ends is =
          let over = watched.ended.0 h in
          let machine : p.machine ≡ resumed code r (result_from o.region.opened end) (whole o) = ap (λ (x : PlainView). x.machine) is ∙ ap (λ c. resumed c r (result_from o.region.opened end) (whole o)) same in
          record {
            done = is_done h;
            same = ap (λ (x : PlainView). x.code) is ∙ same;
            is = machine ∙ regions_end code v m o e w.words end with_entry (before_last w.words over watched.least) ends;
            outside = ap (λ (x : Machine). x.within) machine ∙ resumed_none code r (result_from o.region.opened end) (whole o);
          }

    -- it is seen beside what was seen before
    pub seen_by : (n : ℕ) (loops : List Seen) (old new : Seen) → n ≡ r → length loops ≡ length code.regions → old ≡ get_or loops n old → ((x : Story) (xs : List Story) → IsTold x w → IsSeen x.region xs old → IsSeen x.region (x ∷ xs) new) → (xs : List Story) → AreSeen xs loops → AreSeen (story_in code o.region w.words ∷ xs) (slice_set loops n new)
    seen_by n loops old new same long is f xs h =
        let x = story_in code o.region w.words in
        let lt : r < length loops = let there = fits.region in omega (arith, there, long) in
        let here : old ≡ get_or loops r old = subst (λ k. old ≡ get_or loops k old) same is in
        let at : slice_get loops r ≡ Some old = slice_get_read loops (length loops) r old refl lt here in
        subst (λ k. AreSeen (x ∷ xs) (slice_set loops k new)) (sym same) (are_seen x xs loops old new at h (f x xs is_told))

    -- all its words are done, and it goes on
    pub passed_none : (steps : ℕ) (old new : List Seen) → w.words ≡ steps → w.has_ended ≡ false → ((xs : List Story) → AreSeen xs old → AreSeen (story_in code o.region w.words ∷ xs) new) → (m : Machine) → OpensAs code m o → GoesBy code m o steps old new × ((machine_after code (suc steps) m).end ≡ None)
    passed_none steps old new all not f m opens =
        subst (λ n. GoesBy code m o n old new × ((machine_after code (suc n) m).end ≡ None)) all (goes_by m opens old new f, still_going m opens not)

    -- it is over
    pub passed_on : (other : CodeView) (end : RegionEnd) (p : PlainView) (old new : List Seen) → other ≡ code → w.has_ended ≡ true → IsEndOf code (region_after code w.words (begun_from code r e)) (length e.locals.items) end → p ≡ record { code = other; machine = resumed other r (result_from o.region.opened end) (whole o) } → ((xs : List Story) → AreSeen xs old → AreSeen (story_in code o.region w.words ∷ xs) new) → (m : Machine) → OpensAs code m o → GoesBy code m o w.words old new × IsBehind code m o w.words p
    passed_on other end p old new same h ends is f m opens = (goes_by m opens old new f, is_behind m opens other end p same h ends is)
