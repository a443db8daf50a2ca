-- What a replay tells is what one thread comes to.
use Rattle.std.proofs.Common.{◌≡◌, ℕ, ◌+◌, ◌-◌, ◌≤◌, List, length, replicate, pos, Option, Some, None, refl, ap, sym, subst, ◌∙◌, arith, length-append}
use Rattle.std.proofs.lemmas.List.{length-replicate}
use Rattle.hx_code.specs.declared.word.Exit.{Exit}
use Rattle.hx_code.specs.Code.{CodeView, store_words}
use Rattle.hx_code.specs.Valid.{IsValid}
use Rattle.hx_code.specs.Region.{RegionState, region_opening, region_after}
use Rattle.hx_word.specs.declared.entry.Entry.{Entry}
use Rattle.hx_word.specs.Entry.{EntryFits, padded}
use Rattle.hx_word.specs.Running.{IsOpened}
use Rattle.hx_word.proofs.Entries.{privates_few}
use Rattle.hx_frame.specs.declared.frame.Capacities.{Capacities as Rooms}
use Rattle.hx_speculation.specs.Region.{Comes}
use Rattle.hx_speculation.specs.Sound.{shown}
use Rattle.hx_regions.specs.Region.{store_of, ShowsAt}
use Rattle.hx_regions.proofs.Stores.{store_tells}
use Rattle.hx_regions.proofs.Agree.{comes_shows, region_long}
use Rattle.hx_board.specs.Board.{BoardView, Setup, opened_at, region_on, board_of, opening_board}
use Rattle.hx_board.specs.Known.{IsKept}
use Rattle.hx_board.specs.Ends.{state_of}
use Rattle.hx_trace.specs.declared.trace.Trace.{Trace}
use Rattle.hx_trace.specs.Trace.{ShowsPlain, IsTold}

-- the same, of what a board was made for
record ShowsFrom (s : Setup) (t : Trace) : Type 0 where
  words : ℕ
  store : t.store.items ≡ (region_after s.code words (region_opening s.code (opened_at s) s.entry.store)).store
  text : t.text.items ≡ (region_after s.code words (region_opening s.code (opened_at s) s.entry.store)).text
  state : t.state ≡ state_of (region_after s.code words (region_opening s.code (opened_at s) s.entry.store)).exit
  turns : t.counts.turns ≡ (region_after s.code words (region_opening s.code (opened_at s) s.entry.store)).turns
  regions : t.counts.regions ≡ 1

module _ (b : BoardView) (t : Trace) (valid : IsValid b.setup.code) (is : IsOpened b.setup.code (opened_at b.setup)) (long : length b.setup.entry.store ≡ store_words b.setup.code) (k : IsKept b) (told : IsTold b t) where
  abbrev after : ℕ → RegionState
  after n = region_after b.setup.code n (region_opening b.setup.code (opened_at b.setup) b.setup.entry.store)

  shows_at : (n : ℕ) (e : Option Exit) → b.exit ≡ e → ShowsAt (opened_at b.setup) (after n) e (store_of b.store) b.text b.head → ShowsFrom b.setup t
  shows_at n e is_e shows =
      let as_long : length (after n).store ≡ store_words b.setup.code = region_long b.setup.code valid (opened_at b.setup) is b.setup.entry.store long n in
      let store : (after n).store ≡ b.store = store_tells (after n).store b.store (as_long ∙ sym k.long) shows.store in
      record {
        words = n;
        store = told.store ∙ sym store;
        text = told.text ∙ sym shows.text;
        state = told.state ∙ ap state_of (is_e ∙ sym shows.exit);
        turns = ap (λ c. c.turns) told.counts ∙ k.sound.turns ∙ sym shows.turns;
        regions = ap (λ c. c.regions) told.counts ∙ k.sound.regions;
      }

  by_exit : (e : Option Exit) → b.exit ≡ e → Comes (region_on b.setup) (store_of b.setup.entry.store) (shown (region_on b.setup) (board_of b) e) → ShowsFrom b.setup t
  by_exit None is_e c =
      let found = comes_shows b.setup.code valid (opened_at b.setup) is b.setup.entry.store long (shown (region_on b.setup) (board_of b) None) c in
      shows_at found.0 None is_e found.1.0
  by_exit (Some x) is_e c =
      let found = comes_shows b.setup.code valid (opened_at b.setup) is b.setup.entry.store long (shown (region_on b.setup) (board_of b) (Some x)) c in
      shows_at found.0 (Some x) is_e found.1

  shows_from : ShowsFrom b.setup t
  shows_from = by_exit b.exit refl k.sound.prefix

-- an entry that fits opens its region
opens : (code : CodeView) (r : ℕ) (e : Entry) (slots : ℕ) (rooms : Rooms) → IsValid code → EntryFits code r e → IsOpened code (opened_at (opening_board code r e slots rooms).setup)
opens code r e slots rooms valid fits =
    let few = privates_few code valid r in
    let locals = fits.locals in
    let long : length (padded e.locals.items) ≡ 64 = length-append e.locals.items (replicate (64 - length e.locals.items) (pos 0)) ∙ ap (λ n. length e.locals.items + n) (length-replicate (64 - length e.locals.items) (pos 0)) ∙ omega (arith, few, locals) in
    record { region = fits.region; below = omega (arith, fits.least, fits.depth); words = long; printed = fits.text }

pub shows_plain : (code : CodeView) (r : ℕ) (e : Entry) (slots : ℕ) (rooms : Rooms) (b : BoardView) (t : Trace) → IsValid code → EntryFits code r e → b.setup ≡ (opening_board code r e slots rooms).setup → IsKept b → IsTold b t → ShowsPlain code r e t
shows_plain code r e slots rooms b t valid fits same k told =
    let s : Setup = (opening_board code r e slots rooms).setup in
    let back = sym same in
    let here = shows_from b t (subst (λ (u : Setup). IsValid u.code) back valid) (subst (λ (u : Setup). IsOpened u.code (opened_at u)) back (opens code r e slots rooms valid fits)) (subst (λ (u : Setup). length u.entry.store ≡ store_words u.code) back fits.store) k told in
    let a = subst (λ (u : Setup). ShowsFrom u t) same here in
    record { words = a.words; store = a.store; text = a.text; state = a.state; turns = a.turns; regions = a.regions }
