-- The end that a board tells is the plain region's.
use Rattle.std.proofs.Common.{◌≡◌, ℕ, ◌+◌, ◌%◌, ◌^◌, ◌≤◌, ℤ, List, length, Some, refl, ap, sym, subst, ◌∙◌}
use Rattle.std.specs.Prelude.{take}
use Rattle.hx_tree.specs.declared.limits.TheConstants.{TEXT_LIMIT}
use Rattle.hx_code.specs.declared.word.Exit.{Exit}
use Rattle.hx_code.specs.declared.word.Exit.TheVariants.{Left, Returned, Faulted}
use Rattle.hx_code.specs.Code.{CodeView, region_of, store_words}
use Rattle.hx_code.specs.Valid.{IsValid}
use Rattle.hx_code.specs.Region.{Opened, RegionState, region_opening, region_after, from_cells, words_after}
use Rattle.hx_code.proofs.Counters.{counter_modulo}
use Rattle.hx_word.specs.declared.entry.Entry.{Entry}
use Rattle.hx_word.specs.declared.entry.RegionEnd.{RegionEnd}
use Rattle.hx_word.specs.Entry.{IsEndOf, EndLasts, region_counts}
use Rattle.hx_word.specs.Running.{IsOpened}
use Rattle.hx_speculation.specs.Region.{Over, Comes}
use Rattle.hx_speculation.specs.Sound.{shown}
use Rattle.hx_regions.specs.Region.{store_of, ShowsAt}
use Rattle.hx_regions.proofs.Stores.{store_tells}
use Rattle.hx_regions.proofs.Agree.{comes_shows, region_long}
use Rattle.hx_board.specs.Board.{BoardView, Setup, entry_view, opened_at, region_on, board_of}
use Rattle.hx_board.specs.Known.{IsKept}
use Rattle.hx_board.specs.Ends.{IsFor, EndsAs, EndsPlainly, plainly}
use Rattle.hx_board.proofs.Steps.{text_fits}

-- an iteration's number modulo 2 ^ 64 gives the same private words
words_modulo : (code : CodeView) (x : Exit) (o : Opened) (n : ℕ) (store : List ℤ) → words_after code x o (n % 2 ^ 64) store ≡ words_after code x o n store
words_modulo code Left o n store = let g = region_of code o.region in counter_modulo g.induct o.words n (from_cells code.globals g.carried store o.words)
words_modulo code (Returned v) o n store = refl
words_modulo code (Faulted fault) o n store = refl

-- the same, of what a board was made for
pub record EndsAlone (s : Setup) (e : RegionEnd) : Type 0 where
  pub words : ℕ
  pub end : IsEndOf s.code (region_after s.code words (region_opening s.code (opened_at s) s.entry.store)) (length s.entry.locals) (plainly e)
  pub lasts : EndLasts s.code (region_after s.code words (region_opening s.code (opened_at s) s.entry.store)) (length s.entry.locals) e
  pub regions : e.counts.regions ≡ 1

module _ (b : BoardView) (valid : IsValid b.setup.code) (is : IsOpened b.setup.code (opened_at b.setup)) (k : IsKept b) (long : length b.setup.entry.store ≡ store_words b.setup.code) where
  abbrev after : ℕ → RegionState
  after n = region_after b.setup.code n (region_opening b.setup.code (opened_at b.setup) b.setup.entry.store)

  over : (x : Exit) → b.exit ≡ Some x → Comes (region_on b.setup) (store_of b.setup.entry.store) (Over x (store_of b.store) b.text b.head)
  over x e = subst (λ o. Comes (region_on b.setup) (store_of b.setup.entry.store) (shown (region_on b.setup) (board_of b) o)) e k.sound.prefix

  pub ends_alone : (e : RegionEnd) → EndsAs b e → length e.locals.items ≡ length b.setup.entry.locals → EndsAlone b.setup e
  ends_alone e told count =
      let found = comes_shows b.setup.code valid (opened_at b.setup) is b.setup.entry.store long (Over e.exit (store_of b.store) b.text b.head) (over e.exit told.exit) in
      let n = found.0 in
      let z : RegionState = after n in
      let shows : ShowsAt (opened_at b.setup) z (Some e.exit) (store_of b.store) b.text b.head = found.1 in
      let as_long : length z.store ≡ store_words b.setup.code = region_long b.setup.code valid (opened_at b.setup) is b.setup.entry.store long n in
      let store : z.store ≡ b.store = store_tells z.store b.store (as_long ∙ sym k.long) shows.store in
      let after_at : Opened → ℕ → List ℤ → List ℤ = words_after b.setup.code e.exit in
      let words : after_at (opened_at b.setup) b.head b.store ≡ after_at z.opened z.iteration z.store =
      sym (words_modulo b.setup.code e.exit (opened_at b.setup) b.head b.store) ∙ (λ i. after_at (sym shows.opened i) (sym shows.iteration i) (sym store i)) in
      let turns : e.counts.turns ≡ z.turns = ap (λ c. c.turns) told.counts ∙ k.sound.turns ∙ sym shows.turns in
      let fits : b.setup.entry.printed + length b.text ≤ TEXT_LIMIT = text_fits b valid is k in
      record {
        words = n;
        end = record {
          exit = shows.exit;
          store = told.store ∙ sym store;
          locals = told.locals ∙ ap (take (length b.setup.entry.locals)) words;
          text = told.text ∙ sym shows.text;
          counts = ap region_counts turns;
        };
        lasts = record {
          store = ap length told.store ∙ k.long;
          locals = count;
          text = subst (λ o. o.printed + length e.text.items ≤ TEXT_LIMIT) (sym shows.opened) (subst (λ t. b.setup.entry.printed + length t ≤ TEXT_LIMIT) (sym told.text) fits);
        };
        regions = ap (λ c. c.regions) told.counts ∙ k.sound.regions;
      }

-- .. and so of the job and the entry that it is for
pub ends_plainly : (s : Setup) (code : CodeView) (region : ℕ) (entry : Entry) (e : RegionEnd) → IsFor s code region entry → EndsAlone s e → EndsPlainly code region entry e
ends_plainly s code region entry e for alone =
    let same : s ≡ record { code = code; region = region; entry = entry_view entry; slots = s.slots; capacities = s.capacities } =
    λ i. record { code = for.same_code i; region = for.same_region i; entry = for.same_entry i; slots = s.slots; capacities = s.capacities } in
    let a = subst (λ (t : Setup). EndsAlone t e) same alone in
    record { words = a.words; end = a.end; lasts = a.lasts; regions = a.regions }
