-- What calls on a frame keep.
use Rattle.std.proofs.Common.{◌≡◌, ℕ, zero, suc, ℤ, true, false, [], Option, Some, None, refl, sym, ap, ◌∙◌, subst}
use Rattle.std.specs.Prelude.{if◌then◌else◌, Result, Ok, Err, OnOk}
use Rattle.std.specs.Result.{is_ok}
use Rattle.std.proofs.lemmas.Bool.{false≢true}
use Rattle.hx_marks.specs.Table.{Table, look, put}
use Rattle.hx_code.specs.declared.word.Ask.TheVariants.{Loads, Stores}
use Rattle.hx_code.specs.declared.word.Next.{Next}
use Rattle.hx_code.specs.Code.{CodeView}
use Rattle.hx_code.specs.Local.{LocalView, loaded as on_top}
use Rattle.hx_code.specs.Fits.{FitsLocal, goes_on}
use Rattle.hx_speculation.specs.Iteration.{Ask as Asked}
use Rattle.hx_speculation.specs.Frame.{Frame, IsTrue, words, word, reads, stretch, is_held, goes_to}
use Rattle.hx_speculation.proofs.Frames.{begins_true, stretch_true, loads_true, stores_true}
use Rattle.hx_frame.specs.declared.action.Need.{Need}
use Rattle.hx_frame.specs.declared.action.Need.TheVariants.{Nothing, ForLoad, ForStore, ForHead, Held}
use Rattle.hx_frame.specs.declared.frame.Tag.{Tag}
use Rattle.hx_frame.specs.Automaton.{ask_in}
use Rattle.hx_frame.specs.declared.action.Stop.TheVariants.{NeedHead}
use Rattle.hx_frame.specs.declared.frame.Capacities.{Capacities}
use Rattle.hx_frame.specs.Action.{action_in, need_of, stop_for}
use Rattle.hx_frame.specs.Frame.{frame_of, Keeps, TellsNeed, stop_of}
use Rattle.hx_frame.specs.Words.{RanTo}
use Rattle.hx_frame.proofs.Stretches.{asks_as}

-- what holds of an Ok, where there is one
pub on_ok : {A B : Type 0} (r : Result A B) (P : Type 0) → OnOk r P → is_ok r ≡ true → P
on_ok (Ok a) P h e = h
on_ok (Err b) P h e = absurd (false≢true e)

-- ---- new

-- a frame that has gone nowhere keeps it
pub begun_keeps : (code : CodeView) (tag : Tag) (start here : LocalView) (marks writes : Table) → FitsLocal code start → here ≡ start → marks ≡ [] → writes ≡ [] → Keeps code tag start here marks writes Nothing
begun_keeps code tag start here marks writes fits e m w =
    let begun : Keeps code tag start start [] [] Nothing = record { start_fits = fits; here_fits = fits; is_true = begins_true (ask_in code) tag.worker tag.iteration tag.attempt start; tells = tt } in
    subst (λ l. Keeps code tag start l marks writes Nothing) (sym e) (subst (λ t. Keeps code tag start start t writes Nothing) (sym m) (subst (λ t. Keeps code tag start start [] t Nothing) (sym w) begun))

-- ---- run

reads_again : (w m : Option ℤ) (a : ℕ) (q : ℤ → LocalView) (f : Frame LocalView) (on : Frame LocalView → Frame LocalView) → reads w m a q (goes_to f.here f) on ≡ reads w m a q f on
reads_again (Some v) m a q f on = refl
reads_again None (Some v) a q f on = refl
reads_again None None a q f on = refl

word_again : (code : CodeView) (n : ℕ) (f : Frame LocalView) (ask : Asked LocalView) → word ask (goes_to f.here f) (words (ask_in code) n) ≡ word ask f (words (ask_in code) n)
word_again code n f (Asked.Goes l) = refl
word_again code n f (Asked.Loads a q) = reads_again (look f.writes a) (look f.marks a) a q f (words (ask_in code) n)
word_again code n f (Asked.Stores a v l) = refl
word_again code n f (Asked.Prints bytes l full) = refl
word_again code n f Asked.TurnEnds = refl
word_again code n f Asked.Leaves = refl
word_again code n f (Asked.Returns v) = refl
word_again code n f (Asked.Faults fault) = refl

-- what was needed before doesn't matter
words_again : (code : CodeView) (n : ℕ) (f : Frame LocalView) → words (ask_in code) n (goes_to f.here f) ≡ words (ask_in code) n f
words_again code zero f = refl
words_again code (suc n) f = word_again code n f (ask_in code f.here)

module _ (code : CodeView) (tag : Tag) (start here : LocalView) (marks writes : Table) (need : Need) where
  abbrev before : Frame LocalView
  before = frame_of tag start here marks writes need

  pub ran_is : (limit : ℕ) (to : LocalView) (new : Need) → is_held (need_of need) ≡ false → RanTo code marks writes limit here to new → frame_of tag start to marks writes new ≡ stretch (ask_in code) limit before
  ran_is limit to new free ran =
      let all : words (ask_in code) limit before ≡ frame_of tag start to marks writes new = sym (words_again code limit before) ∙ ran.ran before refl refl in
      sym (ap (λ t. if t then before else words (ask_in code) limit before) free ∙ all)

  pub ran_keeps : (limit : ℕ) (to : LocalView) (new : Need) → is_held (need_of need) ≡ false → Keeps code tag start here marks writes need → RanTo code marks writes limit here to new → Keeps code tag start to marks writes new
  ran_keeps limit to new free keeps ran =
      record {
        start_fits = keeps.start_fits;
        here_fits = ran.fits;
        is_true = subst (IsTrue (ask_in code)) (sym (ran_is limit to new free ran)) (stretch_true (ask_in code) limit before keeps.is_true);
        tells = ran.tells;
      }

pub not_held : (need : Need) → (need ≡ Held → ⊥) → is_held (need_of need) ≡ false
not_held Nothing n = refl
not_held (ForLoad a next) n = refl
not_held (ForStore a v next) n = refl
not_held (ForHead ask next) n = refl
not_held Held n = absurd (n refl)

pub tells_stop : (code : CodeView) (capacities : Capacities) (tag : Tag) (start here : LocalView) (marks writes : Table) (need : Need) → TellsNeed code here need → stop_for need ≡ stop_of (record { code = code; capacities = capacities; frame = frame_of tag start here marks writes need })
tells_stop code capacities tag start here marks writes Nothing t = refl
tells_stop code capacities tag start here marks writes (ForLoad a next) t = refl
tells_stop code capacities tag start here marks writes (ForStore a v next) t = refl
tells_stop code capacities tag start here marks writes (ForHead ask next) t = sym (ap (λ w. NeedHead (action_in w)) t.asks)
tells_stop code capacities tag start here marks writes Held t = refl

-- ---- a load

module _ (code : CodeView) (tag : Tag) (start here : LocalView) (marks writes : Table) (a : ℕ) (v : ℤ) (next : Next) (keeps : Keeps code tag start here marks writes (ForLoad a next)) where
  abbrev load_before : Frame LocalView
  load_before = frame_of tag start here marks writes (ForLoad a next)

  load_asked : ask_in code here ≡ Asked.Loads a (λ x. on_top x (goes_on next here))
  load_asked = asks_as code here (Loads a) (goes_on next here) keeps.tells.asks

  pub loaded_keeps : (to : LocalView) (table : Table) → to ≡ on_top v (goes_on next here) → table ≡ put marks a v → Keeps code tag start to table writes Nothing
  loaded_keeps to table e t =
      let n = keeps.is_true.needed in
      let there = on_top v (goes_on next here) in
      let tracked = loads_true (ask_in code) load_before a v (λ x. on_top x (goes_on next here)) load_asked n.2 n.3 keeps.is_true.tracked in
      let kept : Keeps code tag start there (put marks a v) writes Nothing = record { start_fits = keeps.start_fits; here_fits = keeps.tells.well.1 v; is_true = record { tracked = record { by = tracked.by }; needed = tt }; tells = tt } in
      subst (λ x. Keeps code tag start to x writes Nothing) (sym t) (subst (λ x. Keeps code tag start x (put marks a v) writes Nothing) (sym e) kept)

-- ---- a store

module _ (code : CodeView) (tag : Tag) (start here : LocalView) (marks writes : Table) (a : ℕ) (v : ℤ) (next : Next) (keeps : Keeps code tag start here marks writes (ForStore a v next)) where
  abbrev store_before : Frame LocalView
  store_before = frame_of tag start here marks writes (ForStore a v next)

  store_asked : ask_in code here ≡ Asked.Stores a v (goes_on next here)
  store_asked = asks_as code here (Stores a v) (goes_on next here) keeps.tells.asks

  pub stored_keeps : (to : LocalView) (table : Table) → to ≡ goes_on next here → table ≡ put writes a v → Keeps code tag start to marks table Nothing
  stored_keeps to table e t =
      let tracked = stores_true (ask_in code) store_before a v (goes_on next here) store_asked keeps.is_true.tracked in
      let kept : Keeps code tag start (goes_on next here) marks (put writes a v) Nothing = record { start_fits = keeps.start_fits; here_fits = keeps.tells.well.1; is_true = record { tracked = record { by = tracked.by }; needed = tt }; tells = tt } in
      subst (λ x. Keeps code tag start to marks x Nothing) (sym t) (subst (λ x. Keeps code tag start x marks (put writes a v) Nothing) (sym e) kept)
