-- Words of a local state as those of a frame.
use Rattle.std.proofs.Common.{◌≡◌, ◌≢◌, ◌+◌, ◌-◌, ◌≤◌, ◌<◌, ℕ, zero, suc, ℤ, Option, Some, None, refl, sym, ap, ◌∙◌, subst, arith}
use Rattle.hx_marks.specs.Table.{Table, look}
use Rattle.hx_code.specs.declared.word.Ask.{Ask}
use Rattle.hx_code.specs.declared.word.Ask.TheVariants.{Goes, Loads, Stores, Prints, Faults, Calls, Enters, Turns, Leaves, Returns}
use Rattle.hx_code.specs.declared.word.Next.{Next}
use Rattle.hx_code.specs.Code.{CodeView}
use Rattle.hx_code.specs.Local.{LocalView, LocalAsks, asks_of, LocalWent, loaded}
use Rattle.hx_code.specs.Fits.{LocalStretch}
use Rattle.hx_speculation.specs.Iteration.{Ask as Asked}
use Rattle.hx_speculation.specs.Frame.{Frame, words, word, reads, goes_to, stops_for, Need as Needed}
use Rattle.hx_speculation.specs.View.{or_first}
use Rattle.hx_frame.specs.Automaton.{asked_as, asked_by, ask_in}

pub asks_as : (code : CodeView) (l : LocalView) (ask : Ask) (m : LocalView) → asks_of code l ≡ LocalAsks ask m → ask_in code l ≡ asked_as ask m
asks_as code l ask m e = ap (asked_by l) e

-- what a frame does next is by what its state asks
pub word_by : (code : CodeView) (n : ℕ) (l : LocalView) (f : Frame LocalView) (ask : Asked LocalView) → ask_in code l ≡ ask → words (ask_in code) (suc n) (goes_to l f) ≡ word ask (goes_to l f) (words (ask_in code) n)
word_by code n l f ask e = ap (λ k. word k (goes_to l f) (words (ask_in code) n)) e

-- words that ask nothing
pub went_words : (code : CodeView) (n : ℕ) (l m : LocalView) (k : ℕ) (f : Frame LocalView) → LocalWent code n l m → words (ask_in code) (n + k) (goes_to l f) ≡ words (ask_in code) k (goes_to m f)
went_words code zero l m k f e =
    let none : 0 + k ≡ k = omega arith in
    ap (λ j. words (ask_in code) j (goes_to l f)) none ∙ ap (λ x. words (ask_in code) k (goes_to x f)) e
went_words code (suc n) l m k f h =
    let longer : suc n + k ≡ n + suc k = omega arith in
    ap (λ j. words (ask_in code) j (goes_to l f)) longer
    ∙ went_words code n l h.0 (suc k) f h.1
    ∙ word_by code k h.0 f (Asked.Goes m) (asks_as code h.0 Goes m h.2)

reads_by : (w m : Option ℤ) (a : ℕ) (q : ℤ → LocalView) (v : ℤ) (f : Frame LocalView) (on : Frame LocalView → Frame LocalView) → or_first w m ≡ Some v → reads w m a q f on ≡ on (goes_to (q v) f)
reads_by (Some u) m a q v f on e = let same : u ≡ v = cc in ap (λ x. on (goes_to (q x) f)) same
reads_by None (Some u) a q v f on e = let same : u ≡ v = cc in ap (λ x. on (goes_to (q x) f)) same
reads_by None None a q v f on e = absurd (cc)

reads_none : (w m : Option ℤ) (a : ℕ) (q : ℤ → LocalView) (f : Frame LocalView) (on : Frame LocalView → Frame LocalView) → or_first w m ≡ None → reads w m a q f on ≡ stops_for (Needed.ForLoad a) f
reads_none (Some u) m a q f on e = absurd (cc)
reads_none None (Some u) a q f on e = absurd (cc)
reads_none None None a q f on e = refl

module _ (code : CodeView) (marks writes : Table) (f : Frame LocalView) (same_marks : f.marks ≡ marks) (same_writes : f.writes ≡ writes) where
  -- a word that it knows
  pub known_word : (l m : LocalView) (a : ℕ) (v : ℤ) (k : ℕ) → asks_of code l ≡ LocalAsks (Loads a) m → or_first (look writes a) (look marks a) ≡ Some v → words (ask_in code) (suc k) (goes_to l f) ≡ words (ask_in code) k (goes_to (loaded v m) f)
  known_word l m a v k e h =
      let there : or_first (look f.writes a) (look f.marks a) ≡ Some v = ap (λ w. or_first (look w a) (look f.marks a)) same_writes ∙ ap (λ t. or_first (look writes a) (look t a)) same_marks ∙ h in
      word_by code k l f (Asked.Loads a (λ x. loaded x m)) (asks_as code l (Loads a) m e)
      ∙ reads_by (look f.writes a) (look f.marks a) a (λ x. loaded x m) v (goes_to l f) (words (ask_in code) k) there

  -- one that it doesn't know
  pub unknown_word : (l m : LocalView) (a : ℕ) (k : ℕ) → asks_of code l ≡ LocalAsks (Loads a) m → or_first (look writes a) (look marks a) ≡ None → words (ask_in code) (suc k) (goes_to l f) ≡ stops_for (Needed.ForLoad a) (goes_to l f)
  unknown_word l m a k e h =
      let there : or_first (look f.writes a) (look f.marks a) ≡ None = ap (λ w. or_first (look w a) (look f.marks a)) same_writes ∙ ap (λ t. or_first (look writes a) (look t a)) same_marks ∙ h in
      word_by code k l f (Asked.Loads a (λ x. loaded x m)) (asks_as code l (Loads a) m e)
      ∙ reads_none (look f.writes a) (look f.marks a) a (λ x. loaded x m) (goes_to l f) (words (ask_in code) k) there

-- a write
pub write_word : (code : CodeView) (l m : LocalView) (a : ℕ) (v : ℤ) (k : ℕ) (f : Frame LocalView) → asks_of code l ≡ LocalAsks (Stores a v) m → words (ask_in code) (suc k) (goes_to l f) ≡ stops_for (Needed.ForStore a v) (goes_to l f)
write_word code l m a v k f e = word_by code k l f (Asked.Stores a v m) (asks_as code l (Stores a v) m e)

-- what is waited with
pub head_word : (code : CodeView) (l m : LocalView) (ask : Ask) (k : ℕ) (f : Frame LocalView) → asks_of code l ≡ LocalAsks ask m → ask ≢ Goes → ((a : ℕ) → ask ≢ Loads a) → ((a : ℕ) (v : ℤ) → ask ≢ Stores a v) → ((g : ℕ) (at : _) → ask ≢ Calls g at) → words (ask_in code) (suc k) (goes_to l f) ≡ stops_for Needed.ForHead (goes_to l f)
head_word code l m Goes k f e g lo st ca = absurd (g refl)
head_word code l m (Loads a) k f e g lo st ca = absurd (lo a refl)
head_word code l m (Stores a v) k f e g lo st ca = absurd (st a v refl)
head_word code l m (Calls h at) k f e g lo st ca = absurd (ca h at refl)
head_word code l m (Prints output at) k f e g lo st ca = word_by code k l f _ (asks_as code l (Prints output at) m e)
head_word code l m (Faults fault) k f e g lo st ca = word_by code k l f _ (asks_as code l (Faults fault) m e)
head_word code l m (Enters r t) k f e g lo st ca = word_by code k l f _ (asks_as code l (Enters r t) m e)
head_word code l m Turns k f e g lo st ca = word_by code k l f _ (asks_as code l Turns m e)
head_word code l m Leaves k f e g lo st ca = word_by code k l f _ (asks_as code l Leaves m e)
head_word code l m (Returns v) k f e g lo st ca = word_by code k l f _ (asks_as code l (Returns v) m e)

-- ---- words as they are counted

pub stretch_as : (code : CodeView) (n : ℕ) (l : LocalView) (ask as_this : Ask) (next : Next) (m : LocalView) → (ask ≢ Goes → LocalStretch code n l ask next m) → ask ≡ as_this → as_this ≢ Goes → LocalStretch code n l as_this next m
stretch_as code n l ask as_this next m s is other = subst (λ a. LocalStretch code n l a next m) is (s (λ e. other (sym is ∙ e)))

pub isnt_goes : (ask as_this : Ask) → ask ≡ as_this → as_this ≢ Goes → ask ≢ Goes
isnt_goes ask as_this is other = λ e. other (sym is ∙ e)

-- of so many words, k are left to do from here on
abbrev pub LeftToDo : CodeView → Table → Table → ℕ → LocalView → ℕ → LocalView → Type 0
LeftToDo code marks writes limit from k here = (f : Frame LocalView) → f.marks ≡ marks → f.writes ≡ writes → words (ask_in code) limit (goes_to from f) ≡ words (ask_in code) k (goes_to here f)

-- so many words lead there, for this need
abbrev pub RanFor : CodeView → Table → Table → ℕ → LocalView → LocalView → Needed → Type 0
RanFor code marks writes limit from to need = (f : Frame LocalView) → f.marks ≡ marks → f.writes ≡ writes → words (ask_in code) limit (goes_to from f) ≡ stops_for need (goes_to to f)

module _ (code : CodeView) (marks writes : Table) (limit : ℕ) (from : LocalView) (w n : ℕ) (here m : LocalView) (ran : LeftToDo code marks writes limit from (limit - w) here) (went : LocalWent code n here m) (few : n ≤ limit - w) where
  pub left_after : LeftToDo code marks writes limit from (limit - (w + n)) m
  left_after f em ew =
      let split : limit - w ≡ n + (limit - (w + n)) = omega (arith, few) in
      ran f em ew ∙ ap (λ j. words (ask_in code) j (goes_to here f)) split ∙ went_words code n here m (limit - (w + n)) f went

  module _ (room : n < limit - w) where
    one_more : limit - (w + n) ≡ suc (limit - (w + n + 1))
    one_more = omega (arith, room)

    -- with one word more
    left_with : (k : LocalView) → ((f : Frame LocalView) → f.marks ≡ marks → f.writes ≡ writes → words (ask_in code) (suc (limit - (w + n + 1))) (goes_to m f) ≡ words (ask_in code) (limit - (w + n + 1)) (goes_to k f)) → LeftToDo code marks writes limit from (limit - (w + n + 1)) k
    left_with k word f em ew = left_after f em ew ∙ ap (λ j. words (ask_in code) j (goes_to m f)) one_more ∙ word f em ew

    pub left_known : (next : LocalView) (a : ℕ) (v : ℤ) → asks_of code m ≡ LocalAsks (Loads a) next → or_first (look writes a) (look marks a) ≡ Some v → LeftToDo code marks writes limit from (limit - (w + n + 1)) (loaded v next)
    left_known next a v e h = left_with (loaded v next) (λ f em ew. known_word code marks writes f em ew m next a v _ e h)

    -- the need that the next word has
    pub stopped : (need : Needed) → ((f : Frame LocalView) → f.marks ≡ marks → f.writes ≡ writes → words (ask_in code) (suc (limit - (w + n + 1))) (goes_to m f) ≡ stops_for need (goes_to m f)) → RanFor code marks writes limit from m need
    stopped need word f em ew = left_after f em ew ∙ ap (λ j. words (ask_in code) j (goes_to m f)) one_more ∙ word f em ew
