-- From what the parts of settling tell to what the definition says.
use Rattle.std.proofs.Common.{◌≡◌, ℕ, Bool, true, false, List, [], ◌++◌, length, refl, ap, sym, subst, ◌∙◌}
use Rattle.std.specs.Prelude.{if◌then◌else◌}
use Rattle.std.proofs.lemmas.List.{append-nil}
use Rattle.hx_code.specs.declared.word.Ask.{Ask}
use Rattle.hx_code.specs.declared.word.Ask.TheVariants.{Goes, Loads, Stores, Prints, Faults, Calls, Enters, Turns, Leaves, Returns}
use Rattle.hx_code.specs.declared.word.Exit.{Exit}
use Rattle.hx_code.specs.Call.{bytes_of}
use Rattle.hx_frame.specs.Frame.{FrameView, waiting_ask, ask_needed}
use Rattle.hx_frame.specs.Automaton.{ask_in}
use Rattle.hx_speculation.specs.Frame.{IsTrue, IsTracked, advanced, begins}
use Rattle.hx_board.specs.declared.effect.Effect.{Effect}
use Rattle.hx_board.specs.declared.effect.Effect.TheVariants.{GoesOn, Passes, Ends}
use Rattle.hx_board.specs.Board.{BoardView, region_on}
use Rattle.hx_board.specs.Effect.{has_room, effect_of, printed_by}
use Rattle.hx_board.proofs.Settling.{effect_on, text_behind, behind_frame}

pub asked_is : (b : BoardView) (f : FrameView) (ask : Ask) → f.code ≡ b.setup.code → ask ≡ waiting_ask f → ask ≡ ask_needed b.setup.code f.frame.here f.frame.need
asked_is b f ask code is = is ∙ ap (λ k. ask_needed k f.frame.here f.frame.need) code

pub effect_is : (b : BoardView) (f : FrameView) (ask : Ask) (printed : ℕ) (e g : Effect) → f.code ≡ b.setup.code → ask ≡ waiting_ask f → printed ≡ b.setup.entry.printed → g ≡ effect_of printed (length b.text) ask → g ≡ e → effect_on b b.setup.code f.frame ≡ e
effect_is b f ask printed e g code is at told chosen =
    sym (ap (λ n. effect_of n (length b.text) ask) at ∙ ap (effect_of b.setup.entry.printed (length b.text)) (asked_is b f ask code is)) ∙ sym told ∙ chosen

pub text_is : (b : BoardView) (f : FrameView) (ask : Ask) (printed : ℕ) (text : List ℕ) → f.code ≡ b.setup.code → ask ≡ waiting_ask f → printed ≡ b.setup.entry.printed → text ≡ b.text ++ printed_by printed (length b.text) ask → text ≡ text_behind b b.setup.code f.frame
text_is b f ask printed text code is at told =
    told ∙ ap (λ n. b.text ++ printed_by n (length b.text) ask) at ∙ ap (λ a. b.text ++ printed_by b.setup.entry.printed (length b.text) a) (asked_is b f ask code is)

-- the frame that goes on
pub frame_is : (b : BoardView) (f g h : FrameView) → f.code ≡ b.setup.code → g ≡ f → h ≡ record g { frame = advanced (ask_in g.code) g.frame } → h.frame ≡ begins f.frame.worker f.frame.iteration f.frame.attempt (behind_frame b f.frame)
frame_is b f g h code same went =
    ap (λ (z : FrameView). z.frame) went ∙ ap (λ (z : FrameView). advanced (ask_in z.code) z.frame) same ∙ ap (λ k. advanced (ask_in k) f.frame) code

pub tracked_is : (b : BoardView) (f : FrameView) → f.code ≡ b.setup.code → IsTrue (ask_in f.code) f.frame → IsTracked (region_on b.setup).ask f.frame
tracked_is b f code t = subst (λ k. IsTracked (ask_in k) f.frame) code t.tracked

-- only an iteration that goes on has printed
printed_none : (printed n : ℕ) (bytes : List ℕ) (e : Exit) (room : Bool) → ((if room then GoesOn else Ends e) ≡ GoesOn → ⊥) → (if room then bytes else []) ≡ []
printed_none printed n bytes e true stays = absurd (stays refl)
printed_none printed n bytes e false stays = refl

silent : (printed n : ℕ) (ask : Ask) → (effect_of printed n ask ≡ GoesOn → ⊥) → printed_by printed n ask ≡ []
silent printed n (Prints output at) stays = printed_none printed n (bytes_of output) _ (has_room printed n (bytes_of output)) stays
silent printed n (Faults fault) stays = refl
silent printed n Turns stays = refl
silent printed n Leaves stays = refl
silent printed n (Enters r t) stays = refl
silent printed n (Returns v) stays = refl
silent printed n Goes stays = refl
silent printed n (Loads a) stays = refl
silent printed n (Stores a v) stays = refl
silent printed n (Calls f at) stays = refl

pub text_stays : (old text : List ℕ) (printed n : ℕ) (ask : Ask) (e : Effect) → (e ≡ GoesOn → ⊥) → effect_of printed n ask ≡ e → text ≡ old ++ printed_by printed n ask → text ≡ old
text_stays old text printed n ask e other is told = told ∙ ap (λ p. old ++ p) (silent printed n ask (λ h. other (sym is ∙ h))) ∙ append-nil old

pub passes_other : Passes ≡ GoesOn → ⊥
passes_other e = cc

pub ends_other : (x : Exit) → Ends x ≡ GoesOn → ⊥
ends_other x e = cc
