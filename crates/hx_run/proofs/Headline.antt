-- From a run of lowered code to the headline.
use Rattle.std.proofs.Common.{◌≡◌, ℕ, List, ℤ, Some, w32, FitsSigned, refl, sym, ap, subst, ◌∙◌}
use Rattle.hx_tree.specs.declared.outcome.End.{End}
use Rattle.hx_tree.specs.declared.outcome.Finish.{Finish}
use Rattle.hx_tree.specs.Tree.{Program}
use Rattle.hx_tree.specs.Meaning.{Ending, Means, shown_by}
use Rattle.hx_tree.specs.Meaning as meaning
use Rattle.hx_code.specs.Code.{CodeView}
use Rattle.hx_code.specs.Machine as machine
use Rattle.hx_lowering.specs.Correct.{Behaves, Shows}
use Rattle.std.specs.Prelude.{All, Result, Ok, Err, IfErr, IfOk, OnOk}
use Rattle.hx_tree.specs.Accepted.{IsAccepted}
use Rattle.hx_run.specs.declared.running.PlainRan.{PlainRan}
use Rattle.hx_run.specs.declared.running.PlainRan.TheVariants.{Ended, More}
use Rattle.hx_run.specs.Sources.{IsSpelledAlone}
use Rattle.hx_run.specs.declared.refusal.Refusal.{Refusal}
use Rattle.hx_run.specs.declared.refusal.Refusal.TheVariants as refusal
use Rattle.hx_run.specs.Refusals.{RefusesSource}
use Rattle.hx_run.specs.Runs.{EndsAs, EndsSpeculatively, EndsSo, PlainlySo, RefusesInput, after}
use Rattle.hx_run.specs.Headline.{IsFinishOf, IsPlainRanOf, IsCodeOf, IsTooLong, RefusesRun}

same_end : (a b : End) → Some a ≡ Some b → a ≡ b
same_end a b e = search e

ending_is : (a b : Ending) → a.text ≡ b.text → a.globals ≡ b.globals → a.finish ≡ b.finish → a.turns ≡ b.turns → a ≡ b
ending_is a b t g f n = rw (t, g, f, n) refl

-- what the stages make of a source is its code
pub compiled : (source : List ℕ) (p : Program) (code : CodeView) → IsSpelledAlone source p → IsAccepted p → Behaves p code → IsCodeOf source code
compiled source p code alone accepted behaves =
    record { program = p; is_source = record { spells = alone.spells; accepted = accepted }; behaves = behaves }

-- the machine's own end is one of those
plainly_so : (code : CodeView) (m : machine.Machine) (f : Finish) → EndsAs code m f → EndsSpeculatively code m f
plainly_so code m f (ended, counts) = record { ends = ended; regions = ap (λ c. c.regions) counts; turns = ap (λ c. c.turns) counts }

pub is_finish : (source : List ℕ) (input : List ℤ) (code : CodeView) (f : Finish) → All (FitsSigned w32) input → IsCodeOf source code → machine.InputFits code input → EndsSo code input f → IsFinishOf source input f
is_finish source input code f numbers of fits_code (n, so) =
    let ended = so.ends in
    let fits : meaning.InputFits of.program input = (of.behaves.fits input).1 fits_code in
    let found = of.behaves.ends_only input numbers fits n f.outcome.end ended.end in
    let shows : Shows code (after code input n) found.0 = found.2 in
    let end_is : found.0.finish ≡ f.outcome.end = same_end _ _ (sym shows.finish ∙ ended.end) in
    let r_is : found.0 ≡ shown_by f.outcome found.0.turns =
    ending_is found.0 (shown_by f.outcome found.0.turns) (sym shows.text ∙ sym ended.text) (sym shows.globals ∙ sym ended.globals) end_is refl in
    record {
      program = of.program;
      is_source = of.is_source;
      fits = fits;
      turns = found.0.turns;
      means = subst (λ r. Means of.program input r) r_is found.1;
      counted = so.turns ∙ shows.turns;
    }

pub plain_ran : (source : List ℕ) (input : List ℤ) (code : CodeView) (steps : ℕ) (ran : PlainRan) → All (FitsSigned w32) input → IsCodeOf source code → machine.InputFits code input
    → PlainlySo code input steps ran → IsPlainRanOf source input steps ran
plain_ran source input code steps (Ended f) numbers of fits h =
    (is_finish source input code f numbers of fits (steps, plainly_so code (after code input steps) f h), (code, of, h))
plain_ran source input code steps More numbers of fits h = (code, of, h)

pub is_too_long : (source : List ℕ) (input : List ℤ) (code : CodeView) → IsCodeOf source code → (machine.InputFits code input → ⊥) → IsTooLong source input
is_too_long source input code of unfit = record { program = of.program; is_source = of.is_source; unfit = λ fits. unfit ((of.behaves.fits input).0 fits) }

-- a refusal of the machine is one of the run
pub refuses_run : (source : List ℕ) (input : List ℤ) (code : CodeView) (e : Refusal) → IsCodeOf source code → RefusesInput code input e → RefusesRun source input e
refuses_run source input code refusal.InputTooLong of h = is_too_long source input code of h
refuses_run source input code refusal.Memory of h = tt
refuses_run source input code refusal.Pool of h = tt
refuses_run source input code (refusal.Lex e) of h = absurd h
refuses_run source input code (refusal.Parse e) of h = absurd h
refuses_run source input code (refusal.Check e) of h = absurd h
refuses_run source input code (refusal.Lower e) of h = absurd h
refuses_run source input code refusal.Settings of h = absurd h
refuses_run source input code refusal.ReadFailed of h = absurd h
refuses_run source input code refusal.WriteFailed of h = absurd h
refuses_run source input code refusal.InputText of h = absurd h

-- a refusal of the source is one of the run
pub source_refuses_run : (source : List ℕ) (input : List ℤ) (e : Refusal) → RefusesSource source e → RefusesRun source input e
source_refuses_run source input refusal.InputTooLong h = absurd h
source_refuses_run source input refusal.Memory h = tt
source_refuses_run source input refusal.Pool h = tt
source_refuses_run source input (refusal.Lex e) h = h
source_refuses_run source input (refusal.Parse e) h = h
source_refuses_run source input (refusal.Check e) h = h
source_refuses_run source input (refusal.Lower e) h = h
source_refuses_run source input refusal.Settings h = h
source_refuses_run source input refusal.ReadFailed h = h
source_refuses_run source input refusal.WriteFailed h = h
source_refuses_run source input refusal.InputText h = h

-- the same of what is answered

pub finish_if_ok : (source : List ℕ) (input : List ℤ) (code : CodeView) (r : Result Finish Refusal) → All (FitsSigned w32) input → IsCodeOf source code → IfOk r (EndsSo code input)
    → OnOk r (machine.InputFits code input) → IfOk r (IsFinishOf source input)
finish_if_ok source input code (Ok f) numbers of ends fits = is_finish source input code f numbers of fits ends
finish_if_ok source input code (Err e) numbers of ends fits = tt

pub ran_if_ok : (source : List ℕ) (input : List ℤ) (code : CodeView) (steps : ℕ) (r : Result PlainRan Refusal) → All (FitsSigned w32) input → IsCodeOf source code → IfOk r (PlainlySo code input steps)
    → OnOk r (machine.InputFits code input) → IfOk r (IsPlainRanOf source input steps)
ran_if_ok source input code steps (Ok ran) numbers of ends fits = plain_ran source input code steps ran numbers of fits ends
ran_if_ok source input code steps (Err e) numbers of ends fits = tt

pub refused_if_err : {A : Type 0} → (source : List ℕ) (input : List ℤ) (code : CodeView) (r : Result A Refusal) → IsCodeOf source code → IfErr r (RefusesInput code input) → IfErr r (RefusesRun source input)
refused_if_err source input code (Ok x) of refused = tt
refused_if_err source input code (Err e) of refused = refuses_run source input code e of refused
