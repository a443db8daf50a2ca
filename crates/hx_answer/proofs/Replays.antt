-- From what a run and a schedule come to to what a replay answers.
use Rattle.std.proofs.Common.{◌≡◌, ℕ, ◌<◌, ℤ, List, map, Result, Ok, Err, IfErr, ◌↔◌, refl, ap, sym, subst}
use Rattle.std.specs.Prelude.{All, IsErrAnd}
use Rattle.std.proofs.lemmas.List.Elements.{All-map}
use Rattle.hx_tree.specs.declared.outcome.Settings.{Settings}
use Rattle.hx_code.specs.Code.{CodeView}
use Rattle.hx_code.specs.Machine.{Machine, opening_machine, InputFits}
use Rattle.hx_word.specs.declared.plain.Reached.{Reached}
use Rattle.hx_word.specs.Plain.{PlainView, one_store}
use Rattle.hx_word.specs.Ran.{ReachedFrom}
use Rattle.hx_run.specs.Headline.{IsCodeOf}
use Rattle.hx_run.proofs.Headline.{refuses_run}
use Rattle.hx_trace.specs.declared.trace.Told.{Told}
use Rattle.hx_trace.specs.declared.trace.TraceError.{TraceError}
use Rattle.hx_trace.specs.declared.trace.TraceError.TheVariants as schedule
use Rattle.hx_answer.specs.declared.replaying.NoTrace.{NoTrace}
use Rattle.hx_answer.specs.declared.replaying.NoTrace.TheVariants as no_trace
use Rattle.hx_answer.specs.declared.replaying.Schedule.{Schedule}
use Rattle.hx_answer.specs.Replays.{digit, IsWorker, Reaches, RefusesEntry, RefusesReplay, RefusesWorkers}

-- a machine that has been made of code and an input looks for a region of their run
pub reaches : (code : CodeView) (input : List ℤ) (plain : PlainView) (n steps : ℕ) (r : Reached) → plain ≡ record { code = code; machine = opening_machine code input } → InputFits code input
    → ((m : Machine) → one_store m ≡ plain.machine → ReachedFrom plain.code m n steps r) → Reaches code input n steps r
reaches code input plain n steps r made fits found =
    let here = found (opening_machine code input) (sym (ap (λ (p : PlainView). p.machine) made)) in
    (fits, subst (λ c. ReachedFrom c (opening_machine code input) n steps r) (ap (λ (p : PlainView). p.code) made) here)

-- digits of workers are their numbers
pub numbers_below : (n : ℕ) (digits : List ℕ) → All (IsWorker n) digits → All (λ w. w < n) (map digit digits)
numbers_below n digits all = All-map (λ w. w < n) digit digits (λ k d l. (all k d l).1)

-- so a replay that was given them refuses for want of memory alone
pub workers_are_there : (settings : Settings) (digits numbers : List ℕ) (r : Result Told TraceError) → numbers ≡ map digit digits → All (IsWorker settings.workers) digits
    → (r ≡ Err schedule.NoSuchWorker) ↔ (All (λ w. w < settings.workers) numbers → ⊥) → IfErr r (RefusesWorkers settings digits)
workers_are_there settings digits numbers (Ok t) same all told = tt
workers_are_there settings digits numbers (Err schedule.NoSuchWorker) same all told =
    absurd (told.0 refl (subst (λ ns. All (λ w. w < settings.workers) ns) (sym same) (numbers_below settings.workers digits all)))
workers_are_there settings digits numbers (Err schedule.Memory) same all told = tt

-- a refusal of the region's entry is one of the replay
pub entry_refuses : (source : List ℕ) (input : List ℤ) (asked : Schedule) (code : CodeView) (e : NoTrace) → IsCodeOf source code → RefusesEntry code input asked.nth asked.steps e
    → RefusesReplay source input asked e
entry_refuses source input asked code (no_trace.Refused e) is h = refuses_run source input code e is h
entry_refuses source input asked code no_trace.NoEntry is h = record { code = code; is_code = is; refuses = h }
entry_refuses source input asked code no_trace.NotEnded is h = record { code = code; is_code = is; refuses = h }
entry_refuses source input asked code (no_trace.Schedule e) is h = absurd h

-- what holds of a refusal that is passed on as it is
pub passed_on : {A : Type 0} → (r : Result A NoTrace) (e : NoTrace) (Q : NoTrace → Type 0) → IsErrAnd r (λ x. x ≡ e) → Q e → IfErr r Q
passed_on (Ok x) e Q same h = absurd same
passed_on (Err x) e Q same h = subst Q (sym same) h
