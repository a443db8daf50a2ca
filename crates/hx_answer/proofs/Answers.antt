-- From a refusal to the answer that tells it.
use Rattle.std.proofs.Common.{◌≡◌, ℕ, ℤ, Bool, true, false, if◌then◌else◌, List, Option, refl, inr}
use Rattle.hx_code.specs.Code.{CodeView}
use Rattle.hx_trace.specs.declared.trace.TraceError.TheVariants as schedule
use Rattle.hx_run.specs.declared.refusal.Refusal.{Refusal}
use Rattle.hx_run.specs.declared.refusal.Refusal.TheVariants as refusal
use Rattle.hx_run.specs.Refusals.{is_memory, is_of_device, RefusesSource}
use Rattle.hx_run.specs.Executions.{IsOfReading, IsReadOf}
use Rattle.hx_run.specs.Headline.{RefusesRun}
use Rattle.hx_answer.specs.declared.replaying.NoTrace.{NoTrace}
use Rattle.hx_answer.specs.declared.replaying.NoTrace.TheVariants as no_trace
use Rattle.hx_answer.specs.declared.replaying.Replayed.{Replayed}
use Rattle.hx_answer.specs.declared.replaying.Schedule.{Schedule}
use Rattle.hx_answer.specs.declared.status.Status.{Status}
use Rattle.hx_answer.specs.declared.status.Status.TheVariants as status
use Rattle.hx_answer.specs.Statuses.{status_of_no_trace, status_of_refusal}
use Rattle.hx_answer.specs.Replays.{IsReplayOf, RefusesReplay}
use Rattle.hx_answer.specs.Answers.{failed_devices, AdviceAnswer, CodeAnswer, HasCode, IsShown, ReplayAnswer, ShowsText}
use Rattle.hx_answer.proofs.Statuses.{run_fails_no_device}

-- ---- what is made of code

pub code_reading : (text : CodeView → List ℕ) (source rest old : Option (List ℕ)) (e : Refusal) → IsOfReading e → CodeAnswer text source rest old old (status_of_refusal e)
code_reading text source rest old refusal.ReadFailed h = tt
code_reading text source rest old refusal.Memory h = refl
code_reading text source rest old (refusal.Lex e) h = absurd h
code_reading text source rest old (refusal.Parse e) h = absurd h
code_reading text source rest old (refusal.Check e) h = absurd h
code_reading text source rest old (refusal.Lower e) h = absurd h
code_reading text source rest old refusal.Pool h = absurd h
code_reading text source rest old refusal.Settings h = absurd h
code_reading text source rest old refusal.InputTooLong h = absurd h
code_reading text source rest old refusal.WriteFailed h = absurd h
code_reading text source rest old refusal.InputText h = absurd h

code_by_flags : (text : CodeView → List ℕ) (source rest old : Option (List ℕ)) (bytes : List ℕ) (e : Refusal) (m d : Bool) → is_memory e ≡ m → is_of_device e ≡ d
    → IsReadOf source rest bytes → RefusesSource bytes e → CodeAnswer text source rest old old (if m then status.Memory else (if d then status.Device else status.Refused))
code_by_flags text source rest old bytes e true d em ed is h = refl
code_by_flags text source rest old bytes e false true em ed is h = tt
code_by_flags text source rest old bytes e false false em ed is h =
    (record { bytes = bytes; is_read = is; says = record { refusal = e; says = h; certain = rw (em, ed) refl } }, refl)

pub code_refused : (text : CodeView → List ℕ) (source rest old : Option (List ℕ)) (bytes : List ℕ) (e : Refusal) → IsReadOf source rest bytes → RefusesSource bytes e
    → CodeAnswer text source rest old old (status_of_refusal e)
code_refused text source rest old bytes e is h = code_by_flags text source rest old bytes e (is_memory e) (is_of_device e) refl refl is h

-- ---- replays

pub replay_reading : (input : List ℤ) (asked : Schedule) (source rest old : Option (List ℕ)) (e : Refusal) → IsOfReading e → ReplayAnswer input asked source rest old old (status_of_refusal e)
replay_reading input asked source rest old refusal.ReadFailed h = tt
replay_reading input asked source rest old refusal.Memory h = refl
replay_reading input asked source rest old (refusal.Lex e) h = absurd h
replay_reading input asked source rest old (refusal.Parse e) h = absurd h
replay_reading input asked source rest old (refusal.Check e) h = absurd h
replay_reading input asked source rest old (refusal.Lower e) h = absurd h
replay_reading input asked source rest old refusal.Pool h = absurd h
replay_reading input asked source rest old refusal.Settings h = absurd h
replay_reading input asked source rest old refusal.InputTooLong h = absurd h
replay_reading input asked source rest old refusal.WriteFailed h = absurd h
replay_reading input asked source rest old refusal.InputText h = absurd h

replay_by_flags : (input : List ℤ) (asked : Schedule) (source rest old : Option (List ℕ)) (bytes : List ℕ) (e : Refusal) (m d : Bool) → is_memory e ≡ m → is_of_device e ≡ d
    → IsReadOf source rest bytes → RefusesReplay bytes input asked (no_trace.Refused e)
    → ReplayAnswer input asked source rest old old (if m then status.Memory else (if d then status.Device else status.Refused))
replay_by_flags input asked source rest old bytes e true d em ed is h = refl
replay_by_flags input asked source rest old bytes e false true em ed is h = tt
replay_by_flags input asked source rest old bytes e false false em ed is h =
    (inr (record { bytes = bytes; is_read = is; says = record { refusal = no_trace.Refused e; says = h; certain = rw (em, ed) refl } }), refl)

pub replay_refused : (input : List ℤ) (asked : Schedule) (source rest old : Option (List ℕ)) (bytes : List ℕ) (why : NoTrace) → IsReadOf source rest bytes
    → RefusesReplay bytes input asked why → ReplayAnswer input asked source rest old old (status_of_no_trace why)
replay_refused input asked source rest old bytes (no_trace.Refused e) is h =
    replay_by_flags input asked source rest old bytes e (is_memory e) (is_of_device e) refl refl is h
replay_refused input asked source rest old bytes no_trace.NoEntry is h =
    (inr (record { bytes = bytes; is_read = is; says = record { refusal = no_trace.NoEntry; says = h; certain = refl } }), refl)
replay_refused input asked source rest old bytes no_trace.NotEnded is h =
    (inr (record { bytes = bytes; is_read = is; says = record { refusal = no_trace.NotEnded; says = h; certain = refl } }), refl)
replay_refused input asked source rest old bytes (no_trace.Schedule schedule.NoSuchWorker) is h =
    (inr (record { bytes = bytes; is_read = is; says = record { refusal = no_trace.Schedule schedule.NoSuchWorker; says = h; certain = refl } }), refl)
replay_refused input asked source rest old bytes (no_trace.Schedule schedule.Memory) is h = refl

pub replay_fails_no_device : (bytes : List ℕ) (input : List ℤ) (asked : Schedule) (why : NoTrace) → RefusesReplay bytes input asked why → failed_devices (status_of_no_trace why) ≡ 0
replay_fails_no_device bytes input asked (no_trace.Refused e) h = run_fails_no_device bytes input e h
replay_fails_no_device bytes input asked no_trace.NoEntry h = refl
replay_fails_no_device bytes input asked no_trace.NotEnded h = refl
replay_fails_no_device bytes input asked (no_trace.Schedule schedule.NoSuchWorker) h = refl
replay_fails_no_device bytes input asked (no_trace.Schedule schedule.Memory) h = refl

-- a replay that is shown
pub replay_shown : (input : List ℤ) (asked : Schedule) (source rest old new : Option (List ℕ)) (bytes text : List ℕ) (r : Replayed) (s : Status) → IsReadOf source rest bytes
    → IsReplayOf bytes input asked r → IsShown asked.shown r text → ShowsText text old new s → ReplayAnswer input asked source rest old new s
replay_shown input asked source rest old new bytes text r status.Done is h of shown = record { bytes = bytes; is_read = is; says = (r, h, text, of, shown) }
replay_shown input asked source rest old new bytes text r status.Device is h of shown = tt
replay_shown input asked source rest old new bytes text r status.Fault is h of shown = absurd shown
replay_shown input asked source rest old new bytes text r status.Refused is h of shown = absurd shown
replay_shown input asked source rest old new bytes text r status.Memory is h of shown = absurd shown

-- ---- advice

pub advice_reading : (input : List ℤ) (source rest old : Option (List ℕ)) (e : Refusal) → IsOfReading e → AdviceAnswer input source rest old old (status_of_refusal e)
advice_reading input source rest old refusal.ReadFailed h = tt
advice_reading input source rest old refusal.Memory h = refl
advice_reading input source rest old (refusal.Lex e) h = absurd h
advice_reading input source rest old (refusal.Parse e) h = absurd h
advice_reading input source rest old (refusal.Check e) h = absurd h
advice_reading input source rest old (refusal.Lower e) h = absurd h
advice_reading input source rest old refusal.Pool h = absurd h
advice_reading input source rest old refusal.Settings h = absurd h
advice_reading input source rest old refusal.InputTooLong h = absurd h
advice_reading input source rest old refusal.WriteFailed h = absurd h
advice_reading input source rest old refusal.InputText h = absurd h

advice_by_flags : (input : List ℤ) (source rest old : Option (List ℕ)) (bytes : List ℕ) (e : Refusal) (m d : Bool) → is_memory e ≡ m → is_of_device e ≡ d
    → IsReadOf source rest bytes → RefusesRun bytes input e → AdviceAnswer input source rest old old (if m then status.Memory else (if d then status.Device else status.Refused))
advice_by_flags input source rest old bytes e true d em ed is h = refl
advice_by_flags input source rest old bytes e false true em ed is h = tt
advice_by_flags input source rest old bytes e false false em ed is h =
    (record { bytes = bytes; is_read = is; says = record { refusal = e; says = h; certain = rw (em, ed) refl } }, refl)

pub advice_refused : (input : List ℤ) (source rest old : Option (List ℕ)) (bytes : List ℕ) (e : Refusal) → IsReadOf source rest bytes → RefusesRun bytes input e
    → AdviceAnswer input source rest old old (status_of_refusal e)
advice_refused input source rest old bytes e is h = advice_by_flags input source rest old bytes e (is_memory e) (is_of_device e) refl refl is h

-- advice that is shown
pub advice_shown : (input : List ℤ) (source rest old new : Option (List ℕ)) (bytes text : List ℕ) (s : Status) → IsReadOf source rest bytes → HasCode bytes → ShowsText text old new s
    → AdviceAnswer input source rest old new s
advice_shown input source rest old new bytes text status.Done is h shown = record { bytes = bytes; is_read = is; says = (h, (text, shown)) }
advice_shown input source rest old new bytes text status.Device is h shown = tt
advice_shown input source rest old new bytes text status.Fault is h shown = absurd shown
advice_shown input source rest old new bytes text status.Refused is h shown = absurd shown
advice_shown input source rest old new bytes text status.Memory is h shown = absurd shown
