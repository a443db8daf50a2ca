-- What a command answers: its status, what it has read of its source, and what its output has taken.
use Rattle.std.specs.Prelude.{◌≡◌, ◌⊎◌, ◌↔◌, ℕ, ℤ, List, [], ◌∷◌, ◌++◌, Option, Result, IfOk, IfErr, IsErrOf, codes}
use Rattle.std.specs.Io.KnownBytes.{Appends}
use Rattle.hx_tree.specs.declared.outcome.Settings.{Settings}
use Rattle.hx_code.specs.Code.{CodeView}
use Rattle.hx_lower.specs.Listing.{listing_of as words_of}
use Rattle.hx_trace.specs.Text.{listing_of as trace_text}
use Rattle.hx_trace.specs.Telling.{told_listing}
use Rattle.hx_timeline.specs.Columns.{timeline_table}
use Rattle.hx_timeline.specs.Drawing.{IsPicture}
use Rattle.hx_run.specs.declared.executing.Mode.{Mode}
use Rattle.hx_run.specs.declared.executing.Done.{Done}
use Rattle.hx_run.specs.declared.refusal.Refusal.{Refusal}
use Rattle.hx_run.specs.declared.refusal.Refusal.TheVariants as refusal
use Rattle.hx_run.specs.Refusals.{RefusesSource}
use Rattle.hx_run.specs.Headline.{AreInRange, IsCodeOf, RefusesRun}
use Rattle.hx_run.specs.Executions.{IsDone, OfRead, Refuses, RefusesSettings}
use Rattle.hx_code.specs.Machine.{opening_machine}
use Rattle.hx_advise.specs.Runs.{IsAdvice}
use Rattle.hx_answer.specs.declared.advising.Advised.{Advised}
use Rattle.hx_answer.specs.declared.replaying.Replayed.{Replayed}
use Rattle.hx_answer.specs.declared.replaying.Schedule.{Schedule}
use Rattle.hx_answer.specs.declared.replaying.Shown.{Shown}
use Rattle.hx_answer.specs.declared.replaying.Shown.TheVariants as shown
use Rattle.hx_answer.specs.declared.status.Status.{Status}
use Rattle.hx_answer.specs.declared.status.Status.TheVariants as status
use Rattle.hx_answer.specs.Statuses.{status_of_execution, status_of_no_trace, status_of_refusal}
use Rattle.hx_answer.specs.Replays.{IsReplayOf, RefusesReplay}

-- how many devices have failed in a call with this status
abbrev pub failed_devices : Status → ℕ
failed_devices status.Device = 1
failed_devices _ = 0

-- a text is shown: unless the device failed, the output has taken it whole
abbrev pub ShowsText : List ℕ → Option (List ℕ) → Option (List ℕ) → Status → Type 0
ShowsText text old new status.Done = Appends old new text
ShowsText text old new status.Device = Unit {0}
ShowsText text old new _ = ⊥

-- ---- runs

-- what an execution answers
pub record Executed (mode : Mode) (settings : Settings) (input : List ℤ) (source rest old new : Option (List ℕ)) (r : Result Done Refusal) : Type 0 where
  pub done : IfOk r (IsDone mode input source rest old new)
  pub refused : IfErr r (Refuses mode input source rest old new)
  pub in_range : IsErrOf r refusal.Settings ↔ RefusesSettings mode settings

-- the status is that of an execution
pub record ExecutionAnswer (mode : Mode) (settings : Settings) (input : List ℤ) (source rest old new : Option (List ℕ)) (s : Status) : Type 0 where
  pub answer : Result Done Refusal
  pub is_answer : Executed mode settings input source rest old new answer
  pub is_status : s ≡ status_of_execution answer

-- ---- what is made of code

-- some refusal came that has this status, with what it means
pub record IsRefused {E : Type 0} (status_of : E → Status) (Says : E → Type 0) : Type 0 where
  pub refusal : E
  pub says : Says refusal
  pub certain : status_of refusal ≡ status.Refused

-- a command that shows a text of the code of the source
abbrev pub CodeAnswer : (CodeView → List ℕ) → Option (List ℕ) → Option (List ℕ) → Option (List ℕ) → Option (List ℕ) → Status → Type 0
CodeAnswer text source rest old new status.Done = OfRead source rest (λ bytes. (code : CodeView) × IsCodeOf bytes code × Appends old new (text code))
CodeAnswer text source rest old new status.Refused = OfRead source rest (λ bytes. IsRefused status_of_refusal (RefusesSource bytes)) × (new ≡ old)
CodeAnswer text source rest old new status.Memory = new ≡ old
CodeAnswer text source rest old new status.Device = Unit {0}
CodeAnswer text source rest old new status.Fault = ⊥

-- the command `check`: a line `ok`
abbrev pub CheckAnswer : Option (List ℕ) → Option (List ℕ) → Option (List ℕ) → Option (List ℕ) → Status → Type 0
CheckAnswer = CodeAnswer (λ _. codes "ok" ++ 10 ∷ [])

-- the command `words`
abbrev pub WordsAnswer : Option (List ℕ) → Option (List ℕ) → Option (List ℕ) → Option (List ℕ) → Status → Type 0
WordsAnswer = CodeAnswer words_of

-- ---- replays

-- the settings were out of range, or the source, its input, the entry or the schedule were refused
abbrev pub RefusesAsked : List ℤ → Schedule → Option (List ℕ) → Option (List ℕ) → Type 0
RefusesAsked input asked source rest = (AreInRange asked.settings → ⊥) ⊎ OfRead source rest (λ bytes. IsRefused status_of_no_trace (RefusesReplay bytes input asked))

-- the text that is shown of a replay
abbrev pub IsShown : Shown → Replayed → List ℕ → Type 0
IsShown shown.Trace r text = text ≡ trace_text r.told.trace
IsShown shown.Events r text = text ≡ told_listing r.names.items r.told
IsShown shown.Picture r text = IsPicture r.names.items r.told text
IsShown shown.Table r text = text ≡ timeline_table r.names.items r.told

-- the command `replay`
abbrev pub ReplayAnswer : List ℤ → Schedule → Option (List ℕ) → Option (List ℕ) → Option (List ℕ) → Option (List ℕ) → Status → Type 0
ReplayAnswer input asked source rest old new status.Done = OfRead source rest (λ bytes. (r : Replayed) × IsReplayOf bytes input asked r × (text : List ℕ) × IsShown asked.shown r text × Appends old new text)
ReplayAnswer input asked source rest old new status.Refused = RefusesAsked input asked source rest × (new ≡ old)
ReplayAnswer input asked source rest old new status.Memory = new ≡ old
ReplayAnswer input asked source rest old new status.Device = Unit {0}
ReplayAnswer input asked source rest old new status.Fault = ⊥

-- ---- advice

-- code of the source, and what was seen of the loops that it opens on an input within so many words
pub record IsAdvised (source : List ℕ) (input : List ℤ) (steps : ℕ) (a : Advised) : Type 0 where
  pub code : IsCodeOf source a.code
  pub advice : IsAdvice a.code (opening_machine a.code input) steps a.advice

-- there is code of the source
abbrev pub HasCode : List ℕ → Type 0
HasCode source = (code : CodeView) × IsCodeOf source code

-- the command `advise`: some text is shown of a source that has code; of that text nothing is said
abbrev pub AdviceAnswer : List ℤ → Option (List ℕ) → Option (List ℕ) → Option (List ℕ) → Option (List ℕ) → Status → Type 0
AdviceAnswer input source rest old new status.Done = OfRead source rest (λ bytes. HasCode bytes × ((text : List ℕ) × Appends old new text))
AdviceAnswer input source rest old new status.Refused = OfRead source rest (λ bytes. IsRefused status_of_refusal (RefusesRun bytes input)) × (new ≡ old)
AdviceAnswer input source rest old new status.Memory = new ≡ old
AdviceAnswer input source rest old new status.Device = Unit {0}
AdviceAnswer input source rest old new status.Fault = ⊥
