-- What a schedule is replayed on, and what comes of it.
use Rattle.std.specs.Prelude.{◌≡◌, ◌⊎◌, ℕ, ◌-◌, ◌<◌, ◌≤◌, ℤ, List, All, map, nat_lt, if◌then◌else◌}
use Rattle.hx_tree.specs.declared.outcome.Settings.{Settings}
use Rattle.hx_tree.specs.Tree.{Program}
use Rattle.hx_code.specs.Code.{CodeView}
use Rattle.hx_code.specs.Machine.{opening_machine, InputFits}
use Rattle.hx_word.specs.declared.entry.Entry.{Entry}
use Rattle.hx_word.specs.declared.plain.Reached.{Reached}
use Rattle.hx_word.specs.declared.plain.Reached.TheVariants as reached
use Rattle.hx_word.specs.Ran.{ReachedFrom}
use Rattle.hx_frame.specs.declared.frame.Capacities.{Capacities}
use Rattle.hx_run.specs.Headline.{IsCodeOf, RefusesRun}
use Rattle.hx_run.specs.Runs.{RefusesInput}
use Rattle.hx_run.specs.Sources.{IsSpelledAlone}
use Rattle.hx_trace.specs.declared.telling.Called.{Called}
use Rattle.hx_trace.specs.declared.trace.Told.{Told}
use Rattle.hx_trace.specs.declared.trace.TraceError.{TraceError}
use Rattle.hx_trace.specs.declared.trace.TraceError.TheVariants as schedule
use Rattle.hx_trace.specs.Trace.{board_after, events_from, IsTraceOf, ShowsPlain}
use Rattle.hx_names.specs.Names.{named, names}
use Rattle.hx_answer.specs.declared.replaying.NoTrace.{NoTrace}
use Rattle.hx_answer.specs.declared.replaying.NoTrace.TheVariants as no_trace
use Rattle.hx_answer.specs.declared.replaying.Schedule.{Schedule}
use Rattle.hx_answer.specs.declared.replaying.Replayed.{Replayed}

-- ---- digits

-- the number of a digit, '0' to '9' and then 'a' to 'f'
abbrev pub digit : ℕ → ℕ
digit byte = if nat_lt byte 97 then byte - 48 else byte - 87

abbrev pub IsDigit : ℕ → Type 0
IsDigit byte = ((48 ≤ byte) × (byte ≤ 57)) ⊎ ((97 ≤ byte) × (byte ≤ 102))

-- the digit of one of so many workers
abbrev pub IsWorker : ℕ → ℕ → Type 0
IsWorker workers byte = IsDigit byte × (digit byte < workers)

-- 40 means that a byte is no worker's digit, and 41 nothing
abbrev pub RefusesWorkers : Settings → List ℕ → TraceError → Type 0
RefusesWorkers settings digits schedule.NoSuchWorker = All (IsWorker settings.workers) digits → ⊥
RefusesWorkers settings digits schedule.Memory = Unit {0}

-- ---- a region's entry

-- where the run of code on an input comes to that looks for its n-th region, within so many words
abbrev pub Reaches : CodeView → List ℤ → ℕ → ℕ → Reached → Type 0
Reaches code input n steps r = InputFits code input × ReachedFrom code (opening_machine code input) n steps r

abbrev pub RefusesEntry : CodeView → List ℤ → ℕ → ℕ → NoTrace → Type 0
RefusesEntry code input n steps (no_trace.Refused e) = RefusesInput code input e
RefusesEntry code input n steps no_trace.NoEntry = (n ≡ 0) ⊎ Reaches code input n steps reached.Ended
RefusesEntry code input n steps no_trace.NotEnded = Reaches code input n steps reached.More
RefusesEntry code input n steps (no_trace.Schedule e) = ⊥

-- ---- traces

abbrev pub rooms : Settings → Capacities
rooms settings = record { marks = settings.marks; buffer = settings.buffer }

-- a trace is that of the schedule, from this entry of this region, and so are the events
pub record IsFrom (code : CodeView) (region : ℕ) (entry : Entry) (settings : Settings) (digits : List ℕ) (t : Told) : Type 0 where
  pub workers : All (IsWorker settings.workers) digits
  pub is_trace : IsTraceOf (board_after code region entry settings.workers (rooms settings) (map digit digits)) t.trace
  pub plain : ShowsPlain code region entry t.trace
  pub events : t.events.items ≡ events_from code region entry settings.workers (rooms settings) (map digit digits)

-- so are the words of a region called, by the one program that the source spells
pub record AreNamesOf (source : List ℕ) (code : CodeView) (region : ℕ) (called : List Called) : Type 0 where
  pub program : Program
  pub spelled : IsSpelledAlone source program
  pub named : map named called ≡ names program code region

-- a trace is that of the schedule, from the entry of the n-th region of a run of the source on the input, and so are the events; and the names
-- are those of that region
pub record IsReplayOf (source : List ℕ) (input : List ℤ) (asked : Schedule) (r : Replayed) : Type 0 where
  pub code : CodeView
  pub is_code : IsCodeOf source code
  pub region : ℕ
  pub entry : Entry
  pub reaches : Reaches code input asked.nth asked.steps (reached.At region entry)
  pub is_from : IsFrom code region entry asked.settings asked.digits.now r.told
  pub names : AreNamesOf source code region r.names.items

-- code of the source has this entry of its run refused
pub record RefusesEntryOf (source : List ℕ) (input : List ℤ) (n steps : ℕ) (e : NoTrace) : Type 0 where
  pub code : CodeView
  pub is_code : IsCodeOf source code
  pub refuses : RefusesEntry code input n steps e

abbrev pub RefusesReplay : List ℕ → List ℤ → Schedule → NoTrace → Type 0
RefusesReplay source input asked (no_trace.Refused e) = RefusesRun source input e
RefusesReplay source input asked no_trace.NoEntry = RefusesEntryOf source input asked.nth asked.steps no_trace.NoEntry
RefusesReplay source input asked no_trace.NotEnded = RefusesEntryOf source input asked.nth asked.steps no_trace.NotEnded
RefusesReplay source input asked (no_trace.Schedule e) = RefusesWorkers asked.settings asked.digits.now e
