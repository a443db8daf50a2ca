-- What an execution reads, runs and writes.
use Rattle.std.specs.Prelude.{◌≡◌, ℕ, ◌+◌, ◌<◌, ◌≤◌, ℤ, if◌then◌else◌, List, [], ◌++◌, length, take, Option, Result, Ok, Err}
use Rattle.std.specs.Io.KnownBytes.{Appends, Consumes, IsAtEnd}
use Rattle.hx_tree.specs.declared.limits.TheConstants.{SOURCE_LIMIT}
use Rattle.hx_tree.specs.declared.outcome.End.{End}
use Rattle.hx_tree.specs.declared.outcome.Finish.{Finish}
use Rattle.hx_tree.specs.declared.outcome.Settings.{Settings}
use Rattle.hx_device.specs.declared.reading.ReadError.{ReadError}
use Rattle.hx_device.specs.declared.reading.ReadError.TheVariants as reading
use Rattle.hx_tree.specs.Tree.{Program}
use Rattle.hx_stats.specs.Report.{report_of}
use Rattle.hx_stats.specs.Globals.{globals_text}
use Rattle.hx_run.specs.declared.showing.Tail.{Tail}
use Rattle.hx_run.specs.declared.executing.Mode.{Mode}
use Rattle.hx_run.specs.declared.executing.Mode.TheVariants.{Run, Plain}
use Rattle.hx_run.specs.declared.executing.Done.{Done}
use Rattle.hx_run.specs.declared.executing.Done.TheVariants.{Finished, NotEnded}
use Rattle.hx_run.specs.declared.refusal.Refusal.{Refusal}
use Rattle.hx_run.specs.declared.refusal.Refusal.TheVariants as refusal
use Rattle.hx_run.specs.declared.running.PlainRan.TheVariants.{More}
use Rattle.hx_run.specs.Headline.{AreInRange, EndsWithin, IsFinishOf, IsPlainRanOf, RefusesRun}

-- ---- devices

-- how often a source has failed in a call with this answer
abbrev pub failed_read : Refusal → ℕ
failed_read refusal.ReadFailed = 1
failed_read _ = 0

abbrev pub failed_reads : {A : Type 0} → Result A Refusal → ℕ
failed_reads (Ok x) = 0
failed_reads (Err e) = failed_read e

-- how often an output has
abbrev pub failed_write : Refusal → ℕ
failed_write refusal.WriteFailed = 1
failed_write _ = 0

abbrev pub failed_writes : {A : Type 0} → Result A Refusal → ℕ
failed_writes (Ok x) = 0
failed_writes (Err e) = failed_write e

-- the bytes that were read of a source: all that it had, or its first 65,537
pub record IsReadOf (source rest : Option (List ℕ)) (bytes : List ℕ) : Type 0 where
  pub few : length bytes ≤ SOURCE_LIMIT + 1
  pub first : Consumes source rest bytes
  pub whole : length bytes < SOURCE_LIMIT + 1 → IsAtEnd rest

-- this holds of the bytes that were read
pub record OfRead (source rest : Option (List ℕ)) (Says : List ℕ → Type 0) : Type 0 where
  pub bytes : List ℕ
  pub is_read : IsReadOf source rest bytes
  pub says : Says bytes

-- a reading fails with the device, or for want of memory
abbrev pub IsOfReading : Refusal → Type 0
IsOfReading refusal.ReadFailed = Unit {0}
IsOfReading refusal.Memory = Unit {0}
IsOfReading _ = ⊥

-- ---- what is written of a finish

-- its report, where it is asked for, and then a line for each global of its program, where these are
abbrev pub tail_of : Tail → Program → Finish → List ℕ
tail_of t p f = (if t.stats then report_of f else []) ++ (if t.globals then globals_text p f.outcome.globals.items else [])

-- its text, and behind that what was asked for
abbrev pub told : Tail → Program → Finish → List ℕ
told t p f = f.outcome.text.items ++ tail_of t p f

-- a finish of a program was written
abbrev pub IsShown : Tail → Program → Finish → Option (List ℕ) → Option (List ℕ) → Done → Type 0
IsShown t p f old new (Finished e) = (f.outcome.end ≡ e) × Appends old new (told t p f)
IsShown t p f old new NotEnded = ⊥

-- it wasn't: the output failed behind a beginning, or there was no memory for what stands behind the text, and nothing is written
abbrev pub RefusesToShow : Tail → Program → Finish → Option (List ℕ) → Option (List ℕ) → Refusal → Type 0
RefusesToShow t p f old new refusal.WriteFailed = (n : ℕ) × Appends old new (take n (told t p f))
RefusesToShow t p f old new refusal.Memory = new ≡ old
RefusesToShow t p f old new _ = ⊥

-- ---- executions

abbrev pub asked_tail : Mode → Tail
asked_tail (Run t) = t
asked_tail (Plain steps t) = t

-- in mode Plain a finish is reached within the steps
abbrev pub IsInTime : Mode → List ℕ → List ℤ → Finish → Type 0
IsInTime (Run t) bytes input f = Unit {0}
IsInTime (Plain steps t) bytes input f = EndsWithin bytes input steps f

-- a finish of these bytes and this input was written, with this end
pub record IsToldOf (mode : Mode) (bytes : List ℕ) (input : List ℤ) (e : End) (old new : Option (List ℕ)) : Type 0 where
  pub finish : Finish
  pub is_finish : IsFinishOf bytes input finish
  pub in_time : IsInTime mode bytes input finish
  pub ends : finish.outcome.end ≡ e
  pub writes : Appends old new (told (asked_tail mode) is_finish.program finish)

-- a beginning of what is written of a finish of these bytes and this input
pub record IsBegunOf (mode : Mode) (bytes : List ℕ) (input : List ℤ) (old new : Option (List ℕ)) : Type 0 where
  pub finish : Finish
  pub is_finish : IsFinishOf bytes input finish
  pub in_time : IsInTime mode bytes input finish
  pub count : ℕ
  pub writes : Appends old new (take count (told (asked_tail mode) is_finish.program finish))

-- the run isn't over after its steps
abbrev pub IsUnended : Mode → List ℤ → List ℕ → Type 0
IsUnended (Run t) input bytes = ⊥
IsUnended (Plain steps t) input bytes = IsPlainRanOf bytes input steps More

-- what an execution has done that isn't refused
abbrev pub IsDone : Mode → List ℤ → Option (List ℕ) → Option (List ℕ) → Option (List ℕ) → Option (List ℕ) → Done → Type 0
IsDone mode input source rest old new (Finished e) = OfRead source rest (λ bytes. IsToldOf mode bytes input e old new)
IsDone mode input source rest old new NotEnded = OfRead source rest (IsUnended mode input) × (new ≡ old)

-- the settings are looked at in mode Run alone
abbrev pub RefusesSettings : Mode → Settings → Type 0
RefusesSettings (Run t) settings = AreInRange settings → ⊥
RefusesSettings (Plain steps t) settings = ⊥

-- what a refusal says: settings are refused before anything is read; a failed output has taken a beginning, and after every other
-- refusal nothing is written
abbrev pub Refuses : Mode → List ℤ → Option (List ℕ) → Option (List ℕ) → Option (List ℕ) → Option (List ℕ) → Refusal → Type 0
Refuses mode input source rest old new refusal.Settings = (rest ≡ source) × (new ≡ old)
Refuses mode input source rest old new refusal.ReadFailed = new ≡ old
Refuses mode input source rest old new refusal.Memory = new ≡ old
Refuses mode input source rest old new refusal.WriteFailed = OfRead source rest (λ bytes. IsBegunOf mode bytes input old new)
Refuses mode input source rest old new e = OfRead source rest (λ bytes. RefusesRun bytes input e) × (new ≡ old)

-- ---- what the refusals of a device are

abbrev pub refusal_of_reading : ReadError → Refusal
refusal_of_reading reading.Failed = refusal.ReadFailed
refusal_of_reading reading.Memory = refusal.Memory
