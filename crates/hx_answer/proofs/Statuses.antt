-- Which statuses tell of a failed device.
use Rattle.std.proofs.Common.{◌≡◌, ℕ, ◌+◌, Bool, true, false, if◌then◌else◌, List, ℤ, Result, Ok, Err, refl, sym}
use Rattle.hx_tree.specs.declared.outcome.End.TheVariants.{Normal, Fault}
use Rattle.hx_run.specs.declared.executing.Done.{Done}
use Rattle.hx_run.specs.declared.executing.Done.TheVariants.{Finished, NotEnded}
use Rattle.hx_run.specs.declared.refusal.Refusal.{Refusal}
use Rattle.hx_run.specs.declared.refusal.Refusal.TheVariants as refusal
use Rattle.hx_run.specs.Refusals.{is_memory}
use Rattle.hx_run.specs.Headline.{RefusesRun}
use Rattle.hx_run.specs.Executions.{failed_read, failed_reads, failed_write, failed_writes, IsOfReading}
use Rattle.hx_answer.specs.declared.status.Status.TheVariants as status
use Rattle.hx_answer.specs.Statuses.{status_of_execution, status_of_refusal}
use Rattle.hx_answer.specs.Answers.{failed_devices}

by_memory : (m : Bool) → failed_devices (if m then status.Memory else status.Refused) ≡ 0
by_memory true = refl
by_memory false = refl

pub devices_of_refusal : (e : Refusal) → failed_read e + failed_write e ≡ failed_devices (status_of_refusal e)
devices_of_refusal (refusal.Lex e) = sym (by_memory (is_memory (refusal.Lex e)))
devices_of_refusal (refusal.Parse e) = sym (by_memory (is_memory (refusal.Parse e)))
devices_of_refusal (refusal.Check e) = sym (by_memory (is_memory (refusal.Check e)))
devices_of_refusal (refusal.Lower e) = sym (by_memory (is_memory (refusal.Lower e)))
devices_of_refusal refusal.Pool = refl
devices_of_refusal refusal.Settings = refl
devices_of_refusal refusal.InputTooLong = refl
devices_of_refusal refusal.Memory = refl
devices_of_refusal refusal.ReadFailed = refl
devices_of_refusal refusal.WriteFailed = refl
devices_of_refusal refusal.InputText = refl

pub devices_of_execution : (r : Result Done Refusal) → failed_reads r + failed_writes r ≡ failed_devices (status_of_execution r)
devices_of_execution (Ok (Finished (Normal v))) = refl
devices_of_execution (Ok (Finished (Fault f))) = refl
devices_of_execution (Ok NotEnded) = refl
devices_of_execution (Err e) = devices_of_refusal e

-- a refusal of a reading
pub devices_of_reading : (e : Refusal) → IsOfReading e → failed_devices (status_of_refusal e) ≡ failed_read e
devices_of_reading refusal.ReadFailed h = refl
devices_of_reading refusal.Memory h = refl
devices_of_reading (refusal.Lex e) h = absurd h
devices_of_reading (refusal.Parse e) h = absurd h
devices_of_reading (refusal.Check e) h = absurd h
devices_of_reading (refusal.Lower e) h = absurd h
devices_of_reading refusal.Pool h = absurd h
devices_of_reading refusal.Settings h = absurd h
devices_of_reading refusal.InputTooLong h = absurd h
devices_of_reading refusal.WriteFailed h = absurd h
devices_of_reading refusal.InputText h = absurd h

-- no refusal of a run or of a source is a device's
pub run_fails_no_device : (bytes : List ℕ) (input : List ℤ) (e : Refusal) → RefusesRun bytes input e → failed_devices (status_of_refusal e) ≡ 0
run_fails_no_device bytes input (refusal.Lex e) h = by_memory (is_memory (refusal.Lex e))
run_fails_no_device bytes input (refusal.Parse e) h = by_memory (is_memory (refusal.Parse e))
run_fails_no_device bytes input (refusal.Check e) h = by_memory (is_memory (refusal.Check e))
run_fails_no_device bytes input (refusal.Lower e) h = by_memory (is_memory (refusal.Lower e))
run_fails_no_device bytes input refusal.Pool h = refl
run_fails_no_device bytes input refusal.Settings h = refl
run_fails_no_device bytes input refusal.InputTooLong h = refl
run_fails_no_device bytes input refusal.Memory h = refl
run_fails_no_device bytes input refusal.ReadFailed h = absurd h
run_fails_no_device bytes input refusal.WriteFailed h = absurd h
run_fails_no_device bytes input refusal.InputText h = refl
