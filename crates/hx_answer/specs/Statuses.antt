-- The exit status of a command, by how it ends.
use Rattle.std.specs.Prelude.{ℕ, if◌then◌else◌, Result, Ok, Err}
use Rattle.hx_tree.specs.declared.outcome.End.{End}
use Rattle.hx_tree.specs.declared.outcome.End.TheVariants.{Normal, Fault}
use Rattle.hx_trace.specs.declared.trace.TraceError.TheVariants as schedule
use Rattle.hx_run.specs.declared.refusal.Refusal.{Refusal}
use Rattle.hx_run.specs.declared.executing.Done.{Done}
use Rattle.hx_run.specs.declared.executing.Done.TheVariants.{Finished, NotEnded}
use Rattle.hx_run.specs.Refusals.{is_memory, is_of_device}
use Rattle.hx_answer.specs.declared.replaying.NoTrace.{NoTrace}
use Rattle.hx_answer.specs.declared.replaying.NoTrace.TheVariants as no_trace
use Rattle.hx_answer.specs.declared.status.Status.{Status}
use Rattle.hx_answer.specs.declared.status.Status.TheVariants as status

abbrev pub exit_status : Status → ℕ
exit_status status.Done = 0
exit_status status.Fault = 1
exit_status status.Refused = 2
exit_status status.Memory = 3
exit_status status.Device = 4

-- a run that ends normally is done, whatever main returned
abbrev pub status_of_end : End → Status
status_of_end (Normal returned) = status.Done
status_of_end (Fault fault) = status.Fault

abbrev pub status_of_refusal : Refusal → Status
status_of_refusal e = if is_memory e then status.Memory else (if is_of_device e then status.Device else status.Refused)

abbrev pub status_of_execution : Result Done Refusal → Status
status_of_execution (Ok (Finished e)) = status_of_end e
status_of_execution (Ok NotEnded) = status.Refused
status_of_execution (Err e) = status_of_refusal e

abbrev pub status_of_no_trace : NoTrace → Status
status_of_no_trace (no_trace.Refused e) = status_of_refusal e
status_of_no_trace no_trace.NoEntry = status.Refused
status_of_no_trace no_trace.NotEnded = status.Refused
status_of_no_trace (no_trace.Schedule schedule.NoSuchWorker) = status.Refused
status_of_no_trace (no_trace.Schedule schedule.Memory) = status.Memory
