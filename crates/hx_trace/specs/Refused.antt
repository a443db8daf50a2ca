-- Refusals and their numbers.
use Rattle.std.specs.Prelude.{ℕ}
use Rattle.hx_trace.specs.declared.trace.TraceError.{TraceError}
use Rattle.hx_trace.specs.declared.trace.TraceError.TheVariants.{NoSuchWorker, Memory}

abbrev pub number_of : TraceError → ℕ
number_of NoSuchWorker = 40
number_of Memory = 41
