use Rattle.std.proofs.Common.{map, drop}
use Rattle.hx_resolved.specs.Views.{resolved_function}
use Rattle.hx_lower.proofs.Puts.{FunctionsPut}
use Rattle.hx_lower.proofs.program.put_functions.Given as goal

abbrev pub invariant-loop-f : goal.invariant-loop-f
invariant-loop-f l = FunctionsPut (map resolved_function l.fs) (map resolved_function (drop l.f-index l.fs)) l.globals l.initial.draft l.draft
