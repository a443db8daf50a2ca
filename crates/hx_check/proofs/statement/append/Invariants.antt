use Rattle.std.proofs.Common.{◌≡◌, ◌++◌, map}
use Rattle.hx_resolved.specs.Resolved.{Do}
use Rattle.hx_resolved.specs.Views.{resolved_simple, resolved_stmts_in}
use Rattle.hx_check.proofs.statement.append.Given as goal

abbrev pub invariant-loop-simple : goal.invariant-loop-simple
invariant-loop-simple l = resolved_stmts_in l.out ≡ resolved_stmts_in l.initial.out ++ map Do (map resolved_simple l.yielded)
