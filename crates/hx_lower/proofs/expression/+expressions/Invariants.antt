use Rattle.std.proofs.Common.{map, drop}
use Rattle.hx_resolved.specs.Views.{resolved_expr}
use Rattle.hx_lower.proofs.Puts.{ArePut}
use Rattle.hx_lower.proofs.expression.+expressions.Given as goal

abbrev pub invariant-put_exprs-loop-e : goal.invariant-put_exprs-loop-e
invariant-put_exprs-loop-e l = ArePut (map resolved_expr l.es) (map resolved_expr (drop l.e-index l.es)) l.version l.initial.above l.above l.initial.draft l.draft
