use Rattle.std.proofs.Common.{◌≡◌, map}
use Rattle.hx_tree.specs.View as made
use Rattle.hx_profile1.specs.View as given
use Rattle.hx_profile1.specs.Lifted.{lift_expr}
use Rattle.hx_profile1.proofs.lift.+expressions.Given as goal

abbrev pub invariant-arguments-loop-e : goal.invariant-arguments-loop-e
invariant-arguments-loop-e l = map made.expr_of l.all.items ≡ map lift_expr (map given.expr_of l.yielded)
