use Rattle.std.proofs.Common.{◌≤◌, drop, map}
use Rattle.hx_tree.specs.Tree.{exprs}
use Rattle.hx_tree.specs.View.{expr_of}
use Rattle.hx_tree.specs.Height.{heights}
use Rattle.hx_check.proofs.height.+expression_height.Given as goal

abbrev pub invariant-exprs_fit-loop-e : goal.invariant-exprs_fit-loop-e
invariant-exprs_fit-loop-e l =
    (heights (exprs (map expr_of (drop l.e-index l.es))) ≤ l.room → heights (exprs (map expr_of l.es)) ≤ l.room)
    × (heights (exprs (map expr_of (drop l.e-index l.es))) ≤ heights (exprs (map expr_of l.es)))
