use Rattle.std.proofs.Common.{◌≡◌, ◌≤◌, drop, map, max, min}
use Rattle.hx_tree.specs.Tree.{exprs}
use Rattle.hx_tree.specs.View.{expr_of}
use Rattle.hx_tree.specs.Need.{needs}
use Rattle.hx_check.specs.declared.need.TheConstants.{MANY}
use Rattle.hx_check.proofs.need.+expression_need.Given as goal

abbrev pub invariant-needs-loop-e : goal.invariant-needs-loop-e
invariant-needs-loop-e l =
    (min (max l.most (needs (exprs (map expr_of (drop l.e-index l.es))) l.e-index)) MANY ≡ min (needs (exprs (map expr_of l.es)) 0) MANY)
    × (l.before ≡ l.e-index) × (l.most ≤ MANY)
