use Rattle.std.proofs.Common.{◌≡◌, ◌≤◌, drop, map, max, min}
use Rattle.hx_tree.specs.Tree.{parts}
use Rattle.hx_tree.specs.View.{part_of}
use Rattle.hx_tree.specs.Need.{parts_need}
use Rattle.hx_check.specs.declared.need.TheConstants.{MANY}
use Rattle.hx_check.proofs.need.+statement_need.Given as goal

abbrev pub invariant-parts_need-loop-p : goal.invariant-parts_need-loop-p
invariant-parts_need-loop-p l =
    (min (max l.most (parts_need (parts (map part_of (drop l.p-index l.ps))))) MANY ≡ min (parts_need (parts (map part_of l.ps))) MANY) × (l.most ≤ MANY)
