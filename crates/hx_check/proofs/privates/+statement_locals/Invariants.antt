use Rattle.std.proofs.Common.{◌≡◌, ◌≤◌, ◌+◌, drop, map, min}
use Rattle.hx_tree.specs.Tree.{parts}
use Rattle.hx_tree.specs.View.{part_of}
use Rattle.hx_tree.specs.Accepted.{parts_locals}
use Rattle.hx_check.specs.declared.privates.TheConstants.{MANY}
use Rattle.hx_check.proofs.privates.+statement_locals.Given as goal

abbrev pub invariant-parts_locals-loop-p : goal.invariant-parts_locals-loop-p
invariant-parts_locals-loop-p l =
    (min (l.all + parts_locals (parts (map part_of (drop l.p-index l.ps)))) MANY ≡ min (parts_locals (parts (map part_of l.ps))) MANY) × (l.all ≤ MANY)
