use Rattle.std.proofs.Common.{◌≤◌, drop, map}
use Rattle.hx_tree.specs.Tree.{parts}
use Rattle.hx_tree.specs.View.{part_of}
use Rattle.hx_tree.specs.Height.{parts_height}
use Rattle.hx_check.proofs.height.+statement_height.Given as goal

abbrev pub invariant-parts_fit-loop-p : goal.invariant-parts_fit-loop-p
invariant-parts_fit-loop-p l =
    (parts_height (parts (map part_of (drop l.p-index l.ps))) ≤ l.room → parts_height (parts (map part_of l.ps)) ≤ l.room)
    × (parts_height (parts (map part_of (drop l.p-index l.ps))) ≤ parts_height (parts (map part_of l.ps)))
