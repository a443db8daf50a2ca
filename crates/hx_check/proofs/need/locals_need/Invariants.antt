use Rattle.std.proofs.Common.{◌≡◌, ◌≤◌, drop, map, max, min}
use Rattle.hx_tree.specs.View.{local_of}
use Rattle.hx_tree.specs.Need.{locals_need}
use Rattle.hx_check.specs.declared.need.TheConstants.{MANY}
use Rattle.hx_check.proofs.need.locals_need.Given as goal

abbrev pub invariant-loop-d : goal.invariant-loop-d
invariant-loop-d l =
    (min (max l.most (locals_need (map local_of (drop l.d-index l.ds)))) MANY ≡ min (locals_need (map local_of l.ds)) MANY) × (l.most ≤ MANY)
