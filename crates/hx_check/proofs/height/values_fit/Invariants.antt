use Rattle.std.proofs.Common.{◌≤◌, drop, map}
use Rattle.hx_tree.specs.View.{local_of}
use Rattle.hx_check.specs.Measures.{greatest_value}
use Rattle.hx_check.proofs.height.values_fit.Given as goal

abbrev pub invariant-loop-d : goal.invariant-loop-d
invariant-loop-d l =
    (greatest_value (map local_of (drop l.d-index l.ds)) ≤ l.room → greatest_value (map local_of l.ds) ≤ l.room)
    × (greatest_value (map local_of (drop l.d-index l.ds)) ≤ greatest_value (map local_of l.ds))
