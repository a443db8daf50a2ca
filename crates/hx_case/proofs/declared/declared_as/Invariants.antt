use Rattle.std.proofs.Common.{◌≡◌, map, drop}
use Rattle.std.specs.Prelude.{flat_map}
use Rattle.hx_tree.specs.View.{item_of}
use Rattle.hx_case.specs.Names.{declares, named}
use Rattle.hx_case.proofs.declared.declared_as.Given as goal

abbrev pub invariant-loop-item : goal.invariant-loop-item
invariant-loop-item l =
    named l.name (flat_map declares (map item_of l.fn.program.items.items)) ≡ named l.name (flat_map declares (map item_of (drop l.item-index l.fn.program.items.items)))
