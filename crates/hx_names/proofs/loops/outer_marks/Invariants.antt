use Rattle.std.proofs.Common.{◌≡◌, false, map, take}
use Rattle.std.specs.Prelude.{flat_map}
use Rattle.hx_tree.specs.View.{item_of}
use Rattle.hx_tree.specs.Meaning.{item_functions}
use Rattle.hx_names.specs.Lines.{parts_marks}
use Rattle.hx_names.proofs.loops.outer_marks.Given as goal

abbrev pub invariant-loop-item : goal.invariant-loop-item
invariant-loop-item l =
    l.outer.items ≡ flat_map (λ f. parts_marks f.body false) (flat_map item_functions (map item_of (take l.item-index l.item-items)))
