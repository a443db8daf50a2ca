use Rattle.std.proofs.Common.{◌≡◌, map, take, sum_by}
use Rattle.std.specs.Prelude.{flat_map}
use Rattle.hx_tree.specs.Accepted.{shape_words}
use Rattle.hx_tree.specs.Meaning.{item_globals}
use Rattle.hx_tree.specs.View.{item_of}
use Rattle.hx_names.specs.Names.{named, place, global_names}
use Rattle.hx_names.proofs.names.global_names.Given as goal

abbrev pub invariant-loop-item : goal.invariant-loop-item
invariant-loop-item l =
    (map named l.names.items ≡ global_names (flat_map item_globals (map item_of (take l.item-index l.item-items))) 0)
    × (l.base ≡ place (sum_by (λ g. shape_words g.shape) (flat_map item_globals (map item_of (take l.item-index l.item-items)))))
