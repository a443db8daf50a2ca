use Rattle.std.proofs.Common.{◌≤◌, drop, map}
use Rattle.hx_tree.specs.View.{item_of}
use Rattle.hx_tree.specs.Height.{greatest, item_height}
use Rattle.hx_check.proofs.height.items_fit.Given as goal

abbrev pub invariant-loop-item : goal.invariant-loop-item
invariant-loop-item l =
    (greatest item_height (map item_of (drop l.item-index l.items)) ≤ l.room → greatest item_height (map item_of l.items) ≤ l.room)
    × (greatest item_height (map item_of (drop l.item-index l.items)) ≤ greatest item_height (map item_of l.items))
