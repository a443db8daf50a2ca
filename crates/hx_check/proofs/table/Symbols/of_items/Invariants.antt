use Rattle.std.proofs.Common.{◌≡◌, drop, map}
use Rattle.hx_tree.specs.View.{item_of}
use Rattle.hx_check.specs.Views.{declared_of}
use Rattle.hx_check.specs.Reading.{declare_items, nothing_declared}
use Rattle.hx_check.proofs.table.Symbols.of_items.Given as goal

abbrev pub invariant-loop-item : goal.invariant-loop-item
invariant-loop-item l =
    declare_items (map item_of l.items) nothing_declared ≡ declare_items (map item_of (drop l.item-index l.items)) (declared_of l.symbols)
