use Rattle.std.proofs.Common.{◌≡◌, [], drop, map}
use Rattle.hx_tree.specs.View.{item_of}
use Rattle.hx_resolved.specs.Views.{resolved_functions_in}
use Rattle.hx_check.specs.Views.{symbols_in}
use Rattle.hx_check.specs.Reading.{check_functions}
use Rattle.hx_check.proofs.function.functions.Given as goal

abbrev pub invariant-loop-item : goal.invariant-loop-item
invariant-loop-item l =
    check_functions (map item_of l.items) (symbols_in l.symbols) []
    ≡ check_functions (map item_of (drop l.item-index l.items)) (symbols_in l.symbols) (resolved_functions_in l.all)
