use Rattle.std.proofs.Common.{◌≡◌, map}
use Rattle.hx_tree.specs.View as made
use Rattle.hx_profile1.specs.View as given
use Rattle.hx_profile1.specs.Lifted.{lift_item}
use Rattle.hx_profile1.proofs.lift.items.Given as goal

abbrev pub invariant-loop-i : goal.invariant-loop-i
invariant-loop-i l = map made.item_of l.all.items ≡ map lift_item (map given.item_of l.yielded)
