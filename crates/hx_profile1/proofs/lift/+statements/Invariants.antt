use Rattle.std.proofs.Common.{◌≡◌, map}
use Rattle.hx_tree.specs.View as made
use Rattle.hx_profile1.specs.View as given
use Rattle.hx_profile1.specs.Lifted.{lift_part}
use Rattle.hx_profile1.proofs.lift.+statements.Given as goal

abbrev pub invariant-parts-loop-p : goal.invariant-parts-loop-p
invariant-parts-loop-p l = map made.part_of l.all.items ≡ map lift_part (map given.part_of l.yielded)
