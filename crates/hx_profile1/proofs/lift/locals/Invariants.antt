use Rattle.std.proofs.Common.{◌≡◌, map}
use Rattle.hx_tree.specs.View as made
use Rattle.hx_profile1.specs.View as given
use Rattle.hx_profile1.specs.Lifted.{lift_local}
use Rattle.hx_profile1.proofs.lift.locals.Given as goal

abbrev pub invariant-loop-d : goal.invariant-loop-d
invariant-loop-d l = map made.local_of l.all.items ≡ map lift_local (map given.local_of l.yielded)
