use Rattle.std.proofs.Common.{◌≡◌, [], drop, take, map}
use Rattle.hx_tree.specs.View.{name_of}
use Rattle.hx_tree.specs.Meaning.{texts_of}
use Rattle.hx_check.specs.Reading.{check_distinct}
use Rattle.hx_check.proofs.function.check_distinct.Given as goal

abbrev pub invariant-loop-i : goal.invariant-loop-i
invariant-loop-i l =
    check_distinct (map name_of l.names) []
    ≡ check_distinct (map name_of (drop l.i l.names)) (texts_of (map name_of (take l.i l.names)))
