use Rattle.std.proofs.Common.{◌≡◌, drop, map}
use Rattle.hx_tree.specs.View.{name_of}
use Rattle.hx_tree.specs.Meaning.{texts_of}
use Rattle.hx_tree.specs.Accepted.{is_among}
use Rattle.hx_check.proofs.function.is_among.Given as goal

abbrev pub invariant-loop-x : goal.invariant-loop-x
invariant-loop-x l =
    is_among l.text (texts_of (map name_of l.names)) ≡ is_among l.text (texts_of (map name_of (drop l.x-index l.names)))
