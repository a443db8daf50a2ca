use Rattle.std.proofs.Common.{◌≡◌, ◌++◌, map, drop}
use Rattle.hx_tree.specs.Tree.{parts}
use Rattle.hx_tree.specs.View.{part_of}
use Rattle.hx_names.specs.Lines.{parts_marks}
use Rattle.hx_names.proofs.loops.+statements.Given as goal

abbrev pub invariant-put_parts-loop-part : goal.invariant-put_parts-loop-part
invariant-put_parts-loop-part l =
    l.outer.items ++ parts_marks (parts (map part_of (drop l.part-index l.body))) l.is_inside
    ≡ l.initial.outer.items ++ parts_marks (parts (map part_of l.body)) l.is_inside
