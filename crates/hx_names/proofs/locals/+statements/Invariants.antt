use Rattle.std.proofs.Common.{◌≡◌, ◌++◌, map, drop}
use Rattle.hx_tree.specs.Tree.{parts}
use Rattle.hx_tree.specs.Meaning.{texts_of}
use Rattle.hx_tree.specs.View.{part_of}
use Rattle.hx_names.specs.Names.{parts_names}
use Rattle.hx_names.proofs.locals.+statements.Given as goal

abbrev pub invariant-put_parts-loop-part : goal.invariant-put_parts-loop-part
invariant-put_parts-loop-part l =
    map (λ r. r.now) l.names.items ++ texts_of (parts_names (parts (map part_of (drop l.part-index l.body))))
    ≡ map (λ r. r.now) l.initial.names.items ++ texts_of (parts_names (parts (map part_of l.body)))
