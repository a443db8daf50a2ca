use Rattle.std.proofs.Common.{◌≡◌, ◌++◌, map, take}
use Rattle.hx_tree.specs.Meaning.{texts_of}
use Rattle.hx_tree.specs.View.{name_of}
use Rattle.hx_names.proofs.locals.put_params.Given as goal

abbrev pub invariant-loop-name : goal.invariant-loop-name
invariant-loop-name l =
    map (λ r. r.now) l.names.items ≡ map (λ r. r.now) l.initial.names.items ++ texts_of (map name_of (take l.name-index l.params))
