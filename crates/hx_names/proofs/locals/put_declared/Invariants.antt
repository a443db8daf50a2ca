use Rattle.std.proofs.Common.{◌≡◌, ◌++◌, map, take}
use Rattle.hx_tree.specs.Meaning.{texts_of}
use Rattle.hx_tree.specs.View.{local_of}
use Rattle.hx_names.specs.Names.{declared_names}
use Rattle.hx_names.proofs.locals.put_declared.Given as goal

abbrev pub invariant-loop-local : goal.invariant-loop-local
invariant-loop-local l =
    map (λ r. r.now) l.names.items ≡ map (λ r. r.now) l.initial.names.items ++ texts_of (declared_names (map local_of (take l.local-index l.locals)))
