use Rattle.std.proofs.Common.{◌≡◌, ◌++◌, map, take}
use Rattle.std.specs.Prelude.{filter_map}
use Rattle.hx_names.specs.Names.{named, carried_name}
use Rattle.hx_names.proofs.names.put_carried.Given as goal

abbrev pub invariant-loop-one : goal.invariant-loop-one
invariant-loop-one l =
    map named l.names.items
    ≡ map named l.initial.names.items ++ filter_map (carried_name (map (λ r. r.now) l.privates.items) l.globals) (take l.one-index l.carried)
