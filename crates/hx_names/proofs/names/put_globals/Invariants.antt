use Rattle.std.proofs.Common.{◌≡◌, ◌+◌, ◌++◌, map, take, sum_by}
use Rattle.hx_tree.specs.Accepted.{shape_words}
use Rattle.hx_tree.specs.View.{global_of}
use Rattle.hx_names.specs.Names.{named, place, global_names}
use Rattle.hx_names.proofs.names.put_globals.Given as goal

abbrev pub invariant-loop-global : goal.invariant-loop-global
invariant-loop-global l =
    (map named l.names.items ≡ map named l.initial.names.items ++ global_names (map global_of (take l.global-index l.globals)) l.base)
    × (l.word ≡ place (l.base + sum_by (λ g. shape_words g.shape) (map global_of (take l.global-index l.globals))))
