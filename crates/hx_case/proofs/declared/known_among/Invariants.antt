use Rattle.std.proofs.Common.{◌≡◌, map, drop}
use Rattle.hx_tree.specs.View.{global_of}
use Rattle.hx_case.specs.Names.{Global, named}
use Rattle.hx_case.proofs.declared.known_among.Given as goal

abbrev pub invariant-loop-global : goal.invariant-loop-global
invariant-loop-global l =
    named l.name (map Global (map global_of l.fn.globals)) ≡ named l.name (map Global (map global_of (drop l.global-index l.fn.globals)))
