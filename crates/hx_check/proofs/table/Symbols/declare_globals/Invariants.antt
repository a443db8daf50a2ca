use Rattle.std.proofs.Common.{◌≡◌, drop, map}
use Rattle.hx_tree.specs.View.{global_of}
use Rattle.hx_check.specs.Views.{declared_of}
use Rattle.hx_check.specs.Reading.{declare_globals}
use Rattle.hx_check.proofs.table.Symbols.declare_globals.Given as goal

abbrev pub invariant-loop-global : goal.invariant-loop-global
invariant-loop-global l =
    declare_globals (map global_of l.globals) (declared_of l.initial.self)
    ≡ declare_globals (map global_of (drop l.global-index l.globals)) (declared_of l.self)
