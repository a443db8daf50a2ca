use Rattle.std.proofs.Common.{◌≡◌, [], drop, map}
use Rattle.hx_tree.specs.View.{local_of}
use Rattle.hx_resolved.specs.Views.{resolved_simples_in}
use Rattle.hx_check.specs.Views.{symbols_in, known_of}
use Rattle.hx_check.specs.Reading.{check_locals}
use Rattle.hx_check.proofs.statement.local_decls.Given as goal

abbrev pub invariant-loop-d : goal.invariant-loop-d
invariant-loop-d l =
    check_locals (map local_of l.ds) (symbols_in l.symbols) (known_of l.initial.locals) []
    ≡ check_locals (map local_of (drop l.d-index l.ds)) (symbols_in l.symbols) (known_of l.locals) (resolved_simples_in l.all)
