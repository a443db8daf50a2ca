use Rattle.std.proofs.Common.{◌≡◌, [], drop, map}
use Rattle.hx_tree.specs.Tree.{parts}
use Rattle.hx_tree.specs.View.{part_of}
use Rattle.hx_resolved.specs.Views.{resolved_stmts_in}
use Rattle.hx_check.specs.Views.{symbols_in, known_of}
use Rattle.hx_check.specs.Reading.{check_parts}
use Rattle.hx_check.proofs.statement.+statements.Given as goal

abbrev pub invariant-statements-loop-p : goal.invariant-statements-loop-p
invariant-statements-loop-p l =
    check_parts (parts (map part_of l.ps)) (symbols_in l.symbols) l.here (known_of l.initial.locals) []
    ≡ check_parts (parts (map part_of (drop l.p-index l.ps))) (symbols_in l.symbols) l.here (known_of l.locals) (resolved_stmts_in l.out)
