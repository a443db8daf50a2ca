use Rattle.std.proofs.Common.{◌≡◌, [], drop, map}
use Rattle.hx_tree.specs.Tree.{exprs}
use Rattle.hx_tree.specs.View.{expr_of}
use Rattle.hx_resolved.specs.Views.{resolved_exprs_in}
use Rattle.hx_check.specs.Views.{symbols_in, scopes_of}
use Rattle.hx_check.specs.Reading.{check_exprs}
use Rattle.hx_check.proofs.expression.+expressions.Given as goal

abbrev pub invariant-arguments-loop-e : goal.invariant-arguments-loop-e
invariant-arguments-loop-e l =
    check_exprs (exprs (map expr_of l.es)) (symbols_in l.symbols) (scopes_of l.scopes) []
    ≡ check_exprs (exprs (map expr_of (drop l.e-index l.es))) (symbols_in l.symbols) (scopes_of l.scopes) (resolved_exprs_in l.all)
