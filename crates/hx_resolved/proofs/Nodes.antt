-- Resolved nodes that hold a list of nodes.
use Rattle.std.proofs.Common.{Global, ◌≡◌, ℕ, map, refl, ap, ◌∙◌}
use Rattle.std.specs.Prelude.{Vec}
use Rattle.hx_tree.specs.declared.token.Pos.{Pos}
use Rattle.hx_resolved.specs.declared.program.Expr.{Expr, Row_of-Expr, end_of-Expr, more_of-Expr, items-the_row-Expr, items_hidden-the_row-Expr-0}
use Rattle.hx_resolved.specs.declared.program.Expr.TheBlock.{hidden-the_row-Expr-0}
use Rattle.hx_resolved.specs.declared.program.Expr.TheVariants as expr
use Rattle.hx_resolved.specs.declared.program.Stmt.{Stmt, Row_of-Stmt, end_of-Stmt, more_of-Stmt, items-the_row-Stmt, items_hidden-the_row-Stmt-0}
use Rattle.hx_resolved.specs.declared.program.Stmt.TheBlock.{hidden-the_row-Stmt-0}
use Rattle.hx_resolved.specs.declared.program.Stmt.TheVariants as stmt
use Rattle.hx_resolved.specs.Resolved as resolved
use Rattle.hx_resolved.specs.Views.{resolved_expr, resolved_exprs, resolved_stmt, resolved_stmts}

exprs_are : {m : _} (row : Row_of-Expr m) → resolved_exprs row ≡ resolved.exprs (map resolved_expr (items-the_row-Expr m row))
exprs_are end_of-Expr = refl
exprs_are (more_of-Expr e row) = ap (λ es. resolved.expr_and (resolved_expr e) es) (exprs_are row)

stmts_are : {m : _} (row : Row_of-Stmt m) → resolved_stmts row ≡ resolved.stmts (map resolved_stmt (items-the_row-Stmt m row))
stmts_are end_of-Stmt = refl
stmts_are (more_of-Stmt s row) = ap (λ ss. resolved.stmt_and (resolved_stmt s) ss) (stmts_are row)

pub call_is : (f : ℕ) (pos : Pos) (es : Vec Expr Global) → resolved_expr (expr.Call f pos es) ≡ resolved.Call f pos (resolved.exprs (map resolved_expr es.items))
call_is f pos es =
    ap (λ es'. resolved.Call f pos es') (exprs_are (hidden-the_row-Expr-0 es) ∙ ap (λ l. resolved.exprs (map resolved_expr l)) (items_hidden-the_row-Expr-0 es))

pub block_is : (ss : Vec Stmt Global) → resolved_stmt (stmt.Block ss) ≡ resolved.Block (resolved.stmts (map resolved_stmt ss.items))
block_is ss =
    ap (λ ss'. resolved.Block ss') (stmts_are (hidden-the_row-Stmt-0 ss) ∙ ap (λ l. resolved.stmts (map resolved_stmt l)) (items_hidden-the_row-Stmt-0 ss))
