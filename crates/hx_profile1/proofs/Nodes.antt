-- Nodes of profile 1 that hold a list of nodes, as trees; and such lists of today.
use Rattle.std.proofs.Common.{Global, ◌≡◌, List, [], ◌∷◌, map, refl, ap, ◌∙◌}
use Rattle.std.specs.Prelude.{Vec}
use Rattle.hx_tree.specs.declared.tree.Name.{Name}
use Rattle.hx_tree.specs.Tree as new
use Rattle.hx_tree.specs.View.{name_of}
use Rattle.hx_profile1.specs.declared.p1.Expr.{Expr, Row_of-Expr, end_of-Expr, more_of-Expr, items-the_row-Expr, items_hidden-the_row-Expr-0}
use Rattle.hx_profile1.specs.declared.p1.Expr.TheBlock.{hidden-the_row-Expr-0}
use Rattle.hx_profile1.specs.declared.p1.Expr.TheVariants as expr
use Rattle.hx_profile1.specs.declared.p1.Part.{Part}
use Rattle.hx_profile1.specs.declared.p1.Part.TheBlock.{hidden-the_row-Part-0}
use Rattle.hx_profile1.specs.declared.p1.Stmt.{Row_of-Part, end_of-Part, more_of-Part, items-the_row-Part, items_hidden-the_row-Part-0}
use Rattle.hx_profile1.specs.declared.p1.Stmt.TheVariants as stmt
use Rattle.hx_profile1.specs.Tree as old
use Rattle.hx_profile1.specs.View.{expr_of, exprs_of, part_of, parts_of, stmt_of}
use Rattle.hx_profile1.specs.Lifted.{lift_expr, lift_exprs, lift_part, lift_parts, lift_stmt}

exprs_are : {m : _} (row : Row_of-Expr m) → exprs_of row ≡ old.exprs (map expr_of (items-the_row-Expr m row))
exprs_are end_of-Expr = refl
exprs_are (more_of-Expr e row) = ap (λ es. old.expr_and (expr_of e) es) (exprs_are row)

parts_are : {m : _} (row : Row_of-Part m) → parts_of row ≡ old.parts (map part_of (items-the_row-Part m row))
parts_are end_of-Part = refl
parts_are (more_of-Part p row) = ap (λ ps. old.part_and (part_of p) ps) (parts_are row)

pub lifted_exprs : (es : List old.Expr) → lift_exprs (old.exprs es) ≡ new.exprs (map lift_expr es)
lifted_exprs [] = refl
lifted_exprs (e ∷ es) = ap (λ es'. new.expr_and (lift_expr e) es') (lifted_exprs es)

pub lifted_parts : (ps : List old.Part) → lift_parts (old.parts ps) ≡ new.parts (map lift_part ps)
lifted_parts [] = refl
lifted_parts (p ∷ ps) = ap (λ ps'. new.part_and (lift_part p) ps') (lifted_parts ps)

pub lifted_call : (f : Name) (es : Vec Expr Global) → lift_expr (expr_of (expr.Call f es)) ≡ new.Call (name_of f) (new.exprs (map lift_expr (map expr_of es.items)))
lifted_call f es =
    ap (λ es'. new.Call (name_of f) (lift_exprs es')) (exprs_are (hidden-the_row-Expr-0 es) ∙ ap (λ l. old.exprs (map expr_of l)) (items_hidden-the_row-Expr-0 es))
    ∙ ap (λ es'. new.Call (name_of f) es') (lifted_exprs (map expr_of es.items))

pub lifted_block : (ps : Vec Part Global) → lift_stmt (stmt_of (stmt.Block ps)) ≡ new.Block (new.parts (map lift_part (map part_of ps.items)))
lifted_block ps =
    ap (λ ps'. new.Block (lift_parts ps')) (parts_are (hidden-the_row-Part-0 ps) ∙ ap (λ l. old.parts (map part_of l)) (items_hidden-the_row-Part-0 ps))
    ∙ ap (λ ps'. new.Block ps') (lifted_parts (map part_of ps.items))
