-- Lists of nodes, one behind another.
use Rattle.std.proofs.Common.{◌≡◌, map, List, [], ◌∷◌, refl, ap, ◌∙◌, length, ◌+◌, arith}
use Rattle.hx_resolved.specs.Resolved as resolved
use Rattle.hx_resolved.specs.declared.program.Expr.{Expr}
use Rattle.hx_resolved.specs.Views.{resolved_expr}
use Rattle.hx_lowering.specs.Lines.{count}

-- as many arguments as there are nodes
pub count_is : (es : List Expr) → count (resolved.exprs (map resolved_expr es)) ≡ length es
count_is [] = refl
count_is (e ∷ es) = ap (λ n. n + 1) (count_is es) ∙ omega arith
