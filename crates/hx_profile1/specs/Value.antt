-- Profile 1: the value of an expression.
use Rattle.std.specs.Prelude.{not, if◌then◌else◌, List, [], ◌∷◌, ℤ, pos}
use Rattle.hx_tree.specs.declared.tree.BinaryOp.TheVariants.{Strict, And, Or}
use Rattle.hx_profile1.specs.Tree.{Expr, Number, Variable, Element, Call, Paren, Unary, Binary, Exprs, no_exprs, expr_and}
use Rattle.hx_tree.specs.Numbers.{truth, is_zero, unary_value}
use Rattle.hx_tree.specs.World.{Environment, Run, ◌>>=◌, gives, read_element}
use Rattle.hx_tree.specs.Value.{Calling, read_variable, operate}

abbrev mutual
  pub value : Expr → Calling → Environment → Run ℤ
  value (Number n) call env = gives (pos n)
  value (Variable x) call env = read_variable x env
  value (Element x e) call env = do
    i ← value e call env
    read_element x i
  value (Call f es) call env = do
    vs ← values es call env
    call f vs
  value (Paren e) call env = value e call env
  value (Unary o e) call env = do
    x ← value e call env
    gives (unary_value o x)
  value (Binary (Strict o) place l r) call env = do
    x ← value l call env
    y ← value r call env
    operate o place x y
  -- where the left side decides, the right one isn't evaluated (6.5.13, 6.5.14)
  value (Binary And place l r) call env = do
    x ← value l call env
    if is_zero x then gives (pos 0) else do
      y ← value r call env
      gives (truth (not (is_zero y)))
  value (Binary Or place l r) call env = do
    x ← value l call env
    if not (is_zero x) then gives (pos 1) else do
      y ← value r call env
      gives (truth (not (is_zero y)))

  pub values : Exprs → Calling → Environment → Run (List ℤ)
  values no_exprs call env = gives []
  values (expr_and e es) call env = do
    v ← value e call env
    vs ← values es call env
    gives (v ∷ vs)
