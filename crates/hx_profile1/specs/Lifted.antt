-- The tree of today that a tree of profile 1 is: each node is the one of the same name.
use Rattle.std.specs.Prelude.{map, option_map}
use Rattle.hx_profile1.specs.Tree as old
use Rattle.hx_tree.specs.Tree as new

abbrev mutual
  pub lift_expr : old.Expr → new.Expr
  lift_expr (old.Number n) = new.Number n
  lift_expr (old.Variable x) = new.Variable x
  lift_expr (old.Element x e) = new.Element x (lift_expr e)
  lift_expr (old.Call f es) = new.Call f (lift_exprs es)
  lift_expr (old.Paren e) = new.Paren (lift_expr e)
  lift_expr (old.Unary o e) = new.Unary o (lift_expr e)
  lift_expr (old.Binary o place l r) = new.Binary o place (lift_expr l) (lift_expr r)

  pub lift_exprs : old.Exprs → new.Exprs
  lift_exprs old.no_exprs = new.no_exprs
  lift_exprs (old.expr_and e es) = new.expr_and (lift_expr e) (lift_exprs es)

abbrev pub lift_local : old.LocalDecl → new.LocalDecl
lift_local d = record { name = d.name; init = option_map lift_expr d.init }

abbrev pub lift_place : old.Place → new.Place
lift_place (old.ToVariable x) = new.ToVariable x
lift_place (old.ToElement x e) = new.ToElement x (lift_expr e)

abbrev pub lift_assignment : old.Assignment → new.Assignment
lift_assignment (old.Set p e) = new.Set (lift_place p) (lift_expr e)
lift_assignment (old.Update p o place e) = new.Update (lift_place p) o place (lift_expr e)
lift_assignment (old.Increment p) = new.Increment (lift_place p)
lift_assignment (old.Decrement p) = new.Decrement (lift_place p)

abbrev pub lift_init : old.Init → new.Init
lift_init old.NoInit = new.NoInit
lift_init (old.InitLocals ds) = new.InitLocals (map lift_local ds)
lift_init (old.InitAssign a) = new.InitAssign (lift_assignment a)

abbrev pub lift_clauses : old.ForClauses → new.ForClauses
lift_clauses h = record { init = lift_init h.init; test = option_map lift_expr h.test; step = option_map lift_assignment h.step }

abbrev mutual
  pub lift_stmt : old.Stmt → new.Stmt
  lift_stmt (old.Block ps) = new.Block (lift_parts ps)
  lift_stmt old.Empty = new.Empty
  lift_stmt (old.Assign a) = new.Assign (lift_assignment a)
  lift_stmt (old.CallStatement f es) = new.CallStatement f (lift_exprs es)
  lift_stmt (old.Print place e) = new.Print place (lift_expr e)
  lift_stmt (old.Emit place e) = new.Emit place (lift_expr e)
  lift_stmt (old.If test s) = new.If (lift_expr test) (lift_stmt s)
  lift_stmt (old.IfElse test s other) = new.IfElse (lift_expr test) (lift_stmt s) (lift_stmt other)
  lift_stmt (old.While marked test s) = new.While marked (lift_expr test) (lift_stmt s)
  lift_stmt (old.For marked h s) = new.For marked (lift_clauses h) (lift_stmt s)
  lift_stmt (old.Break place) = new.Break place
  lift_stmt (old.Continue place) = new.Continue place
  lift_stmt (old.Return place e) = new.Return place (option_map lift_expr e)

  pub lift_part : old.Part → new.Part
  lift_part (old.Locals ds) = new.Locals (map lift_local ds)
  lift_part (old.Statement s) = new.Statement (lift_stmt s)

  pub lift_parts : old.Parts → new.Parts
  lift_parts old.no_parts = new.no_parts
  lift_parts (old.part_and p ps) = new.part_and (lift_part p) (lift_parts ps)

abbrev pub lift_func : old.Func → new.Func
lift_func f = record { returns = f.returns; name = f.name; params = f.params; body = lift_parts f.body }

abbrev pub lift_item : old.Item → new.Item
lift_item (old.Globals gs) = new.Globals gs
lift_item (old.Function f) = new.Function (lift_func f)

abbrev pub lifted : old.Program → new.Program
lifted p = record { items = map lift_item p.items }
