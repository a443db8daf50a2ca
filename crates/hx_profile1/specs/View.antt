-- Profile 1: the tree that a value of the code is.
use Rattle.std.specs.Prelude.{map, option_map}
use Rattle.hx_profile1.specs.Tree as tree
use Rattle.hx_tree.specs.View.{name_of, global_of, params_of}
use Rattle.hx_profile1.specs.declared.p1.Expr.{Expr, Row_of-Expr, end_of-Expr, more_of-Expr}
use Rattle.hx_profile1.specs.declared.p1.Expr.TheVariants as expr
use Rattle.hx_profile1.specs.declared.p1.LocalDecl.{LocalDecl}
use Rattle.hx_profile1.specs.declared.p1.Place.{Place}
use Rattle.hx_profile1.specs.declared.p1.Place.TheVariants as place
use Rattle.hx_profile1.specs.declared.p1.Assignment.{Assignment}
use Rattle.hx_profile1.specs.declared.p1.Assignment.TheVariants as assignment
use Rattle.hx_profile1.specs.declared.p1.Init.{Init}
use Rattle.hx_profile1.specs.declared.p1.Init.TheVariants as init
use Rattle.hx_profile1.specs.declared.p1.ForClauses.{ForClauses}
use Rattle.hx_profile1.specs.declared.p1.Part.{Part}
use Rattle.hx_profile1.specs.declared.p1.Part.TheVariants as part
use Rattle.hx_profile1.specs.declared.p1.Stmt.{Stmt, Row_of-Part, end_of-Part, more_of-Part}
use Rattle.hx_profile1.specs.declared.p1.Stmt.TheVariants as stmt
use Rattle.hx_profile1.specs.declared.p1.Func.{Func}
use Rattle.hx_profile1.specs.declared.p1.Item.{Item}
use Rattle.hx_profile1.specs.declared.p1.Item.TheVariants as item
use Rattle.hx_profile1.specs.declared.p1.Program.{Program}

abbrev mutual
  pub expr_of : Expr → tree.Expr
  expr_of (expr.Number k) = tree.Number k
  expr_of (expr.Variable x) = tree.Variable (name_of x)
  expr_of (expr.Element' x p e) = tree.Element (name_of x) (expr_of e)
  expr_of (expr.Call' f shape args) = tree.Call (name_of f) (exprs_of args)
  expr_of (expr.Paren' p e) = tree.Paren (expr_of e)
  expr_of (expr.Unary' op p e) = tree.Unary op (expr_of e)
  expr_of (expr.Binary' op pos p l q r) = tree.Binary op pos (expr_of l) (expr_of r)

  pub exprs_of : {m : _} → Row_of-Expr m → tree.Exprs
  exprs_of end_of-Expr = tree.no_exprs
  exprs_of (more_of-Expr e rest) = tree.expr_and (expr_of e) (exprs_of rest)

abbrev pub local_of : LocalDecl → tree.LocalDecl
local_of d = record { name = name_of d.name; init = option_map expr_of d.init }

abbrev pub place_of : Place → tree.Place
place_of (place.Variable x) = tree.ToVariable (name_of x)
place_of (place.Element x e) = tree.ToElement (name_of x) (expr_of e)

abbrev pub assignment_of : Assignment → tree.Assignment
assignment_of (assignment.Set p e) = tree.Set (place_of p) (expr_of e)
assignment_of (assignment.Update p op pos e) = tree.Update (place_of p) op pos (expr_of e)
assignment_of (assignment.Increment p) = tree.Increment (place_of p)
assignment_of (assignment.Decrement p) = tree.Decrement (place_of p)

abbrev pub init_of : Init → tree.Init
init_of init.Nothing = tree.NoInit
init_of (init.Locals ds) = tree.InitLocals (map local_of ds.items)
init_of (init.Assign a) = tree.InitAssign (assignment_of a)

abbrev pub for_clauses_of : ForClauses → tree.ForClauses
for_clauses_of h = record { init = init_of h.init; test = option_map expr_of h.test; step = option_map assignment_of h.step }

abbrev mutual
  pub stmt_of : Stmt → tree.Stmt
  stmt_of (stmt.Block' shape body) = tree.Block (parts_of body)
  stmt_of stmt.Empty = tree.Empty
  stmt_of (stmt.Assign a) = tree.Assign (assignment_of a)
  stmt_of (stmt.CallStatement f args) = tree.CallStatement (name_of f) (tree.exprs (map expr_of args.items))
  stmt_of (stmt.Print pos e) = tree.Print pos (expr_of e)
  stmt_of (stmt.Emit pos e) = tree.Emit pos (expr_of e)
  stmt_of (stmt.If' test p s) = tree.If (expr_of test) (stmt_of s)
  stmt_of (stmt.IfElse' test p s q other) = tree.IfElse (expr_of test) (stmt_of s) (stmt_of other)
  stmt_of (stmt.While' marked test p s) = tree.While marked (expr_of test) (stmt_of s)
  stmt_of (stmt.For' marked head p s) = tree.For marked (for_clauses_of head) (stmt_of s)
  stmt_of (stmt.Break pos) = tree.Break pos
  stmt_of (stmt.Continue pos) = tree.Continue pos
  stmt_of (stmt.Return pos e) = tree.Return pos (option_map expr_of e)

  pub part_of : Part → tree.Part
  part_of (part.Locals ds) = tree.Locals (map local_of ds.items)
  part_of (part.Stmt s) = tree.Statement (stmt_of s)

  pub parts_of : {m : _} → Row_of-Part m → tree.Parts
  parts_of end_of-Part = tree.no_parts
  parts_of (more_of-Part p rest) = tree.part_and (part_of p) (parts_of rest)

abbrev pub func_of : Func → tree.Func
func_of f = record { returns = f.returns; name = name_of f.name; params = params_of f.params; body = tree.parts (map part_of f.body.items) }

abbrev pub item_of : Item → tree.Item
item_of (item.Globals ds) = tree.Globals (map global_of ds.items)
item_of (item.Function f) = tree.Function (func_of f)

abbrev pub program_of : Program → tree.Program
program_of p = record { items = map item_of p.items.items }
