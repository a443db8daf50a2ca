-- The resolved program that a value of the code is.
use Rattle.std.specs.Prelude.{List, map, Option, option_map}
use Rattle.std.specs.declared.vec.Vec.{Vec}
use Rattle.std.specs.declared.alloc.Global.{Global}
use Rattle.hx_resolved.specs.Resolved as resolved
use Rattle.hx_resolved.specs.declared.program.Expr.{Expr, Row_of-Expr, end_of-Expr, more_of-Expr}
use Rattle.hx_resolved.specs.declared.program.Expr.TheVariants as expr
use Rattle.hx_resolved.specs.declared.program.Place.{Place}
use Rattle.hx_resolved.specs.declared.program.Place.TheVariants as place
use Rattle.hx_resolved.specs.declared.program.Assignment.{Assignment}
use Rattle.hx_resolved.specs.declared.program.Assignment.TheVariants as assignment
use Rattle.hx_resolved.specs.declared.program.Simple.{Simple}
use Rattle.hx_resolved.specs.declared.program.Simple.TheVariants as simple
use Rattle.hx_resolved.specs.declared.program.Clauses.{Clauses}
use Rattle.hx_resolved.specs.declared.program.Region.{Region}
use Rattle.hx_resolved.specs.declared.program.LoopKind.{LoopKind}
use Rattle.hx_resolved.specs.declared.program.LoopKind.TheVariants as kind
use Rattle.hx_resolved.specs.declared.program.Stmt.{Stmt, Row_of-Stmt, end_of-Stmt, more_of-Stmt}
use Rattle.hx_resolved.specs.declared.program.Stmt.TheVariants as stmt
use Rattle.hx_resolved.specs.declared.program.Function.{Function}
use Rattle.hx_resolved.specs.declared.program.Program.{Program}

abbrev mutual
  pub resolved_expr : Expr → resolved.Expr
  resolved_expr (expr.Number n) = resolved.Number n
  resolved_expr (expr.Private k) = resolved.Private k
  resolved_expr (expr.Word a) = resolved.Word a
  resolved_expr (expr.Element' words pos p e) = resolved.Element words pos (resolved_expr e)
  resolved_expr (expr.Call' f pos shape es) = resolved.Call f pos (resolved_exprs es)
  resolved_expr (expr.Unary' op p e) = resolved.Unary op (resolved_expr e)
  resolved_expr (expr.Binary' op pos p l q r) = resolved.Binary op pos (resolved_expr l) (resolved_expr r)
  resolved_expr (expr.Conditional' p test q chosen r other) = resolved.Conditional (resolved_expr test) (resolved_expr chosen) (resolved_expr other)

  pub resolved_exprs : {m : _} → Row_of-Expr m → resolved.Exprs
  resolved_exprs end_of-Expr = resolved.no_exprs
  resolved_exprs (more_of-Expr e rest) = resolved.expr_and (resolved_expr e) (resolved_exprs rest)

abbrev pub resolved_place : Place → resolved.Place
resolved_place (place.Private k) = resolved.ToPrivate k
resolved_place (place.Word a) = resolved.ToWord a
resolved_place (place.Element words pos e) = resolved.ToElement words pos (resolved_expr e)

abbrev pub resolved_assignment : Assignment → resolved.Assignment
resolved_assignment (assignment.Set p e) = resolved.Set (resolved_place p) (resolved_expr e)
resolved_assignment (assignment.Update p op pos e) = resolved.Update (resolved_place p) op pos (resolved_expr e)

abbrev pub resolved_simple : Simple → resolved.Simple
resolved_simple (simple.Declare k e) = resolved.Declare k (resolved_expr e)
resolved_simple (simple.Assign a) = resolved.Assign (resolved_assignment a)

abbrev pub resolved_clauses : Clauses → resolved.Clauses
resolved_clauses c =
    record { init = map resolved_simple c.init.items; test = option_map resolved_expr c.test; step = option_map resolved_assignment c.step; counts = c.counts }

abbrev pub resolved_region : Region → resolved.Region
resolved_region r = record { carried = r.carried.items; copied = r.copied.items; induct = r.induct }

abbrev pub resolved_kind : LoopKind → resolved.LoopKind
resolved_kind kind.Plain = resolved.Plain
resolved_kind (kind.Region r) = resolved.IsRegion (resolved_region r)

abbrev mutual
  pub resolved_stmt : Stmt → resolved.Stmt
  resolved_stmt (stmt.Block' shape ss) = resolved.Block (resolved_stmts ss)
  resolved_stmt (stmt.Simple s) = resolved.Do (resolved_simple s)
  resolved_stmt (stmt.CallStatement f pos es) = resolved.CallStatement f pos (resolved.exprs (map resolved_expr es.items))
  resolved_stmt (stmt.Print pos e) = resolved.Print pos (resolved_expr e)
  resolved_stmt (stmt.Emit pos e) = resolved.Emit pos (resolved_expr e)
  resolved_stmt (stmt.If' test p s) = resolved.If (resolved_expr test) (resolved_stmt s)
  resolved_stmt (stmt.IfElse' test p s q other) = resolved.IfElse (resolved_expr test) (resolved_stmt s) (resolved_stmt other)
  resolved_stmt (stmt.Loop' kind clauses p s) = resolved.Loop (resolved_kind kind) (resolved_clauses clauses) (resolved_stmt s)
  resolved_stmt (stmt.DoWhile' p s test) = resolved.DoWhile (resolved_stmt s) (resolved_expr test)
  resolved_stmt stmt.Break = resolved.Break
  resolved_stmt stmt.Continue = resolved.Continue
  resolved_stmt (stmt.Return e) = resolved.Return (resolved_expr e)

  pub resolved_stmts : {m : _} → Row_of-Stmt m → resolved.Stmts
  resolved_stmts end_of-Stmt = resolved.no_stmts
  resolved_stmts (more_of-Stmt s rest) = resolved.stmt_and (resolved_stmt s) (resolved_stmts rest)

abbrev pub resolved_function : Function → resolved.Function
resolved_function f =
    record { name = f.name.items; parameters = f.parameters; privates = f.privates; need = f.need; body = resolved.stmts (map resolved_stmt f.body.items) }

abbrev pub resolved_of : Program → resolved.Program
resolved_of p =
    record { functions = map resolved_function p.functions.items; main = p.main; opening = p.opening.items; input = p.input; input_length = p.input_length }

-- ---- lists of nodes

abbrev pub resolved_exprs_in : Vec Expr Global → List resolved.Expr
resolved_exprs_in es = map resolved_expr es.items

abbrev pub resolved_option : Option Expr → Option resolved.Expr
resolved_option e = option_map resolved_expr e

abbrev pub resolved_step : Option Assignment → Option resolved.Assignment
resolved_step a = option_map resolved_assignment a

abbrev pub resolved_simples_in : Vec Simple Global → List resolved.Simple
resolved_simples_in ss = map resolved_simple ss.items

abbrev pub resolved_stmts_in : Vec Stmt Global → List resolved.Stmt
resolved_stmts_in ss = map resolved_stmt ss.items

abbrev pub resolved_functions_in : Vec Function Global → List resolved.Function
resolved_functions_in fs = map resolved_function fs.items
