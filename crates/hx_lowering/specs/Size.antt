-- How many words each part of a program has.
use Rattle.std.specs.Prelude.{ℕ, ◌+◌, List, [], ◌∷◌, Option, Some, None}
use Rattle.hx_tree.specs.declared.tree.BinaryOp.TheVariants.{Strict, And, Or}
use Rattle.hx_resolved.specs.Resolved.{Expr, Number, Private, Word, Element, Call, Unary, Binary, Conditional, Exprs, no_exprs, expr_and, ToPrivate, ToWord, ToElement, Assignment, Set, Update, Simple, Declare, Assign, Clauses, LoopKind, Plain, IsRegion, Stmt, Block, Do, CallStatement, Print, Emit, If, IfElse, Loop, DoWhile, Break, Continue, Return, Stmts, no_stmts, stmt_and}

abbrev mutual
  pub expr_size : Expr → ℕ
  expr_size (Number n) = 1
  expr_size (Private k) = 1
  expr_size (Word a) = 1
  expr_size (Element words pos e) = expr_size e + 1
  expr_size (Call f pos es) = exprs_size es + 1
  expr_size (Unary op e) = expr_size e + 1
  expr_size (Binary (Strict op) pos l r) = expr_size l + expr_size r + 1
  expr_size (Binary And pos l r) = expr_size l + 1 + expr_size r + 4
  expr_size (Binary Or pos l r) = expr_size l + 1 + expr_size r + 4
  expr_size (Conditional c a b) = expr_size c + 1 + expr_size a + 1 + expr_size b

  pub exprs_size : Exprs → ℕ
  exprs_size no_exprs = 0
  exprs_size (expr_and e es) = expr_size e + exprs_size es

abbrev pub assignment_size : Assignment → ℕ
assignment_size (Set (ToPrivate k) e) = expr_size e + 1
assignment_size (Set (ToWord a) e) = expr_size e + 1
assignment_size (Set (ToElement words pos i) e) = expr_size i + expr_size e + 1
assignment_size (Update (ToPrivate k) op at e) = 1 + expr_size e + 2
assignment_size (Update (ToWord a) op at e) = 1 + expr_size e + 2
assignment_size (Update (ToElement words place i) op at e) = expr_size i + 2 + expr_size e + 2

abbrev pub simple_size : Simple → ℕ
simple_size (Declare k e) = expr_size e + 1
simple_size (Assign a) = assignment_size a

abbrev pub simples_size : List Simple → ℕ
simples_size [] = 0
simples_size (s ∷ ss) = simple_size s + simples_size ss

-- a test with its jump
abbrev pub test_size : Option Expr → ℕ
test_size None = 0
test_size (Some e) = expr_size e + 1

abbrev pub step_size : Option Assignment → ℕ
step_size None = 0
step_size (Some a) = assignment_size a

-- a turn: the test, a body of so many words, and the step
abbrev pub turn_size : Clauses → ℕ → ℕ
turn_size c body = test_size c.test + body + step_size c.step

-- a plain loop has a jump behind its turn; a region has an `enter` first, a version that ends with `turn` and `leave`, and the
-- plain loop
abbrev pub loop_size : LoopKind → ℕ → ℕ
loop_size Plain turn = turn + 1
loop_size (IsRegion r) turn = 1 + (turn + 2) + (turn + 1)

abbrev mutual
  pub stmt_size : Stmt → ℕ
  stmt_size (Block ss) = stmts_size ss
  stmt_size (Do s) = simple_size s
  stmt_size (CallStatement f pos es) = exprs_size es + 2
  stmt_size (Print pos e) = expr_size e + 1
  stmt_size (Emit pos e) = expr_size e + 1
  stmt_size (If test s) = expr_size test + 1 + stmt_size s
  stmt_size (IfElse test s other) = expr_size test + 1 + stmt_size s + 1 + stmt_size other
  stmt_size (Loop kind c s) = simples_size c.init + loop_size kind (turn_size c (stmt_size s))
  stmt_size (DoWhile s test) = stmt_size s + expr_size test + 1
  stmt_size Break = 1
  stmt_size Continue = 1
  stmt_size (Return e) = expr_size e + 1

  pub stmts_size : Stmts → ℕ
  stmts_size no_stmts = 0
  stmts_size (stmt_and s ss) = stmt_size s + stmts_size ss
