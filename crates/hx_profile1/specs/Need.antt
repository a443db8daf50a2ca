-- Profile 1: how many operands a function holds at once in one call.
use Rattle.std.specs.Prelude.{ℕ, ◌+◌, max, List}
use Rattle.hx_tree.specs.declared.tree.BinaryOp.TheVariants.{Strict, And, Or}
use Rattle.hx_profile1.specs.Tree.{Expr, Number, Variable, Element, Call, Paren, Unary, Binary, Exprs, no_exprs, expr_and, LocalDecl, Place, ToVariable, ToElement, Assignment, Set, Update, Increment, Decrement, Init, NoInit, InitLocals, InitAssign, ForClauses, Stmt, Block, Empty, Assign, CallStatement, Print, Emit, If, IfElse, While, For, Break, Continue, Return, Part, Locals, Statement, Parts, no_parts, part_and, Func}
use Rattle.hx_tree.specs.Height.{greatest, if_there}

abbrev mutual
  pub need : Expr → ℕ
  need (Number n) = 1
  need (Variable x) = 1
  need (Element x e) = need e
  need (Call f es) = max 1 (needs es 0)
  need (Paren e) = need e
  need (Unary o e) = need e
  need (Binary (Strict o) place l r) = max (need l) (1 + need r)
  need (Binary And place l r) = max 1 (max (need l) (need r))
  need (Binary Or place l r) = max 1 (max (need l) (need r))

  -- arguments, where so many operands stand before them
  pub needs : Exprs → ℕ → ℕ
  needs no_exprs before = 0
  needs (expr_and e es) before = max (before + need e) (needs es (before + 1))

-- `p = e` and `p += e`, where e has this need
abbrev pub set_need : Place → ℕ → ℕ
set_need (ToVariable x) right = right
set_need (ToElement x e) right = max (need e) (1 + right)

abbrev pub update_need : Place → ℕ → ℕ
update_need (ToVariable x) right = 1 + right
update_need (ToElement x e) right = max (need e) (2 + right)

abbrev pub assignment_need : Assignment → ℕ
assignment_need (Set p e) = set_need p (need e)
assignment_need (Update p o place e) = update_need p (need e)
assignment_need (Increment p) = update_need p 1
assignment_need (Decrement p) = update_need p 1

abbrev pub locals_need : List LocalDecl → ℕ
locals_need ds = greatest (λ d. if_there need d.init) ds

abbrev pub init_need : Init → ℕ
init_need NoInit = 0
init_need (InitLocals ds) = locals_need ds
init_need (InitAssign a) = assignment_need a

abbrev pub head_need : ForClauses → ℕ
head_need h = max (init_need h.init) (max (if_there need h.test) (if_there assignment_need h.step))

abbrev mutual
  pub stmt_need : Stmt → ℕ
  stmt_need (Block ps) = parts_need ps
  stmt_need Empty = 0
  stmt_need (Assign a) = assignment_need a
  stmt_need (CallStatement f es) = needs es 0
  stmt_need (Print place e) = need e
  stmt_need (Emit place e) = need e
  stmt_need (If test s) = max (need test) (stmt_need s)
  stmt_need (IfElse test s other) = max (need test) (max (stmt_need s) (stmt_need other))
  stmt_need (While marked test s) = max (need test) (stmt_need s)
  stmt_need (For marked h s) = max (head_need h) (stmt_need s)
  stmt_need (Break place) = 0
  stmt_need (Continue place) = 0
  stmt_need (Return place e) = if_there need e

  pub part_need : Part → ℕ
  part_need (Locals ds) = locals_need ds
  part_need (Statement s) = stmt_need s

  pub parts_need : Parts → ℕ
  parts_need no_parts = 0
  parts_need (part_and p ps) = max (part_need p) (parts_need ps)

-- at least 1: a call, a declaration or the end of a function holds one operand
abbrev pub function_need : Func → ℕ
function_need f = max 1 (parts_need f.body)
