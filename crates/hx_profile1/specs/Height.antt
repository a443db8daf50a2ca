-- Profile 1: the height of a tree, how many nodes its longest path has.
use Rattle.std.specs.Prelude.{ℕ, ◌+◌, max, List}
use Rattle.hx_profile1.specs.Tree.{Expr, Number, Variable, Element, Call, Paren, Unary, Binary, Exprs, no_exprs, expr_and, LocalDecl, Place, ToVariable, ToElement, Assignment, Set, Update, Increment, Decrement, Init, NoInit, InitLocals, InitAssign, ForClauses, Stmt, Block, Empty, Assign, CallStatement, Print, Emit, If, IfElse, While, For, Break, Continue, Return, Part, Locals, Statement, Parts, no_parts, part_and, Item, Globals, Function, Program}
use Rattle.hx_tree.specs.Height.{greatest, if_there}

abbrev mutual
  pub height : Expr → ℕ
  height (Number n) = 1
  height (Variable x) = 1
  height (Element x e) = 1 + height e
  height (Call f es) = 1 + heights es
  height (Paren e) = 1 + height e
  height (Unary o e) = 1 + height e
  height (Binary o place l r) = 1 + max (height l) (height r)

  pub heights : Exprs → ℕ
  heights no_exprs = 0
  heights (expr_and e es) = max (height e) (heights es)

abbrev pub place_height : Place → ℕ
place_height (ToVariable x) = 0
place_height (ToElement x e) = height e

abbrev pub assignment_height : Assignment → ℕ
assignment_height (Set p e) = 1 + max (place_height p) (height e)
assignment_height (Update p o place e) = 1 + max (place_height p) (height e)
assignment_height (Increment p) = 1 + place_height p
assignment_height (Decrement p) = 1 + place_height p

-- a declaration
abbrev pub locals_height : List LocalDecl → ℕ
locals_height ds = 1 + greatest (λ d. if_there height d.init) ds

abbrev pub init_height : Init → ℕ
init_height NoInit = 0
init_height (InitLocals ds) = locals_height ds
init_height (InitAssign a) = assignment_height a

abbrev pub head_height : ForClauses → ℕ
head_height h = max (init_height h.init) (max (if_there height h.test) (if_there assignment_height h.step))

abbrev mutual
  pub stmt_height : Stmt → ℕ
  stmt_height (Block ps) = 1 + parts_height ps
  stmt_height Empty = 1
  stmt_height (Assign a) = 1 + assignment_height a
  stmt_height (CallStatement f es) = 1 + heights es
  stmt_height (Print place e) = 1 + height e
  stmt_height (Emit place e) = 1 + height e
  stmt_height (If test s) = 1 + max (height test) (stmt_height s)
  stmt_height (IfElse test s other) = 1 + max (height test) (max (stmt_height s) (stmt_height other))
  stmt_height (While marked test s) = 1 + max (height test) (stmt_height s)
  stmt_height (For marked h s) = 1 + max (head_height h) (stmt_height s)
  stmt_height (Break place) = 1
  stmt_height (Continue place) = 1
  stmt_height (Return place e) = 1 + if_there height e

  pub part_height : Part → ℕ
  part_height (Locals ds) = locals_height ds
  part_height (Statement s) = stmt_height s

  pub parts_height : Parts → ℕ
  parts_height no_parts = 0
  parts_height (part_and p ps) = max (part_height p) (parts_height ps)

-- a function's body is a node of its own
abbrev pub item_height : Item → ℕ
item_height (Globals gs) = 1
item_height (Function f) = 2 + parts_height f.body

abbrev pub program_height : Program → ℕ
program_height p = 1 + greatest item_height p.items
