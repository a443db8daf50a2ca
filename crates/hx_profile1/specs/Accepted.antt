-- Profile 1: which programs are accepted. Its two limits of words are smaller than today's.
use Rattle.std.specs.Prelude.{◌≡◌, ℕ, ◌+◌, ◌≤◌, false, IsTrue, List, [], ◌∷◌, length, map, flat_map, sum_by, All, Option, Some, None, codes}
use Rattle.hx_tree.specs.declared.limits.TheConstants.{CONSTANT_LIMIT, HEIGHT_LIMIT, FUNCTION_LIMIT, PARAMETER_LIMIT, PRIVATE_LIMIT, OPERAND_LIMIT}
use Rattle.hx_tree.specs.declared.tree.Returns.{Returns}
use Rattle.hx_tree.specs.declared.tree.Returns.TheVariants as returns
use Rattle.hx_tree.specs.Tree.{Shape, Scalar, Array, param_names}
use Rattle.hx_profile1.specs.Tree.{Expr, Number, Variable, Element, Call, Paren, Unary, Binary, Exprs, no_exprs, expr_and, LocalDecl, Place, ToVariable, ToElement, Assignment, Set, Update, Increment, Decrement, Init, NoInit, InitLocals, InitAssign, Stmt, Block, Empty, Assign, CallStatement, Print, Emit, If, IfElse, While, For, Break, Continue, Return, Part, Locals, Statement, Parts, no_parts, part_and, Func, Item, Globals, Function, Program}
use Rattle.hx_tree.specs.World.{Map, look_up}
use Rattle.hx_tree.specs.Meaning.{texts_of}
use Rattle.hx_profile1.specs.Meaning.{functions_of}
use Rattle.hx_profile1.specs.Need.{function_need}
use Rattle.hx_profile1.specs.Height.{program_height}
use Rattle.hx_tree.specs.Accepted.{Kind, Surroundings, kind_of, IsInt, IsArray, IsNew, with_name, in_scope, inside_loop, IfThere, kind_of_shape, IsDistinct, shape_words, AcceptsConstant}
use Rattle.hx_tree.specs.Accepted.{FunctionKind}
use Rattle.hx_profile1.specs.declared.p1.TheConstants.{GLOBAL_LIMIT, ARRAY_LIMIT}

-- ---- names

abbrev pub with_local : LocalDecl → Surroundings → Surroundings
with_local d here = record here { locals = with_name d.name here.locals }

abbrev pub with_locals : List LocalDecl → Surroundings → Surroundings
with_locals [] here = here
with_locals (d ∷ ds) here = with_locals ds (with_local d here)

-- ---- expressions

abbrev pub count : Exprs → ℕ
count no_exprs = 0
count (expr_and e es) = 1 + count es

abbrev mutual
  pub AcceptsExpr : Expr → Surroundings → Type 0
  AcceptsExpr (Number n) here = n ≤ CONSTANT_LIMIT
  AcceptsExpr (Variable x) here = IsInt x here
  AcceptsExpr (Element x e) here = IsArray x here × AcceptsExpr e here
  AcceptsExpr (Call f es) here = (kind_of f here ≡ Some (FunctionKind returns.Int (count es))) × AcceptsExprs es here
  AcceptsExpr (Paren e) here = AcceptsExpr e here
  AcceptsExpr (Unary o e) here = AcceptsExpr e here
  AcceptsExpr (Binary o place l r) here = AcceptsExpr l here × AcceptsExpr r here

  pub AcceptsExprs : Exprs → Surroundings → Type 0
  AcceptsExprs no_exprs here = Unit {0}
  AcceptsExprs (expr_and e es) here = AcceptsExpr e here × AcceptsExprs es here

-- ---- what statements are made of

abbrev pub AcceptsPlace : Place → Surroundings → Type 0
AcceptsPlace (ToVariable x) here = IsInt x here
AcceptsPlace (ToElement x e) here = IsArray x here × AcceptsExpr e here

abbrev pub AcceptsAssignment : Assignment → Surroundings → Type 0
AcceptsAssignment (Set p e) here = AcceptsPlace p here × AcceptsExpr e here
AcceptsAssignment (Update p o place e) here = AcceptsPlace p here × AcceptsExpr e here
AcceptsAssignment (Increment p) here = AcceptsPlace p here
AcceptsAssignment (Decrement p) here = AcceptsPlace p here

-- a local is known from after its own initialiser
abbrev pub AcceptsLocals : List LocalDecl → Surroundings → Type 0
AcceptsLocals [] here = Unit {0}
AcceptsLocals (d ∷ ds) here = IfThere AcceptsExpr d.init here × IsNew d.name here.locals × AcceptsLocals ds (with_local d here)

abbrev pub AcceptsInit : Init → Surroundings → Type 0
AcceptsInit NoInit here = Unit {0}
AcceptsInit (InitLocals ds) here = AcceptsLocals ds here
AcceptsInit (InitAssign a) here = AcceptsAssignment a here

abbrev pub after_init : Init → Surroundings → Surroundings
after_init NoInit here = here
after_init (InitLocals ds) here = with_locals ds here
after_init (InitAssign a) here = here

-- a value is returned exactly by an int function
abbrev pub AcceptsReturn : Returns → Option Expr → Surroundings → Type 0
AcceptsReturn returns.Int None here = ⊥
AcceptsReturn returns.Int (Some e) here = AcceptsExpr e here
AcceptsReturn returns.Void None here = Unit {0}
AcceptsReturn returns.Void (Some e) here = ⊥

-- ---- statements

-- the names after a part of a block
abbrev pub after_part : Part → Surroundings → Surroundings
after_part (Locals ds) here = with_locals ds here
after_part (Statement s) here = here

abbrev mutual
  pub AcceptsStmt : Stmt → Surroundings → Type 0
  AcceptsStmt (Block ps) here = AcceptsParts ps (in_scope here)
  AcceptsStmt Empty here = Unit {0}
  AcceptsStmt (Assign a) here = AcceptsAssignment a here
  AcceptsStmt (CallStatement f es) here = ((r : Returns) × (kind_of f here ≡ Some (FunctionKind r (count es)))) × AcceptsExprs es here
  AcceptsStmt (Print place e) here = AcceptsExpr e here
  AcceptsStmt (Emit place e) here = AcceptsExpr e here
  AcceptsStmt (If test s) here = AcceptsExpr test here × AcceptsStmt s here
  AcceptsStmt (IfElse test s other) here = AcceptsExpr test here × AcceptsStmt s here × AcceptsStmt other here
  AcceptsStmt (While marked test s) here = AcceptsExpr test here × AcceptsStmt s (inside_loop here)
  AcceptsStmt (For marked h s) here =
      AcceptsInit h.init (in_scope here)
      × IfThere AcceptsExpr h.test (after_init h.init (in_scope here))
      × IfThere AcceptsAssignment h.step (after_init h.init (in_scope here))
      × AcceptsStmt s (inside_loop (after_init h.init (in_scope here)))
  AcceptsStmt (Break place) here = IsTrue here.in_loop
  AcceptsStmt (Continue place) here = IsTrue here.in_loop
  AcceptsStmt (Return place e) here = AcceptsReturn here.returns e here

  pub AcceptsPart : Part → Surroundings → Type 0
  AcceptsPart (Locals ds) here = AcceptsLocals ds here
  AcceptsPart (Statement s) here = AcceptsStmt s here

  pub AcceptsParts : Parts → Surroundings → Type 0
  AcceptsParts no_parts here = Unit {0}
  AcceptsParts (part_and p ps) here = AcceptsPart p here × AcceptsParts ps (after_part p here)

-- ---- private words: parameters and locals

abbrev pub init_locals : Init → ℕ
init_locals NoInit = 0
init_locals (InitLocals ds) = length ds
init_locals (InitAssign a) = 0

abbrev mutual
  pub stmt_locals : Stmt → ℕ
  stmt_locals (Block ps) = parts_locals ps
  stmt_locals (If test s) = stmt_locals s
  stmt_locals (IfElse test s other) = stmt_locals s + stmt_locals other
  stmt_locals (While marked test s) = stmt_locals s
  stmt_locals (For marked h s) = init_locals h.init + stmt_locals s
  stmt_locals _ = 0

  pub part_locals : Part → ℕ
  part_locals (Locals ds) = length ds
  part_locals (Statement s) = stmt_locals s

  pub parts_locals : Parts → ℕ
  parts_locals no_parts = 0
  parts_locals (part_and p ps) = part_locals p + parts_locals ps

abbrev pub private_words : Func → ℕ
private_words f = length (param_names f.params) + parts_locals f.body

-- ---- whole programs

abbrev pub item_kinds : Item → Map Kind
item_kinds (Globals gs) = map (λ g. (g.name.text, kind_of_shape g.shape)) gs
item_kinds (Function f) = (f.name.text, FunctionKind f.returns (length (param_names f.params))) ∷ []

-- functions and globals share one name space, and are known in the whole source
abbrev pub kinds_of : Program → Map Kind
kinds_of p = flat_map item_kinds p.items

abbrev pub item_words : Item → ℕ
item_words (Globals gs) = sum_by (λ g. shape_words g.shape) gs
item_words (Function f) = 0

-- an array has at least one word, and no more initialisers than words
abbrev pub AcceptsShape : Shape → Type 0
AcceptsShape (Scalar None) = Unit {0}
AcceptsShape (Scalar (Some c)) = AcceptsConstant c
AcceptsShape (Array n cs) = (1 ≤ n) × (n ≤ ARRAY_LIMIT) × (length cs ≤ n) × All AcceptsConstant cs

-- a function's parameters and its outermost block are one scope
abbrev pub at_start : Map Kind → Func → Surroundings
at_start kinds f = record { globals = kinds; locals = texts_of (param_names f.params) ∷ []; returns = f.returns; in_loop = false }

pub record AcceptsFunction (kinds : Map Kind) (f : Func) : Type 0 where
  pub distinct : IsDistinct (texts_of (param_names f.params))
  pub body : AcceptsParts f.body (at_start kinds f)
  pub few_params : length (param_names f.params) ≤ PARAMETER_LIMIT
  pub few_private : private_words f ≤ PRIVATE_LIMIT
  pub few_operands : function_need f ≤ OPERAND_LIMIT

abbrev pub AcceptsItem : Map Kind → Item → Type 0
AcceptsItem kinds (Globals gs) = All (λ g. AcceptsShape g.shape) gs
AcceptsItem kinds (Function f) = AcceptsFunction kinds f

pub record IsAccepted (p : Program) : Type 0 where
  pub is_low : program_height p ≤ HEIGHT_LIMIT
  pub distinct : IsDistinct (map (λ entry. entry.0) (kinds_of p))
  pub has_main : look_up (kinds_of p) (codes "main") ≡ Some (FunctionKind returns.Int 0)
  pub items : All (AcceptsItem (kinds_of p)) p.items
  pub few_words : sum_by item_words p.items ≤ GLOBAL_LIMIT
  pub few_functions : length (functions_of p) ≤ FUNCTION_LIMIT
