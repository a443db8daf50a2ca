-- Profile 1: the tree of a program, without where it lies in memory. Names, globals and parameters are those of today.
use Rattle.std.specs.Prelude.{ℕ, Bool, List, [], ◌∷◌, Option}
use Rattle.hx_tree.specs.declared.token.Pos.{Pos}
use Rattle.hx_tree.specs.declared.tree.Returns.{Returns}
use Rattle.hx_tree.specs.declared.tree.UnaryOp.{UnaryOp}
use Rattle.hx_tree.specs.declared.tree.BinaryOp.{BinaryOp}
use Rattle.hx_tree.specs.declared.tree.Operator.{Operator}
use Rattle.hx_tree.specs.Tree.{Name, GlobalDecl, Params}

-- ---- expressions

mutual
  pub data Expr : Type 0 where
    Number : ℕ → Expr
    Variable : Name → Expr
    Element : Name → Expr → Expr
    Call : Name → Exprs → Expr
    Paren : Expr → Expr
    Unary : UnaryOp → Expr → Expr
    Binary : BinaryOp → Pos → Expr → Expr → Expr

  -- the arguments of a call
  pub data Exprs : Type 0 where
    no_exprs : Exprs
    expr_and : Expr → Exprs → Exprs

-- ---- what statements are made of

-- a local of a declaration, with its initialiser
pub record LocalDecl : Type 0 where
  pub name : Name
  pub init : Option Expr

-- what is assigned to
pub data Place : Type 0 where
  ToVariable : Name → Place
  ToElement : Name → Expr → Place

-- `p = e`, `p += e` and its kin, `p++`, `p--`
pub data Assignment : Type 0 where
  Set : Place → Expr → Assignment
  Update : Place → Operator → Pos → Expr → Assignment
  Increment : Place → Assignment
  Decrement : Place → Assignment

-- what a `for` begins with
pub data Init : Type 0 where
  NoInit : Init
  InitLocals : List LocalDecl → Init
  InitAssign : Assignment → Init

-- what stands between the parentheses of a `for`
pub record ForClauses : Type 0 where
  pub init : Init
  pub test : Option Expr
  pub step : Option Assignment

-- ---- statements

mutual
  -- the flag of a loop says that it is marked
  pub data Stmt : Type 0 where
    Block : Parts → Stmt
    Empty : Stmt
    Assign : Assignment → Stmt
    CallStatement : Name → Exprs → Stmt
    Print : Pos → Expr → Stmt
    Emit : Pos → Expr → Stmt
    If : Expr → Stmt → Stmt
    IfElse : Expr → Stmt → Stmt → Stmt
    While : Bool → Expr → Stmt → Stmt
    For : Bool → ForClauses → Stmt → Stmt
    Break : Pos → Stmt
    Continue : Pos → Stmt
    Return : Pos → Option Expr → Stmt

  -- a part of a block: a declaration, or a statement
  pub data Part : Type 0 where
    Locals : List LocalDecl → Part
    Statement : Stmt → Part

  pub data Parts : Type 0 where
    no_parts : Parts
    part_and : Part → Parts → Parts

-- ---- programs

pub record Func : Type 0 where
  pub returns : Returns
  pub name : Name
  pub params : Params
  pub body : Parts

-- a declaration of globals, or a function
pub data Item : Type 0 where
  Globals : List GlobalDecl → Item
  Function : Func → Item

pub record Program : Type 0 where
  pub items : List Item

-- ---- lists of children

abbrev pub exprs : List Expr → Exprs
exprs [] = no_exprs
exprs (e ∷ es) = expr_and e (exprs es)

abbrev pub parts : List Part → Parts
parts [] = no_parts
parts (p ∷ ps) = part_and p (parts ps)
