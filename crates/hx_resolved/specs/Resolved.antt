-- An accepted program in which each name is what it stands for, without where it lies in memory. Private words, store words
-- and functions are numbers from 0.
use Rattle.std.specs.Prelude.{ℕ, ℤ, List, [], ◌∷◌, Option}
use Rattle.hx_tree.specs.declared.token.Pos.{Pos}
use Rattle.hx_tree.specs.declared.tree.UnaryOp.{UnaryOp}
use Rattle.hx_tree.specs.declared.tree.BinaryOp.{BinaryOp}
use Rattle.hx_tree.specs.declared.tree.Operator.{Operator}
use Rattle.hx_resolved.specs.declared.program.Words.{Words}
use Rattle.hx_resolved.specs.declared.program.Induct.{Induct}

-- ---- expressions

mutual
  -- an element and a call have the place of the name
  pub data Expr : Type 0 where
    Number : ℕ → Expr
    Private : ℕ → Expr
    Word : ℕ → Expr
    Element : Words → Pos → Expr → Expr
    Call : (function : ℕ) → Pos → Exprs → Expr
    Unary : UnaryOp → Expr → Expr
    Binary : BinaryOp → Pos → Expr → Expr → Expr
    Conditional : (test : Expr) → (chosen : Expr) → (other : Expr) → Expr

  -- the arguments of a call
  pub data Exprs : Type 0 where
    no_exprs : Exprs
    expr_and : Expr → Exprs → Exprs

-- ---- what statements are made of

pub data Place : Type 0 where
  ToPrivate : ℕ → Place
  ToWord : ℕ → Place
  ToElement : Words → Pos → Expr → Place

-- `p = e`; `p += e` and its kin
pub data Assignment : Type 0 where
  Set : Place → Expr → Assignment
  Update : Place → Operator → Pos → Expr → Assignment

-- a local with its first value, or an assignment
pub data Simple : Type 0 where
  Declare : ℕ → Expr → Simple
  Assign : Assignment → Simple

-- what stands between the parentheses of a loop, and what the step counts and by how much, where it is written `x++`, `x--`,
-- `x += N` or `x -= N` with a local x and a number token N
pub record Clauses : Type 0 where
  pub init : List Simple
  pub test : Option Expr
  pub step : Option Assignment
  pub counts : Option Induct

-- the private words that a region takes along, in rising order, and its induction local
pub record Region : Type 0 where
  pub carried : List ℕ
  pub copied : List ℕ
  pub induct : Option Induct

-- a loop that runs turn after turn, or a marked loop that stands in no other marked loop of its function
pub data LoopKind : Type 0 where
  Plain : LoopKind
  IsRegion : Region → LoopKind

-- ---- statements

mutual
  pub data Stmt : Type 0 where
    Block : Stmts → Stmt
    Do : Simple → Stmt
    CallStatement : (function : ℕ) → Pos → Exprs → Stmt
    Print : Pos → Expr → Stmt
    Emit : Pos → Expr → Stmt
    If : Expr → Stmt → Stmt
    IfElse : Expr → Stmt → Stmt → Stmt
    Loop : LoopKind → Clauses → Stmt → Stmt
    DoWhile : Stmt → Expr → Stmt
    Break : Stmt
    Continue : Stmt
    Return : Expr → Stmt

  pub data Stmts : Type 0 where
    no_stmts : Stmts
    stmt_and : Stmt → Stmts → Stmts

-- ---- programs

pub record Function : Type 0 where
  pub name : List ℕ
  pub parameters : ℕ
  pub privates : ℕ
  pub need : ℕ
  pub body : Stmts

-- the functions in source order and the number of main; the store words as they begin without input; the words of the array
-- `in` and the store word of the int `n_in`, where they are declared so
pub record Program : Type 0 where
  pub functions : List Function
  pub main : ℕ
  pub opening : List ℤ
  pub input : Option Words
  pub input_length : Option ℕ

-- ---- lists of children

abbrev pub exprs : List Expr → Exprs
exprs [] = no_exprs
exprs (e ∷ es) = expr_and e (exprs es)

abbrev pub stmts : List Stmt → Stmts
stmts [] = no_stmts
stmts (s ∷ ss) = stmt_and s (stmts ss)
