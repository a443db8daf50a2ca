-- Profile 1: which tokens spell a tree. `||` is the last layer of an expression, and no statement begins with `do`; phrases, marks and
-- layers are those of today.
use Rattle.std.specs.Prelude.{◌≡◌, ℕ, ◌-◌, ◌≤◌, Bool, true, false, if◌then◌else◌, List, [], ◌∷◌, length}
use Rattle.hx_tree.specs.declared.limits.TheConstants.{SOURCE_LIMIT}
use Rattle.hx_tree.specs.declared.token.Mark.TheVariants as mark
use Rattle.hx_profile1.specs.Tree.{Expr, Number, Variable, Element, Call, Paren, Unary, Binary, Exprs, no_exprs, expr_and, LocalDecl, Place, ToVariable, ToElement, Assignment, Set, Update, Increment, Decrement, Init, NoInit, InitLocals, InitAssign, ForClauses, Stmt, Block, Empty, Assign, CallStatement, Print, Emit, If, IfElse, While, For, Break, Continue, Return, Part, Locals, Statement, Parts, no_parts, part_and, Item, Globals, Function, Program}
use Rattle.hx_tree.specs.Lexis.{Token}
use Rattle.hx_profile1.specs.Lexis.{AreTokens}
use Rattle.hx_tree.specs.Grammar.{Phrase, ◌⨾◌, ◌given◌, Nothing, Named, Numeral, At, The, Optional, Listed, unary_mark, binary_mark, layer, Updating, IsGlobal, IsParams, returns_mark}

-- ---- expressions

-- an expression of a layer: 0 is that of operands, and a binary operator stands in its own layer and all above;
-- to the left of it stands its own layer, to the right only tighter ones
abbrev mutual
  pub IsExprOf : ℕ → Expr → Phrase
  IsExprOf k (Number n) = Numeral n
  IsExprOf k (Variable x) = Named x
  IsExprOf k (Element x e) = Named x ⨾ The mark.OpenBracket ⨾ IsExprOf 10 e ⨾ The mark.CloseBracket
  IsExprOf k (Call f es) = Named f ⨾ The mark.OpenParen ⨾ AreArguments es ⨾ The mark.CloseParen
  IsExprOf k (Paren e) = The mark.OpenParen ⨾ IsExprOf 10 e ⨾ The mark.CloseParen
  IsExprOf k (Unary o e) = The (unary_mark o) ⨾ IsExprOf 0 e
  IsExprOf k (Binary o pos l r) = IsExprOf (layer o) l ⨾ At pos (binary_mark o) ⨾ IsExprOf (layer o - 1) r given layer o ≤ k

  pub AreArguments : Exprs → Phrase
  AreArguments no_exprs = Nothing
  AreArguments (expr_and e es) = IsExprOf 10 e ⨾ AreMoreArguments es

  pub AreMoreArguments : Exprs → Phrase
  AreMoreArguments no_exprs = Nothing
  AreMoreArguments (expr_and e es) = The mark.Comma ⨾ IsExprOf 10 e ⨾ AreMoreArguments es

abbrev pub IsExpr : Expr → Phrase
IsExpr e = IsExprOf 10 e

-- ---- what statements are made of

abbrev pub IsLocal : LocalDecl → Phrase
IsLocal d = Named d.name ⨾ Optional (λ e. The mark.Assign ⨾ IsExpr e) d.init

abbrev pub AreLocals : List LocalDecl → Phrase
AreLocals ds = The mark.Int ⨾ Listed IsLocal ds

abbrev pub IsPlace : Place → Phrase
IsPlace (ToVariable x) = Named x
IsPlace (ToElement x e) = Named x ⨾ The mark.OpenBracket ⨾ IsExpr e ⨾ The mark.CloseBracket

abbrev pub IsAssignment : Assignment → Phrase
IsAssignment (Set p e) = IsPlace p ⨾ The mark.Assign ⨾ IsExpr e
IsAssignment (Update p o pos e) = IsPlace p ⨾ Updating pos o ⨾ IsExpr e
IsAssignment (Increment p) = IsPlace p ⨾ The mark.Increment
IsAssignment (Decrement p) = IsPlace p ⨾ The mark.Decrement

abbrev pub IsInit : Init → Phrase
IsInit NoInit = Nothing
IsInit (InitLocals ds) = AreLocals ds
IsInit (InitAssign a) = IsAssignment a

abbrev pub AreForClauses : ForClauses → Phrase
AreForClauses h =
    The mark.OpenParen ⨾ IsInit h.init ⨾ The mark.Semicolon ⨾ Optional IsExpr h.test ⨾ The mark.Semicolon
    ⨾ Optional IsAssignment h.step ⨾ The mark.CloseParen

abbrev pub InParens : Expr → Phrase
InParens e = The mark.OpenParen ⨾ IsExpr e ⨾ The mark.CloseParen

-- ---- statements

-- the statement ends in an `if` that could have an `else`
abbrev pub ends_open : Stmt → Bool
ends_open (If e s) = true
ends_open (IfElse e s t) = ends_open t
ends_open (While marked e s) = ends_open s
ends_open (For marked h s) = ends_open s
ends_open _ = false

abbrev mutual
  pub IsStmt : Stmt → Phrase
  IsStmt (Block ps) = The mark.OpenBrace ⨾ AreParts ps ⨾ The mark.CloseBrace
  IsStmt Empty = The mark.Semicolon
  IsStmt (Assign a) = IsAssignment a ⨾ The mark.Semicolon
  IsStmt (CallStatement f es) = Named f ⨾ The mark.OpenParen ⨾ AreArguments es ⨾ The mark.CloseParen ⨾ The mark.Semicolon
  IsStmt (Print pos e) = At pos mark.Print ⨾ InParens e ⨾ The mark.Semicolon
  IsStmt (Emit pos e) = At pos mark.Emit ⨾ InParens e ⨾ The mark.Semicolon
  IsStmt (If e s) = The mark.If ⨾ InParens e ⨾ IsStmt s
  -- an `else` goes to the nearest `if` that can have it (6.8.4.1)
  IsStmt (IfElse e s t) = The mark.If ⨾ InParens e ⨾ IsStmt s ⨾ The mark.Else ⨾ IsStmt t given ends_open s ≡ false
  IsStmt (While marked e s) = The (if marked then mark.MarkedWhile else mark.While) ⨾ InParens e ⨾ IsStmt s
  IsStmt (For marked h s) = The (if marked then mark.MarkedFor else mark.For) ⨾ AreForClauses h ⨾ IsStmt s
  IsStmt (Break pos) = At pos mark.Break ⨾ The mark.Semicolon
  IsStmt (Continue pos) = At pos mark.Continue ⨾ The mark.Semicolon
  IsStmt (Return pos e) = At pos mark.Return ⨾ Optional IsExpr e ⨾ The mark.Semicolon

  pub IsPart : Part → Phrase
  IsPart (Locals ds) = AreLocals ds ⨾ The mark.Semicolon
  IsPart (Statement s) = IsStmt s

  pub AreParts : Parts → Phrase
  AreParts no_parts = Nothing
  AreParts (part_and p ps) = IsPart p ⨾ AreParts ps

-- ---- programs

abbrev pub IsItem : Item → Phrase
IsItem (Globals gs) = The mark.Int ⨾ Listed IsGlobal gs ⨾ The mark.Semicolon
IsItem (Function f) =
    The (returns_mark f.returns) ⨾ Named f.name ⨾ The mark.OpenParen ⨾ IsParams f.params ⨾ The mark.CloseParen
    ⨾ The mark.OpenBrace ⨾ AreParts f.body ⨾ The mark.CloseBrace

abbrev pub AreItems : List Item → Phrase
AreItems [] = Nothing
AreItems (i ∷ is) = IsItem i ⨾ AreItems is

-- all of the tokens spell the program
abbrev pub IsProgram : Program → List Token → Type 0
IsProgram p tokens = AreItems p.items tokens []

-- the bytes are a source of the program
pub record Spells (bytes : List ℕ) (p : Program) : Type 0 where
  pub is_short : length bytes ≤ SOURCE_LIMIT
  pub tokens : List Token
  pub are_tokens : AreTokens bytes tokens
  pub is_program : IsProgram p tokens
