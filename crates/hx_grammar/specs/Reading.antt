-- Reading tokens from left to right, each list by a loop, and trees within trees by recursion no deeper than the room.
use Rattle.std.specs.Prelude.{ℕ, zero, suc, ◌-◌, List, [], ◌∷◌, length, Bool, true, false, Option, Some, None, Result, Ok, Err, nat_le, nat_lt, if◌then◌else◌}
use denote.Enum.Bare.{sameb}
use Rattle.hx_tree.specs.contracts.token.Mark.{the_type}
use Rattle.hx_tree.specs.declared.token.Pos.{Pos}
use Rattle.hx_tree.specs.declared.token.Mark.{Mark}
use Rattle.hx_tree.specs.declared.token.Mark.TheVariants as mark
use Rattle.hx_tree.specs.declared.tree.Constant.{Constant}
use Rattle.hx_tree.specs.declared.tree.Returns.{Returns}
use Rattle.hx_tree.specs.declared.tree.Returns.TheVariants as returns
use Rattle.hx_tree.specs.declared.tree.UnaryOp.{UnaryOp}
use Rattle.hx_tree.specs.declared.tree.UnaryOp.TheVariants as unary
use Rattle.hx_tree.specs.declared.tree.BinaryOp.{BinaryOp}
use Rattle.hx_tree.specs.declared.tree.BinaryOp.TheVariants.{Strict, And, Or}
use Rattle.hx_tree.specs.declared.tree.Operator.{Operator}
use Rattle.hx_tree.specs.declared.tree.Operator.TheVariants as op
use Rattle.hx_tree.specs.Tree.{Name, Expr, Number, Variable, Element, Call, Paren, Unary, Binary, Conditional, exprs, LocalDecl, Place, ToVariable, ToElement, Assignment, Set, Update, Increment, Decrement, Init, NoInit, InitLocals, InitAssign, ForClauses, Stmt, Block, Empty, Assign, CallStatement, Print, Emit, If, IfElse, While, DoWhile, For, Break, Continue, Return, Part, Locals, Statement, parts, Shape, Scalar, Array, GlobalDecl, Params, NoParams, VoidParams, NamedParams, Item, Globals, Function, Program}
use Rattle.hx_tree.specs.Lexis.{Token, NameToken, NumberToken, MarkToken}
use Rattle.hx_tree.specs.Grammar.{layer}
use Rattle.hx_tree.specs.Height.{height}

-- ---- what reading gives

-- no tree begins with the tokens read so far; or none that isn't too high
pub data Refusal : Type 0 where
  Syntax : Refusal
  TooDeep : Refusal

infixl 10 ◌>>=◌
abbrev pub ◌>>=◌ : {X Y : Type 0} → Result X Refusal → (X → Result Y Refusal) → Result Y Refusal
(Ok x) >>= f = f x
(Err e) >>= f = Err e

-- what is read, and the tokens behind it
abbrev pub Reading : Type 0 → Type 0
Reading X = Result (X × List Token) Refusal

abbrev pub Reader : Type 0 → Type 0
Reader X = List Token → Reading X

-- ---- marks

abbrev pub same_mark : Mark → Mark → Bool
same_mark a b = sameb the_type a b

-- the mark in front, if a mark is there
abbrev pub front : List Token → Option Mark
front [] = None
front (NameToken x ∷ rest) = None
front (NumberToken n pos ∷ rest) = None
front (MarkToken m pos ∷ rest) = Some m

-- the tokens behind the mark, if it's in front
unfoldable pub behind : Mark → List Token → Option (List Token)
behind m [] = None
behind m (NameToken x ∷ rest) = None
behind m (NumberToken n pos ∷ rest) = None
behind m (MarkToken k pos ∷ rest) = if same_mark k m then Some rest else None

abbrev pub or_syntax : {X : Type 0} → Option X → Result X Refusal
or_syntax None = Err Syntax
or_syntax (Some x) = Ok x

abbrev pub expect : Mark → List Token → Result (List Token) Refusal
expect m tokens = or_syntax (behind m tokens)

-- ---- lists, by one loop

-- whether a list goes on, and from which tokens
pub data Turn : Type 0 where
  Further : List Token → Turn
  Ends : List Token → Turn

-- a list with commas between goes on behind a comma
abbrev pub comma_turn : List Token → Option (List Token) → Turn
comma_turn tokens None = Ends tokens
comma_turn tokens (Some rest) = Further rest

abbrev pub at_comma : List Token → Turn
at_comma tokens = comma_turn tokens (behind mark.Comma tokens)

-- a list before a mark goes on until the mark, and ends behind it
abbrev pub mark_turn : List Token → Option (List Token) → Turn
mark_turn tokens None = Further tokens
mark_turn tokens (Some rest) = Ends rest

abbrev pub until : Mark → List Token → Turn
until m tokens = mark_turn tokens (behind m tokens)

abbrev pub until_end : List Token → Turn
until_end [] = Ends []
until_end (t ∷ rest) = Further (t ∷ rest)

-- the fuel is never used up where it is the number of tokens
abbrev pub turned : {X : Type 0} → Reader X → Reader (List X) → Turn → Reading (List X)
turned item go (Ends rest) = Ok ([], rest)
turned item go (Further rest) = do
  x ← item rest
  xs ← go x.1
  Ok (x.0 ∷ xs.0, xs.1)

unfoldable pub many : {X : Type 0} → (List Token → Turn) → Reader X → ℕ → Reader (List X)
many next item zero tokens = turned item (λ s. Err TooDeep) (next tokens)
many next item (suc fuel) tokens = turned item (many next item fuel) (next tokens)

-- the items of a loop
abbrev pub all_of : {X : Type 0} → (List Token → Turn) → Reader X → Reader (List X)
all_of next item tokens = many next item (length tokens) tokens

-- an item that is read, and the further ones, each behind a comma
abbrev pub listed_from : {X : Type 0} → Reader X → X → Reader (List X)
listed_from item x tokens = do
  xs ← all_of at_comma item tokens
  Ok (x ∷ xs.0, xs.1)

-- one item or more, with commas between
abbrev pub listed : {X : Type 0} → Reader X → Reader (List X)
listed item tokens = do
  x ← item tokens
  listed_from item x.0 x.1

-- ---- names and numbers

abbrev pub name_at : Reader Name
name_at [] = Err Syntax
name_at (NameToken x ∷ rest) = Ok (x, rest)
name_at (NumberToken n pos ∷ rest) = Err Syntax
name_at (MarkToken m pos ∷ rest) = Err Syntax

abbrev pub number_at : Reader ℕ
number_at [] = Err Syntax
number_at (NameToken x ∷ rest) = Err Syntax
number_at (NumberToken n pos ∷ rest) = Ok (n, rest)
number_at (MarkToken m pos ∷ rest) = Err Syntax

-- ---- operators

abbrev pub binary_of : Mark → Option BinaryOp
binary_of mark.Times = Some (Strict op.Mul)
binary_of mark.Divide = Some (Strict op.Div)
binary_of mark.Remainder = Some (Strict op.Rem)
binary_of mark.Plus = Some (Strict op.Add)
binary_of mark.Minus = Some (Strict op.Sub)
binary_of mark.ShiftLeft = Some (Strict op.ShiftLeft)
binary_of mark.ShiftRight = Some (Strict op.ShiftRight)
binary_of mark.Less = Some (Strict op.Less)
binary_of mark.LessEqual = Some (Strict op.LessEqual)
binary_of mark.Greater = Some (Strict op.Greater)
binary_of mark.GreaterEqual = Some (Strict op.GreaterEqual)
binary_of mark.Equal = Some (Strict op.Equal)
binary_of mark.NotEqual = Some (Strict op.NotEqual)
binary_of mark.Ampersand = Some (Strict op.BitAnd)
binary_of mark.Caret = Some (Strict op.BitXor)
binary_of mark.Bar = Some (Strict op.BitOr)
binary_of mark.AndAnd = Some And
binary_of mark.BarBar = Some Or
binary_of _ = None

-- the operator of an assignment as `+=`
abbrev pub updating_of : Mark → Option Operator
updating_of mark.TimesAssign = Some op.Mul
updating_of mark.DivideAssign = Some op.Div
updating_of mark.RemainderAssign = Some op.Rem
updating_of mark.PlusAssign = Some op.Add
updating_of mark.MinusAssign = Some op.Sub
updating_of mark.ShiftLeftAssign = Some op.ShiftLeft
updating_of mark.ShiftRightAssign = Some op.ShiftRight
updating_of mark.AmpersandAssign = Some op.BitAnd
updating_of mark.CaretAssign = Some op.BitXor
updating_of mark.BarAssign = Some op.BitOr
updating_of _ = None

-- an operator of a layer up to k in front, its place, and the tokens behind it
abbrev pub within : ℕ → Pos → List Token → Option BinaryOp → Option (BinaryOp × Pos × List Token)
within k pos rest None = None
within k pos rest (Some o) = if nat_le (layer o) k then Some (o, pos, rest) else None

unfoldable pub operator_at : ℕ → List Token → Option (BinaryOp × Pos × List Token)
operator_at k [] = None
operator_at k (NameToken x ∷ rest) = None
operator_at k (NumberToken n pos ∷ rest) = None
operator_at k (MarkToken m pos ∷ rest) = within k pos rest (binary_of m)

-- ---- expressions

-- how the expressions below are read, by their layer
abbrev pub Below : Type 0
Below = ℕ → Reader Expr

-- arguments and the `)` behind them
abbrev pub arguments_turn : Below → List Token → Option (List Token) → Reading (List Expr)
arguments_turn below tokens (Some rest) = Ok ([], rest)
arguments_turn below tokens None = do
  es ← listed (below 11) tokens
  to ← expect mark.CloseParen es.1
  Ok (es.0, to)

unfoldable pub arguments_at : Below → Reader (List Expr)
arguments_at below tokens = arguments_turn below tokens (behind mark.CloseParen tokens)

-- behind a name: an index, arguments, or neither
abbrev pub name_turn : Below → Name → List Token → (index arguments : Option (List Token)) → Reading Expr
name_turn below x tokens (Some rest) arguments = do
  e ← below 11 rest
  to ← expect mark.CloseBracket e.1
  Ok (Element x e.0, to)
name_turn below x tokens None (Some rest) = do
  es ← arguments_at below rest
  Ok (Call x (exprs es.0), es.1)
name_turn below x tokens None None = Ok (Variable x, tokens)

unfoldable pub named_at : Below → Name → Reader Expr
named_at below x tokens = name_turn below x tokens (behind mark.OpenBracket tokens) (behind mark.OpenParen tokens)

unfoldable pub unary_at : Below → UnaryOp → Reader Expr
unary_at below o tokens = do
  e ← below 0 tokens
  Ok (Unary o e.0, e.1)

unfoldable pub marked_at : Below → Mark → Reader Expr
marked_at below mark.OpenParen tokens = do
  e ← below 11 tokens
  to ← expect mark.CloseParen e.1
  Ok (Paren e.0, to)
marked_at below mark.Minus tokens = unary_at below unary.Negate tokens
marked_at below mark.Tilde tokens = unary_at below unary.Invert tokens
marked_at below mark.Exclamation tokens = unary_at below unary.Not tokens
marked_at below m tokens = Err Syntax

unfoldable pub operand_at : Below → Reader Expr
operand_at below [] = Err Syntax
operand_at below (NameToken x ∷ rest) = named_at below x rest
operand_at below (NumberToken n pos ∷ rest) = Ok (Number n, rest)
operand_at below (MarkToken m pos ∷ rest) = marked_at below m rest

-- left, and the operators and operands behind it; the fuel is never used up where it is the room
abbrev pub chain_turn : Below → (Expr → Reader Expr) → ℕ → Expr → List Token → Option (BinaryOp × Pos × List Token) → Reading Expr
chain_turn below go room left tokens None = Ok (left, tokens)
chain_turn below go room left tokens (Some (o, pos, rest)) =
    if nat_lt (height left) room then (below (layer o - 1) rest >>= λ right. go (Binary o pos left right.0) right.1) else Err TooDeep

unfoldable pub chain : Below → (fuel room k : ℕ) → Expr → Reader Expr
chain below zero room k left tokens = chain_turn below (λ l s. Err TooDeep) room left tokens (operator_at k tokens)
chain below (suc fuel) room k left tokens = chain_turn below (chain below fuel room k) room left tokens (operator_at k tokens)

-- operands, and the operators of layers up to k between them
unfoldable pub chained_at : Below → (room k : ℕ) → Reader Expr
chained_at below room k tokens = do
  left ← operand_at below tokens
  chain below room room k left.0 left.1

-- behind a `?`: what is chosen where the test isn't 0, a `:`, and what is chosen where it is
unfoldable pub arms_at : Below → Expr → Reader Expr
arms_at below test tokens = do
  a ← below 11 tokens
  rest ← expect mark.Colon a.1
  b ← below 11 rest
  Ok (Conditional test a.0 b.0, b.1)

-- the tokens behind a `?` that is in front, where layer 11 is read
unfoldable pub question_at : ℕ → List Token → Option (List Token)
question_at k tokens = if nat_le 11 k then behind mark.Question tokens else None

-- a test, if a `?` is there, or else all of the expression
abbrev pub choice_turn : Below → ℕ → Expr → List Token → Option (List Token) → Reading Expr
choice_turn below room test tokens None = Ok (test, tokens)
choice_turn below room test tokens (Some rest) = if nat_lt (height test) room then arms_at below test rest else Err TooDeep

-- an expression of layer k, of height at most the room
unfoldable pub expr_at : (room k : ℕ) → Reader Expr
expr_at zero k tokens = Err TooDeep
expr_at (suc room) k tokens = do
  test ← chained_at (expr_at room) (suc room) k tokens
  choice_turn (expr_at room) (suc room) test.0 test.1 (question_at k test.1)

-- `( e )`
unfoldable pub in_parens_at : ℕ → Reader Expr
in_parens_at room tokens = do
  a ← expect mark.OpenParen tokens
  e ← expr_at room 11 a
  to ← expect mark.CloseParen e.1
  Ok (e.0, to)

-- what may be absent before a mark, and the mark
abbrev pub optional_turn : {X : Type 0} → Mark → Reader X → List Token → Option (List Token) → Reading (Option X)
optional_turn m read tokens (Some rest) = Ok (None, rest)
optional_turn m read tokens None = do
  x ← read tokens
  to ← expect m x.1
  Ok (Some x.0, to)

unfoldable pub optional_at : {X : Type 0} → Mark → Reader X → Reader (Option X)
optional_at m read tokens = optional_turn m read tokens (behind m tokens)

-- ---- declarations

-- behind the name of a local
abbrev pub local_turn : ℕ → Name → List Token → Option (List Token) → Reading LocalDecl
local_turn room x tokens (Some rest) = do
  e ← expr_at room 11 rest
  Ok (record { name = x; init = Some e.0 }, e.1)
local_turn room x tokens None = Ok (record { name = x; init = None }, tokens)

unfoldable pub local_at : ℕ → Reader LocalDecl
local_at room tokens = do
  x ← name_at tokens
  local_turn room x.0 x.1 (behind mark.Assign x.1)

-- a declaration behind its `int`
unfoldable pub locals_at : ℕ → Reader (List LocalDecl)
locals_at zero tokens = Err TooDeep
locals_at (suc room) tokens = listed (local_at room) tokens

-- ---- assignments

-- what is assigned to, behind its name
abbrev pub place_turn : ℕ → Name → List Token → Option (List Token) → Reading Place
place_turn room x tokens (Some rest) = do
  e ← expr_at room 11 rest
  to ← expect mark.CloseBracket e.1
  Ok (ToElement x e.0, to)
place_turn room x tokens None = Ok (ToVariable x, tokens)

unfoldable pub place_at : ℕ → Name → Reader Place
place_at room x tokens = place_turn room x tokens (behind mark.OpenBracket tokens)

abbrev pub update_turn : ℕ → Place → Pos → List Token → Option Operator → Reading Assignment
update_turn room p pos tokens None = Err Syntax
update_turn room p pos tokens (Some o) = do
  e ← expr_at room 11 tokens
  Ok (Update p o pos e.0, e.1)

-- what is done to a place, behind the mark that says so
unfoldable pub update_at : ℕ → Place → Mark → Pos → Reader Assignment
update_at room p mark.Assign pos tokens = do
  e ← expr_at room 11 tokens
  Ok (Set p e.0, e.1)
update_at room p mark.Increment pos tokens = Ok (Increment p, tokens)
update_at room p mark.Decrement pos tokens = Ok (Decrement p, tokens)
update_at room p m pos tokens = update_turn room p pos tokens (updating_of m)

unfoldable pub updated_at : ℕ → Place → Reader Assignment
updated_at room p [] = Err Syntax
updated_at room p (NameToken x ∷ rest) = Err Syntax
updated_at room p (NumberToken n pos ∷ rest) = Err Syntax
updated_at room p (MarkToken m pos ∷ rest) = update_at room p m pos rest

-- an assignment behind its first name
unfoldable pub assigned_at : ℕ → Name → Reader Assignment
assigned_at zero x tokens = Err TooDeep
assigned_at (suc room) x tokens = do
  p ← place_at room x tokens
  updated_at room p.0 p.1

unfoldable pub assignment_at : ℕ → Reader Assignment
assignment_at room tokens = do
  x ← name_at tokens
  assigned_at room x.0 x.1

-- ---- statements

-- what a `for` begins with, and the `;` behind it
abbrev pub init_turn : ℕ → List Token → (absent locals : Option (List Token)) → Reading Init
init_turn room tokens (Some rest) locals = Ok (NoInit, rest)
init_turn room tokens None (Some rest) = do
  ds ← locals_at room rest
  to ← expect mark.Semicolon ds.1
  Ok (InitLocals ds.0, to)
init_turn room tokens None None = do
  a ← assignment_at room tokens
  to ← expect mark.Semicolon a.1
  Ok (InitAssign a.0, to)

unfoldable pub init_at : ℕ → Reader Init
init_at room tokens = init_turn room tokens (behind mark.Semicolon tokens) (behind mark.Int tokens)

unfoldable pub for_clauses_at : ℕ → Reader ForClauses
for_clauses_at room tokens = do
  a ← expect mark.OpenParen tokens
  i ← init_at room a
  e ← optional_at mark.Semicolon (expr_at room 11) i.1
  s ← optional_at mark.CloseParen (assignment_at room) e.1
  Ok (record { init = i.0; test = e.0; step = s.0 }, s.1)

-- a part of a block
abbrev pub part_turn : ℕ → Reader Stmt → List Token → Option (List Token) → Reading Part
part_turn room below tokens (Some rest) = do
  ds ← locals_at room rest
  to ← expect mark.Semicolon ds.1
  Ok (Locals ds.0, to)
part_turn room below tokens None = do
  s ← below tokens
  Ok (Statement s.0, s.1)

unfoldable pub part_at : ℕ → Reader Stmt → Reader Part
part_at room below tokens = part_turn room below tokens (behind mark.Int tokens)

-- the parts of a block behind its `{`, and the `}` behind them
unfoldable pub parts_at : ℕ → Reader Stmt → Reader (List Part)
parts_at room below tokens = all_of (until mark.CloseBrace) (part_at room below) tokens

unfoldable pub block_at : ℕ → Reader Stmt → Reader Stmt
block_at room below tokens = do
  ps ← parts_at room below tokens
  Ok (Block (parts ps.0), ps.1)

-- a statement that begins with a name: a call, or an assignment
abbrev pub named_stmt_turn : ℕ → Name → List Token → Option (List Token) → Reading Stmt
named_stmt_turn room x tokens (Some rest) = do
  es ← arguments_at (expr_at room) rest
  to ← expect mark.Semicolon es.1
  Ok (CallStatement x (exprs es.0), to)
named_stmt_turn room x tokens None = do
  a ← assigned_at room x tokens
  to ← expect mark.Semicolon a.1
  Ok (Assign a.0, to)

unfoldable pub named_stmt_at : ℕ → Name → Reader Stmt
named_stmt_at room x tokens = named_stmt_turn room x tokens (behind mark.OpenParen tokens)

unfoldable pub print_at : ℕ → Pos → Reader Stmt
print_at room pos tokens = do
  e ← in_parens_at room tokens
  to ← expect mark.Semicolon e.1
  Ok (Print pos e.0, to)

unfoldable pub emit_at : ℕ → Pos → Reader Stmt
emit_at room pos tokens = do
  e ← in_parens_at room tokens
  to ← expect mark.Semicolon e.1
  Ok (Emit pos e.0, to)

-- an `else`, if it's there
abbrev pub else_turn : Reader Stmt → Expr → Stmt → List Token → Option (List Token) → Reading Stmt
else_turn below e s tokens None = Ok (If e s, tokens)
else_turn below e s tokens (Some rest) = do
  t ← below rest
  Ok (IfElse e s t.0, t.1)

unfoldable pub else_at : Reader Stmt → Expr → Stmt → Reader Stmt
else_at below e s tokens = else_turn below e s tokens (behind mark.Else tokens)

unfoldable pub if_at : ℕ → Reader Stmt → Reader Stmt
if_at room below tokens = do
  e ← in_parens_at room tokens
  s ← below e.1
  else_at below e.0 s.0 s.1

unfoldable pub while_at : ℕ → Reader Stmt → (marked : Bool) → Reader Stmt
while_at room below marked tokens = do
  e ← in_parens_at room tokens
  s ← below e.1
  Ok (While marked e.0 s.0, s.1)

unfoldable pub do_at : ℕ → Reader Stmt → Reader Stmt
do_at room below tokens = do
  s ← below tokens
  a ← expect mark.While s.1
  e ← in_parens_at room a
  to ← expect mark.Semicolon e.1
  Ok (DoWhile s.0 e.0, to)

unfoldable pub for_at : ℕ → Reader Stmt → (marked : Bool) → Reader Stmt
for_at room below marked tokens = do
  h ← for_clauses_at room tokens
  s ← below h.1
  Ok (For marked h.0 s.0, s.1)

unfoldable pub break_at : Pos → Reader Stmt
break_at pos tokens = do
  to ← expect mark.Semicolon tokens
  Ok (Break pos, to)

unfoldable pub continue_at : Pos → Reader Stmt
continue_at pos tokens = do
  to ← expect mark.Semicolon tokens
  Ok (Continue pos, to)

unfoldable pub return_at : ℕ → Pos → Reader Stmt
return_at room pos tokens = do
  e ← optional_at mark.Semicolon (expr_at room 11) tokens
  Ok (Return pos e.0, e.1)

-- a statement that begins with a mark, behind the mark
unfoldable pub marked_stmt_at : ℕ → Reader Stmt → Mark → Pos → Reader Stmt
marked_stmt_at room below mark.OpenBrace pos tokens = block_at room below tokens
marked_stmt_at room below mark.Semicolon pos tokens = Ok (Empty, tokens)
marked_stmt_at room below mark.Print pos tokens = print_at room pos tokens
marked_stmt_at room below mark.Emit pos tokens = emit_at room pos tokens
marked_stmt_at room below mark.If pos tokens = if_at room below tokens
marked_stmt_at room below mark.While pos tokens = while_at room below false tokens
marked_stmt_at room below mark.MarkedWhile pos tokens = while_at room below true tokens
marked_stmt_at room below mark.Do pos tokens = do_at room below tokens
marked_stmt_at room below mark.For pos tokens = for_at room below false tokens
marked_stmt_at room below mark.MarkedFor pos tokens = for_at room below true tokens
marked_stmt_at room below mark.Break pos tokens = break_at pos tokens
marked_stmt_at room below mark.Continue pos tokens = continue_at pos tokens
marked_stmt_at room below mark.Return pos tokens = return_at room pos tokens
marked_stmt_at room below m pos tokens = Err Syntax

-- a statement whose parts have height at most the room
unfoldable pub stmt_with : ℕ → Reader Stmt → Reader Stmt
stmt_with room below [] = Err Syntax
stmt_with room below (NameToken x ∷ rest) = named_stmt_at room x rest
stmt_with room below (NumberToken n pos ∷ rest) = Err Syntax
stmt_with room below (MarkToken m pos ∷ rest) = marked_stmt_at room below m pos rest

-- a statement of height at most the room
unfoldable pub stmt_at : ℕ → Reader Stmt
stmt_at zero tokens = Err TooDeep
stmt_at (suc room) tokens = stmt_with room (stmt_at room) tokens

-- ---- globals

abbrev pub constant_turn : List Token → Option (List Token) → Reading Constant
constant_turn tokens (Some rest) = do
  n ← number_at rest
  Ok (record { is_negated = true; number = n.0 }, n.1)
constant_turn tokens None = do
  n ← number_at tokens
  Ok (record { is_negated = false; number = n.0 }, n.1)

unfoldable pub constant_at : Reader Constant
constant_at tokens = constant_turn tokens (behind mark.Minus tokens)

-- the initialisers of an array, if they're there
abbrev pub values_turn : List Token → Option (List Token) → Reading (List Constant)
values_turn tokens None = Ok ([], tokens)
values_turn tokens (Some rest) = do
  a ← expect mark.OpenBrace rest
  cs ← listed constant_at a
  to ← expect mark.CloseBrace cs.1
  Ok (cs.0, to)

unfoldable pub values_at : Reader (List Constant)
values_at tokens = values_turn tokens (behind mark.Assign tokens)

-- behind the name of a global
abbrev pub shape_turn : List Token → (length initialiser : Option (List Token)) → Reading Shape
shape_turn tokens (Some rest) initialiser = do
  n ← number_at rest
  a ← expect mark.CloseBracket n.1
  cs ← values_at a
  Ok (Array n.0 cs.0, cs.1)
shape_turn tokens None (Some rest) = do
  c ← constant_at rest
  Ok (Scalar (Some c.0), c.1)
shape_turn tokens None None = Ok (Scalar None, tokens)

unfoldable pub shape_at : Reader Shape
shape_at tokens = shape_turn tokens (behind mark.OpenBracket tokens) (behind mark.Assign tokens)

unfoldable pub global_at : Reader GlobalDecl
global_at tokens = do
  x ← name_at tokens
  s ← shape_at x.1
  Ok (record { name = x.0; shape = s.0 }, s.1)

-- a declaration of globals behind its first name
unfoldable pub globals_at : Name → Reader Item
globals_at x tokens = do
  s ← shape_at tokens
  gs ← listed_from global_at (record { name = x; shape = s.0 }) s.1
  to ← expect mark.Semicolon gs.1
  Ok (Globals gs.0, to)

-- ---- functions

unfoldable pub param_at : Reader Name
param_at tokens = do
  a ← expect mark.Int tokens
  name_at a

-- the parameters behind a `(`, and the `)` behind them
abbrev pub params_turn : List Token → (absent void : Option (List Token)) → Reading Params
params_turn tokens (Some rest) void = Ok (NoParams, rest)
params_turn tokens None (Some rest) = do
  to ← expect mark.CloseParen rest
  Ok (VoidParams, to)
params_turn tokens None None = do
  xs ← listed param_at tokens
  to ← expect mark.CloseParen xs.1
  Ok (NamedParams xs.0, to)

unfoldable pub params_at : Reader Params
params_at tokens = params_turn tokens (behind mark.CloseParen tokens) (behind mark.Void tokens)

-- a function behind its `(`, where the parts of its body have height at most the room
unfoldable pub function_at : ℕ → Returns → Name → Reader Item
function_at room r x tokens = do
  ps ← params_at tokens
  a ← expect mark.OpenBrace ps.1
  body ← parts_at room (stmt_at room) a
  Ok (Function (record { returns = r; name = x; params = ps.0; body = parts body.0 }), body.1)

-- ---- programs

-- behind `int` and a name: a function, or globals
abbrev pub int_turn : ℕ → Name → List Token → Option (List Token) → Reading Item
int_turn room x tokens (Some rest) = function_at room returns.Int x rest
int_turn room x tokens None = globals_at x tokens

-- behind `int`
unfoldable pub int_item_at : ℕ → Reader Item
int_item_at room tokens = do
  x ← name_at tokens
  int_turn room x.0 x.1 (behind mark.OpenParen x.1)

-- behind `void`
unfoldable pub void_item_at : ℕ → Reader Item
void_item_at room tokens = do
  x ← name_at tokens
  a ← expect mark.OpenParen x.1
  function_at room returns.Void x.0 a

abbrev pub item_turn : ℕ → List Token → (int void : Option (List Token)) → Reading Item
item_turn room tokens (Some rest) void = int_item_at room rest
item_turn room tokens None (Some rest) = void_item_at room rest
item_turn room tokens None None = Err Syntax

unfoldable pub item_at : ℕ → Reader Item
item_at room tokens = item_turn room tokens (behind mark.Int tokens) (behind mark.Void tokens)

-- a program, where the parts of each function's body have height at most the room: three nodes stand above them
unfoldable pub program_at : ℕ → List Token → Result Program Refusal
program_at room tokens = do
  is ← all_of until_end (item_at room) tokens
  Ok (record { items = is.0 })
