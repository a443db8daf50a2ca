-- How many words that mark loops stand in the tokens of a phrase: as many as the marked loops of the tree that it spells.
use Rattle.std.proofs.Common.{◌≡◌, ℕ, ◌+◌, ◌-◌, Bool, true, false, if◌then◌else◌, ◌||◌, List, [], ◌∷◌, ◌++◌, length, refl, ap, ◌∙◌, arith, length-append}
use Rattle.std.specs.Prelude.{Option, Some, None, flat_map}
use Rattle.hx_tree.specs.declared.token.Pos.{Pos}
use Rattle.hx_tree.specs.declared.token.Mark.{Mark}
use Rattle.hx_tree.specs.declared.token.Mark.TheVariants as mark
use Rattle.hx_tree.specs.declared.tree.Constant.{Constant}
use Rattle.hx_tree.specs.declared.tree.Returns.{Returns}
use Rattle.hx_tree.specs.declared.tree.Returns.TheVariants as returns
use Rattle.hx_tree.specs.declared.tree.UnaryOp.{UnaryOp}
use Rattle.hx_tree.specs.declared.tree.UnaryOp.TheVariants as unary
use Rattle.hx_tree.specs.declared.tree.BinaryOp.{BinaryOp}
use Rattle.hx_tree.specs.declared.tree.BinaryOp.TheVariants.{Strict, And, Or}
use Rattle.hx_tree.specs.declared.tree.Operator.{Operator}
use Rattle.hx_tree.specs.declared.tree.Operator.TheVariants as op
use Rattle.hx_tree.specs.Lexis.{Token, MarkToken}
use Rattle.hx_tree.specs.Tree as tree
use Rattle.hx_tree.specs.Tree.{Name}
use Rattle.hx_tree.specs.Grammar.{Phrase, ◌⨾◌, ◌given◌, Nothing, Named, Numeral, At, The, Optional, EachBehindComma, Listed, unary_mark, operator_mark, binary_mark, layer, Updating, IsExprOf, AreArguments, AreMoreArguments, IsExpr, IsLocal, AreLocals, IsPlace, IsAssignment, IsInit, AreForClauses, InParens, IsStmt, IsPart, AreParts, Sign, IsConstant, AreValues, IsShape, IsGlobal, IsParams, returns_mark, AreItems}
use Rattle.hx_tree.specs.Meaning.{item_functions}
use Rattle.hx_names.specs.Lines.{token_lines, loop_marks, stmt_marks, part_marks, parts_marks}

-- how many words mark loops among tokens
abbrev pub told : List Token → ℕ
told ts = length (flat_map token_lines ts)

-- each such phrase has so many
pub record Marks (P : Phrase) (n : ℕ) : Type 0 where
  pub so_many : (from to : List Token) → P from to → told from ≡ n + told to

-- ---- phrases of one token or of none, and one phrase after another

named : (x : Name) → Marks (Named x) 0
named x = record { so_many = λ from to h. let e : told from ≡ told to = ap told h in omega arith }

numeral : (n : ℕ) → Marks (Numeral n) 0
numeral n = record { so_many = λ from to h. let e : told from ≡ told to = ap told h.1 in omega arith }

nothing : Marks Nothing 0
nothing = record { so_many = λ from to h. let e : told from ≡ told to = ap told h in omega arith }

-- a mark that marks no loop
abbrev IsQuiet : Mark → Type 0
IsQuiet m = (pos : Pos) → token_lines (MarkToken m pos) ≡ []

at : (pos : Pos) (m : Mark) → IsQuiet m → Marks (At pos m) 0
at pos m quiet = record {
  so_many = λ from to h.
      let e : told from ≡ told to = ap told h ∙ ap (λ l. length (l ++ flat_map token_lines to)) (quiet pos) in
      omega arith;
}

the : (m : Mark) → IsQuiet m → Marks (The m) 0
the m quiet = record { so_many = λ from to h. (at h.0 m quiet).so_many from to h.1 }

infixr 3 ◌⊳◌
◌⊳◌ : {P Q : Phrase} {m n : ℕ} → Marks P m → Marks Q n → Marks (P ⨾ Q) (m + n)
◌⊳◌ p q = record {
  so_many = λ from to h. let front = p.so_many from h.0 h.1 in let back = q.so_many h.0 to h.2 in omega arith;
}

under : {P : Phrase} {C : Type 0} {n : ℕ} → Marks P n → Marks (P given C) n
under p = record { so_many = λ from to h. p.so_many from to h.1 }

counted : {P : Phrase} {m n : ℕ} → m ≡ n → Marks P m → Marks P n
counted same p = record { so_many = λ from to h. let e = p.so_many from to h in omega arith }

optional : {X : Type 0} (P : X → Phrase) → ((x : X) → Marks (P x) 0) → (o : Option X) → Marks (Optional P o) 0
optional P quiet None = nothing
optional P quiet (Some x) = quiet x

behind_comma : {X : Type 0} (P : X → Phrase) → ((x : X) → Marks (P x) 0) → (xs : List X) → Marks (EachBehindComma P xs) 0
behind_comma P quiet [] = nothing
behind_comma P quiet (x ∷ xs) = the mark.Comma (λ pos. refl) ⊳ quiet x ⊳ behind_comma P quiet xs

listed : {X : Type 0} (P : X → Phrase) → ((x : X) → Marks (P x) 0) → (xs : List X) → Marks (Listed P xs) 0
listed P quiet [] = record { so_many = λ from to h. absurd h }
listed P quiet (x ∷ xs) = quiet x ⊳ behind_comma P quiet xs

-- ---- operators

unary_quiet : (o : UnaryOp) → IsQuiet (unary_mark o)
unary_quiet unary.Negate pos = refl
unary_quiet unary.Invert pos = refl
unary_quiet unary.Not pos = refl

operator_quiet : (o : Operator) → IsQuiet (operator_mark o)
operator_quiet op.Mul pos = refl
operator_quiet op.Div pos = refl
operator_quiet op.Rem pos = refl
operator_quiet op.Add pos = refl
operator_quiet op.Sub pos = refl
operator_quiet op.ShiftLeft pos = refl
operator_quiet op.ShiftRight pos = refl
operator_quiet op.Less pos = refl
operator_quiet op.LessEqual pos = refl
operator_quiet op.Greater pos = refl
operator_quiet op.GreaterEqual pos = refl
operator_quiet op.Equal pos = refl
operator_quiet op.NotEqual pos = refl
operator_quiet op.BitAnd pos = refl
operator_quiet op.BitXor pos = refl
operator_quiet op.BitOr pos = refl

binary_quiet : (o : BinaryOp) → IsQuiet (binary_mark o)
binary_quiet (Strict o) pos = operator_quiet o pos
binary_quiet And pos = refl
binary_quiet Or pos = refl

updating : (pos : Pos) (o : Operator) → Marks (Updating pos o) 0
updating pos op.Mul = at pos mark.TimesAssign (λ p. refl)
updating pos op.Div = at pos mark.DivideAssign (λ p. refl)
updating pos op.Rem = at pos mark.RemainderAssign (λ p. refl)
updating pos op.Add = at pos mark.PlusAssign (λ p. refl)
updating pos op.Sub = at pos mark.MinusAssign (λ p. refl)
updating pos op.ShiftLeft = at pos mark.ShiftLeftAssign (λ p. refl)
updating pos op.ShiftRight = at pos mark.ShiftRightAssign (λ p. refl)
updating pos op.BitAnd = at pos mark.AmpersandAssign (λ p. refl)
updating pos op.BitXor = at pos mark.CaretAssign (λ p. refl)
updating pos op.BitOr = at pos mark.BarAssign (λ p. refl)
updating pos _ = record { so_many = λ from to h. absurd h }

-- ---- expressions

mutual
  expr : (e : tree.Expr) (k : ℕ) → Marks (IsExprOf k e) 0
  expr (tree.Number n) k = numeral n
  expr (tree.Variable x) k = named x
  expr (tree.Element x e) k = named x ⊳ the mark.OpenBracket (λ pos. refl) ⊳ expr e 11 ⊳ the mark.CloseBracket (λ pos. refl)
  expr (tree.Call f es) k = named f ⊳ the mark.OpenParen (λ pos. refl) ⊳ arguments es ⊳ the mark.CloseParen (λ pos. refl)
  expr (tree.Paren e) k = the mark.OpenParen (λ pos. refl) ⊳ expr e 11 ⊳ the mark.CloseParen (λ pos. refl)
  expr (tree.Unary o e) k = the (unary_mark o) (unary_quiet o) ⊳ expr e 0
  expr (tree.Binary o pos l r) k = under (expr l (layer o) ⊳ at pos (binary_mark o) (binary_quiet o) ⊳ expr r (layer o - 1))
  expr (tree.Conditional c a b) k =
      under (expr c 10 ⊳ the mark.Question (λ pos. refl) ⊳ expr a 11 ⊳ the mark.Colon (λ pos. refl) ⊳ expr b 11)

  arguments : (es : tree.Exprs) → Marks (AreArguments es) 0
  arguments tree.no_exprs = nothing
  arguments (tree.expr_and e es) = expr e 11 ⊳ more_arguments es

  more_arguments : (es : tree.Exprs) → Marks (AreMoreArguments es) 0
  more_arguments tree.no_exprs = nothing
  more_arguments (tree.expr_and e es) = the mark.Comma (λ pos. refl) ⊳ expr e 11 ⊳ more_arguments es

-- ---- what statements are made of

local : (d : tree.LocalDecl) → Marks (IsLocal d) 0
local d = named d.name ⊳ optional (λ e. The mark.Assign ⨾ IsExpr e) (λ e. the mark.Assign (λ pos. refl) ⊳ expr e 11) d.init

locals : (ds : List tree.LocalDecl) → Marks (AreLocals ds) 0
locals ds = the mark.Int (λ pos. refl) ⊳ listed IsLocal local ds

place : (p : tree.Place) → Marks (IsPlace p) 0
place (tree.ToVariable x) = named x
place (tree.ToElement x e) = named x ⊳ the mark.OpenBracket (λ pos. refl) ⊳ expr e 11 ⊳ the mark.CloseBracket (λ pos. refl)

assignment : (a : tree.Assignment) → Marks (IsAssignment a) 0
assignment (tree.Set p e) = place p ⊳ the mark.Assign (λ pos. refl) ⊳ expr e 11
assignment (tree.Update p o pos e) = place p ⊳ updating pos o ⊳ expr e 11
assignment (tree.Increment p) = place p ⊳ the mark.Increment (λ pos. refl)
assignment (tree.Decrement p) = place p ⊳ the mark.Decrement (λ pos. refl)

init : (i : tree.Init) → Marks (IsInit i) 0
init tree.NoInit = nothing
init (tree.InitLocals ds) = locals ds
init (tree.InitAssign a) = assignment a

for_clauses : (h : tree.ForClauses) → Marks (AreForClauses h) 0
for_clauses h =
    the mark.OpenParen (λ pos. refl) ⊳ init h.init ⊳ the mark.Semicolon (λ pos. refl) ⊳ optional IsExpr (λ e. expr e 11) h.test
    ⊳ the mark.Semicolon (λ pos. refl) ⊳ optional IsAssignment assignment h.step ⊳ the mark.CloseParen (λ pos. refl)

in_parens : (e : tree.Expr) → Marks (InParens e) 0
in_parens e = the mark.OpenParen (λ pos. refl) ⊳ expr e 11 ⊳ the mark.CloseParen (λ pos. refl)

-- ---- statements

while_word : (marked is_inside : Bool) → Marks (The (if marked then mark.MarkedWhile else mark.While)) (length (loop_marks marked is_inside))
while_word true is_inside = record { so_many = λ from to h. let e : told from ≡ told (MarkToken mark.MarkedWhile h.0 ∷ to) = ap told h.1 in omega arith }
while_word false is_inside = the mark.While (λ pos. refl)

for_word : (marked is_inside : Bool) → Marks (The (if marked then mark.MarkedFor else mark.For)) (length (loop_marks marked is_inside))
for_word true is_inside = record { so_many = λ from to h. let e : told from ≡ told (MarkToken mark.MarkedFor h.0 ∷ to) = ap told h.1 in omega arith }
for_word false is_inside = the mark.For (λ pos. refl)

mutual
  stmt : (s : tree.Stmt) (is_inside : Bool) → Marks (IsStmt s) (length (stmt_marks s is_inside))
  stmt (tree.Block ps) is_inside =
      counted (omega arith) (the mark.OpenBrace (λ pos. refl) ⊳ parts ps is_inside ⊳ the mark.CloseBrace (λ pos. refl))
  stmt tree.Empty is_inside = the mark.Semicolon (λ pos. refl)
  stmt (tree.Assign a) is_inside = assignment a ⊳ the mark.Semicolon (λ pos. refl)
  stmt (tree.CallStatement f es) is_inside =
      named f ⊳ the mark.OpenParen (λ pos. refl) ⊳ arguments es ⊳ the mark.CloseParen (λ pos. refl) ⊳ the mark.Semicolon (λ pos. refl)
  stmt (tree.Print pos e) is_inside = at pos mark.Print (λ p. refl) ⊳ in_parens e ⊳ the mark.Semicolon (λ p. refl)
  stmt (tree.Emit pos e) is_inside = at pos mark.Emit (λ p. refl) ⊳ in_parens e ⊳ the mark.Semicolon (λ p. refl)
  stmt (tree.If e s) is_inside = counted (omega arith) (the mark.If (λ pos. refl) ⊳ in_parens e ⊳ stmt s is_inside)
  stmt (tree.IfElse e s t) is_inside =
      under (counted (omega (arith, length-append (stmt_marks s is_inside) (stmt_marks t is_inside)))
      (the mark.If (λ pos. refl) ⊳ in_parens e ⊳ stmt s is_inside ⊳ the mark.Else (λ pos. refl) ⊳ stmt t is_inside))
  stmt (tree.While marked e s) is_inside =
      counted (omega (arith, length-append (loop_marks marked is_inside) (stmt_marks s (is_inside || marked))))
      (while_word marked is_inside ⊳ in_parens e ⊳ stmt s (is_inside || marked))
  stmt (tree.DoWhile s e) is_inside =
      counted (omega arith) (the mark.Do (λ pos. refl) ⊳ stmt s is_inside ⊳ the mark.While (λ pos. refl) ⊳ in_parens e ⊳ the mark.Semicolon (λ pos. refl))
  stmt (tree.For marked h s) is_inside =
      counted (omega (arith, length-append (loop_marks marked is_inside) (stmt_marks s (is_inside || marked))))
      (for_word marked is_inside ⊳ for_clauses h ⊳ stmt s (is_inside || marked))
  stmt (tree.Break pos) is_inside = at pos mark.Break (λ p. refl) ⊳ the mark.Semicolon (λ p. refl)
  stmt (tree.Continue pos) is_inside = at pos mark.Continue (λ p. refl) ⊳ the mark.Semicolon (λ p. refl)
  stmt (tree.Return pos e) is_inside = at pos mark.Return (λ p. refl) ⊳ optional IsExpr (λ x. expr x 11) e ⊳ the mark.Semicolon (λ p. refl)

  part : (p : tree.Part) (is_inside : Bool) → Marks (IsPart p) (length (part_marks p is_inside))
  part (tree.Locals ds) is_inside = locals ds ⊳ the mark.Semicolon (λ pos. refl)
  part (tree.Statement s) is_inside = stmt s is_inside

  parts : (ps : tree.Parts) (is_inside : Bool) → Marks (AreParts ps) (length (parts_marks ps is_inside))
  parts tree.no_parts is_inside = nothing
  parts (tree.part_and p ps) is_inside =
      counted (omega (arith, length-append (part_marks p is_inside) (parts_marks ps is_inside))) (part p is_inside ⊳ parts ps is_inside)

-- ---- programs

sign : (is_negated : Bool) → Marks (Sign is_negated) 0
sign false = nothing
sign true = the mark.Minus (λ pos. refl)

constant : (c : Constant) → Marks (IsConstant c) 0
constant c = sign c.is_negated ⊳ numeral c.number

values : (cs : List Constant) → Marks (AreValues cs) 0
values [] = nothing
values (c ∷ cs) = the mark.Assign (λ pos. refl) ⊳ the mark.OpenBrace (λ pos. refl) ⊳ listed IsConstant constant (c ∷ cs) ⊳ the mark.CloseBrace (λ pos. refl)

shape : (s : tree.Shape) → Marks (IsShape s) 0
shape (tree.Scalar value) = optional (λ c. The mark.Assign ⨾ IsConstant c) (λ c. the mark.Assign (λ pos. refl) ⊳ constant c) value
shape (tree.Array n cs) = the mark.OpenBracket (λ pos. refl) ⊳ numeral n ⊳ the mark.CloseBracket (λ pos. refl) ⊳ values cs

global : (g : tree.GlobalDecl) → Marks (IsGlobal g) 0
global g = named g.name ⊳ shape g.shape

params : (ps : tree.Params) → Marks (IsParams ps) 0
params tree.NoParams = nothing
params tree.VoidParams = the mark.Void (λ pos. refl)
params (tree.NamedParams xs) = listed (λ x. The mark.Int ⨾ Named x) (λ x. the mark.Int (λ pos. refl) ⊳ named x) xs

returns_quiet : (r : Returns) → IsQuiet (returns_mark r)
returns_quiet returns.Int pos = refl
returns_quiet returns.Void pos = refl

abbrev items_marks : List tree.Item → List Bool
items_marks is = flat_map (λ f. parts_marks f.body false) (flat_map item_functions is)

pub items : (is : List tree.Item) → Marks (AreItems is) (length (items_marks is))
items [] = nothing
items (tree.Globals gs ∷ is) =
    counted (omega arith) ((the mark.Int (λ pos. refl) ⊳ listed IsGlobal global gs ⊳ the mark.Semicolon (λ pos. refl)) ⊳ items is)
items (tree.Function f ∷ is) =
    counted (omega (arith, length-append (parts_marks f.body false) (items_marks is)))
    ((the (returns_mark f.returns) (returns_quiet f.returns) ⊳ named f.name ⊳ the mark.OpenParen (λ pos. refl) ⊳ params f.params
    ⊳ the mark.CloseParen (λ pos. refl) ⊳ the mark.OpenBrace (λ pos. refl) ⊳ parts f.body false ⊳ the mark.CloseBrace (λ pos. refl))
    ⊳ items is)
