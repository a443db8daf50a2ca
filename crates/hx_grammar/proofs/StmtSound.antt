-- A statement that is read is spelled so, and no `else` follows that it could have.
use Rattle.std.proofs.Common.{◌≡◌, ℕ, zero, suc, Bool, true, false, cond, List, [], ◌∷◌, Option, Some, None, refl}
use Rattle.hx_tree.specs.declared.token.Pos.{Pos}
use Rattle.hx_tree.specs.declared.token.Mark.{Mark}
use Rattle.hx_tree.specs.declared.token.Mark.TheVariants as mark
use Rattle.hx_tree.specs.Tree.{Name, Stmt, Part, parts}
use Rattle.hx_tree.specs.Lexis.{Token, NameToken, NumberToken, MarkToken}
use Rattle.hx_tree.specs.Grammar.{The, IsExpr, ends_open, IsStmt, IsPart, AreParts, ◌⨾◌}
use Rattle.hx_grammar.specs.Reading.{Reader, behind, expr_at, part_turn, part_at, parts_at, block_at, named_stmt_turn, named_stmt_at, print_at, emit_at, else_turn, else_at, if_at, while_at, do_at, for_at, break_at, continue_at, return_at, marked_stmt_at, stmt_with, stmt_at}
use Rattle.hx_grammar.proofs.Readings.{behind_here, Yields, yields, yields_none, yields_then, yields_behind, yields_if, yields_more}
use Rattle.hx_grammar.proofs.Lists.{OneAfterOther, until_yields}
use Rattle.hx_grammar.proofs.ExprSound.{whole_expr_yields, expr_yields, arguments_yields, in_parens_yields, optional_yields}
use Rattle.hx_grammar.proofs.PartSound.{locals_yields, assigned_yields, for_clauses_yields}

-- the statement could go on with an `else`, and none is there
abbrev pub NoElse : Stmt → List Token → Type 0
NoElse s to = ends_open s ≡ true → behind mark.Else to ≡ None

abbrev pub StmtRead : List Token → Stmt → List Token → Type 0
StmtRead from s to = IsStmt s from to × NoElse s to

abbrev pub StmtSound : Reader Stmt → Type 0
StmtSound below = (from : List Token) → Yields (below from) (StmtRead from)

never : {P : Type 0} → false ≡ true → P
never e = absurd cc

-- ---- blocks

part_yields : (room : ℕ) (below : Reader Stmt) → StmtSound below → (from : List Token)
    → Yields (part_at room below from) (λ p to. IsPart p from to)
unfolding part_at
part_yields room below sound from =
    yields_if mark.Int from (part_turn room below from)
    (λ a h. yields_then _ _ (locals_yields room a) (λ ds b i. yields_behind _ _ _ (λ to c. yields (b, (a, h, i), c))))
    (λ none. yields_then _ _ (sound from) (λ s to h. yields (h.0)))

parts_are : (ps : List Part) (from to : List Token) → OneAfterOther IsPart ps from to → AreParts (parts ps) from to
parts_are [] from to h = h
parts_are (p ∷ ps) from to (a, h, hs) = (a, h, parts_are ps a to hs)

pub parts_yields : (room : ℕ) (below : Reader Stmt) → StmtSound below → (from : List Token)
    → Yields (parts_at room below from) (λ ps to. (AreParts (parts ps) ⨾ The mark.CloseBrace) from to)
unfolding parts_at
parts_yields room below sound from =
    yields_more (λ ps to h. (h.0, parts_are ps from h.0 h.1, h.2))
    (until_yields {P = IsPart} mark.CloseBrace (part_at room below) (part_yields room below sound) from)

block_yields : (room : ℕ) (below : Reader Stmt) → StmtSound below → (p : Pos) (from : List Token)
    → Yields (block_at room below from) (StmtRead (MarkToken mark.OpenBrace p ∷ from))
unfolding block_at
block_yields room below sound p from =
    yields_then _ _ (parts_yields room below sound from) (λ ps to h. yields ((from, (p, refl), h), λ e. never e))

-- ---- statements by what they begin with

named_stmt_yields : (room : ℕ) (x : Name) (from : List Token) → Yields (named_stmt_at room x from) (StmtRead (NameToken x ∷ from))
unfolding named_stmt_at
named_stmt_yields room x from =
    yields_if mark.OpenParen from (named_stmt_turn room x from)
    (λ a h. yields_then _ _ (arguments_yields (expr_at room) (expr_yields room) a) (λ es b i. yields_behind _ _ _ (λ to c. yields ((from, refl, (a, h, (i.0, i.1, (b, i.2, c)))), λ e. never e))))
    (λ none. yields_then _ _ (assigned_yields room x from) (λ u b i. yields_behind _ _ _ (λ to c. yields ((b, i, c), λ e. never e))))

print_yields : (room : ℕ) (p : Pos) (from : List Token) → Yields (print_at room p from) (StmtRead (MarkToken mark.Print p ∷ from))
unfolding print_at
print_yields room p from =
    yields_then _ _ (in_parens_yields room from) (λ v b h. yields_behind _ _ _ (λ to c. yields ((from, refl, (b, h, c)), λ e. never e)))

emit_yields : (room : ℕ) (p : Pos) (from : List Token) → Yields (emit_at room p from) (StmtRead (MarkToken mark.Emit p ∷ from))
unfolding emit_at
emit_yields room p from =
    yields_then _ _ (in_parens_yields room from) (λ v b h. yields_behind _ _ _ (λ to c. yields ((from, refl, (b, h, c)), λ e. never e)))

-- a statement before an `else` that it doesn't take
taken : (b : Bool) (o : Option (List Token)) (rest : List Token) → (b ≡ true → o ≡ None) → o ≡ Some rest → b ≡ false
taken true o rest f e = let x = f refl in absurd cc
taken false o rest f e = refl

if_yields : (room : ℕ) (below : Reader Stmt) → StmtSound below → (p : Pos) (from : List Token)
    → Yields (if_at room below from) (StmtRead (MarkToken mark.If p ∷ from))
unfolding if_at else_at
if_yields room below sound p from =
    yields_then _ _ (in_parens_yields room from) (λ v a h. yields_then _ _ (sound a) (λ s b i.
    yields_if mark.Else b (else_turn below v s b)
    (λ c j. yields_then _ _ (sound c) (λ t to k. yields ((taken (ends_open s) (behind mark.Else b) c i.1 (behind_here mark.Else b c refl j), (from, (p, refl), (a, h, (b, i.0, (c, j, k.0))))), k.1)))
    (λ none. yields ((from, (p, refl), (a, h, i.0)), λ e. none))))

while_yields : (room : ℕ) (below : Reader Stmt) → StmtSound below → (marked : Bool) (p : Pos) (from : List Token)
    → Yields (while_at room below marked from) (StmtRead (MarkToken (cond marked mark.MarkedWhile mark.While) p ∷ from))
unfolding while_at
while_yields room below sound marked p from =
    yields_then _ _ (in_parens_yields room from)
    (λ v a h. yields_then _ _ (sound a) (λ s to i. yields ((from, (p, refl), (a, h, i.0)), i.1)))

do_yields : (room : ℕ) (below : Reader Stmt) → StmtSound below → (p : Pos) (from : List Token)
    → Yields (do_at room below from) (StmtRead (MarkToken mark.Do p ∷ from))
unfolding do_at
do_yields room below sound p from =
    yields_then _ _ (sound from) (λ s a h. yields_behind _ _ _ (λ b w. yields_then _ _ (in_parens_yields room b) (λ v c i.
    yields_behind _ _ _ (λ to j. yields ((from, (p, refl), (a, h.0, (b, w, (c, i, j)))), λ e. never e)))))

for_yields : (room : ℕ) (below : Reader Stmt) → StmtSound below → (marked : Bool) (p : Pos) (from : List Token)
    → Yields (for_at room below marked from) (StmtRead (MarkToken (cond marked mark.MarkedFor mark.For) p ∷ from))
unfolding for_at
for_yields room below sound marked p from =
    yields_then _ _ (for_clauses_yields room from)
    (λ v a h. yields_then _ _ (sound a) (λ s to i. yields ((from, (p, refl), (a, h, i.0)), i.1)))

break_yields : (p : Pos) (from : List Token) → Yields (break_at p from) (StmtRead (MarkToken mark.Break p ∷ from))
unfolding break_at
break_yields p from = yields_behind _ _ _ (λ to c. yields ((from, refl, c), λ e. never e))

continue_yields : (p : Pos) (from : List Token) → Yields (continue_at p from) (StmtRead (MarkToken mark.Continue p ∷ from))
unfolding continue_at
continue_yields p from = yields_behind _ _ _ (λ to c. yields ((from, refl, c), λ e. never e))

return_yields : (room : ℕ) (p : Pos) (from : List Token) → Yields (return_at room p from) (StmtRead (MarkToken mark.Return p ∷ from))
unfolding return_at
return_yields room p from =
    yields_then _ _ (optional_yields {P = IsExpr} mark.Semicolon (expr_at room 11) (whole_expr_yields room) from)
    (λ v to h. yields ((from, refl, h), λ e. never e))

marked_stmt_yields : (room : ℕ) (below : Reader Stmt) → StmtSound below → (m : Mark) (p : Pos) (from : List Token)
    → Yields (marked_stmt_at room below m p from) (StmtRead (MarkToken m p ∷ from))
unfolding marked_stmt_at
marked_stmt_yields room below sound mark.OpenBrace p from = block_yields room below sound p from
marked_stmt_yields room below sound mark.Semicolon p from = yields ((p, refl), λ e. never e)
marked_stmt_yields room below sound mark.Print p from = print_yields room p from
marked_stmt_yields room below sound mark.Emit p from = emit_yields room p from
marked_stmt_yields room below sound mark.If p from = if_yields room below sound p from
marked_stmt_yields room below sound mark.While p from = while_yields room below sound false p from
marked_stmt_yields room below sound mark.MarkedWhile p from = while_yields room below sound true p from
marked_stmt_yields room below sound mark.Do p from = do_yields room below sound p from
marked_stmt_yields room below sound mark.For p from = for_yields room below sound false p from
marked_stmt_yields room below sound mark.MarkedFor p from = for_yields room below sound true p from
marked_stmt_yields room below sound mark.Break p from = break_yields p from
marked_stmt_yields room below sound mark.Continue p from = continue_yields p from
marked_stmt_yields room below sound mark.Return p from = return_yields room p from
marked_stmt_yields room below sound m p from = yields_none

stmt_with_yields : (room : ℕ) (below : Reader Stmt) → StmtSound below → (from : List Token)
    → Yields (stmt_with room below from) (StmtRead from)
unfolding stmt_with
stmt_with_yields room below sound [] = yields_none
stmt_with_yields room below sound (NameToken x ∷ rest) = named_stmt_yields room x rest
stmt_with_yields room below sound (NumberToken n pos ∷ rest) = yields_none
stmt_with_yields room below sound (MarkToken m pos ∷ rest) = marked_stmt_yields room below sound m pos rest

pub stmt_yields : (room : ℕ) → StmtSound (stmt_at room)
unfolding stmt_at
stmt_yields zero = λ from. yields_none
stmt_yields (suc room) = λ from. stmt_with_yields room (stmt_at room) (stmt_yields room) from
