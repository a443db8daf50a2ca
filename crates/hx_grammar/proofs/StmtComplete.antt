-- A statement that is spelled is read, at any room, or it's too deep.
use Rattle.std.proofs.Common.{◌≡◌, ℕ, zero, suc, ◌<◌, max, Bool, true, false, cond, List, [], ◌∷◌, Option, None, inr, refl, ap, arith}
use Rattle.hx_tree.specs.declared.token.Pos.{Pos}
use Rattle.hx_tree.specs.declared.token.Mark.TheVariants as mark
use Rattle.hx_tree.specs.Tree.{Name, Expr, Exprs, Assignment, LocalDecl, ForClauses, Stmt, Block, Empty, Assign, CallStatement, Print, Emit, If, IfElse, While, DoWhile, For, Break, Continue, Return, Part, Locals, Statement, Parts, no_parts, part_and, parts}
use Rattle.hx_tree.specs.Lexis.{Token, NameToken, MarkToken}
use Rattle.hx_tree.specs.Grammar.{The, Optional, AreArguments, IsExpr, IsAssignment, AreForClauses, InParens, ends_open, IsStmt, IsPart, AreParts}
use Rattle.hx_tree.specs.Height.{height, greatest, locals_height, stmt_height, part_height, parts_height}
use Rattle.hx_grammar.specs.Reading.{behind, expr_at, in_parens_at, optional_at, arguments_at, assigned_at, locals_at, for_clauses_at, part_turn, part_at, parts_at, block_at, named_stmt_turn, named_stmt_at, print_at, emit_at, else_turn, else_at, if_at, while_at, do_at, for_at, break_at, continue_at, return_at, marked_stmt_at, stmt_with, stmt_at}
use Rattle.hx_grammar.proofs.Readings.{behind_other, Answers, answer, answer_as, answer_then, answer_behind, answer_there, answer_absent, at_height, node, Ended, ended}
use Rattle.hx_grammar.proofs.Lists.{Each, IsRead, OneAfterOther, until_answers}
use Rattle.hx_grammar.proofs.ExprComplete.{exprs_list, expr_first, expr_answers, arguments_answers, in_parens_answers, optional_answers}
use Rattle.hx_grammar.proofs.PartComplete.{locals_answers, assigned, for_clauses_answers}
use Rattle.hx_grammar.proofs.StmtShape.{part_shorter, stmt_first, part_first, no_close_begins, no_else_begins, no_int_begins}
use Rattle.hx_grammar.proofs.StmtSound.{NoElse}

-- what is shown of s
abbrev pub Complete : Stmt → Type 0
Complete s = (n : ℕ) (from to : List Token) → IsStmt s from to → NoElse s to → Answers n (stmt_height s) (stmt_at n from) s to

-- a statement at its first token, with room for itself
abbrev Begun : ℕ → List Token → Stmt → List Token → Type 0
Begun n from s to = Answers (suc n) (stmt_height s) (stmt_with n (stmt_at n) from) s to

with_room : (s : Stmt) (from to : List Token) → 0 < stmt_height s → ((n : ℕ) → Begun n from s to) → (n : ℕ)
    → Answers n (stmt_height s) (stmt_at n from) s to
unfolding stmt_at
with_room s from to pos begun zero = record { or_deep = inr (pos, refl) }
with_room s from to pos begun (suc n) = begun n

semicolon : (from to : List Token) → The mark.Semicolon from to → Ended from
semicolon from to h = ended mark.Semicolon from to (refl, refl, refl, refl, refl) h

-- ---- one case each

empty_case : (n : ℕ) (from to : List Token) → The mark.Semicolon from to → Begun n from Empty to
unfolding stmt_with marked_stmt_at
empty_case n from to h = rw (h.1) (node answer 1 refl)

assign_case : (n : ℕ) (u : Assignment) (from mid to : List Token) → IsAssignment u from mid → The mark.Semicolon mid to
    → Begun n from (Assign u) to
unfolding stmt_with named_stmt_at
assign_case n u from mid to h i =
    let q = assigned u n from mid h (semicolon mid to i) in
    let begun : Begun n (NameToken q.name ∷ q.rest) (Assign u) to =
    answer_absent mark.OpenParen q.rest (named_stmt_turn n q.name q.rest) q.no_call
    (node (answer_then (assigned_at n q.name q.rest) _ q.answers (answer_behind mark.Semicolon mid _ refl i answer)) (stmt_height (Assign u)) (omega arith)) in
    rw (q.begins) begun

call_case : (n : ℕ) (f : Name) (es : Exprs) (a b c d to : List Token) → The mark.OpenParen a b → AreArguments es b c
    → The mark.CloseParen c d → The mark.Semicolon d to → Begun n (NameToken f ∷ a) (CallStatement f es) to
unfolding stmt_with named_stmt_at
call_case n f es a b c d to h i j k =
    answer_there mark.OpenParen a (named_stmt_turn n f a) refl h
    (node (answer_then (arguments_at (expr_at n) b) _ (arguments_answers es n b c d i j)
    (answer_behind mark.Semicolon d _ refl k (answer_as (ap (λ (x : Exprs). CallStatement f x) (exprs_list es))))) (stmt_height
    (CallStatement f es)) (omega arith))

print_case : (n : ℕ) (p : Pos) (e : Expr) (a b to : List Token) → InParens e a b → The mark.Semicolon b to
    → Begun n (MarkToken mark.Print p ∷ a) (Print p e) to
unfolding stmt_with marked_stmt_at print_at
print_case n p e a b to h i =
    node (answer_then (in_parens_at n a) _ (in_parens_answers e n a b h) (answer_behind mark.Semicolon b _ refl i answer))
    (stmt_height (Print p e)) (omega arith)

emit_case : (n : ℕ) (p : Pos) (e : Expr) (a b to : List Token) → InParens e a b → The mark.Semicolon b to
    → Begun n (MarkToken mark.Emit p ∷ a) (Emit p e) to
unfolding stmt_with marked_stmt_at emit_at
emit_case n p e a b to h i =
    node (answer_then (in_parens_at n a) _ (in_parens_answers e n a b h) (answer_behind mark.Semicolon b _ refl i answer))
    (stmt_height (Emit p e)) (omega arith)

if_case : (n : ℕ) (p : Pos) (e : Expr) (s : Stmt) (a b to : List Token) → InParens e a b → Answers n (stmt_height s) (stmt_at n b) s to
    → behind mark.Else to ≡ None → Begun n (MarkToken mark.If p ∷ a) (If e s) to
unfolding stmt_with marked_stmt_at if_at else_at
if_case n p e s a b to h i none =
    node (answer_then (in_parens_at n a) _ (in_parens_answers e n a b h) (answer_then (stmt_at n b) _ i
    (answer_absent mark.Else to (else_turn (stmt_at n) e s to) none answer))) (stmt_height (If e s)) (omega arith)

if_else_case : (n : ℕ) (p : Pos) (e : Expr) (s t : Stmt) (a b c d to : List Token) → InParens e a b
    → Answers n (stmt_height s) (stmt_at n b) s c → The mark.Else c d → Answers n (stmt_height t) (stmt_at n d) t to
    → Begun n (MarkToken mark.If p ∷ a) (IfElse e s t) to
unfolding stmt_with marked_stmt_at if_at else_at
if_else_case n p e s t a b c d to h i j k =
    node (answer_then (in_parens_at n a) _ (in_parens_answers e n a b h) (answer_then (stmt_at n b) _ i
    (answer_there mark.Else c (else_turn (stmt_at n) e s c) refl j (answer_then (stmt_at n d) _ k answer)))) (stmt_height (IfElse e s t)) (omega arith)

while_case : (n : ℕ) (marked : Bool) (p : Pos) (e : Expr) (s : Stmt) (a b to : List Token) → InParens e a b
    → Answers n (stmt_height s) (stmt_at n b) s to
    → Begun n (MarkToken (cond marked mark.MarkedWhile mark.While) p ∷ a) (While marked e s) to
unfolding stmt_with marked_stmt_at while_at
while_case n false p e s a b to h i =
    node (answer_then (in_parens_at n a) _ (in_parens_answers e n a b h) (answer_then (stmt_at n b) _ i answer))
    (stmt_height (While false e s)) (omega arith)
while_case n true p e s a b to h i =
    node (answer_then (in_parens_at n a) _ (in_parens_answers e n a b h) (answer_then (stmt_at n b) _ i answer))
    (stmt_height (While true e s)) (omega arith)

do_case : (n : ℕ) (p : Pos) (s : Stmt) (e : Expr) (a b c d to : List Token) → Answers n (stmt_height s) (stmt_at n a) s b
    → The mark.While b c → InParens e c d → The mark.Semicolon d to
    → Begun n (MarkToken mark.Do p ∷ a) (DoWhile s e) to
unfolding stmt_with marked_stmt_at do_at
do_case n p s e a b c d to h i j k =
    node (answer_then (stmt_at n a) _ h (answer_behind mark.While b _ refl i (answer_then (in_parens_at n c) _ (in_parens_answers e n c d j)
    (answer_behind mark.Semicolon d _ refl k answer)))) (stmt_height (DoWhile s e)) (omega arith)

for_case : (n : ℕ) (marked : Bool) (p : Pos) (c : ForClauses) (s : Stmt) (a b to : List Token) → AreForClauses c a b
    → Answers n (stmt_height s) (stmt_at n b) s to
    → Begun n (MarkToken (cond marked mark.MarkedFor mark.For) p ∷ a) (For marked c s) to
unfolding stmt_with marked_stmt_at for_at
for_case n false p c s a b to h i =
    node (answer_then (for_clauses_at n a) _ (for_clauses_answers c n a b h) (answer_then (stmt_at n b) _ i answer))
    (stmt_height (For false c s)) (omega arith)
for_case n true p c s a b to h i =
    node (answer_then (for_clauses_at n a) _ (for_clauses_answers c n a b h) (answer_then (stmt_at n b) _ i answer))
    (stmt_height (For true c s)) (omega arith)

break_case : (n : ℕ) (p : Pos) (a to : List Token) → The mark.Semicolon a to → Begun n (MarkToken mark.Break p ∷ a) (Break p) to
unfolding stmt_with marked_stmt_at break_at
break_case n p a to h = answer_behind mark.Semicolon a _ refl h (node answer 1 refl)

continue_case : (n : ℕ) (p : Pos) (a to : List Token) → The mark.Semicolon a to → Begun n (MarkToken mark.Continue p ∷ a) (Continue p) to
unfolding stmt_with marked_stmt_at continue_at
continue_case n p a to h = answer_behind mark.Semicolon a _ refl h (node answer 1 refl)

return_case : (n : ℕ) (p : Pos) (e : Option Expr) (a b to : List Token) → Optional IsExpr e a b → The mark.Semicolon b to
    → Begun n (MarkToken mark.Return p ∷ a) (Return p e) to
unfolding stmt_with marked_stmt_at return_at
return_case n p e a b to h i =
    node (answer_then (optional_at mark.Semicolon (expr_at n 11) a) _
    (optional_answers IsExpr mark.Semicolon n height (expr_at n 11) refl (λ x s t i. expr_first mark.Semicolon (refl, refl, refl, refl) x 11 s t i)
    (λ x s t r i end. expr_answers x n s t i (semicolon t r end)) e a b to h i) answer) (stmt_height (Return p e)) (omega arith)

-- ---- blocks

abbrev pub list_of_parts : Parts → List Part
list_of_parts no_parts = []
list_of_parts (part_and p ps) = p ∷ list_of_parts ps

pub parts_list : (ps : Parts) → parts (list_of_parts ps) ≡ ps
parts_list no_parts = refl
parts_list (part_and p ps) = ap (λ (x : Parts). part_and p x) (parts_list ps)

heights_list : (ps : Parts) → greatest part_height (list_of_parts ps) ≡ parts_height ps
heights_list no_parts = refl
heights_list (part_and p ps) = ap (λ (h : ℕ). max (part_height p) h) (heights_list ps)

-- a part of a block, behind which no `else` stands
abbrev BlockPart : Part → List Token → List Token → Type 0
BlockPart p from to = IsPart p from to × (behind mark.Else to ≡ None)

no_else : (ps : Parts) (from mid to : List Token) → AreParts ps from mid → The mark.CloseBrace mid to → behind mark.Else from ≡ None
no_else no_parts from mid to h end = rw h (behind_other mark.Else mark.CloseBrace mid to refl end)
no_else (part_and p ps) from mid to (a, h, i) end = part_first mark.Else no_else_begins refl p from a h

one_after_other : (ps : Parts) (from mid to : List Token) → AreParts ps from mid → The mark.CloseBrace mid to
    → OneAfterOther BlockPart (list_of_parts ps) from mid
one_after_other no_parts from mid to h end = h
one_after_other (part_and p ps) from mid to (a, h, i) end = (a, (h, no_else ps a mid to i end), one_after_other ps a mid to i end)

abbrev PartsRead : ℕ → Parts → Type 0
PartsRead n ps = Each (IsRead n part_height (part_at n (stmt_at n)) BlockPart) (list_of_parts ps)

parts_case : (n : ℕ) (ps : Parts) → PartsRead n ps → (from mid to : List Token) → AreParts ps from mid → The mark.CloseBrace mid to
    → Answers n (parts_height ps) (parts_at n (stmt_at n) from) (list_of_parts ps) to
unfolding parts_at
parts_case n ps each from mid to is end =
    at_height (until_answers BlockPart mark.CloseBrace n part_height (part_at n (stmt_at n)) (list_of_parts ps) each refl
    (λ p s t h. part_first mark.CloseBrace no_close_begins refl p s t h.0) from mid to
    (one_after_other ps from mid to is end) end) (parts_height ps) (heights_list ps)

block_case : (n : ℕ) (ps : Parts) → PartsRead n ps → (p : Pos) (a b to : List Token) → AreParts ps a b → The mark.CloseBrace b to
    → Begun n (MarkToken mark.OpenBrace p ∷ a) (Block ps) to
unfolding stmt_with marked_stmt_at block_at
block_case n ps each p a b to h i =
    node
    (answer_then (parts_at n (stmt_at n) a) _ (parts_case n ps each a b to h i) (answer_as (ap (λ (x : Parts). Block x) (parts_list ps))))
    (stmt_height (Block ps)) (omega arith)

locals_part : (n : ℕ) (ds : List LocalDecl) (from to : List Token) → BlockPart (Locals ds) from to
    → Answers n (part_height (Locals ds)) (part_at n (stmt_at n) from) (Locals ds) to
unfolding part_at
locals_part n ds from to ((a, (b, h, i), j), none) =
    answer_there mark.Int from (part_turn n (stmt_at n) from) refl h
    (at_height (answer_then (locals_at n b) _ (locals_answers ds n b a to i j) (answer_behind mark.Semicolon a _ refl j answer)) (locals_height ds) (omega arith))

stmt_part : (n : ℕ) (s : Stmt) → Complete s → (from to : List Token) → BlockPart (Statement s) from to
    → Answers n (part_height (Statement s)) (part_at n (stmt_at n) from) (Statement s) to
unfolding part_at
stmt_part n s complete from to (h, none) =
    answer_absent mark.Int from (part_turn n (stmt_at n) from) (stmt_first mark.Int no_int_begins s from to h)
    (at_height (answer_then (stmt_at n from) _ (complete n from to h (λ is_open. none)) answer) (stmt_height s) (omega arith))

-- ---- all of them

shut_is : {P : Type 0} (b : Bool) → b ≡ false → b ≡ true → P
shut_is b e f = absurd cc

mutual
  pub complete : (s : Stmt) → Complete s
  complete (Block ps) n from to (a, h, (b, i, j)) end =
      with_room (Block ps) from to (omega arith) (λ m. rw h.1 (block_case m ps (parts_read ps m) h.0 a b to i j)) n
  complete Empty n from to h end = with_room Empty from to (omega arith) (λ m. empty_case m from to h) n
  complete (Assign u) n from to (a, h, i) end = with_room (Assign u) from to (omega arith) (λ m. assign_case m u from a to h i) n
  complete (CallStatement f es) n from to (a, h, (b, i, (c, j, (d, k, l)))) end =
      with_room (CallStatement f es) from to (omega arith) (λ m. rw h (call_case m f es a b c d to i j k l)) n
  complete (Print p e) n from to (a, h, (b, i, j)) end =
      with_room (Print p e) from to (omega arith) (λ m. rw h (print_case m p e a b to i j)) n
  complete (Emit p e) n from to (a, h, (b, i, j)) end =
      with_room (Emit p e) from to (omega arith) (λ m. rw h (emit_case m p e a b to i j)) n
  complete (If e s) n from to (a, h, (b, i, j)) end =
      with_room (If e s) from to (omega arith)
      (λ m. rw h.1 (if_case m h.0 e s a b to i (complete s m b to j (λ is_open. end refl)) (end refl))) n
  complete (IfElse e s t) n from to (shut, (a, h, (b, i, (c, j, (d, k, l))))) end =
      with_room (IfElse e s t) from to (omega arith)
      (λ m. rw h.1 (if_else_case m h.0 e s t a b c d to i (complete s m b c j (λ is_open. shut_is (ends_open s) shut is_open)) k (complete t m d to l end))) n
  complete (While marked e s) n from to (a, h, (b, i, j)) end =
      with_room (While marked e s) from to (omega arith) (λ m. rw h.1 (while_case m marked h.0 e s a b to i (complete s m b to j end))) n
  complete (DoWhile s e) n from to (a, h, (b, i, (c, j, (d, k, l)))) end =
      with_room (DoWhile s e) from to (omega arith)
      (λ m. rw h.1 (do_case m h.0 s e a b c d to (complete s m a b i (λ is_open. behind_other mark.Else mark.While b c refl j)) j k l)) n
  complete (For marked c s) n from to (a, h, (b, i, j)) end =
      with_room (For marked c s) from to (omega arith) (λ m. rw h.1 (for_case m marked h.0 c s a b to i (complete s m b to j end))) n
  complete (Break p) n from to (a, h, i) end = with_room (Break p) from to (omega arith) (λ m. rw h (break_case m p a to i)) n
  complete (Continue p) n from to (a, h, i) end = with_room (Continue p) from to (omega arith) (λ m. rw h (continue_case m p a to i)) n
  complete (Return p e) n from to (a, h, (b, i, j)) end =
      with_room (Return p e) from to (omega arith) (λ m. rw h (return_case m p e a b to i j)) n

  pub part_read : (p : Part) (n : ℕ) → IsRead n part_height (part_at n (stmt_at n)) BlockPart p
  part_read (Locals ds) n = record { answers = locals_part n ds; shorter = λ from to h. part_shorter (Locals ds) from to h.0 }
  part_read (Statement s) n = record { answers = stmt_part n s (complete s); shorter = λ from to h. part_shorter (Statement s) from to h.0 }

  pub parts_read : (ps : Parts) (n : ℕ) → PartsRead n ps
  parts_read no_parts n = tt
  parts_read (part_and p ps) n = (part_read p n, parts_read ps n)

-- the parts of a block, and the `}` behind them
pub parts_answers : (ps : Parts) (n : ℕ) (from mid to : List Token) → AreParts ps from mid → The mark.CloseBrace mid to
    → Answers n (parts_height ps) (parts_at n (stmt_at n) from) (list_of_parts ps) to
parts_answers ps n from mid to is end = parts_case n ps (parts_read ps n) from mid to is end
