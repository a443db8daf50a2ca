-- Statements as phrases: each takes a token, and begins with one of a few.
use Rattle.std.proofs.Common.{◌≡◌, ◌<◌, ◌≤◌, true, false, cond, List, length, Option, Some, None, refl, ap, arith}
use Rattle.hx_tree.specs.declared.token.Pos.{Pos}
use Rattle.hx_tree.specs.declared.token.Mark.{Mark}
use Rattle.hx_tree.specs.declared.token.Mark.TheVariants as mark
use Rattle.hx_tree.specs.Tree.{Expr, Init, NoInit, InitLocals, InitAssign, ForClauses, Stmt, Block, Empty, Assign, CallStatement, Print, Emit, If, IfElse, While, DoWhile, For, Break, Continue, Return, Part, Locals, Statement, Parts, no_parts, part_and}
use Rattle.hx_tree.specs.Lexis.{Token}
use Rattle.hx_tree.specs.Grammar.{At, Optional, IsExpr, IsInit, IsAssignment, AreForClauses, InParens, IsStmt, IsPart, AreParts}
use Rattle.hx_tree.proofs.Phrases.{expr_shorter, arguments_shorter}
use Rattle.hx_grammar.specs.Reading.{same_mark, behind}
use Rattle.hx_grammar.proofs.Readings.{behind_other, behind_name, the_shorter, named_shorter}
use Rattle.hx_grammar.proofs.PartComplete.{locals_shorter, assignment_shorter, assignment_first}

-- ---- lengths

at_shorter : (m : Mark) (p : Pos) (from to : List Token) → At p m from to → length to < length from
at_shorter m p from to h = the_shorter m from to (p, h)

optional_length : {X : Type 0} (P : X → List Token → List Token → Type 0)
    → ((x : X) (from to : List Token) → P x from to → length to < length from)
    → (x : Option X) (from to : List Token) → Optional P x from to → length to ≤ length from
optional_length P shorter None from to h = let e : length from ≡ length to = ap length h in omega arith
optional_length P shorter (Some x) from to h = let p = shorter x from to h in omega arith

in_parens_shorter : (e : Expr) (from to : List Token) → InParens e from to → length to < length from
in_parens_shorter e from to (a, h, (b, i, j)) =
    let p = the_shorter mark.OpenParen from a h in let q = expr_shorter e 11 a b i in let r = the_shorter mark.CloseParen b to j in
    omega arith

init_length : (i : Init) (from to : List Token) → IsInit i from to → length to ≤ length from
init_length NoInit from to h = let e : length from ≡ length to = ap length h in omega arith
init_length (InitLocals ds) from to h = let p = locals_shorter ds from to h in omega arith
init_length (InitAssign a) from to h = let p = assignment_shorter a from to h in omega arith

for_clauses_shorter : (h : ForClauses) (from to : List Token) → AreForClauses h from to → length to < length from
for_clauses_shorter h from to (a, open_paren, (b, begins, (c, first, (d, tests, (e, second, (f, steps, close)))))) =
    let p = the_shorter mark.OpenParen from a open_paren in
    let q = init_length h.init a b begins in
    let r = the_shorter mark.Semicolon b c first in
    let s = optional_length IsExpr (λ x s t i. expr_shorter x 11 s t i) h.test c d tests in
    let t = the_shorter mark.Semicolon d e second in
    let u = optional_length IsAssignment assignment_shorter h.step e f steps in
    let v = the_shorter mark.CloseParen f to close in
    omega arith

mutual
  pub stmt_shorter : (s : Stmt) (from to : List Token) → IsStmt s from to → length to < length from
  stmt_shorter (Block ps) from to (a, h, (b, i, j)) =
      let p = the_shorter mark.OpenBrace from a h in let q = parts_length ps a b i in let r = the_shorter mark.CloseBrace b to j in
      omega arith
  stmt_shorter Empty from to h = the_shorter mark.Semicolon from to h
  stmt_shorter (Assign u) from to (a, h, i) =
      let p = assignment_shorter u from a h in let q = the_shorter mark.Semicolon a to i in omega arith
  stmt_shorter (CallStatement f es) from to (a, h, (b, i, (c, j, (d, k, l)))) =
      let p = named_shorter f from a h in let q = the_shorter mark.OpenParen a b i in let r = arguments_shorter es b c j in
      let s = the_shorter mark.CloseParen c d k in
      let t = the_shorter mark.Semicolon d to l in omega arith
  stmt_shorter (Print pos e) from to (a, h, (b, i, j)) =
      let p = at_shorter mark.Print pos from a h in let q = in_parens_shorter e a b i in let r = the_shorter mark.Semicolon b to j in
      omega arith
  stmt_shorter (Emit pos e) from to (a, h, (b, i, j)) =
      let p = at_shorter mark.Emit pos from a h in let q = in_parens_shorter e a b i in let r = the_shorter mark.Semicolon b to j in
      omega arith
  stmt_shorter (If e s) from to (a, h, (b, i, j)) =
      let p = the_shorter mark.If from a h in let q = in_parens_shorter e a b i in let r = stmt_shorter s b to j in omega arith
  stmt_shorter (IfElse e s t) from to (shut, (a, h, (b, i, (c, j, (d, k, l))))) =
      let p = the_shorter mark.If from a h in let q = in_parens_shorter e a b i in let r = stmt_shorter s b c j in
      let u = the_shorter mark.Else c d k in
      let v = stmt_shorter t d to l in omega arith
  stmt_shorter (While marked e s) from to (a, h, (b, i, j)) =
      let p = the_shorter (cond marked mark.MarkedWhile mark.While) from a h in let q = in_parens_shorter e a b i in
      let r = stmt_shorter s b to j in omega arith
  stmt_shorter (DoWhile s e) from to (a, h, (b, i, (c, j, (d, k, l)))) =
      let p = the_shorter mark.Do from a h in let q = stmt_shorter s a b i in let r = the_shorter mark.While b c j in
      let t = in_parens_shorter e c d k in let u = the_shorter mark.Semicolon d to l in omega arith
  stmt_shorter (For marked c s) from to (a, h, (b, i, j)) =
      let p = the_shorter (cond marked mark.MarkedFor mark.For) from a h in let q = for_clauses_shorter c a b i in
      let r = stmt_shorter s b to j in omega arith
  stmt_shorter (Break pos) from to (a, h, i) =
      let p = at_shorter mark.Break pos from a h in let q = the_shorter mark.Semicolon a to i in omega arith
  stmt_shorter (Continue pos) from to (a, h, i) =
      let p = at_shorter mark.Continue pos from a h in let q = the_shorter mark.Semicolon a to i in omega arith
  stmt_shorter (Return pos e) from to (a, h, (b, i, j)) =
      let p = at_shorter mark.Return pos from a h in let q = optional_length IsExpr (λ x s t i. expr_shorter x 11 s t i) e a b i in
      let r = the_shorter mark.Semicolon b to j in omega arith

  pub part_shorter : (p : Part) (from to : List Token) → IsPart p from to → length to < length from
  part_shorter (Locals ds) from to (a, h, i) =
      let p = locals_shorter ds from a h in let q = the_shorter mark.Semicolon a to i in omega arith
  part_shorter (Statement s) from to h = stmt_shorter s from to h

  pub parts_length : (ps : Parts) (from to : List Token) → AreParts ps from to → length to ≤ length from
  parts_length no_parts from to h = let e : length from ≡ length to = ap length h in omega arith
  parts_length (part_and p ps) from to (a, h, i) = let q = part_shorter p from a h in let r = parts_length ps a to i in omega arith

-- ---- first tokens

-- no statement begins with such a mark
pub record NoStmtBegins (m : Mark) : Type 0 where
  pub block : same_mark mark.OpenBrace m ≡ false
  pub empty : same_mark mark.Semicolon m ≡ false
  pub print : same_mark mark.Print m ≡ false
  pub emit : same_mark mark.Emit m ≡ false
  pub choice : same_mark mark.If m ≡ false
  pub loop : same_mark mark.While m ≡ false
  pub marked_loop : same_mark mark.MarkedWhile m ≡ false
  pub body_first : same_mark mark.Do m ≡ false
  pub counted : same_mark mark.For m ≡ false
  pub marked_counted : same_mark mark.MarkedFor m ≡ false
  pub leave : same_mark mark.Break m ≡ false
  pub again : same_mark mark.Continue m ≡ false
  pub result : same_mark mark.Return m ≡ false

pub stmt_first : (m : Mark) → NoStmtBegins m → (s : Stmt) (from to : List Token) → IsStmt s from to → behind m from ≡ None
stmt_first m other (Block ps) from to h = behind_other m mark.OpenBrace from h.0 other.block h.1
stmt_first m other Empty from to h = behind_other m mark.Semicolon from to other.empty h
stmt_first m other (Assign u) from to h = assignment_first m u from h.0 h.1
stmt_first m other (CallStatement f es) from to h = behind_name m f from h.0 h.1
stmt_first m other (Print pos e) from to h = behind_other m mark.Print from h.0 other.print (pos, h.1)
stmt_first m other (Emit pos e) from to h = behind_other m mark.Emit from h.0 other.emit (pos, h.1)
stmt_first m other (If e s) from to h = behind_other m mark.If from h.0 other.choice h.1
stmt_first m other (IfElse e s t) from to (shut, h) = behind_other m mark.If from h.0 other.choice h.1
stmt_first m other (While false e s) from to h = behind_other m mark.While from h.0 other.loop h.1
stmt_first m other (While true e s) from to h = behind_other m mark.MarkedWhile from h.0 other.marked_loop h.1
stmt_first m other (DoWhile s e) from to h = behind_other m mark.Do from h.0 other.body_first h.1
stmt_first m other (For false c s) from to h = behind_other m mark.For from h.0 other.counted h.1
stmt_first m other (For true c s) from to h = behind_other m mark.MarkedFor from h.0 other.marked_counted h.1
stmt_first m other (Break pos) from to h = behind_other m mark.Break from h.0 other.leave (pos, h.1)
stmt_first m other (Continue pos) from to h = behind_other m mark.Continue from h.0 other.again (pos, h.1)
stmt_first m other (Return pos e) from to h = behind_other m mark.Return from h.0 other.result (pos, h.1)

pub no_close_begins : NoStmtBegins mark.CloseBrace
no_close_begins =
    record { block = refl; empty = refl; print = refl; emit = refl; choice = refl; loop = refl; marked_loop = refl; body_first = refl; counted = refl; marked_counted = refl; leave = refl; again = refl; result = refl }

pub no_else_begins : NoStmtBegins mark.Else
no_else_begins =
    record { block = refl; empty = refl; print = refl; emit = refl; choice = refl; loop = refl; marked_loop = refl; body_first = refl; counted = refl; marked_counted = refl; leave = refl; again = refl; result = refl }

pub no_int_begins : NoStmtBegins mark.Int
no_int_begins =
    record { block = refl; empty = refl; print = refl; emit = refl; choice = refl; loop = refl; marked_loop = refl; body_first = refl; counted = refl; marked_counted = refl; leave = refl; again = refl; result = refl }

pub part_first : (m : Mark) → NoStmtBegins m → same_mark mark.Int m ≡ false → (p : Part) (from to : List Token) → IsPart p from to
    → behind m from ≡ None
part_first m other int (Locals ds) from to (a, (b, h, i), j) = behind_other m mark.Int from b int h
part_first m other int (Statement s) from to h = stmt_first m other s from to h
