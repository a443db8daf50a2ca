-- Which private words a region takes along. The turns of a loop are its test, its body and its step; what goes before it isn't
-- among them. A private word is declared outside the turns where they don't declare it. Of those, a region carries the ones
-- that its turns assign, and copies the ones that they read and don't assign. The induction local is in neither list: what
-- goes before the loop gives it its value, the step counts it by a number token, and nothing in the body assigns it, so the
-- number of a turn tells its value there.
use Rattle.std.specs.Prelude.{ℕ, Bool, false, not, ◌&&◌, ◌||◌, if◌then◌else◌, nat_eq, List, [], ◌∷◌, Option, Some, None}
use Rattle.std.specs.List.{range_with_len, filter}
use Rattle.hx_resolved.specs.declared.program.Induct.{Induct}
use Rattle.hx_resolved.specs.Resolved.{Expr, Number, Private, Word, Element, Call, Unary, Binary, Conditional, Exprs, no_exprs, expr_and, Place, ToPrivate, ToWord, ToElement, Assignment, Set, Update, Simple, Declare, Assign, Clauses, Region, Stmt, Block, Do, CallStatement, Print, Emit, If, IfElse, Loop, DoWhile, Break, Continue, Return, Stmts, no_stmts, stmt_and}

abbrev pub if_any : {X : Type 0} → (X → Bool) → Option X → Bool
if_any test None = false
if_any test (Some x) = test x

abbrev pub any_of : {X : Type 0} → (X → Bool) → List X → Bool
any_of test [] = false
any_of test (x ∷ xs) = test x || any_of test xs

-- ---- what reads a private word

abbrev mutual
  pub expr_reads : ℕ → Expr → Bool
  expr_reads k (Number n) = false
  expr_reads k (Private j) = nat_eq j k
  expr_reads k (Word a) = false
  expr_reads k (Element words pos e) = expr_reads k e
  expr_reads k (Call f pos es) = exprs_read k es
  expr_reads k (Unary op e) = expr_reads k e
  expr_reads k (Binary op pos l r) = expr_reads k l || expr_reads k r
  expr_reads k (Conditional test chosen other) = expr_reads k test || expr_reads k chosen || expr_reads k other

  pub exprs_read : ℕ → Exprs → Bool
  exprs_read k no_exprs = false
  exprs_read k (expr_and e es) = expr_reads k e || exprs_read k es

-- the index of a place
abbrev pub index_reads : ℕ → Place → Bool
index_reads k (ToPrivate j) = false
index_reads k (ToWord a) = false
index_reads k (ToElement words pos e) = expr_reads k e

-- a place is a private word
abbrev pub is_to : ℕ → Place → Bool
is_to k (ToPrivate j) = nat_eq j k
is_to k (ToWord a) = false
is_to k (ToElement words pos e) = false

-- an update reads what it changes
abbrev pub assignment_reads : ℕ → Assignment → Bool
assignment_reads k (Set p e) = index_reads k p || expr_reads k e
assignment_reads k (Update p op pos e) = is_to k p || index_reads k p || expr_reads k e

abbrev pub simple_reads : ℕ → Simple → Bool
simple_reads k (Declare j e) = expr_reads k e
simple_reads k (Assign a) = assignment_reads k a

abbrev pub clauses_read : ℕ → Clauses → Bool
clauses_read k c = any_of (simple_reads k) c.init || if_any (expr_reads k) c.test || if_any (assignment_reads k) c.step

abbrev mutual
  pub stmt_reads : ℕ → Stmt → Bool
  stmt_reads k (Block ss) = stmts_read k ss
  stmt_reads k (Do s) = simple_reads k s
  stmt_reads k (CallStatement f pos es) = exprs_read k es
  stmt_reads k (Print pos e) = expr_reads k e
  stmt_reads k (Emit pos e) = expr_reads k e
  stmt_reads k (If test s) = expr_reads k test || stmt_reads k s
  stmt_reads k (IfElse test s other) = expr_reads k test || stmt_reads k s || stmt_reads k other
  stmt_reads k (Loop kind c s) = clauses_read k c || stmt_reads k s
  stmt_reads k (DoWhile s test) = stmt_reads k s || expr_reads k test
  stmt_reads k Break = false
  stmt_reads k Continue = false
  stmt_reads k (Return e) = expr_reads k e

  pub stmts_read : ℕ → Stmts → Bool
  stmts_read k no_stmts = false
  stmts_read k (stmt_and s ss) = stmt_reads k s || stmts_read k ss

-- ---- what assigns it

abbrev pub assigns : ℕ → Assignment → Bool
assigns k (Set p e) = is_to k p
assigns k (Update p op pos e) = is_to k p

abbrev pub simple_assigns : ℕ → Simple → Bool
simple_assigns k (Declare j e) = false
simple_assigns k (Assign a) = assigns k a

abbrev pub clauses_assign : ℕ → Clauses → Bool
clauses_assign k c = any_of (simple_assigns k) c.init || if_any (assigns k) c.step

abbrev mutual
  pub stmt_assigns : ℕ → Stmt → Bool
  stmt_assigns k (Block ss) = stmts_assign k ss
  stmt_assigns k (Do s) = simple_assigns k s
  stmt_assigns k (If test s) = stmt_assigns k s
  stmt_assigns k (IfElse test s other) = stmt_assigns k s || stmt_assigns k other
  stmt_assigns k (Loop kind c s) = clauses_assign k c || stmt_assigns k s
  stmt_assigns k (DoWhile s test) = stmt_assigns k s
  stmt_assigns k _ = false

  pub stmts_assign : ℕ → Stmts → Bool
  stmts_assign k no_stmts = false
  stmts_assign k (stmt_and s ss) = stmt_assigns k s || stmts_assign k ss

-- ---- what declares it

abbrev pub simple_declares : ℕ → Simple → Bool
simple_declares k (Declare j e) = nat_eq j k
simple_declares k (Assign a) = false

abbrev mutual
  pub stmt_declares : ℕ → Stmt → Bool
  stmt_declares k (Block ss) = stmts_declare k ss
  stmt_declares k (Do s) = simple_declares k s
  stmt_declares k (If test s) = stmt_declares k s
  stmt_declares k (IfElse test s other) = stmt_declares k s || stmt_declares k other
  stmt_declares k (Loop kind c s) = any_of (simple_declares k) c.init || stmt_declares k s
  stmt_declares k (DoWhile s test) = stmt_declares k s
  stmt_declares k _ = false

  pub stmts_declare : ℕ → Stmts → Bool
  stmts_declare k no_stmts = false
  stmts_declare k (stmt_and s ss) = stmt_declares k s || stmts_declare k ss

-- ---- the turns of a loop

abbrev pub turns_read : ℕ → Clauses → Stmt → Bool
turns_read k c body = if_any (expr_reads k) c.test || if_any (assignment_reads k) c.step || stmt_reads k body

abbrev pub turns_assign : ℕ → Clauses → Stmt → Bool
turns_assign k c body = if_any (assigns k) c.step || stmt_assigns k body

-- a declaration can stand in the body alone
abbrev pub turns_declare : ℕ → Stmt → Bool
turns_declare k body = stmt_declares k body

-- ---- the induction local

-- a word gets its value: it is declared, or it is assigned by `x = e`
abbrev pub simple_begins : ℕ → Simple → Bool
simple_begins k (Declare j e) = nat_eq j k
simple_begins k (Assign (Set p e)) = is_to k p
simple_begins k (Assign (Update p op pos e)) = false

abbrev pub kept_if : {X : Type 0} → (X → Bool) → Option X → Option X
kept_if test None = None
kept_if test (Some x) = if test x then Some x else None

-- what the step counts, where it gets its value before the loop and nothing in the body assigns it
abbrev pub induct_of : Clauses → Stmt → Option Induct
induct_of c body = kept_if (λ i. any_of (simple_begins i.private) c.init && not (stmt_assigns i.private body)) c.counts

abbrev pub is_induct : Clauses → Stmt → ℕ → Bool
is_induct c body k = if_any (λ i. nat_eq i.private k) (induct_of c body)

-- ---- the lists

abbrev pub is_carried : Clauses → Stmt → ℕ → Bool
is_carried c body k = not (turns_declare k body) && turns_assign k c body && not (is_induct c body k)

abbrev pub is_copied : Clauses → Stmt → ℕ → Bool
is_copied c body k = not (turns_declare k body) && turns_read k c body && not (turns_assign k c body) && not (is_induct c body k)

-- the region of a loop in a function with so many private words
abbrev pub region_of : ℕ → Clauses → Stmt → Region
region_of privates c body = record {
  carried = filter (is_carried c body) (range_with_len 0 privates);
  copied = filter (is_copied c body) (range_with_len 0 privates);
  induct = induct_of c body;
}
