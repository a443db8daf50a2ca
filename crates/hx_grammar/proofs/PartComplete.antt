-- Declarations, assignments and the clauses of a `for` that are spelled are read, at any room, or they're too deep.
use Rattle.std.proofs.Common.{◌≡◌, ℕ, zero, suc, ◌<◌, ◌≤◌, max, false, List, [], ◌∷◌, length, Option, Some, None, inr, refl, ap, arith}
use Rattle.hx_tree.specs.declared.token.Pos.{Pos}
use Rattle.hx_tree.specs.declared.token.Mark.{Mark}
use Rattle.hx_tree.specs.declared.token.Mark.TheVariants as mark
use Rattle.hx_tree.specs.declared.tree.Operator.{Operator}
use Rattle.hx_tree.specs.declared.tree.Operator.TheVariants as op
use Rattle.hx_tree.specs.Tree.{Name, Expr, LocalDecl, Place, ToVariable, ToElement, Assignment, Set, Update, Increment, Decrement, Init, NoInit, InitLocals, InitAssign, ForClauses}
use Rattle.hx_tree.specs.Lexis.{Token, MarkToken}
use Rattle.hx_tree.specs.Grammar.{The, At, Named, Listed, EachBehindComma, Optional, IsExpr, IsLocal, AreLocals, IsPlace, IsAssignment, IsInit, AreForClauses, Updating, ◌⨾◌}
use Rattle.hx_tree.specs.Height.{height, if_there, place_height, assignment_height, locals_height, init_height, head_height}
use Rattle.hx_tree.proofs.Phrases.{expr_shorter}
use Rattle.hx_grammar.specs.Reading.{same_mark, behind, expr_at, optional_at, local_turn, local_at, locals_at, place_turn, place_at, updating_of, update_turn, update_at, updated_at, assigned_at, assignment_at, init_turn, init_at, for_clauses_at}
use Rattle.hx_grammar.proofs.Readings.{behind_other, behind_name, the_shorter, named_shorter, Answers, answer, answer_at, answer_then, answer_behind, answer_there, answer_absent, answer_name, at_height, node, Ended, ended}
use Rattle.hx_grammar.proofs.Lists.{Each, IsRead, BeforeEnd, listed_answers}
use Rattle.hx_grammar.proofs.ExprComplete.{expr_first, expr_answers, optional_answers}

-- ---- declarations

local_case : (x : Name) (i : Option Expr) (n : ℕ) (from to : List Token) → (Named x ⨾ Optional (λ e. The mark.Assign ⨾ IsExpr e) i) from to
    → Ended to
    → Answers n (if_there height i) (local_at n from) (record { name = x; init = i }) to
unfolding local_at
local_case x None n from to (a, h, is) end =
    answer_name x from _ h (answer_absent mark.Assign a (local_turn n x a) (rw is (end.initialiser)) (answer_at is))
local_case x (Some e) n from to (a, h, (b, i, j)) end =
    answer_name x from _ h (answer_there mark.Assign a (local_turn n x a) refl i
    (at_height (answer_then (expr_at n 11 b) _ (expr_answers e n b to j end) answer) (height e) (omega arith)))

local_shorter : (x : Name) (i : Option Expr) (from to : List Token) → (Named x ⨾ Optional (λ e. The mark.Assign ⨾ IsExpr e) i) from to
    → length to < length from
local_shorter x None from to (a, h, is) = let p = named_shorter x from a h in let q : length a ≡ length to = ap length is in omega arith
local_shorter x (Some e) from to (a, h, (b, i, j)) =
    let p = named_shorter x from a h in let q = the_shorter mark.Assign a b i in let r = expr_shorter e 11 b to j in omega arith

abbrev local_height : LocalDecl → ℕ
local_height d = if_there height d.init

locals_read : (ds : List LocalDecl) (n : ℕ) → Each (IsRead n local_height (local_at n) (BeforeEnd IsLocal)) ds
locals_read [] n = tt
locals_read (d ∷ ds) n =
    (record { answers = λ from to h. local_case d.name d.init n from to h.0 h.1; shorter = λ from to h. local_shorter d.name d.init from to h.0 }, locals_read ds n)

pub locals_answers : (ds : List LocalDecl) (n : ℕ) (from mid to : List Token) → Listed IsLocal ds from mid → The mark.Semicolon mid to
    → Answers n (locals_height ds) (locals_at n from) ds mid
unfolding locals_at
locals_answers ds zero from mid to is end = record { or_deep = inr (omega arith, refl) }
locals_answers ds (suc n) from mid to is end =
    node
    (listed_answers IsLocal n local_height (local_at n) ds (locals_read ds n) from mid is (ended mark.Semicolon mid to (refl, refl, refl, refl, refl) end) (behind_other mark.Comma mark.Semicolon mid to refl end))
    (locals_height ds) (omega arith)

-- no token more than before
local_length : (ds : List LocalDecl) (from to : List Token) → EachBehindComma IsLocal ds from to → length to ≤ length from
local_length [] from to h = let e : length from ≡ length to = ap length h in omega arith
local_length (d ∷ ds) from to (a, h, (b, i, j)) =
    let p = the_shorter mark.Comma from a h in let q = local_shorter d.name d.init a b i in let r = local_length ds b to j in omega arith

pub locals_shorter : (ds : List LocalDecl) (from to : List Token) → AreLocals ds from to → length to < length from
locals_shorter [] from to (a, h, is) = absurd is
locals_shorter (d ∷ ds) from to (a, h, (b, i, j)) =
    let p = the_shorter mark.Int from a h in let q = local_shorter d.name d.init a b i in let r = local_length ds b to j in omega arith

-- ---- assignments

abbrev place_name : Place → Name
place_name (ToVariable x) = x
place_name (ToElement x e) = x

-- a place before what is no part of it
record Placed (p : Place) (n : ℕ) (from mid : List Token) : Type 0 where
  rest : List Token
  begins : Named (place_name p) from rest
  no_call : behind mark.OpenParen rest ≡ None
  answers : Answers n (place_height p) (place_at n (place_name p) rest) p mid

placed : (p : Place) (n : ℕ) (from mid : List Token) → IsPlace p from mid → behind mark.OpenBracket mid ≡ None
    → behind mark.OpenParen mid ≡ None → Placed p n from mid
unfolding place_at
placed (ToVariable x) n from mid is index call =
    record { rest = mid; begins = is; no_call = call; answers = answer_absent mark.OpenBracket mid (place_turn n x mid) index answer }
placed (ToElement x e) n from mid (a, h, (b, i, (c, j, k))) index call = record {
  rest = a;
  begins = h;
  no_call = behind_other mark.OpenParen mark.OpenBracket a b refl i;
  answers = answer_there mark.OpenBracket a (place_turn n x a) refl i
      (at_height (answer_then (expr_at n 11 b) _ (expr_answers e n b c j (ended mark.CloseBracket c mid (refl, refl, refl, refl, refl) k)) (answer_behind mark.CloseBracket c _ refl k answer)) (height e) (omega arith));
}

place_shorter : (p : Place) (from to : List Token) → IsPlace p from to → length to < length from
place_shorter (ToVariable x) from to h = named_shorter x from to h
place_shorter (ToElement x e) from to (a, h, (b, i, (c, j, k))) =
    let p = named_shorter x from a h in let q = the_shorter mark.OpenBracket a b i in let r = expr_shorter e 11 b c j in
    let s = the_shorter mark.CloseBracket c to k in omega arith

-- the mark of an assignment with an operator
record UpdateMark (o : Operator) (pos : Pos) (from to : List Token) : Type 0 where
  sign : Mark
  stands : At pos sign from to
  is_of : updating_of sign ≡ Some o
  no_index : same_mark sign mark.OpenBracket ≡ false
  no_call : same_mark sign mark.OpenParen ≡ false

update_mark : (o : Operator) (pos : Pos) (from to : List Token) → Updating pos o from to → UpdateMark o pos from to
update_mark op.Mul pos from to h = record { sign = mark.TimesAssign; stands = h; is_of = refl; no_index = refl; no_call = refl }
update_mark op.Div pos from to h = record { sign = mark.DivideAssign; stands = h; is_of = refl; no_index = refl; no_call = refl }
update_mark op.Rem pos from to h = record { sign = mark.RemainderAssign; stands = h; is_of = refl; no_index = refl; no_call = refl }
update_mark op.Add pos from to h = record { sign = mark.PlusAssign; stands = h; is_of = refl; no_index = refl; no_call = refl }
update_mark op.Sub pos from to h = record { sign = mark.MinusAssign; stands = h; is_of = refl; no_index = refl; no_call = refl }
update_mark op.ShiftLeft pos from to h = record { sign = mark.ShiftLeftAssign; stands = h; is_of = refl; no_index = refl; no_call = refl }
update_mark op.ShiftRight pos from to h = record { sign = mark.ShiftRightAssign; stands = h; is_of = refl; no_index = refl; no_call = refl }
update_mark op.BitAnd pos from to h = record { sign = mark.AmpersandAssign; stands = h; is_of = refl; no_index = refl; no_call = refl }
update_mark op.BitXor pos from to h = record { sign = mark.CaretAssign; stands = h; is_of = refl; no_index = refl; no_call = refl }
update_mark op.BitOr pos from to h = record { sign = mark.BarAssign; stands = h; is_of = refl; no_index = refl; no_call = refl }
update_mark o pos from to h = absurd h

turn_is : (n : ℕ) (p : Place) (pos : Pos) (from : List Token) (found : Option Operator) (o : Operator) → found ≡ Some o
    → update_turn n p pos from found ≡ update_turn n p pos from (Some o)
turn_is n p pos from found o e = ap (λ (x : Option Operator). update_turn n p pos from x) e

update_is : (n : ℕ) (p : Place) (m : Mark) (pos : Pos) (from : List Token) (o : Operator) → updating_of m ≡ Some o
    → update_at n p m pos from ≡ update_turn n p pos from (Some o)
unfolding update_at
update_is n p mark.Assign pos from o e = absurd cc
update_is n p mark.Increment pos from o e = absurd cc
update_is n p mark.Decrement pos from o e = absurd cc
update_is n p m pos from o e = turn_is n p pos from (updating_of m) o e

updated_case : (n : ℕ) (p : Place) (o : Operator) (pos : Pos) (e : Expr) (mid a to : List Token) → UpdateMark o pos mid a
    → Answers n (height e) (expr_at n 11 a) e to
    → Answers n (height e) (updated_at n p mid) (Update p o pos e) to
unfolding updated_at
updated_case n p o pos e mid a to m h =
    let turn : Answers n (height e) (update_turn n p pos a (Some o)) (Update p o pos e) to = at_height
    (answer_then (expr_at n 11 a) _ h answer) (height e) (omega arith) in
    rw (m.stands, update_is n p m.sign pos a o m.is_of) turn

set_case : (n : ℕ) (p : Place) (e : Expr) (mid a to : List Token) → The mark.Assign mid a → Answers n (height e) (expr_at n 11 a) e to
    → Answers n (height e) (updated_at n p mid) (Set p e) to
unfolding updated_at update_at
set_case n p e mid a to m h =
    let turn : Answers n (height e) (updated_at n p (MarkToken mark.Assign m.0 ∷ a)) (Set p e) to = at_height
    (answer_then (expr_at n 11 a) _ h answer) (height e) (omega arith) in
    rw (m.1) turn

increment_case : (n : ℕ) (p : Place) (mid to : List Token) → The mark.Increment mid to → Answers n 0 (updated_at n p mid) (Increment p) to
unfolding updated_at update_at
increment_case n p mid to m = rw (m.1) answer

decrement_case : (n : ℕ) (p : Place) (mid to : List Token) → The mark.Decrement mid to → Answers n 0 (updated_at n p mid) (Decrement p) to
unfolding updated_at update_at
decrement_case n p mid to m = rw (m.1) answer

-- an assignment behind its first name
pub record Assigned (a : Assignment) (n : ℕ) (from to : List Token) : Type 0 where
  pub name : Name
  pub rest : List Token
  pub begins : Named name from rest
  pub no_call : behind mark.OpenParen rest ≡ None
  pub answers : Answers n (assignment_height a) (assigned_at n name rest) a to

assigned_deep : (a : Assignment) (x : Name) (rest to : List Token) → 0 < assignment_height a
    → Answers 0 (assignment_height a) (assigned_at 0 x rest) a to
unfolding assigned_at
assigned_deep a x rest to pos = record { or_deep = inr (pos, refl) }

assigned_case : (a : Assignment) (n : ℕ) (x : Name) (p : Place) (h : ℕ) (rest mid to : List Token)
    → Answers n (place_height p) (place_at n x rest) p mid → Answers n h (updated_at n p mid) a to
    → suc (max (place_height p) h) ≡ assignment_height a → Answers (suc n) (assignment_height a) (assigned_at (suc n) x rest) a to
unfolding assigned_at
assigned_case a n x p h rest mid to place update e = node (answer_then (place_at n x rest) _ place update) (assignment_height a) e

assign : (a : Assignment) (p : Place) (h : ℕ) (from mid to : List Token) → IsPlace p from mid → behind mark.OpenBracket mid ≡ None
    → behind mark.OpenParen mid ≡ None
    → ((n : ℕ) → Answers n h (updated_at n p mid) a to) → suc (max (place_height p) h) ≡ assignment_height a → (n : ℕ)
    → Assigned a n from to
assign a p h from mid to is index call updates e zero =
    let q = placed p 0 from mid is index call in
    record { name = place_name p; rest = q.rest; begins = q.begins; no_call = q.no_call; answers = assigned_deep a (place_name p) q.rest to (omega arith) }
assign a p h from mid to is index call updates e (suc n) =
    let q = placed p n from mid is index call in
    record { name = place_name p; rest = q.rest; begins = q.begins; no_call = q.no_call; answers = assigned_case a n (place_name p) p h q.rest mid to q.answers (updates n) e }

pub assigned : (a : Assignment) (n : ℕ) (from to : List Token) → IsAssignment a from to → Ended to → Assigned a n from to
assigned (Set p e) n from to (mid, place, (a, h, i)) end =
    assign (Set p e) p (height e) from mid to place (behind_other mark.OpenBracket mark.Assign mid a refl h)
    (behind_other mark.OpenParen mark.Assign mid a refl h)
    (λ n. set_case n p e mid a to h (expr_answers e n a to i end)) (omega arith) n
assigned (Update p o pos e) n from to (mid, place, (a, h, i)) end =
    let m = update_mark o pos mid a h in
    assign (Update p o pos e) p (height e) from mid to place (behind_other mark.OpenBracket m.sign mid a m.no_index (pos, m.stands))
    (behind_other mark.OpenParen m.sign mid a m.no_call (pos, m.stands))
    (λ n. updated_case n p o pos e mid a to m (expr_answers e n a to i end)) (omega arith) n
assigned (Increment p) n from to (mid, place, h) end =
    assign (Increment p) p 0 from mid to place (behind_other mark.OpenBracket mark.Increment mid to refl h)
    (behind_other mark.OpenParen mark.Increment mid to refl h)
    (λ n. increment_case n p mid to h) (omega arith) n
assigned (Decrement p) n from to (mid, place, h) end =
    assign (Decrement p) p 0 from mid to place (behind_other mark.OpenBracket mark.Decrement mid to refl h)
    (behind_other mark.OpenParen mark.Decrement mid to refl h)
    (λ n. decrement_case n p mid to h) (omega arith) n

pub assignment_answers : (a : Assignment) (n : ℕ) (from to : List Token) → IsAssignment a from to → Ended to
    → Answers n (assignment_height a) (assignment_at n from) a to
unfolding assignment_at
assignment_answers a n from to is end = let q = assigned a n from to is end in answer_name q.name from _ q.begins q.answers

pub place_first : (m : Mark) (p : Place) (from to : List Token) → IsPlace p from to → behind m from ≡ None
place_first m (ToVariable x) from to h = behind_name m x from to h
place_first m (ToElement x e) from to (a, h, i) = behind_name m x from a h

-- an assignment begins with a name
pub assignment_first : (m : Mark) (a : Assignment) (from to : List Token) → IsAssignment a from to → behind m from ≡ None
assignment_first m (Set p e) from to (mid, h, i) = place_first m p from mid h
assignment_first m (Update p o pos e) from to (mid, h, i) = place_first m p from mid h
assignment_first m (Increment p) from to (mid, h, i) = place_first m p from mid h
assignment_first m (Decrement p) from to (mid, h, i) = place_first m p from mid h

updating_shorter : (o : Operator) (pos : Pos) (from to : List Token) → Updating pos o from to → length to < length from
updating_shorter o pos from to h = let m = update_mark o pos from to h in the_shorter m.sign from to (pos, m.stands)

pub assignment_shorter : (a : Assignment) (from to : List Token) → IsAssignment a from to → length to < length from
assignment_shorter (Set p e) from to (a, h, (b, i, j)) =
    let q = place_shorter p from a h in let r = the_shorter mark.Assign a b i in let s = expr_shorter e 11 b to j in omega arith
assignment_shorter (Update p o pos e) from to (a, h, (b, i, j)) =
    let q = place_shorter p from a h in let r = updating_shorter o pos a b i in let s = expr_shorter e 11 b to j in omega arith
assignment_shorter (Increment p) from to (a, h, i) =
    let q = place_shorter p from a h in let r = the_shorter mark.Increment a to i in omega arith
assignment_shorter (Decrement p) from to (a, h, i) =
    let q = place_shorter p from a h in let r = the_shorter mark.Decrement a to i in omega arith

-- ---- the clauses of a `for`

init_answers : (i : Init) (n : ℕ) (from mid to : List Token) → IsInit i from mid → The mark.Semicolon mid to
    → Answers n (init_height i) (init_at n from) i to
unfolding init_at
init_answers NoInit n from mid to is end =
    answer_there mark.Semicolon from (λ o. init_turn n from o (behind mark.Int from)) refl (rw is end) answer
init_answers (InitLocals ds) n from mid to (a, h, is) end =
    answer_absent mark.Semicolon from (λ o. init_turn n from o (behind mark.Int from)) (behind_other mark.Semicolon mark.Int from a refl h)
    (answer_there mark.Int from (init_turn n from None) refl h
    (at_height (answer_then (locals_at n a) _ (locals_answers ds n a mid to is end) (answer_behind mark.Semicolon mid _ refl end answer)) (locals_height ds) (omega arith)))
init_answers (InitAssign u) n from mid to is end =
    answer_absent mark.Semicolon from (λ o. init_turn n from o (behind mark.Int from)) (assignment_first mark.Semicolon u from mid is)
    (answer_absent mark.Int from (init_turn n from None) (assignment_first mark.Int u from mid is)
    (at_height (answer_then (assignment_at n from) _ (assignment_answers u n from mid is (ended mark.Semicolon mid to (refl, refl, refl, refl, refl) end)) (answer_behind mark.Semicolon mid _ refl end answer)) (assignment_height u) (omega arith)))

pub for_clauses_answers : (h : ForClauses) (n : ℕ) (from to : List Token) → AreForClauses h from to
    → Answers n (head_height h) (for_clauses_at n from) h to
unfolding for_clauses_at
for_clauses_answers h n from to (a, open_paren, (b, begins, (c, first, (d, tests, (e, second, (f, steps, close)))))) =
    answer_behind mark.OpenParen from _ refl open_paren
    (at_height (answer_then (init_at n a) _ (init_answers h.init n a b c begins first)
    (answer_then (optional_at mark.Semicolon (expr_at n 11) c) _
    (optional_answers IsExpr mark.Semicolon n height (expr_at n 11) refl (λ x s t i. expr_first mark.Semicolon (refl, refl, refl, refl) x 11 s t i)
    (λ x s t r i end. expr_answers x n s t i (ended mark.Semicolon t r (refl, refl, refl, refl, refl) end)) h.test c d e tests second)
    (answer_then (optional_at mark.CloseParen (assignment_at n) e) _
    (optional_answers IsAssignment mark.CloseParen n assignment_height (assignment_at n) refl (λ x s t i. assignment_first mark.CloseParen x s t i)
    (λ x s t r i end. assignment_answers x n s t i (ended mark.CloseParen t r (refl, refl, refl, refl, refl) end)) h.step e f to steps close)
    answer))) (head_height h) (omega arith))
