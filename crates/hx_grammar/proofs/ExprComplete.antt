-- An expression that is spelled is read, at any room, or it's too deep.
use Rattle.std.proofs.Common.{◌≡◌, ℕ, zero, suc, ◌+◌, ◌-◌, ◌<◌, ◌≤◌, max, Bool, true, false, cond, List, [], ◌∷◌, Option, Some, None, Ok, Err, ◌⊎◌, inl, inr, refl, sym, ap, subst, ◌∙◌, arith, rules}
use Rattle.std.proofs.lemmas.Bool.{lt-ltb, le-ltb, le-leb, lt-leb, cases_lt}
use Rattle.std.specs.Prelude.{nat_lt, nat_le}
use denote.Enum.Bare.{same_true}
use Rattle.hx_tree.specs.contracts.token.Mark.{the_type}
use Rattle.hx_tree.specs.declared.token.Pos.{Pos}
use Rattle.hx_tree.specs.declared.token.Mark.{Mark}
use Rattle.hx_tree.specs.declared.token.Mark.TheVariants as mark
use Rattle.hx_tree.specs.declared.tree.UnaryOp.{UnaryOp}
use Rattle.hx_tree.specs.declared.tree.UnaryOp.TheVariants as unary
use Rattle.hx_tree.specs.declared.tree.BinaryOp.{BinaryOp}
use Rattle.hx_tree.specs.Tree.{Name, Expr, Number, Variable, Element, Call, Paren, Unary, Binary, Conditional, Exprs, no_exprs, expr_and, exprs}
use Rattle.hx_tree.specs.Lexis.{Token, NameToken, NumberToken, MarkToken}
use Rattle.hx_tree.specs.Grammar.{The, IsExprOf, IsExpr, InParens, AreArguments, AreMoreArguments, EachBehindComma, Optional, layer, binary_mark, unary_mark}
use Rattle.hx_tree.specs.Height.{height, heights, greatest, if_there}
use Rattle.hx_tree.proofs.Phrases.{weaken, expr_shorter}
use Rattle.hx_grammar.specs.Reading.{TooDeep, Reader, same_mark, behind, binary_of, operator_at, Below, arguments_turn, arguments_at, name_turn, named_at, unary_at, marked_at, operand_at, chain, chained_at, arms_at, question_at, expr_at, in_parens_at, optional_turn, optional_at, listed}
use Rattle.hx_grammar.proofs.Readings.{behind_here, behind_other, behind_name, behind_number, Answers, answer, answer_as, answer_then, answer_behind, answer_there, answer_absent, at_height, node, Ended, ended}
use Rattle.hx_grammar.proofs.Lists.{Each, IsRead, BeforeEnd, listed_answers}
use Rattle.hx_grammar.proofs.Operators.{mark_of, layer_pos, layer_low, operator_here, Above, above_operator, above_mark, no_operator, no_operator_above}

-- ---- what follows an expression

-- the tokens don't go on with what an expression has at its right end, whose outermost operator is of layer j
pub record Stops (j : ℕ) (to : List Token) : Type 0 where
  pub operators : Above j to
  pub index : behind mark.OpenBracket to ≡ None
  pub arguments : behind mark.OpenParen to ≡ None
  pub question : 10 < j → behind mark.Question to ≡ None

-- the layer of the outermost operator
abbrev pub top : Expr → ℕ
top (Number n) = 0
top (Variable x) = 0
top (Element x e) = 0
top (Call f es) = 0
top (Paren e) = 0
top (Unary o e) = 0
top (Binary o p l r) = layer o
top (Conditional c a b) = 11

top_within : (e : Expr) (k : ℕ) (from to : List Token) → IsExprOf k e from to → top e ≤ k
top_within (Number n) k from to h = omega arith
top_within (Variable x) k from to h = omega arith
top_within (Element x e) k from to h = omega arith
top_within (Call f es) k from to h = omega arith
top_within (Paren e) k from to h = omega arith
top_within (Unary o e) k from to h = omega arith
top_within (Binary o p l r) k from to h = h.0
top_within (Conditional c a b) k from to h = h.0

stops_less : (i j : ℕ) (to : List Token) → i ≤ j → Stops j to → Stops i to
stops_less i j to le s =
    record { operators = λ k o p rest f. (let x = s.operators k o p rest f in omega arith); index = s.index; arguments = s.arguments; question = λ above. s.question (omega arith) }

stops_ended : (j : ℕ) (to : List Token) → Ended to → Stops j to
stops_ended j to e = record { operators = λ k o p rest f. (let x = e.operators k in absurd cc); index = e.index; arguments = e.arguments; question = λ above. e.question }

-- the mark of an operator is no other mark
apart : (o : BinaryOp) (m : Mark) → binary_of m ≡ None → same_mark (binary_mark o) m ≡ false
apart o m none = go (same_mark (binary_mark o) m) refl
  where
    go : (b : Bool) → same_mark (binary_mark o) m ≡ b → same_mark (binary_mark o) m ≡ false
    go false e = e
    go true e =
        let same : binary_mark o ≡ m = same_true the_type (search rules) (binary_mark o) m e in
        let x : Some o ≡ None = sym (mark_of o) ∙ ap binary_of same ∙ none in
        absurd cc

stops_operator : (o : BinaryOp) (p : Pos) (rest : List Token) → Stops (layer o) (MarkToken (binary_mark o) p ∷ rest)
stops_operator o p rest = record {
  operators = above_operator o p rest;
  index = behind_other mark.OpenBracket (binary_mark o) (MarkToken (binary_mark o) p ∷ rest) rest (apart o mark.OpenBracket refl) (p, refl);
  arguments = behind_other mark.OpenParen (binary_mark o) (MarkToken (binary_mark o) p ∷ rest) rest (apart o mark.OpenParen refl) (p, refl);
  question = λ above. absurd (let x = layer_low o in omega arith);
}

stops_question : (j : ℕ) (from rest : List Token) → j ≤ 10 → The mark.Question from rest → Stops j from
stops_question j from rest low h = record {
  operators = rw h.1 (above_mark j mark.Question h.0 rest refl);
  index = behind_other mark.OpenBracket mark.Question from rest refl h;
  arguments = behind_other mark.OpenParen mark.Question from rest refl h;
  question = λ above. absurd (omega arith);
}

-- ---- what is read

-- e, and then what goes on behind it, if it isn't too deep
abbrev pub Goes : ℕ → ℕ → Expr → List Token → List Token → Type 0
Goes n k e from to =
    ((fuel : ℕ) × (suc n ≤ fuel + height e) × (height e ≤ suc n) × (chained_at (expr_at n) (suc n) k from ≡ chain (expr_at n) fuel (suc n) k e to))
    ⊎ ((suc n < height e) × (chained_at (expr_at n) (suc n) k from ≡ Err TooDeep))

-- so, or e is conditional, and nothing goes on behind it
abbrev pub Reads : ℕ → ℕ → Expr → List Token → List Token → Type 0
Reads n k e from to = Goes n k e from to ⊎ ((10 < top e) × Answers (suc n) (height e) (expr_at (suc n) k from) e to)

goes_on : (n k : ℕ) (e : Expr) (from to : List Token) → top e ≤ 10 → Reads n k e from to → Goes n k e from to
goes_on n k e from to low (inl g) = g
goes_on n k e from to low (inr (above, a)) = absurd (omega arith)

-- what is shown of e
abbrev pub Complete : Expr → Type 0
Complete e = (n k : ℕ) (from to : List Token) → IsExprOf k e from to → Stops (top e) to → Reads n k e from to

height_pos : (e : Expr) → 0 < height e
height_pos (Number n) = omega arith
height_pos (Variable x) = omega arith
height_pos (Element x e) = omega arith
height_pos (Call f es) = omega arith
height_pos (Paren e) = omega arith
height_pos (Unary o e) = omega arith
height_pos (Binary o p l r) = omega arith
height_pos (Conditional c a b) = omega arith

chain_ends : (below : Below) (fuel room k : ℕ) (left : Expr) (from : List Token) → operator_at k from ≡ None
    → chain below fuel room k left from ≡ Ok (left, from)
unfolding chain
chain_ends below zero room k left from none = rw none refl
chain_ends below (suc fuel) room k left from none = rw none refl

no_room : (k : ℕ) (from : List Token) → expr_at 0 k from ≡ Err TooDeep
unfolding expr_at
no_room k from = refl

-- behind an expression without a `?`
unchosen : (n k : ℕ) (e : Expr) (from to : List Token) → question_at k to ≡ None
    → chained_at (expr_at n) (suc n) k from ≡ Ok (e, to) → expr_at (suc n) k from ≡ Ok (e, to)
unfolding expr_at
unchosen n k e from to none h = rw (h, none) refl

chained_deep : (n k : ℕ) (from : List Token) → chained_at (expr_at n) (suc n) k from ≡ Err TooDeep → expr_at (suc n) k from ≡ Err TooDeep
unfolding expr_at
chained_deep n k from h = rw h refl

-- below layer 11 no `?` is read
no_question : (k : ℕ) (to : List Token) → k ≤ 10 → question_at k to ≡ None
unfolding question_at
no_question k to low = let high : nat_le 11 k ≡ false = lt-leb 11 k (omega arith) in rw high refl

unquestioned : (k : ℕ) (to : List Token) → behind mark.Question to ≡ None → question_at k to ≡ None
unfolding question_at
unquestioned k to none = rw none (go (nat_le 11 k))
  where
    go : (b : Bool) → cond {A = Option (List Token)} b None None ≡ None
    go true = refl
    go false = refl

closed_reads : (n k : ℕ) (e : Expr) (from to : List Token) → Reads n k e from to → operator_at k to ≡ None → question_at k to ≡ None
    → Answers (suc n) (height e) (expr_at (suc n) k from) e to
closed_reads n k e from to (inl (inl (fuel, enough, small, h))) none asks =
    record { or_deep = inl (small, unchosen n k e from to asks (h ∙ chain_ends (expr_at n) fuel (suc n) k e to none)) }
closed_reads n k e from to (inl (inr (deep, h))) none asks = record { or_deep = inr (deep, chained_deep n k from h) }
closed_reads n k e from to (inr (above, a)) none asks = a

closed : (e : Expr) → Complete e → (n k : ℕ) (from to : List Token) → IsExprOf k e from to → Stops (top e) to → operator_at k to ≡ None
    → question_at k to ≡ None → Answers n (height e) (expr_at n k from) e to
closed e complete zero k from to is stops none asks = record { or_deep = inr (height_pos e, no_room k from) }
closed e complete (suc n) k from to is stops none asks = closed_reads n k e from to (complete n k from to is stops) none asks

-- an expression of all layers, before what ends it
before_end : (e : Expr) → Complete e → (n : ℕ) (from to : List Token) → IsExpr e from to → Ended to
    → Answers n (height e) (expr_at n 11 from) e to
before_end e complete n from to is end =
    closed e complete n 11 from to is (stops_ended (top e) to end) (end.operators 11) (unquestioned 11 to end.question)

is_read : (e : Expr) → Complete e → (n : ℕ) → IsRead n height (expr_at n 11) (BeforeEnd IsExpr) e
is_read e complete n =
    record { answers = λ from to h. before_end e complete n from to h.0 h.1; shorter = λ from to h. expr_shorter e 11 from to h.0 }

-- an operand is read as an expression of each layer
operand : (n k : ℕ) (e : Expr) (from to : List Token) → 1 ≤ height e → Answers (suc n) (height e) (operand_at (expr_at n) from) e to
    → Goes n k e from to
unfolding chained_at
operand n k e from to pos a =
    elim (a.or_deep) [
      | inl (small, h) ↦ inl (suc n, omega arith, small, rw h refl)
      | inr (deep, h) ↦ inr (deep, rw h refl)
    ]

-- ---- operators

bin_deep : (below : Below) (fuel room k : ℕ) (left : Expr) (o : BinaryOp) (p : Pos) (rest : List Token) → layer o ≤ k → room ≤ height left
    → chain below fuel room k left (MarkToken (binary_mark o) p ∷ rest) ≡ Err TooDeep
unfolding chain
bin_deep below fuel room k left o p rest le high = go fuel
  where
    at : operator_at k (MarkToken (binary_mark o) p ∷ rest) ≡ Some (o, p, rest)
    at = operator_here k o p rest le

    above : nat_lt (height left) room ≡ false
    above = le-ltb (height left) room high

    go : (fuel : ℕ) → chain below fuel room k left (MarkToken (binary_mark o) p ∷ rest) ≡ Err TooDeep
    go zero = rw (at, above) refl
    go (suc m) = rw (at, above) refl

bin_right_deep : (below : Below) (fuel room k : ℕ) (left : Expr) (o : BinaryOp) (p : Pos) (rest : List Token) → layer o ≤ k
    → height left < room → below (layer o - 1) rest ≡ Err TooDeep
    → chain below fuel room k left (MarkToken (binary_mark o) p ∷ rest) ≡ Err TooDeep
unfolding chain
bin_right_deep below fuel room k left o p rest le low h = go fuel
  where
    at : operator_at k (MarkToken (binary_mark o) p ∷ rest) ≡ Some (o, p, rest)
    at = operator_here k o p rest le

    fits : nat_lt (height left) room ≡ true
    fits = lt-ltb (height left) room low

    go : (fuel : ℕ) → chain below fuel room k left (MarkToken (binary_mark o) p ∷ rest) ≡ Err TooDeep
    go zero = rw (at, fits, h) refl
    go (suc m) = rw (at, fits, h) refl

bin_goes : (below : Below) (fuel room k : ℕ) (left right : Expr) (o : BinaryOp) (p : Pos) (rest to : List Token) → layer o ≤ k
    → height left < room → below (layer o - 1) rest ≡ Ok (right, to)
    → chain below (suc fuel) room k left (MarkToken (binary_mark o) p ∷ rest) ≡ chain below fuel room k (Binary o p left right) to
unfolding chain
bin_goes below fuel room k left right o p rest to le low h =
    let at : operator_at k (MarkToken (binary_mark o) p ∷ rest) ≡ Some (o, p, rest) = operator_here k o p rest le in
    let fits : nat_lt (height left) room ≡ true = lt-ltb (height left) room low in
    rw (at, fits, h) refl

bin_case : (n k : ℕ) (o : BinaryOp) (p : Pos) (l r : Expr) (from b to : List Token) → layer o ≤ k
    → Goes n k l from (MarkToken (binary_mark o) p ∷ b)
    → Answers n (height r) (expr_at n (layer o - 1) b) r to → Goes n k (Binary o p l r) from to
bin_case n k o p l r from b to le (inr (deep, h)) right = inr (omega arith, h)
bin_case n k o p l r from b to le (inl (fuel, enough, small, h)) right = go fuel enough h (right.or_deep) (cases_lt (height l) (suc n))
  where
    go : (fuel : ℕ) → suc n ≤ fuel + height l
        → chained_at (expr_at n) (suc n) k from ≡ chain (expr_at n) fuel (suc n) k l (MarkToken (binary_mark o) p ∷ b)
        → ((height r ≤ n) × (expr_at n (layer o - 1) b ≡ Ok (r, to))) ⊎ ((n < height r) × (expr_at n (layer o - 1) b ≡ Err TooDeep))
        → (height l < suc n) ⊎ (suc n ≤ height l) → Goes n k (Binary o p l r) from to
    go fuel enough h right (inr high) = inr (omega arith, h ∙ bin_deep (expr_at n) fuel (suc n) k l o p b le high)
    go fuel enough h (inr (deep, d)) (inl low) = inr (omega arith, h ∙ bin_right_deep (expr_at n) fuel (suc n) k l o p b le low d)
    go zero enough h (inl (ok, d)) (inl low) = absurd (omega arith)
    go (suc m) enough h (inl (ok, d)) (inl low) = inl
        (m, omega arith, omega arith, h ∙ bin_goes (expr_at n) m (suc n) k l r o p b to le low d)

-- ---- the conditional operator

arms_answer : (n : ℕ) (c a b : Expr) (d e f to : List Token) → Answers n (height a) (expr_at n 11 d) a e → The mark.Colon e f
    → Answers n (height b) (expr_at n 11 f) b to
    → Answers n (max (height a) (height b)) (arms_at (expr_at n) c d) (Conditional c a b) to
unfolding arms_at
arms_answer n c a b d e f to h i j =
    at_height (answer_then (expr_at n 11 d) _ h (answer_behind mark.Colon e _ refl i (answer_then (expr_at n 11 f) _ j answer)))
    (max (height a) (height b)) (omega arith)

question_here : (k : ℕ) (from to : List Token) → 11 ≤ k → The mark.Question from to → question_at k from ≡ Some to
unfolding question_at
question_here k from to le h =
    let high : nat_le 11 k ≡ true = le-leb 11 k le in rw (high, behind_here mark.Question from to refl h) refl

chosen_deep : (n k : ℕ) (c : Expr) (from d e : List Token) → suc n ≤ height c → question_at k d ≡ Some e
    → chained_at (expr_at n) (suc n) k from ≡ Ok (c, d) → expr_at (suc n) k from ≡ Err TooDeep
unfolding expr_at
chosen_deep n k c from d e high asks h =
    let above : nat_lt (height c) (suc n) ≡ false = le-ltb (height c) (suc n) high in rw (h, asks, above) refl

chosen : (n k : ℕ) (c : Expr) (from d e : List Token) → height c < suc n → question_at k d ≡ Some e
    → chained_at (expr_at n) (suc n) k from ≡ Ok (c, d) → expr_at (suc n) k from ≡ arms_at (expr_at n) c e
unfolding expr_at
chosen n k c from d e low asks h =
    let fits : nat_lt (height c) (suc n) ≡ true = lt-ltb (height c) (suc n) low in rw (h, asks, fits) refl

conditional_case : (n k : ℕ) (c a b : Expr) (from d e f g to : List Token) → Goes n k c from d → operator_at k d ≡ None
    → question_at k d ≡ Some e → Answers n (height a) (expr_at n 11 e) a f → The mark.Colon f g
    → Answers n (height b) (expr_at n 11 g) b to
    → Answers (suc n) (height (Conditional c a b)) (expr_at (suc n) k from) (Conditional c a b) to
conditional_case n k c a b from d e f g to (inr (deep, h)) none asks i colon j =
    record { or_deep = inr (omega arith, chained_deep n k from h) }
conditional_case n k c a b from d e f g to (inl (fuel, enough, small, h)) none asks i colon j =
    record { or_deep = go (cases_lt (height c) (suc n)) ((arms_answer n c a b e f g to i colon j).or_deep) }
  where
    chained : chained_at (expr_at n) (suc n) k from ≡ Ok (c, d)
    chained = h ∙ chain_ends (expr_at n) fuel (suc n) k c d none

    go : (height c < suc n) ⊎ (suc n ≤ height c)
        → ((max (height a) (height b) ≤ n) × (arms_at (expr_at n) c e ≡ Ok (Conditional c a b, to)))
        ⊎ ((n < max (height a) (height b)) × (arms_at (expr_at n) c e ≡ Err TooDeep))
        → ((height (Conditional c a b) ≤ suc n) × (expr_at (suc n) k from ≡ Ok (Conditional c a b, to)))
        ⊎ ((suc n < height (Conditional c a b)) × (expr_at (suc n) k from ≡ Err TooDeep))
    go (inr high) arms = inr (omega arith, chosen_deep n k c from d e high asks chained)
    go (inl low) (inl (fits, r)) = inl (omega arith, chosen n k c from d e low asks chained ∙ r)
    go (inl low) (inr (deep, r)) = inr (omega arith, chosen n k c from d e low asks chained ∙ r)

-- ---- arguments

abbrev pub list_of : Exprs → List Expr
list_of no_exprs = []
list_of (expr_and e es) = e ∷ list_of es

pub exprs_list : (es : Exprs) → exprs (list_of es) ≡ es
exprs_list no_exprs = refl
exprs_list (expr_and e es) = ap (λ (x : Exprs). expr_and e x) (exprs_list es)

pub heights_list : (es : Exprs) → greatest height (list_of es) ≡ heights es
heights_list no_exprs = refl
heights_list (expr_and e es) = ap (λ (h : ℕ). max (height e) h) (heights_list es)

more_listed : (es : Exprs) (from to : List Token) → AreMoreArguments es from to → EachBehindComma IsExpr (list_of es) from to
more_listed no_exprs from to h = h
more_listed (expr_and e es) from to (a, h, (b, i, j)) = (a, h, (b, i, more_listed es b to j))

-- no expression begins with such a mark
abbrev pub NotFirst : Mark → Type 0
NotFirst m =
    (same_mark mark.OpenParen m ≡ false) × (same_mark mark.Minus m ≡ false) × (same_mark mark.Tilde m ≡ false) ×
    (same_mark mark.Exclamation m ≡ false)

pub expr_first : (m : Mark) → NotFirst m → (e : Expr) (k : ℕ) (from to : List Token) → IsExprOf k e from to → behind m from ≡ None
expr_first m other (Number n) k from to h = behind_number m n from to h
expr_first m other (Variable x) k from to h = behind_name m x from to h
expr_first m other (Element x e) k from to h = behind_name m x from h.0 h.1
expr_first m other (Call f es) k from to h = behind_name m f from h.0 h.1
expr_first m other (Paren e) k from to h = behind_other m mark.OpenParen from h.0 other.0 h.1
expr_first m other (Unary unary.Negate e) k from to h = behind_other m mark.Minus from h.0 other.1 h.1
expr_first m other (Unary unary.Invert e) k from to h = behind_other m mark.Tilde from h.0 other.2 h.1
expr_first m other (Unary unary.Not e) k from to h = behind_other m mark.Exclamation from h.0 other.3 h.1
expr_first m other (Binary o p l r) k from to (fits, (a, h, i)) = expr_first m other l (layer o) from a h
expr_first m other (Conditional c a b) k from to (fits, (d, h, i)) = expr_first m other c 10 from d h

abbrev AllRead : ℕ → Exprs → Type 0
AllRead n es = Each (IsRead n height (expr_at n 11) (BeforeEnd IsExpr)) (list_of es)

arguments_case : (n : ℕ) (es : Exprs) → AllRead n es → (from mid to : List Token) → AreArguments es from mid → The mark.CloseParen mid to
    → Answers n (heights es) (arguments_at (expr_at n) from) (list_of es) to
unfolding arguments_at
arguments_case n no_exprs each from mid to is end =
    answer_there mark.CloseParen from (arguments_turn (expr_at n) from) refl (rw is end) answer
arguments_case n (expr_and e es) each from mid to (a, h, i) end =
    answer_absent mark.CloseParen from (arguments_turn (expr_at n) from) (expr_first mark.CloseParen (refl, refl, refl, refl) e 11 from a h)
    (at_height (answer_then (listed (expr_at n 11) from) _
    (listed_answers IsExpr n height (expr_at n 11) (e ∷ list_of es) each from mid (a, h, more_listed es a mid i) (ended mark.CloseParen mid to (refl, refl, refl, refl, refl) end)
    (behind_other mark.Comma mark.CloseParen mid to refl end))
    (answer_behind mark.CloseParen mid _ refl end answer)) (heights (expr_and e es)) (let x = heights_list es in omega arith))

-- ---- operands

number_case : (n k i : ℕ) (p : Pos) (to : List Token) → Goes n k (Number i) (NumberToken i p ∷ to) to
unfolding operand_at
number_case n k i p to = operand n k (Number i) (NumberToken i p ∷ to) to (omega arith) (node answer 1 refl)

variable_case : (n k : ℕ) (x : Name) (to : List Token) → Stops 0 to → Goes n k (Variable x) (NameToken x ∷ to) to
unfolding operand_at named_at
variable_case n k x to stops =
    operand n k (Variable x) (NameToken x ∷ to) to (omega arith)
    (answer_absent mark.OpenBracket to (λ o. name_turn (expr_at n) x to o (behind mark.OpenParen to)) stops.index
    (answer_absent mark.OpenParen to (name_turn (expr_at n) x to None) stops.arguments (node answer 1 refl)))

element_case : (n k : ℕ) (x : Name) (e : Expr) (a b c to : List Token) → The mark.OpenBracket a b
    → Answers n (height e) (expr_at n 11 b) e c → The mark.CloseBracket c to → Goes n k (Element x e) (NameToken x ∷ a) to
unfolding operand_at named_at
element_case n k x e a b c to h i j =
    operand n k (Element x e) (NameToken x ∷ a) to (omega arith)
    (answer_there mark.OpenBracket a (λ o. name_turn (expr_at n) x a o (behind mark.OpenParen a)) refl h
    (node (answer_then (expr_at n 11 b) _ i (answer_behind mark.CloseBracket c _ refl j answer)) (height (Element x e)) (omega arith)))

call_case : (n k : ℕ) (f : Name) (es : Exprs) (a b to : List Token) → The mark.OpenParen a b
    → Answers n (heights es) (arguments_at (expr_at n) b) (list_of es) to → Goes n k (Call f es) (NameToken f ∷ a) to
unfolding operand_at named_at
call_case n k f es a b to h i =
    operand n k (Call f es) (NameToken f ∷ a) to (omega arith)
    (answer_absent mark.OpenBracket a (λ o. name_turn (expr_at n) f a o (behind mark.OpenParen a)) (behind_other mark.OpenBracket mark.OpenParen a b refl h)
    (answer_there mark.OpenParen a (name_turn (expr_at n) f a None) refl h
    (node (answer_then (arguments_at (expr_at n) b) _ i (answer_as (ap (λ (x : Exprs). Call f x) (exprs_list es)))) (height (Call f es)) (omega arith))))

paren_case : (n k : ℕ) (e : Expr) (p : Pos) (a b to : List Token) → Answers n (height e) (expr_at n 11 a) e b → The mark.CloseParen b to
    → Goes n k (Paren e) (MarkToken mark.OpenParen p ∷ a) to
unfolding operand_at marked_at
paren_case n k e p a b to h i =
    operand n k (Paren e) (MarkToken mark.OpenParen p ∷ a) to (omega arith)
    (node (answer_then (expr_at n 11 a) _ h (answer_behind mark.CloseParen b _ refl i answer)) (height (Paren e)) (omega arith))

unary_case : (n k : ℕ) (o : UnaryOp) (e : Expr) (p : Pos) (a to : List Token) → Answers n (height e) (expr_at n 0 a) e to
    → Goes n k (Unary o e) (MarkToken (unary_mark o) p ∷ a) to
unfolding operand_at marked_at unary_at
unary_case n k unary.Negate e p a to h =
    operand n k (Unary unary.Negate e) (MarkToken mark.Minus p ∷ a) to (omega arith)
    (node (answer_then (expr_at n 0 a) _ h answer) (height (Unary unary.Negate e)) (omega arith))
unary_case n k unary.Invert e p a to h =
    operand n k (Unary unary.Invert e) (MarkToken mark.Tilde p ∷ a) to (omega arith)
    (node (answer_then (expr_at n 0 a) _ h answer) (height (Unary unary.Invert e)) (omega arith))
unary_case n k unary.Not e p a to h =
    operand n k (Unary unary.Not e) (MarkToken mark.Exclamation p ∷ a) to (omega arith)
    (node (answer_then (expr_at n 0 a) _ h answer) (height (Unary unary.Not e)) (omega arith))

-- a `?` is no operator of two values
question_no_operator : (k : ℕ) (from to : List Token) → The mark.Question from to → operator_at k from ≡ None
unfolding operator_at
question_no_operator k from to h = rw h.1 refl

-- ---- all of them

mutual
  pub complete : (e : Expr) → Complete e
  complete (Number i) n k from to is stops = inl (rw is.1 (number_case n k i is.0 to))
  complete (Variable x) n k from to is stops = inl (rw is (variable_case n k x to stops))
  complete (Element x e) n k from to (a, h, (b, i, (c, j, l))) stops =
      inl (rw h (element_case n k x e a b c to i (before_end e (complete e) n b c j (ended mark.CloseBracket c to (refl, refl, refl, refl, refl) l)) l))
  complete (Call f es) n k from to (a, h, (b, i, (c, j, l))) stops =
      inl (rw h (call_case n k f es a b to i (arguments_case n es (all_read es n) b c to j l)))
  complete (Paren e) n k from to (a, h, (b, i, l)) stops =
      inl (rw h.1 (paren_case n k e h.0 a b to (before_end e (complete e) n a b i (ended mark.CloseParen b to (refl, refl, refl, refl, refl) l)) l))
  complete (Unary o e) n k from to (a, h, i) stops =
      inl (rw h.1
      (unary_case n k o e h.0 a to (closed e (complete e) n 0 a to i (stops_less (top e) 0 to (top_within e 0 a to i) stops) (no_operator 1 0 to (omega arith) (λ j u p rest g. layer_pos u)) (no_question 0 to (omega arith)))))
  complete (Binary o p l r) n k from to (le, (a, h, (b, i, j))) stops =
      let sl : Stops (top l) a = stops_less (top l) (layer o) a (top_within l (layer o) from a h) (rw i (stops_operator o p b)) in
      let tl = top_within l (layer o) from a h in
      let low = layer_low o in
      let left : Goes n k l from a = goes_on n k l from a (omega arith) (complete l n k from a (weaken l (layer o) k le from a h) sl) in
      let left' : Goes n k l from (MarkToken (binary_mark o) p ∷ b) = subst (λ (s : List Token). Goes n k l from s) i left in
      let tr = top_within r (layer o - 1) b to j in
      let right = closed r (complete r) n (layer o - 1) b to j (stops_less (top r) (layer o) to (omega arith) stops)
      (no_operator (layer o) (layer o - 1) to (let x = layer_pos o in omega arith) stops.operators) (no_question (layer o - 1) to (omega arith)) in
      inl (bin_case n k o p l r from b to le left' right)
  complete (Conditional c a b) n k from to (le, (d, h, (e, i, (f, j, (g, l, m))))) stops =
      let tc = top_within c 10 from d h in
      let sc : Stops (top c) d = stops_question (top c) d e tc i in
      let test : Goes n k c from d = goes_on n k c from d tc (complete c n k from d (weaken c 10 k (omega arith) from d h) sc) in
      let first = before_end a (complete a) n e f j (ended mark.Colon f g (refl, refl, refl, refl, refl) l) in
      let second = closed b (complete b) n 11 g to m (stops_less (top b) 11 to (top_within b 11 g to m) stops)
      (no_operator_above 11 to stops.operators) (unquestioned 11 to (stops.question (omega arith))) in
      let none : operator_at k d ≡ None = question_no_operator k d e i in
      inr (omega arith, conditional_case n k c a b from d e f g to test none (question_here k d e le i) first l second)

  pub all_read : (es : Exprs) (n : ℕ) → AllRead n es
  all_read no_exprs n = tt
  all_read (expr_and e es) n = (is_read e (complete e) n, all_read es n)

-- ---- expressions in statements

pub expr_answers : (e : Expr) (n : ℕ) (from to : List Token) → IsExpr e from to → Ended to → Answers n (height e) (expr_at n 11 from) e to
expr_answers e n from to is end = before_end e (complete e) n from to is end

pub arguments_answers : (es : Exprs) (n : ℕ) (from mid to : List Token) → AreArguments es from mid → The mark.CloseParen mid to
    → Answers n (heights es) (arguments_at (expr_at n) from) (list_of es) to
arguments_answers es n from mid to is end = arguments_case n es (all_read es n) from mid to is end

pub in_parens_answers : (e : Expr) (n : ℕ) (from to : List Token) → InParens e from to → Answers n (height e) (in_parens_at n from) e to
unfolding in_parens_at
in_parens_answers e n from to (a, h, (b, i, j)) =
    answer_behind mark.OpenParen from _ refl h
    (at_height (answer_then (expr_at n 11 a) _ (expr_answers e n a b i (ended mark.CloseParen b to (refl, refl, refl, refl, refl) j)) (answer_behind mark.CloseParen b _ refl j answer)) (height e) (omega arith))

-- what may be absent before a mark
pub optional_answers : {X : Type 0} (P : X → List Token → List Token → Type 0) (m : Mark) (n : ℕ) (h : X → ℕ) (read : Reader X)
    → same_mark m m ≡ true
    → ((x : X) (from to : List Token) → P x from to → behind m from ≡ None)
    → ((x : X) (from to rest : List Token) → P x from to → The m to rest → Answers n (h x) (read from) x to)
    → (x : Option X) (from mid to : List Token) → Optional P x from mid → The m mid to
    → Answers n (if_there h x) (optional_at m read from) x to
unfolding optional_at
optional_answers P m n h read same first reads None from mid to is end =
    answer_there m from (optional_turn m read from) same (rw is end) answer
optional_answers P m n h read same first reads (Some x) from mid to is end =
    answer_absent m from (optional_turn m read from) (first x from mid is)
    (at_height (answer_then (read from) _ (reads x from mid to is end) (answer_behind m mid _ same end answer)) (h x) (omega arith))
