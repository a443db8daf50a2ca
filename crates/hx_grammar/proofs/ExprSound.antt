-- An expression that is read is spelled so, and no operator of its layer follows.
use Rattle.std.proofs.Common.{◌≡◌, ℕ, zero, suc, ◌-◌, ◌≤◌, Bool, true, false, cond, List, [], ◌∷◌, Option, Some, None, Err, refl, arith}
use Rattle.std.proofs.lemmas.Bool.{leb-true}
use Rattle.std.specs.Prelude.{nat_lt, nat_le}
use Rattle.hx_tree.specs.declared.token.Pos.{Pos}
use Rattle.hx_tree.specs.declared.token.Mark.{Mark}
use Rattle.hx_tree.specs.declared.token.Mark.TheVariants as mark
use Rattle.hx_tree.specs.declared.tree.UnaryOp.{UnaryOp}
use Rattle.hx_tree.specs.declared.tree.UnaryOp.TheVariants as unary
use Rattle.hx_tree.specs.declared.tree.BinaryOp.{BinaryOp}
use Rattle.hx_tree.specs.Tree.{Name, Expr, Binary, exprs}
use Rattle.hx_tree.specs.Lexis.{Token, NameToken, NumberToken, MarkToken}
use Rattle.hx_tree.specs.Grammar.{The, IsExprOf, IsExpr, InParens, AreArguments, AreMoreArguments, Listed, EachBehindComma, Optional, layer, unary_mark, ◌⨾◌}
use Rattle.hx_tree.specs.Height.{height}
use Rattle.hx_tree.proofs.Phrases.{weaken}
use Rattle.hx_grammar.specs.Reading.{TooDeep, Reading, Reader, behind, operator_at, Below, arguments_turn, arguments_at, name_turn, named_at, unary_at, marked_at, operand_at, chain_turn, chain, chained_at, arms_at, question_at, choice_turn, expr_at, in_parens_at, optional_turn, optional_at}
use Rattle.hx_grammar.proofs.Readings.{behind_is, Yields, yields, yields_none, yields_then, yields_behind, yields_if, yields_more}
use Rattle.hx_grammar.proofs.Lists.{listed_yields}
use Rattle.hx_grammar.proofs.Operators.{layer_pos, layer_low, operator_is, operator_above, none_at_all, Above}

-- what is read at each layer
abbrev pub Sound : Below → Type 0
Sound below = (k : ℕ) (from : List Token) → Yields (below k from) (λ e to. IsExprOf k e from to × (operator_at k to ≡ None))

-- ---- arguments

more_are : (es : List Expr) (from to : List Token) → EachBehindComma IsExpr es from to → AreMoreArguments (exprs es) from to
more_are [] from to h = h
more_are (e ∷ es) from to (a, h, (b, i, j)) = (a, h, (b, i, more_are es b to j))

arguments_are : (es : List Expr) (from to : List Token) → Listed IsExpr es from to → AreArguments (exprs es) from to
arguments_are [] from to h = absurd h
arguments_are (e ∷ es) from to (a, h, i) = (a, h, more_are es a to i)

pub arguments_yields : (below : Below) → Sound below → (from : List Token)
    → Yields (arguments_at below from) (λ es to. (AreArguments (exprs es) ⨾ The mark.CloseParen) from to)
unfolding arguments_at
arguments_yields below sound from =
    yields_if mark.CloseParen from (arguments_turn below from) (λ to h. yields (from, refl, h))
    (λ none. yields_then _ _ (listed_yields {P = IsExpr} (below 11) (λ s. yields_more (λ e to h. h.0) (sound 11 s)) from)
    (λ es a h. yields_behind _ _ _ (λ to c. yields (a, arguments_are es from a h.0, c))))

-- ---- operands

abbrev Operand : List Token → Expr → List Token → Type 0
Operand from e to = IsExprOf 0 e from to

named_yields : (below : Below) → Sound below → (x : Name) (from : List Token)
    → Yields (named_at below x from) (Operand (NameToken x ∷ from))
unfolding named_at
named_yields below sound x from =
    yields_if mark.OpenBracket from (λ o. name_turn below x from o (behind mark.OpenParen from))
    (λ a h. yields_then _ _ (sound 11 a) (λ e b i. yields_behind _ _ _ (λ to c. yields (from, refl, (a, h, (b, i.0, c))))))
    (λ none. yields_if mark.OpenParen from (name_turn below x from None)
    (λ a h. yields_then _ _ (arguments_yields below sound a) (λ es to i. yields (from, refl, (a, h, i))))
    (λ none. yields refl))

unary_yields : (below : Below) → Sound below → (o : UnaryOp) (p : Pos) (from : List Token)
    → Yields (unary_at below o from) (Operand (MarkToken (unary_mark o) p ∷ from))
unfolding unary_at
unary_yields below sound o p from = yields_then _ _ (sound 0 from) (λ e to h. yields (from, (p, refl), h.0))

marked_yields : (below : Below) → Sound below → (m : Mark) (p : Pos) (from : List Token)
    → Yields (marked_at below m from) (Operand (MarkToken m p ∷ from))
unfolding marked_at
marked_yields below sound mark.OpenParen p from =
    yields_then _ _ (sound 11 from) (λ e a h. yields_behind _ _ _ (λ to c. yields (from, (p, refl), (a, h.0, c))))
marked_yields below sound mark.Minus p from = unary_yields below sound unary.Negate p from
marked_yields below sound mark.Tilde p from = unary_yields below sound unary.Invert p from
marked_yields below sound mark.Exclamation p from = unary_yields below sound unary.Not p from
marked_yields below sound m p from = yields_none

operand_yields : (below : Below) → Sound below → (from : List Token) → Yields (operand_at below from) (Operand from)
unfolding operand_at
operand_yields below sound [] = yields_none
operand_yields below sound (NameToken x ∷ rest) = named_yields below sound x rest
operand_yields below sound (NumberToken n pos ∷ rest) = yields (pos, refl)
operand_yields below sound (MarkToken m pos ∷ rest) = marked_yields below sound m pos rest

-- ---- operators

yields_cond : {X : Type 0} {Q : X → List Token → Type 0} (b : Bool) (read : Reading X) → Yields read Q
    → Yields (cond b read (Err TooDeep)) Q
yields_cond true read h = h
yields_cond false read h = yields_none

-- an expression of a layer of operators up to k, behind which none of them stands
abbrev Chained : ℕ → List Token → Expr → List Token → Type 0
Chained k from e to = ((j : ℕ) × (j ≤ k) × (j ≤ 10) × IsExprOf j e from to) × (operator_at k to ≡ None)

-- from left on, behind which stand operators of its layer and above
abbrev ChainSound : ℕ → (Expr → Reader Expr) → Type 0
ChainSound k go = (j : ℕ) (left : Expr) (from tokens : List Token) → IsExprOf j left from tokens → j ≤ k → j ≤ 10 → Above j tokens
    → Yields (go left tokens) (Chained k from)

turn_yields : (k room : ℕ) (below : Below) → Sound below → (go : Expr → Reader Expr) → ChainSound k go
    → (j : ℕ) (left : Expr) (from tokens : List Token) → IsExprOf j left from tokens → j ≤ k → j ≤ 10 → Above j tokens
    → (found : Option (BinaryOp × Pos × List Token)) → operator_at k tokens ≡ found
    → Yields (chain_turn below go room left tokens found) (Chained k from)
turn_yields k room below sound go goes j left from tokens is jk low above None at = yields ((j, jk, low, is), at)
turn_yields k room below sound go goes j left from tokens is jk low above (Some (o, p, rest)) at =
    let w = operator_is k tokens rest o p at in
    let fit : IsExprOf (layer o) left from tokens = weaken left j (layer o) (above k o p rest at) from tokens is in
    yields_cond (nat_lt (height left) room) _ (yields_then _ _ (sound (layer o - 1) rest) (λ right to h.
    goes (layer o) (Binary o p left right) from to (omega arith, (tokens, fit, (rest, w.1, h.0))) w.0 (layer_low o)
    (λ i u q r f. (let x = operator_above (layer o - 1) i to r u q h.1 f in let y = layer_pos o in omega arith))))

chain_yields : (k room : ℕ) (below : Below) → Sound below → (fuel : ℕ) → ChainSound k (chain below fuel room k)
unfolding chain
chain_yields k room below sound zero = λ j left from tokens is jk low above.
    turn_yields k room below sound (λ l s. Err TooDeep) (λ j l f s i le b a. yields_none) j left from tokens is jk low above
    (operator_at k tokens) refl
chain_yields k room below sound (suc fuel) = λ j left from tokens is jk low above.
    turn_yields k room below sound (chain below fuel room k) (chain_yields k room below sound fuel) j left from tokens is jk low above
    (operator_at k tokens) refl

chained_yields : (k room : ℕ) (below : Below) → Sound below → (from : List Token) → Yields (chained_at below room k from) (Chained k from)
unfolding chained_at
chained_yields k room below sound from =
    yields_then _ _ (operand_yields below sound from) (λ left a h.
    chain_yields k room below sound room 0 left from a h (omega arith) (omega arith) (λ i o p r f. omega arith))

-- ---- the conditional operator

question_is : (k : ℕ) (from rest : List Token) → question_at k from ≡ Some rest → (11 ≤ k) × The mark.Question from rest
unfolding question_at
question_is k from rest e = go (nat_le 11 k) refl e
  where
    go : (b : Bool) → nat_le 11 k ≡ b → cond {A = Option (List Token)} b (behind mark.Question from) None ≡ Some rest
        → (11 ≤ k) × The mark.Question from rest
    go true t f = (leb-true 11 k t, behind_is mark.Question from rest f)
    go false t f = absurd cc

-- behind the test and the `?`
arms_yields : (k : ℕ) (below : Below) → Sound below → (test : Expr) (from a b : List Token) → 11 ≤ k → IsExprOf 10 test from a
    → The mark.Question a b → Yields (arms_at below test b) (λ e to. IsExprOf k e from to × (operator_at k to ≡ None))
unfolding arms_at
arms_yields k below sound test from a b le is question =
    yields_then _ _ (sound 11 b) (λ x c h. yields_behind _ _ _ (λ d colon. yields_then _ _ (sound 11 d) (λ y to i.
    yields ((le, (a, is, (b, question, (c, h.0, (d, colon, i.0))))), none_at_all k to i.1))))

choice_yields : (k room : ℕ) (below : Below) → Sound below → (test : Expr) (from a : List Token) → Chained k from test a
    → (found : Option (List Token)) → question_at k a ≡ found
    → Yields (choice_turn below room test a found) (λ e to. IsExprOf k e from to × (operator_at k to ≡ None))
choice_yields k room below sound test from a ((j, jk, low, is), none) None at = yields (weaken test j k jk from a is, none)
choice_yields k room below sound test from a ((j, jk, low, is), none) (Some b) at =
    let q = question_is k a b at in
    yields_cond (nat_lt (height test) room) _ (arms_yields k below sound test from a b q.0 (weaken test j 10 low from a is) q.1)

-- ---- all expressions

pub expr_yields : (room : ℕ) → Sound (expr_at room)
unfolding expr_at
expr_yields zero = λ k from. yields_none
expr_yields (suc room) = λ k from.
    yields_then _ _ (chained_yields k (suc room) (expr_at room) (expr_yields room) from) (λ test a h.
    choice_yields k (suc room) (expr_at room) (expr_yields room) test from a h (question_at k a) refl)

pub whole_expr_yields : (room : ℕ) (from : List Token) → Yields (expr_at room 11 from) (λ e to. IsExpr e from to)
whole_expr_yields room from = yields_more (λ e to h. h.0) (expr_yields room 11 from)

pub in_parens_yields : (room : ℕ) (from : List Token) → Yields (in_parens_at room from) (λ e to. InParens e from to)
unfolding in_parens_at
in_parens_yields room from =
    yields_behind _ _ _
    (λ a o. yields_then _ _ (whole_expr_yields room a) (λ e b h. yields_behind _ _ _ (λ to c. yields (a, o, (b, h, c)))))

pub optional_yields : {X : Type 0} {P : X → List Token → List Token → Type 0} (m : Mark) (read : Reader X)
    → ((from : List Token) → Yields (read from) (λ x to. P x from to)) → (from : List Token)
    → Yields (optional_at m read from) (λ x to. (Optional P x ⨾ The m) from to)
unfolding optional_at
optional_yields m read reads from =
    yields_if m from (optional_turn m read from) (λ to h. yields (from, refl, h))
    (λ none. yields_then _ _ (reads from) (λ x a h. yields_behind _ _ _ (λ to c. yields (a, h, c))))
