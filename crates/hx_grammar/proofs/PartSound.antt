-- Declarations, assignments and the clauses of a `for` that are read are spelled so.
use Rattle.std.proofs.Common.{◌≡◌, ℕ, zero, suc, List, [], ◌∷◌, Option, Some, None, refl}
use Rattle.hx_tree.specs.declared.token.Pos.{Pos}
use Rattle.hx_tree.specs.declared.token.Mark.{Mark}
use Rattle.hx_tree.specs.declared.token.Mark.TheVariants as mark
use Rattle.hx_tree.specs.declared.tree.Operator.{Operator}
use Rattle.hx_tree.specs.declared.tree.Operator.TheVariants as op
use Rattle.hx_tree.specs.Tree.{Name, Place, Assignment}
use Rattle.hx_tree.specs.Lexis.{Token, NameToken, NumberToken, MarkToken}
use Rattle.hx_tree.specs.Grammar.{The, Listed, IsExpr, IsLocal, IsPlace, IsAssignment, IsInit, AreForClauses, Updating, ◌⨾◌}
use Rattle.hx_grammar.specs.Reading.{behind, expr_at, local_turn, local_at, locals_at, place_turn, place_at, updating_of, update_turn, update_at, updated_at, assigned_at, assignment_at, init_turn, init_at, for_clauses_at}
use Rattle.hx_grammar.proofs.Readings.{Yields, yields, yields_none, yields_then, yields_behind, yields_if, yields_more, yields_name}
use Rattle.hx_grammar.proofs.Lists.{listed_yields}
use Rattle.hx_grammar.proofs.ExprSound.{whole_expr_yields, optional_yields}

-- ---- declarations

local_yields : (room : ℕ) (from : List Token) → Yields (local_at room from) (λ d to. IsLocal d from to)
unfolding local_at
local_yields room from =
    yields_then _ _ (yields_name from) (λ x a h. yields_if mark.Assign a (local_turn room x a)
    (λ b i. yields_then _ _ (whole_expr_yields room b) (λ e to j. yields (a, h, (b, i, j))))
    (λ none. yields (a, h, refl)))

pub locals_yields : (room : ℕ) (from : List Token) → Yields (locals_at room from) (λ ds to. Listed IsLocal ds from to)
unfolding locals_at
locals_yields zero from = yields_none
locals_yields (suc room) from = yields_more (λ ds to h. h.0) (listed_yields {P = IsLocal} (local_at room) (local_yields room) from)

-- ---- assignments

place_yields : (room : ℕ) (x : Name) (from : List Token) → Yields (place_at room x from) (λ p to. IsPlace p (NameToken x ∷ from) to)
unfolding place_at
place_yields room x from =
    yields_if mark.OpenBracket from (place_turn room x from)
    (λ a h. yields_then _ _ (whole_expr_yields room a) (λ e b i. yields_behind _ _ _ (λ to c. yields (from, refl, (a, h, (b, i, c))))))
    (λ none. yields refl)

updating_is : (m : Mark) (o : Operator) (pos : Pos) (from : List Token) → updating_of m ≡ Some o
    → Updating pos o (MarkToken m pos ∷ from) from
updating_is mark.TimesAssign o pos from e = let h : op.Mul ≡ o = cc in rw (← h) refl
updating_is mark.DivideAssign o pos from e = let h : op.Div ≡ o = cc in rw (← h) refl
updating_is mark.RemainderAssign o pos from e = let h : op.Rem ≡ o = cc in rw (← h) refl
updating_is mark.PlusAssign o pos from e = let h : op.Add ≡ o = cc in rw (← h) refl
updating_is mark.MinusAssign o pos from e = let h : op.Sub ≡ o = cc in rw (← h) refl
updating_is mark.ShiftLeftAssign o pos from e = let h : op.ShiftLeft ≡ o = cc in rw (← h) refl
updating_is mark.ShiftRightAssign o pos from e = let h : op.ShiftRight ≡ o = cc in rw (← h) refl
updating_is mark.AmpersandAssign o pos from e = let h : op.BitAnd ≡ o = cc in rw (← h) refl
updating_is mark.CaretAssign o pos from e = let h : op.BitXor ≡ o = cc in rw (← h) refl
updating_is mark.BarAssign o pos from e = let h : op.BitOr ≡ o = cc in rw (← h) refl
updating_is m o pos from e = absurd cc

-- what is done to the place that is spelled before the mark
abbrev Updated : List Token → Place → List Token → Assignment → List Token → Type 0
Updated begin p from a to = IsPlace p begin from → IsAssignment a begin to

update_turn_yields : (room : ℕ) (p : Place) (m : Mark) (pos : Pos) (begin from : List Token) (o : Option Operator) → updating_of m ≡ o
    → Yields (update_turn room p pos from o) (Updated begin p (MarkToken m pos ∷ from))
update_turn_yields room p m pos begin from None e = yields_none
update_turn_yields room p m pos begin from (Some o) e =
    yields_then _ _ (whole_expr_yields room from)
    (λ v to h. yields (λ place. (MarkToken m pos ∷ from, place, (from, updating_is m o pos from e, h))))

update_yields : (room : ℕ) (p : Place) (m : Mark) (pos : Pos) (begin from : List Token)
    → Yields (update_at room p m pos from) (Updated begin p (MarkToken m pos ∷ from))
unfolding update_at
update_yields room p mark.Assign pos begin from =
    yields_then _ _ (whole_expr_yields room from)
    (λ v to h. yields (λ place. (MarkToken mark.Assign pos ∷ from, place, (from, (pos, refl), h))))
update_yields room p mark.Increment pos begin from = yields (λ place. (MarkToken mark.Increment pos ∷ from, place, (pos, refl)))
update_yields room p mark.Decrement pos begin from = yields (λ place. (MarkToken mark.Decrement pos ∷ from, place, (pos, refl)))
update_yields room p m pos begin from = update_turn_yields room p m pos begin from (updating_of m) refl

updated_yields : (room : ℕ) (p : Place) (begin from : List Token) → Yields (updated_at room p from) (Updated begin p from)
unfolding updated_at
updated_yields room p begin [] = yields_none
updated_yields room p begin (NameToken x ∷ rest) = yields_none
updated_yields room p begin (NumberToken n pos ∷ rest) = yields_none
updated_yields room p begin (MarkToken m pos ∷ rest) = update_yields room p m pos begin rest

pub assigned_yields : (room : ℕ) (x : Name) (from : List Token)
    → Yields (assigned_at room x from) (λ a to. IsAssignment a (NameToken x ∷ from) to)
unfolding assigned_at
assigned_yields zero x from = yields_none
assigned_yields (suc room) x from =
    yields_then _ _ (place_yields room x from) (λ p a h. yields_more (λ u to f. f h) (updated_yields room p (NameToken x ∷ from) a))

pub assignment_yields : (room : ℕ) (from : List Token) → Yields (assignment_at room from) (λ a to. IsAssignment a from to)
unfolding assignment_at
assignment_yields room from =
    yields_then _ _ (yields_name from) (λ x a h. yields_more (λ u to f. rw h f) (assigned_yields room x a))

-- ---- the clauses of a `for`

init_yields : (room : ℕ) (from : List Token) → Yields (init_at room from) (λ i to. (IsInit i ⨾ The mark.Semicolon) from to)
unfolding init_at
init_yields room from =
    yields_if mark.Semicolon from (λ o. init_turn room from o (behind mark.Int from)) (λ to h. yields (from, refl, h))
    (λ none. yields_if mark.Int from (init_turn room from None)
    (λ a h. yields_then _ _ (locals_yields room a) (λ ds b i. yields_behind _ _ _ (λ to c. yields (b, (a, h, i), c))))
    (λ none. yields_then _ _ (assignment_yields room from) (λ u b i. yields_behind _ _ _ (λ to c. yields (b, i, c)))))

pub for_clauses_yields : (room : ℕ) (from : List Token) → Yields (for_clauses_at room from) (λ h to. AreForClauses h from to)
unfolding for_clauses_at
for_clauses_yields room from =
    yields_behind _ _ _ (λ a o. yields_then _ _ (init_yields room a) (λ i b h.
    yields_then _ _ (optional_yields {P = IsExpr} mark.Semicolon (expr_at room 11) (whole_expr_yields room) b) (λ e c t.
    yields_then _ _ (optional_yields {P = IsAssignment} mark.CloseParen (assignment_at room) (assignment_yields room) c) (λ s to u.
    yields (a, o, (h.0, h.1, (b, h.2, (t.0, t.1, (c, t.2, u)))))))))
