-- The operator in front.
use Rattle.std.proofs.Common.{◌≡◌, ℕ, ◌<◌, ◌≤◌, Bool, true, false, cond, List, [], ◌∷◌, Option, Some, None, refl, sym, ap, subst, ◌∙◌, arith}
use Rattle.std.proofs.lemmas.Bool.{leb-true, leb-false, le-leb}
use Rattle.std.specs.Prelude.{nat_le}
use Rattle.hx_tree.specs.declared.token.Pos.{Pos}
use Rattle.hx_tree.specs.declared.token.Mark.{Mark}
use Rattle.hx_tree.specs.declared.token.Mark.TheVariants as mark
use Rattle.hx_tree.specs.declared.tree.BinaryOp.{BinaryOp}
use Rattle.hx_tree.specs.declared.tree.BinaryOp.TheVariants.{Strict, And, Or}
use Rattle.hx_tree.specs.declared.tree.Operator.TheVariants as op
use Rattle.hx_tree.specs.Lexis.{Token, NameToken, NumberToken, MarkToken}
use Rattle.hx_tree.specs.Grammar.{layer, binary_mark}
use Rattle.hx_grammar.specs.Reading.{binary_of, within, operator_at}
use Rattle.hx_grammar.proofs.Readings.{cond_some}

-- ---- an operator and its mark

pub mark_is : (m : Mark) (o : BinaryOp) → binary_of m ≡ Some o → m ≡ binary_mark o
mark_is mark.Times o e = let h : Strict op.Mul ≡ o = cc in rw (← h) refl
mark_is mark.Divide o e = let h : Strict op.Div ≡ o = cc in rw (← h) refl
mark_is mark.Remainder o e = let h : Strict op.Rem ≡ o = cc in rw (← h) refl
mark_is mark.Plus o e = let h : Strict op.Add ≡ o = cc in rw (← h) refl
mark_is mark.Minus o e = let h : Strict op.Sub ≡ o = cc in rw (← h) refl
mark_is mark.ShiftLeft o e = let h : Strict op.ShiftLeft ≡ o = cc in rw (← h) refl
mark_is mark.ShiftRight o e = let h : Strict op.ShiftRight ≡ o = cc in rw (← h) refl
mark_is mark.Less o e = let h : Strict op.Less ≡ o = cc in rw (← h) refl
mark_is mark.LessEqual o e = let h : Strict op.LessEqual ≡ o = cc in rw (← h) refl
mark_is mark.Greater o e = let h : Strict op.Greater ≡ o = cc in rw (← h) refl
mark_is mark.GreaterEqual o e = let h : Strict op.GreaterEqual ≡ o = cc in rw (← h) refl
mark_is mark.Equal o e = let h : Strict op.Equal ≡ o = cc in rw (← h) refl
mark_is mark.NotEqual o e = let h : Strict op.NotEqual ≡ o = cc in rw (← h) refl
mark_is mark.Ampersand o e = let h : Strict op.BitAnd ≡ o = cc in rw (← h) refl
mark_is mark.Caret o e = let h : Strict op.BitXor ≡ o = cc in rw (← h) refl
mark_is mark.Bar o e = let h : Strict op.BitOr ≡ o = cc in rw (← h) refl
mark_is mark.AndAnd o e = let h : And ≡ o = cc in rw (← h) refl
mark_is mark.BarBar o e = let h : Or ≡ o = cc in rw (← h) refl
mark_is m o e = absurd cc

pub mark_of : (o : BinaryOp) → binary_of (binary_mark o) ≡ Some o
mark_of (Strict op.Mul) = refl
mark_of (Strict op.Div) = refl
mark_of (Strict op.Rem) = refl
mark_of (Strict op.Add) = refl
mark_of (Strict op.Sub) = refl
mark_of (Strict op.ShiftLeft) = refl
mark_of (Strict op.ShiftRight) = refl
mark_of (Strict op.Less) = refl
mark_of (Strict op.LessEqual) = refl
mark_of (Strict op.Greater) = refl
mark_of (Strict op.GreaterEqual) = refl
mark_of (Strict op.Equal) = refl
mark_of (Strict op.NotEqual) = refl
mark_of (Strict op.BitAnd) = refl
mark_of (Strict op.BitXor) = refl
mark_of (Strict op.BitOr) = refl
mark_of And = refl
mark_of Or = refl

pub layer_pos : (o : BinaryOp) → 1 ≤ layer o
layer_pos (Strict op.Mul) = omega arith
layer_pos (Strict op.Div) = omega arith
layer_pos (Strict op.Rem) = omega arith
layer_pos (Strict op.Add) = omega arith
layer_pos (Strict op.Sub) = omega arith
layer_pos (Strict op.ShiftLeft) = omega arith
layer_pos (Strict op.ShiftRight) = omega arith
layer_pos (Strict op.Less) = omega arith
layer_pos (Strict op.LessEqual) = omega arith
layer_pos (Strict op.Greater) = omega arith
layer_pos (Strict op.GreaterEqual) = omega arith
layer_pos (Strict op.Equal) = omega arith
layer_pos (Strict op.NotEqual) = omega arith
layer_pos (Strict op.BitAnd) = omega arith
layer_pos (Strict op.BitXor) = omega arith
layer_pos (Strict op.BitOr) = omega arith
layer_pos And = omega arith
layer_pos Or = omega arith

pub layer_low : (o : BinaryOp) → layer o ≤ 10
layer_low (Strict op.Mul) = omega arith
layer_low (Strict op.Div) = omega arith
layer_low (Strict op.Rem) = omega arith
layer_low (Strict op.Add) = omega arith
layer_low (Strict op.Sub) = omega arith
layer_low (Strict op.ShiftLeft) = omega arith
layer_low (Strict op.ShiftRight) = omega arith
layer_low (Strict op.Less) = omega arith
layer_low (Strict op.LessEqual) = omega arith
layer_low (Strict op.Greater) = omega arith
layer_low (Strict op.GreaterEqual) = omega arith
layer_low (Strict op.Equal) = omega arith
layer_low (Strict op.NotEqual) = omega arith
layer_low (Strict op.BitAnd) = omega arith
layer_low (Strict op.BitXor) = omega arith
layer_low (Strict op.BitOr) = omega arith
layer_low And = omega arith
layer_low Or = omega arith

-- ---- the operator in front

within_is : (k : ℕ) (p q : Pos) (r rest : List Token) (found : Option BinaryOp) (o : BinaryOp) → within k p r found ≡ Some (o, q, rest)
    → (found ≡ Some o) × (layer o ≤ k) × (p ≡ q) × (r ≡ rest)
within_is k p q r rest None o e = absurd cc
within_is k p q r rest (Some u) o e =
    let h = cond_some (nat_le (layer u) k) (u, p, r) (o, q, rest) e in
    let uo : u ≡ o = ap (λ (x : BinaryOp × Pos × List Token). x.0) h.1 in
    let pq : p ≡ q = ap (λ (x : BinaryOp × Pos × List Token). x.1) h.1 in
    let rr : r ≡ rest = ap (λ (x : BinaryOp × Pos × List Token). x.2) h.1 in
    (ap (λ (x : BinaryOp). Some x) uo, subst (λ (x : BinaryOp). layer x ≤ k) uo (leb-true (layer u) k h.0), pq, rr)

pub operator_is : (k : ℕ) (from rest : List Token) (o : BinaryOp) (p : Pos) → operator_at k from ≡ Some (o, p, rest)
    → (layer o ≤ k) × (from ≡ MarkToken (binary_mark o) p ∷ rest)
unfolding operator_at
operator_is k [] rest o p e = absurd cc
operator_is k (NameToken x ∷ r) rest o p e = absurd cc
operator_is k (NumberToken n q ∷ r) rest o p e = absurd cc
operator_is k (MarkToken m q ∷ r) rest o p e =
    let h = within_is k q p r rest (binary_of m) o e in
    let mo : m ≡ binary_mark o = mark_is m o h.0 in
    (h.1, rw (mo, h.2, h.3) refl)

-- an operator that isn't within j is above it
within_above : (j k : ℕ) (p q : Pos) (r rest : List Token) (found : Option BinaryOp) (o : BinaryOp) → within j p r found ≡ None
    → within k p r found ≡ Some (o, q, rest) → j < layer o
within_above j k p q r rest None o n e = absurd cc
within_above j k p q r rest (Some u) o n e =
    let h = within_is k p q r rest (Some u) o e in
    let uo : u ≡ o = cc (h.0) in
    subst (λ (x : BinaryOp). j < layer x) uo (above (nat_le (layer u) j) refl n)
  where
    above : (b : Bool) → nat_le (layer u) j ≡ b → cond {A = Option (BinaryOp × Pos × List Token)} b (Some (u, p, r)) None ≡ None
        → j < layer u
    above true t e = absurd cc
    above false t e = leb-false (layer u) j t

pub operator_above : (j k : ℕ) (from rest : List Token) (o : BinaryOp) (p : Pos) → operator_at j from ≡ None
    → operator_at k from ≡ Some (o, p, rest) → j < layer o
unfolding operator_at
operator_above j k [] rest o p n e = absurd cc
operator_above j k (NameToken x ∷ r) rest o p n e = absurd cc
operator_above j k (NumberToken i q ∷ r) rest o p n e = absurd cc
operator_above j k (MarkToken m q ∷ r) rest o p n e = within_above j k q p r rest (binary_of m) o n e

pub operator_here : (k : ℕ) (o : BinaryOp) (p : Pos) (rest : List Token) → layer o ≤ k
    → operator_at k (MarkToken (binary_mark o) p ∷ rest) ≡ Some (o, p, rest)
unfolding operator_at
operator_here k o p rest le =
    let t : nat_le (layer o) k ≡ true = le-leb (layer o) k le in
    rw (mark_of o, t) refl

-- where no operator of all layers is in front, none is
pub none_at_all : (k : ℕ) (from : List Token) → operator_at 11 from ≡ None → operator_at k from ≡ None
none_at_all k from none = go (operator_at k from) refl
  where
    go : (o : Option (BinaryOp × Pos × List Token)) → operator_at k from ≡ o → operator_at k from ≡ None
    go None e = e
    go (Some (o, p, rest)) e = absurd (let x = operator_above 11 k from rest o p none e in let y = layer_low o in omega arith)

-- ---- operators of a layer at least

-- an operator in front is of layer j at least
abbrev pub Above : ℕ → List Token → Type 0
Above j from = (k : ℕ) (o : BinaryOp) (p : Pos) (rest : List Token) → operator_at k from ≡ Some (o, p, rest) → j ≤ layer o

pub above_operator : (o : BinaryOp) (p : Pos) (rest : List Token) → Above (layer o) (MarkToken (binary_mark o) p ∷ rest)
above_operator o p rest k u q r f =
    let w = operator_is k (MarkToken (binary_mark o) p ∷ rest) r u q f in
    same_layer o u (marks (binary_mark o) (binary_mark u) p q rest r w.1)
  where
    marks : (a b : Mark) (p q : Pos) (s t : List Token) → MarkToken a p ∷ s ≡ MarkToken b q ∷ t → a ≡ b
    marks a b p q s t e = cc

    same_op : (o u : BinaryOp) → binary_mark o ≡ binary_mark u → o ≡ u
    same_op o u e = let x : Some o ≡ Some u = sym (mark_of o) ∙ ap binary_of e ∙ mark_of u in cc

    same_layer : (o u : BinaryOp) → binary_mark o ≡ binary_mark u → layer o ≤ layer u
    same_layer o u e = rw (same_op o u e) (omega arith)

-- where all operators in front are above, none of layer k is read
pub no_operator : (j k : ℕ) (from : List Token) → k < j → Above j from → operator_at k from ≡ None
no_operator j k from lt above = go (operator_at k from) refl
  where
    go : (o : Option (BinaryOp × Pos × List Token)) → operator_at k from ≡ o → operator_at k from ≡ None
    go None e = e
    go (Some (o, p, rest)) e = absurd (let le = above k o p rest e in let w = operator_is k from rest o p e in omega arith)

-- no operator is of layer 11
pub no_operator_above : (k : ℕ) (from : List Token) → Above 11 from → operator_at k from ≡ None
no_operator_above k from above = go (operator_at k from) refl
  where
    go : (o : Option (BinaryOp × Pos × List Token)) → operator_at k from ≡ o → operator_at k from ≡ None
    go None e = e
    go (Some (o, p, rest)) e = absurd (let x = above k o p rest e in let y = layer_low o in omega arith)

-- a mark that is no operator
pub above_mark : (j : ℕ) (m : Mark) (p : Pos) (rest : List Token) → binary_of m ≡ None → Above j (MarkToken m p ∷ rest)
unfolding operator_at
above_mark j m p rest none k o q r f =
    let x : None ≡ Some (o, q, r) = sym (ap (λ (b : Option BinaryOp). within k p rest b) none) ∙ f in absurd cc
