-- The token in front.
use Rattle.std.proofs.Common.{◌≡◌, ℕ, zero, suc, ◌+◌, ◌<◌, ◌≤◌, Bool, true, false, List, [], ◌∷◌, length, drop, Option, Some, None, refl, ap, arith, add-one, cond}
use Rattle.std.specs.Prelude.{nat_le}
use Rattle.std.proofs.lemmas.Bool.{le-leb, lt-leb}
use Rattle.hx_tree.specs.declared.token.Mark.{Mark}
use Rattle.hx_tree.specs.declared.token.Pos.{Pos}
use Rattle.hx_tree.specs.declared.tree.BinaryOp.{BinaryOp}
use Rattle.hx_tree.specs.Lexis as lexis
use Rattle.hx_tree.specs.Lexis.{NameToken, NumberToken, MarkToken}
use Rattle.hx_tree.specs.Grammar.{layer}
use Rattle.hx_lex.specs.declared.token.Token.{Token}
use Rattle.hx_lex.specs.View.{tokens_of}
use Rattle.hx_grammar.specs.Reading.{same_mark, front, behind, binary_of, within, operator_at}

skip_drop : (ts : List Token) (i : ℕ) → tokens_of (drop (suc i) ts) ≡ drop 1 (tokens_of (drop i ts))
skip_drop [] zero = refl
skip_drop [] (suc i) = refl
skip_drop (t ∷ ts) zero = refl
skip_drop (t ∷ ts) (suc i) = skip_drop ts i

pub view_skip : (ts : List Token) (i : ℕ) → tokens_of (drop (i + 1) ts) ≡ drop 1 (tokens_of (drop i ts))
view_skip ts i = rw add-one (skip_drop ts i)

pub operator_found : (k : ℕ) (rest : List lexis.Token) (m : Mark) (pos : Pos) (o : BinaryOp) → binary_of m ≡ Some o → layer o ≤ k → operator_at k (MarkToken m pos ∷ rest) ≡ Some (o, pos, rest)
unfolding operator_at
operator_found k rest m pos o b le = let t : nat_le (layer o) k ≡ true = le-leb (layer o) k le in rw (b, t) refl

pub operator_above : (k : ℕ) (rest : List lexis.Token) (m : Mark) (pos : Pos) (o : BinaryOp) → binary_of m ≡ Some o → k < layer o → operator_at k (MarkToken m pos ∷ rest) ≡ None
unfolding operator_at
operator_above k rest m pos o b lt = let t : nat_le (layer o) k ≡ false = lt-leb (layer o) k lt in rw (b, t) refl

pub operator_none : (k : ℕ) (rest : List lexis.Token) (m : Mark) (pos : Pos) → binary_of m ≡ None → operator_at k (MarkToken m pos ∷ rest) ≡ None
unfolding operator_at
operator_none k rest m pos b = rw b refl

pub front_some : (tokens : List lexis.Token) (m : Mark) → front tokens ≡ Some m → 0 < length tokens
front_some [] m e = absurd cc
front_some (t ∷ tokens) m e = omega arith

pub behind_same : (m k : Mark) (tokens : List lexis.Token) → front tokens ≡ Some k → same_mark k m ≡ true → behind m tokens ≡ Some (drop 1 tokens)
unfolding behind
behind_same m k [] e h = absurd cc
behind_same m k (NameToken x ∷ rest) e h = absurd cc
behind_same m k (NumberToken n p ∷ rest) e h = absurd cc
behind_same m k (MarkToken j p ∷ rest) e h = let je : j ≡ k = cc in rw (je, h) refl

pub behind_other : (m k : Mark) (tokens : List lexis.Token) → front tokens ≡ Some k → same_mark k m ≡ false → behind m tokens ≡ None
unfolding behind
behind_other m k [] e h = absurd cc
behind_other m k (NameToken x ∷ rest) e h = absurd cc
behind_other m k (NumberToken n p ∷ rest) e h = absurd cc
behind_other m k (MarkToken j p ∷ rest) e h = let je : j ≡ k = cc in rw (je, h) refl

pub behind_none : (m : Mark) (tokens : List lexis.Token) → front tokens ≡ None → behind m tokens ≡ None
unfolding behind
behind_none m [] e = refl
behind_none m (NameToken x ∷ rest) e = refl
behind_none m (NumberToken n p ∷ rest) e = refl
behind_none m (MarkToken j p ∷ rest) e = absurd cc

pub behind_shorter : (m : Mark) (tokens rest : List lexis.Token) → behind m tokens ≡ Some rest → length rest < length tokens
unfolding behind
behind_shorter m [] rest e = absurd cc
behind_shorter m (NameToken x ∷ tokens) rest e = absurd cc
behind_shorter m (NumberToken n p ∷ tokens) rest e = absurd cc
behind_shorter m (MarkToken j p ∷ tokens) rest e = shorter (same_mark j m) e
  where
    shorter : (b : Bool) → cond b (Some tokens) None ≡ Some rest → length rest < suc (length tokens)
    shorter true h = let is : tokens ≡ rest = cc in omega (arith, ap length is)
    shorter false h = absurd cc

pub operator_shorter : (k : ℕ) (tokens rest : List lexis.Token) (o : BinaryOp) (p : Pos) → operator_at k tokens ≡ Some (o, p, rest) → length rest < length tokens
unfolding operator_at
operator_shorter k [] rest o p e = absurd cc
operator_shorter k (NameToken x ∷ tokens) rest o p e = absurd cc
operator_shorter k (NumberToken n q ∷ tokens) rest o p e = absurd cc
operator_shorter k (MarkToken j q ∷ tokens) rest o p e = found (binary_of j) e
  where
    Found : Type 0
    Found = BinaryOp × Pos × List lexis.Token

    behind_it : Option Found → List lexis.Token
    behind_it None = []
    behind_it (Some f) = f.2

    taken : (b : Bool) (d : BinaryOp) → cond {A = Option Found} b (Some (d, q, tokens)) None ≡ Some (o, p, rest) → length rest < suc (length tokens)
    taken true d h = let is : tokens ≡ rest = ap behind_it h in omega (arith, ap length is)
    taken false d h = absurd cc

    found : (d : Option BinaryOp) → within k q tokens d ≡ Some (o, p, rest) → length rest < suc (length tokens)
    found None h = absurd cc
    found (Some d) h = taken (nat_le (layer d) k) d h
