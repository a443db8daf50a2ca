-- Statements and what they are made of, one step of reading at a time.
use Rattle.std.proofs.Common.{◌≡◌, ℕ, zero, suc, ◌-◌, ◌<◌, List, Some, None, Ok, Err, refl, ap, arith}
use Rattle.hx_tree.specs.declared.token.Pos.{Pos}
use Rattle.hx_tree.specs.declared.token.Mark.{Mark}
use Rattle.hx_tree.specs.declared.token.Mark.TheVariants as mark
use Rattle.hx_tree.specs.declared.tree.Operator.{Operator}
use Rattle.hx_tree.specs.Lexis.{Token}
use Rattle.hx_tree.specs.Tree.{Name, Place, Set, Increment, Decrement}
use Rattle.hx_grammar.specs.Reading as reading
use Rattle.hx_grammar.specs.Reading.{◌>>=◌, expr_at, listed, local_at, locals_at, place_at, update_turn, update_at, updated_at, updating_of, assigned_at, stmt_with, stmt_at}

pub locals_zero : (tokens : List Token) → locals_at 0 tokens ≡ Err reading.TooDeep
unfolding locals_at
locals_zero tokens = refl

pub locals_is : (room : ℕ) (tokens : List Token) → 0 < room → locals_at room tokens ≡ listed (local_at (room - 1)) tokens
unfolding locals_at
locals_is zero tokens pos = absurd (omega arith)
locals_is (suc n) tokens pos = let e : suc n - 1 ≡ n = omega arith in rw e refl

pub assigned_zero : (x : Name) (tokens : List Token) → assigned_at 0 x tokens ≡ Err reading.TooDeep
unfolding assigned_at
assigned_zero x tokens = refl

pub assigned_is : (room : ℕ) (x : Name) (tokens : List Token) → 0 < room → assigned_at room x tokens ≡ (place_at (room - 1) x tokens >>= λ p. updated_at (room - 1) p.0 p.1)
unfolding assigned_at
assigned_is zero x tokens pos = absurd (omega arith)
assigned_is (suc n) x tokens pos = let e : suc n - 1 ≡ n = omega arith in rw e refl

pub stmt_zero : (tokens : List Token) → stmt_at 0 tokens ≡ Err reading.TooDeep
unfolding stmt_at
stmt_zero tokens = refl

pub stmt_is : (room : ℕ) (tokens : List Token) → 0 < room → stmt_at room tokens ≡ stmt_with (room - 1) (stmt_at (room - 1)) tokens
unfolding stmt_at
stmt_is zero tokens pos = absurd (omega arith)
stmt_is (suc n) tokens pos = let e : suc n - 1 ≡ n = omega arith in rw e refl

pub update_set : (room : ℕ) (p : Place) (pos : Pos) (tokens : List Token) → update_at room p mark.Assign pos tokens ≡ (expr_at room 11 tokens >>= λ e. Ok (Set p e.0, e.1))
unfolding update_at
update_set room p pos tokens = refl

pub update_increment : (room : ℕ) (p : Place) (pos : Pos) (tokens : List Token) → update_at room p mark.Increment pos tokens ≡ Ok (Increment p, tokens)
unfolding update_at
update_increment room p pos tokens = refl

pub update_decrement : (room : ℕ) (p : Place) (pos : Pos) (tokens : List Token) → update_at room p mark.Decrement pos tokens ≡ Ok (Decrement p, tokens)
unfolding update_at
update_decrement room p pos tokens = refl

pub update_none : (room : ℕ) (p : Place) (m : Mark) (pos : Pos) (tokens : List Token) → updating_of m ≡ None → (m ≡ mark.Assign → ⊥) → (m ≡ mark.Increment → ⊥) → (m ≡ mark.Decrement → ⊥)
    → update_at room p m pos tokens ≡ Err reading.Syntax
unfolding update_at
update_none room p mark.Assign pos tokens h a i d = absurd (a refl)
update_none room p mark.Increment pos tokens h a i d = absurd (i refl)
update_none room p mark.Decrement pos tokens h a i d = absurd (d refl)
update_none room p m pos tokens h a i d = ap (λ u. update_turn room p pos tokens u) h

pub update_other : (room : ℕ) (p : Place) (m : Mark) (pos : Pos) (tokens : List Token) (o : Operator) → updating_of m ≡ Some o → update_at room p m pos tokens ≡ update_turn room p pos tokens (Some o)
unfolding update_at
update_other room p mark.Assign pos tokens o h = absurd cc
update_other room p mark.Increment pos tokens o h = absurd cc
update_other room p mark.Decrement pos tokens o h = absurd cc
update_other room p m pos tokens o h = ap (λ u. update_turn room p pos tokens u) h
