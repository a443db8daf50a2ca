-- What a reading yields, and what it answers for a tree that the tokens spell; step by step.
use Rattle.std.proofs.Common.{◌≡◌, ℕ, suc, ◌<◌, ◌≤◌, max, Bool, true, false, cond, List, [], ◌∷◌, length, Option, Some, None, Result, Ok, Err, ◌⊎◌, inl, inr, refl, sym, ap, subst, arith, rules}
use denote.Enum.Bare.{same_true}
use Rattle.hx_tree.specs.contracts.token.Mark.{the_type}
use Rattle.hx_tree.specs.declared.token.Mark.{Mark}
use Rattle.hx_tree.specs.declared.token.Mark.TheVariants as mark
use Rattle.hx_tree.specs.Tree.{Name}
use Rattle.hx_tree.specs.Lexis.{Token, NameToken, NumberToken, MarkToken}
use Rattle.hx_tree.specs.Grammar.{The, Named, Numeral}
use Rattle.hx_grammar.specs.Reading.{Refusal, TooDeep, ◌>>=◌, Reading, same_mark, behind, or_syntax, expect, name_at, number_at, binary_of, operator_at}

-- ---- marks

pub cond_some : {X : Type 0} (b : Bool) (x y : X) → cond b (Some x) None ≡ Some y → (b ≡ true) × (x ≡ y)
cond_some true x y e = (refl, cc)
cond_some false x y e = absurd cc

pub behind_is : (m : Mark) (from to : List Token) → behind m from ≡ Some to → The m from to
unfolding behind
behind_is m [] to e = absurd cc
behind_is m (NameToken x ∷ rest) to e = absurd cc
behind_is m (NumberToken n pos ∷ rest) to e = absurd cc
behind_is m (MarkToken k pos ∷ rest) to e =
    let h = cond_some (same_mark k m) rest to e in
    let km : k ≡ m = same_true the_type (search rules) k m h.0 in
    (pos, rw (km, h.1) refl)

pub behind_here : (m : Mark) (from to : List Token) → same_mark m m ≡ true → The m from to → behind m from ≡ Some to
unfolding behind
behind_here m from to same h = rw (h.1, same) refl

-- another mark, a name or a number is in front
pub behind_other : (m k : Mark) (from to : List Token) → same_mark k m ≡ false → The k from to → behind m from ≡ None
unfolding behind
behind_other m k from to other h = rw (h.1, other) refl

pub behind_name : (m : Mark) (x : Name) (from to : List Token) → Named x from to → behind m from ≡ None
unfolding behind
behind_name m x from to h = rw h refl

pub behind_number : (m : Mark) (n : ℕ) (from to : List Token) → Numeral n from to → behind m from ≡ None
unfolding behind
behind_number m n from to h = rw h.1 refl

pub behind_nothing : (m : Mark) → behind m [] ≡ None
unfolding behind
behind_nothing m = refl

pub the_shorter : (m : Mark) (from to : List Token) → The m from to → length to < length from
the_shorter m from to h = let e : length from ≡ suc (length to) = ap length h.1 in omega arith

pub named_shorter : (x : Name) (from to : List Token) → Named x from to → length to < length from
named_shorter x from to h = let e : length from ≡ suc (length to) = ap length h in omega arith

pub numeral_shorter : (n : ℕ) (from to : List Token) → Numeral n from to → length to < length from
numeral_shorter n from to h = let e : length from ≡ suc (length to) = ap length h.1 in omega arith

-- ---- what a reading yields

-- whatever is read, this is so of it
pub record Yields {X : Type 0} (read : Reading X) (P : X → List Token → Type 0) : Type 0 where
  pub of : (x : X) (to : List Token) → read ≡ Ok (x, to) → P x to

abbrev pub made : {X : Type 0} → X → Result X Refusal
made x = Ok x

pub made_is : {X : Type 0} (x y : X) → made x ≡ made y → x ≡ y
made_is x y e = cc

pub yields : {X : Type 0} {P : X → List Token → Type 0} {x : X} {to : List Token} → P x to → Yields (Ok (x, to)) P
yields {X} {P} {x} {to} h =
    record {
      of = λ y end e. (let a : X × List Token = (x, to) in let b : X × List Token = (y, end) in
          subst (λ (z : X × List Token). P z.0 z.1) (made_is a b e) h);
    }

pub yields_none : {X : Type 0} {P : X → List Token → Type 0} {f : Refusal} → Yields (Err f) P
yields_none = record { of = λ y end e. absurd cc }

pub yields_then : {X Y : Type 0} {P : X → List Token → Type 0} {Q : Y → List Token → Type 0} (read : Reading X) (f : X × List Token → Reading Y)
    → Yields read P → ((x : X) (to : List Token) → P x to → Yields (f (x, to)) Q) → Yields (read >>= f) Q
yields_then (Ok x) f first next = next x.0 x.1 (first.of x.0 x.1 refl)
yields_then (Err d) f first next = yields_none

syntax_ok : {X : Type 0} (o : Option X) (y : X) → or_syntax o ≡ Ok y → o ≡ Some y
syntax_ok None y e = absurd cc
syntax_ok (Some x) y e = cc

pub yields_behind : {Y : Type 0} {Q : Y → List Token → Type 0} (m : Mark) (from : List Token) (f : List Token → Reading Y)
    → ((to : List Token) → The m from to → Yields (f to) Q) → Yields (expect m from >>= f) Q
yields_behind {Y} {Q} m from f next = go (behind m from) refl
  where
    go : (o : Option (List Token)) → behind m from ≡ o → Yields (or_syntax o >>= f) Q
    go None e = yields_none
    go (Some to) e = next to (behind_is m from to e)

-- by whether the mark is in front
pub yields_if : {Y : Type 0} {Q : Y → List Token → Type 0} (m : Mark) (from : List Token) (f : Option (List Token) → Reading Y)
    → ((to : List Token) → The m from to → Yields (f (Some to)) Q) → (behind m from ≡ None → Yields (f None) Q)
    → Yields (f (behind m from)) Q
yields_if {Y} {Q} m from f there absent = go (behind m from) refl
  where
    go : (o : Option (List Token)) → behind m from ≡ o → Yields (f o) Q
    go None e = absent e
    go (Some to) e = there to (behind_is m from to e)

pub yields_more : {X : Type 0} {P Q : X → List Token → Type 0} {read : Reading X} → ((x : X) (to : List Token) → P x to → Q x to)
    → Yields read P → Yields read Q
yields_more f h = record { of = λ x to e. f x to (h.of x to e) }

pub yields_name : (from : List Token) → Yields (name_at from) (λ x to. Named x from to)
yields_name [] = yields_none
yields_name (NameToken x ∷ rest) = yields refl
yields_name (NumberToken n pos ∷ rest) = yields_none
yields_name (MarkToken m pos ∷ rest) = yields_none

pub yields_number : (from : List Token) → Yields (number_at from) (λ n to. Numeral n from to)
yields_number [] = yields_none
yields_number (NameToken x ∷ rest) = yields_none
yields_number (NumberToken n pos ∷ rest) = yields (pos, refl)
yields_number (MarkToken m pos ∷ rest) = yields_none

-- ---- what a reading answers

-- x, if its height fits the room, and else that it's too deep
pub record Answers {X : Type 0} (room height : ℕ) (read : Reading X) (x : X) (to : List Token) : Type 0 where
  pub or_deep : ((height ≤ room) × (read ≡ Ok (x, to))) ⊎ ((room < height) × (read ≡ Err TooDeep))

pub answer : {X : Type 0} {room : ℕ} {x : X} {to : List Token} → Answers room 0 (Ok (x, to)) x to
answer {X} {room} = record { or_deep = inl (omega arith, refl) }

-- a list that nothing is read of
pub answer_at : {X : Type 0} {room : ℕ} {x : X} {from to : List Token} → from ≡ to → Answers room 0 (Ok (x, from)) x to
answer_at {X} {room} {x} {from} {to} e = record { or_deep = inl (omega arith, ap (λ (s : List Token). made {X = X × List Token} (x, s)) e) }

pub answer_as : {X : Type 0} {room : ℕ} {x y : X} {to : List Token} → x ≡ y → Answers room 0 (Ok (x, to)) y to
answer_as {X} {room} {x} {y} {to} e = record { or_deep = inl (omega arith, ap (λ (z : X). made {X = X × List Token} (z, to)) e) }

pub answer_then : {X Y : Type 0} {room h k : ℕ} {x : X} {y : Y} {mid to : List Token} (read : Reading X) (f : X × List Token → Reading Y)
    → Answers room h read x mid → Answers room k (f (x, mid)) y to → Answers room (max h k) (read >>= f) y to
answer_then {X} {Y} {room} {h} {k} {x} {y} {mid} {to} read f first next = record { or_deep = go (first.or_deep) (next.or_deep) }
  where
    go : ((h ≤ room) × (read ≡ Ok (x, mid))) ⊎ ((room < h) × (read ≡ Err TooDeep))
        → ((k ≤ room) × (f (x, mid) ≡ Ok (y, to))) ⊎ ((room < k) × (f (x, mid) ≡ Err TooDeep))
        → ((max h k ≤ room) × ((read >>= f) ≡ Ok (y, to))) ⊎ ((room < max h k) × ((read >>= f) ≡ Err TooDeep))
    go (inr (deep, e)) other = inr (omega arith, rw e refl)
    go (inl (fits, e)) (inr (deep, g)) = inr (omega arith, rw e g)
    go (inl (fits, e)) (inl (low, g)) = inl (omega arith, rw e g)

expect_here : (m : Mark) (from to : List Token) → same_mark m m ≡ true → The m from to → expect m from ≡ Ok to
expect_here m from to same h = rw (behind_here m from to same h) refl

pub answer_behind : {Y : Type 0} {room h : ℕ} {y : Y} {mid to : List Token} (m : Mark) (from : List Token) (f : List Token → Reading Y)
    → same_mark m m ≡ true → The m from mid
    → Answers room h (f mid) y to → Answers room h (expect m from >>= f) y to
answer_behind {Y} {room} {h} {y} {mid} {to} m from f same is next =
    subst (λ (r : Result (List Token) Refusal). Answers room h (r >>= f) y to) (sym (expect_here m from mid same is)) next

-- the mark is in front
pub answer_there : {Y : Type 0} {room h : ℕ} {y : Y} {mid to : List Token} (m : Mark) (from : List Token) (f : Option (List Token) → Reading Y)
    → same_mark m m ≡ true → The m from mid
    → Answers room h (f (Some mid)) y to → Answers room h (f (behind m from)) y to
answer_there {Y} {room} {h} {y} {mid} {to} m from f same is next =
    subst (λ (o : Option (List Token)). Answers room h (f o) y to) (sym (behind_here m from mid same is)) next

-- it isn't
pub answer_absent : {Y : Type 0} {room h : ℕ} {y : Y} {to : List Token} (m : Mark) (from : List Token) (f : Option (List Token) → Reading Y)
    → behind m from ≡ None
    → Answers room h (f None) y to → Answers room h (f (behind m from)) y to
answer_absent {Y} {room} {h} {y} {to} m from f is next = subst (λ (o : Option (List Token)). Answers room h (f o) y to) (sym is) next

-- a name is in front
pub answer_name : {Y : Type 0} {room h : ℕ} {y : Y} {mid to : List Token} (x : Name) (from : List Token) (f : Name × List Token → Reading Y)
    → Named x from mid
    → Answers room h (f (x, mid)) y to → Answers room h (name_at from >>= f) y to
answer_name {Y} {room} {h} {y} {mid} {to} x from f is next = subst (λ (s : List Token). Answers room h (name_at s >>= f) y to) (sym is) next

pub answer_one_name : {room : ℕ} {to : List Token} (x : Name) (from : List Token) → Named x from to → Answers room 0 (name_at from) x to
answer_one_name {room} {to} x from is = subst (λ (s : List Token). Answers room 0 (name_at s) x to) (sym is) answer

pub answer_number : {Y : Type 0} {room h : ℕ} {y : Y} {mid to : List Token} (n : ℕ) (from : List Token) (f : ℕ × List Token → Reading Y)
    → Numeral n from mid
    → Answers room h (f (n, mid)) y to → Answers room h (number_at from >>= f) y to
answer_number {Y} {room} {h} {y} {mid} {to} n from f is next =
    subst (λ (s : List Token). Answers room h (number_at s >>= f) y to) (sym is.1) next

-- the same at an equal height
pub at_height : {X : Type 0} {room h : ℕ} {read : Reading X} {x : X} {to : List Token} → Answers room h read x to → (k : ℕ) → h ≡ k
    → Answers room k read x to
at_height {X} {room} {h} {read} {x} {to} a k e = subst (λ (i : ℕ). Answers room i read x to) e a

-- a node above it
pub node : {X : Type 0} {room h : ℕ} {read : Reading X} {x : X} {to : List Token} → Answers room h read x to → (k : ℕ) → suc h ≡ k
    → Answers (suc room) k read x to
node {X} {room} {h} {read} {x} {to} a k e = record { or_deep = go (a.or_deep) }
  where
    go : ((h ≤ room) × (read ≡ Ok (x, to))) ⊎ ((room < h) × (read ≡ Err TooDeep))
        → ((k ≤ suc room) × (read ≡ Ok (x, to))) ⊎ ((suc room < k) × (read ≡ Err TooDeep))
    go (inl (fits, r)) = inl (omega arith, r)
    go (inr (deep, r)) = inr (omega arith, r)

-- ---- what follows a phrase

-- the tokens go on with none of what an expression, a local or a global could go on with
pub record Ended (to : List Token) : Type 0 where
  pub operators : (k : ℕ) → operator_at k to ≡ None
  pub index : behind mark.OpenBracket to ≡ None
  pub arguments : behind mark.OpenParen to ≡ None
  pub initialiser : behind mark.Assign to ≡ None
  pub question : behind mark.Question to ≡ None

-- a mark that does so
abbrev pub Ends : Mark → Type 0
Ends m =
    (binary_of m ≡ None) × (same_mark m mark.OpenBracket ≡ false) × (same_mark m mark.OpenParen ≡ false) × (same_mark m mark.Assign ≡ false) ×
    (same_mark m mark.Question ≡ false)

pub ended : (m : Mark) (from to : List Token) → Ends m → The m from to → Ended from
unfolding operator_at
ended m from to ends h = record {
  operators = λ k. rw (h.1, ends.0) refl;
  index = behind_other mark.OpenBracket m from to ends.1 h;
  arguments = behind_other mark.OpenParen m from to ends.2 h;
  initialiser = behind_other mark.Assign m from to ends.3 h;
  question = behind_other mark.Question m from to ends.4 h;
}
