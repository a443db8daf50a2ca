-- Which words turns needed, one event later.
use Rattle.std.proofs.Common.{◌≡◌, ℕ, zero, suc, ◌+◌, ◌-◌, ◌^◌, ◌<◌, ◌≤◌, ◌⊎◌, min, inl, inr, List, ◌∷◌, refl, sym, ap, subst, ◌∙◌, arith}
use Rattle.hx_speculation.proofs.Stores.{same_or_not}
use Rattle.hx_advise.specs.declared.watch.Need.{Need}
use Rattle.hx_advise.specs.Events.{Event, Read, Write, TurnEnd, turn_of, HasWritten, Wrote, Needs, NeedsOne, HowMany, IsIndependent}
use Rattle.hx_advise.specs.Watch.{IsWriter, AnyWord, OneAsNear, IsNeed, KeepsNeed, IsAgain}
use Rattle.hx_advise.proofs.Events.{IsOwn, own, exposed_before, has_wrote}

-- ---- how many

pub many_at_most : (Q : ℕ → Type 0) (n k : ℕ) → HowMany Q n k → k ≤ n
many_at_most Q zero k h = omega (arith, h)
many_at_most Q (suc n) k (inl h) = let le : h.1 ≤ n = many_at_most Q n h.1 h.3 in let e = h.2 in omega (arith, le, e)
many_at_most Q (suc n) k (inr h) = let le : k ≤ n = many_at_most Q n k h.1 in omega (arith, le)

pub many_none : (Q : ℕ → Type 0) (n k j : ℕ) → HowMany Q n k → k ≡ 0 → j < n → Q j → ⊥
many_none Q zero k j h e lt q = omega (arith, lt)
many_none Q (suc n) k j (inl h) e lt q = let f = h.2 in omega (arith, e, f)
many_none Q (suc n) k j (inr h) e lt q =
    elim (same_or_not j n) [
      | inl same ↦ h.0 (subst Q same q)
      | inr other ↦ many_none Q n k j h.1 e (omega (arith, lt, other)) q
    ]

pub many_as : (Q R : ℕ → Type 0) (n k : ℕ) → ((j : ℕ) → j < n → Q j → R j) → ((j : ℕ) → j < n → R j → Q j) → HowMany Q n k → HowMany R n k
many_as Q R zero k f g h = h
many_as Q R (suc n) k f g (inl h) = inl (f n (omega arith) h.0, h.1, h.2, many_as Q R n h.1 (λ j lt. f j (omega (arith, lt))) (λ j lt. g j (omega (arith, lt))) h.3)
many_as Q R (suc n) k f g (inr h) = inr (λ r. h.0 (g n (omega arith) r), many_as Q R n k (λ j lt. f j (omega (arith, lt))) (λ j lt. g j (omega (arith, lt))) h.1)

-- the last of them hasn't the property, and then it has
many_last : (Q : ℕ → Type 0) (n k : ℕ) → (Q n → ⊥) → HowMany Q (suc n) k → HowMany Q n k
many_last Q n k never (inl h) = absurd (never h.0)
many_last Q n k never (inr h) = h.1

pub many_more : (Q R : ℕ → Type 0) (n k : ℕ) → ((j : ℕ) → j < n → Q j → R j) → ((j : ℕ) → j < n → R j → Q j) → (Q n → ⊥) → R n → HowMany Q (suc n) k → HowMany R (suc n) (k + 1)
many_more Q R n k f g never here h = inl (here, k, omega arith, many_as Q R n k f g (many_last Q n k never h))

pub many_same : (Q : ℕ → Type 0) (n k l : ℕ) → HowMany Q n k → HowMany Q n l → k ≡ l
many_same Q zero k l h g = h ∙ sym g
many_same Q (suc n) k l (inl h) (inl g) = h.2 ∙ ap suc (many_same Q n h.1 g.1 h.3 g.3) ∙ sym g.2
many_same Q (suc n) k l (inl h) (inr g) = absurd (g.0 h.0)
many_same Q (suc n) k l (inr h) (inl g) = absurd (h.0 g.0)
many_same Q (suc n) k l (inr h) (inr g) = many_same Q n k l h.1 g.1

many_some : (Q : ℕ → Type 0) (n k : ℕ) → 0 < k → HowMany Q n k → (j : ℕ) × Q j
many_some Q zero k some h = absurd (omega (arith, some, h))
many_some Q (suc n) k some (inl h) = (n, h.0)
many_some Q (suc n) k some (inr h) = many_some Q n k some h.1

-- ---- the one need

pub single_need : (es : List Event) (P : ℕ → Type 0) (n m : Need) → IsNeed es P n → IsNeed es P m → (n.turns ≡ m.turns) × (n.distance ≡ m.distance)
single_need es P n m h g =
    let turns : n.turns ≡ m.turns = many_same (NeedsOne es P) (suc (turn_of es)) n.turns m.turns h.turns g.turns in
    elim (same_or_not n.turns 0) [
      | inl e ↦ (turns, h.none e ∙ sym (g.none (sym turns ∙ e)))
      | inr o ↦
          let x = h.nearest (omega (arith, o)) in
          let y = g.nearest (omega (arith, o, turns)) in
          let there : x.0 + m.distance ≤ x.1 = g.least x.0 x.1 x.2 x.3 x.4 in
          let back : y.0 + n.distance ≤ y.1 = h.least y.0 y.1 y.2 y.3 y.4 in
          let first : x.1 ≡ x.0 + n.distance = x.5 in
          let second : y.1 ≡ y.0 + m.distance = y.5 in
          (turns, omega (arith, there, back, first, second))
    ]

pub need_verdict : (es : List Event) (n : Need) → IsNeed es AnyWord n → (n.turns ≡ 0 → IsIndependent es) × (IsIndependent es → n.turns ≡ 0)
need_verdict es n h = (
  λ e i j a lt w x. let le : j ≤ turn_of es = exposed_before es j a x in many_none (NeedsOne es AnyWord) (suc (turn_of es)) n.turns j h.turns e (omega (arith, le)) (i, a, tt, (lt, w, x)),
  λ f. elim (same_or_not n.turns 0) [
    | inl e ↦ e
    | inr o ↦ let x = many_some (NeedsOne es AnyWord) (suc (turn_of es)) n.turns (omega (arith, o)) h.turns in absurd (f x.1.0 x.0 x.1.1 x.1.3.0 x.1.3.1 x.1.3.2)
  ],
)

-- ---- one event later

pub needs_before : (es : List Event) (i j a : ℕ) → Needs es i j a → j ≤ turn_of es
needs_before es i j a h = exposed_before es j a h.2

pub one_before : (es : List Event) (P : ℕ → Type 0) (j : ℕ) → NeedsOne es P j → j ≤ turn_of es
one_before es P j h = needs_before es h.0 j h.1 h.3

pub old_read : (es : List Event) (b i j a : ℕ) → Needs es i j a → Needs (Read b ∷ es) i j a
old_read es b i j a h = (h.0, h.1, inr h.2)

pub old_write : (es : List Event) (b i j a : ℕ) → Needs es i j a → Needs (Write b ∷ es) i j a
old_write es b i j a h = (h.0, inr h.1, h.2)

-- a read that needs no earlier turn
pub own_read : (es : List Event) (b w i j a : ℕ) → IsWriter es b w → IsOwn es w → Needs (Read b ∷ es) i j a → Needs es i j a
own_read es b w i j a h o (lt, x, inl e) =
    let here : b ≡ a = e.1 in
    let now = e.0 in
    let sooner : i < turn_of es = omega (arith, lt, now) in
    let x' = subst (λ c. Wrote es i c) (sym here) x in
    let n : HasWritten es b → ⊥ = λ k. e.2 (subst (λ c. HasWritten es c) here k) in
    absurd (own es b w i h o x' sooner n)
own_read es b w i j a h o (lt, x, inr e) = (lt, x, e)

pub new_write : (es : List Event) (b i j a : ℕ) → Needs (Write b ∷ es) i j a → Needs es i j a
new_write es b i j a (lt, inl w, x) = let le : j ≤ turn_of es = exposed_before es j a x in let e = w.0 in absurd (omega (arith, lt, le, e))
new_write es b i j a (lt, inr w, x) = (lt, w, x)

-- ---- what is kept

-- the same is needed
pub keeps_same : (es es' : List Event) (P : ℕ → Type 0) (n : Need) → turn_of es' ≡ turn_of es → ((i j a : ℕ) → Needs es i j a → Needs es' i j a) → ((i j a : ℕ) → Needs es' i j a → Needs es i j a) → KeepsNeed es P n → KeepsNeed es' P n
keeps_same es es' P n e f g k =
    let there : (j : ℕ) → NeedsOne es P j → NeedsOne es' P j = λ j h. (h.0, h.1, h.2, f h.0 j h.1 h.3) in
    let back : (j : ℕ) → NeedsOne es' P j → NeedsOne es P j = λ j h. (h.0, h.1, h.2, g h.0 j h.1 h.3) in
    record {
      need = record {
        turns = subst (λ t. HowMany (NeedsOne es' P) (suc t) n.turns) (sym e) (many_as (NeedsOne es P) (NeedsOne es' P) (suc (turn_of es)) n.turns (λ j lt. there j) (λ j lt. back j) k.need.turns);
        least = λ i j a p h. k.need.least i j a p (g i j a h);
        nearest = λ some. let h = k.need.nearest some in (h.0, h.1, h.2, h.3, f h.0 h.1 h.2 h.4, h.5);
        none = k.need.none;
      };
      before = subst (λ t. n.latest ≤ suc t) (sym e) k.before;
      latest = subst (λ t. ((n.latest ≡ suc t → NeedsOne es' P t) × (NeedsOne es' P t → n.latest ≡ suc t))) (sym e) (λ l. there (turn_of es) (k.latest.0 l), λ h. k.latest.1 (back (turn_of es) h));
    }

-- the turn is over
pub keeps_end : (es : List Event) (P : ℕ → Type 0) (n : Need) → KeepsNeed es P n → KeepsNeed (TurnEnd ∷ es) P n
keeps_end es P n k =
    let never : NeedsOne es P (suc (turn_of es)) → ⊥ = λ h. let le : suc (turn_of es) ≤ turn_of es = one_before es P (suc (turn_of es)) h in omega (arith, le) in
    let old = k.before in
    record {
      need = record {
        turns = inr (never, k.need.turns);
        least = λ i j a p h. k.need.least i j a p h;
        nearest = λ some. k.need.nearest some;
        none = k.need.none;
      };
      before = omega (arith, old);
      latest = (λ e. absurd (omega (arith, e, old)), λ h. absurd (never h));
    }

-- ---- a read that needs an earlier turn

-- where turn t is the last that wrote it
new_read : (es : List Event) (b t i j a : ℕ) → IsWriter es b (suc t) → Needs (Read b ∷ es) i j a → Needs es i j a ⊎ ((j ≡ turn_of es) × (a ≡ b) × (i ≤ t))
new_read es b t i j a h (lt, x, inl e) = inr (sym e.0, sym e.1, h.1 i (subst (λ c. Wrote es i c) (sym e.1) x))
new_read es b t i j a h (lt, x, inr e) = inl (lt, x, e)

-- the turn that is on needs it
here_read : (es : List Event) (b t : ℕ) → IsWriter es b (suc t) → t < turn_of es → Needs (Read b ∷ es) t (turn_of es) b
here_read es b t h lt = (lt, h.0, inl (refl, refl, λ k. let le : turn_of es ≤ t = h.1 (turn_of es) (has_wrote es b k) in omega (arith, le, lt)))

-- other words are needed as before
pub keeps_other : (es : List Event) (b t : ℕ) (P : ℕ → Type 0) (n : Need) → IsWriter es b (suc t) → (P b → ⊥) → KeepsNeed es P n → KeepsNeed (Read b ∷ es) P n
keeps_other es b t P n h never k =
    let es' = Read b ∷ es in
    let old : (i j a : ℕ) → P a → Needs es' i j a → Needs es i j a =
    λ i j a p m. elim (new_read es b t i j a h m) [ inl m' ↦ m' | inr e ↦ absurd (never (subst P e.1 p)) ] in
    let there : (j : ℕ) → NeedsOne es P j → NeedsOne es' P j = λ j m. (m.0, m.1, m.2, old_read es b m.0 j m.1 m.3) in
    let back : (j : ℕ) → NeedsOne es' P j → NeedsOne es P j = λ j m. (m.0, m.1, m.2, old m.0 j m.1 m.2 m.3) in
    record {
      need = record {
        turns = many_as (NeedsOne es P) (NeedsOne es' P) (suc (turn_of es)) n.turns (λ j lt. there j) (λ j lt. back j) k.need.turns;
        least = λ i j a p m. k.need.least i j a p (old i j a p m);
        nearest = λ some. let m = k.need.nearest some in (m.0, m.1, m.2, m.3, old_read es b m.0 m.1 m.2 m.4, m.5);
        none = k.need.none;
      };
      before = k.before;
      latest = (λ l. there (turn_of es) (k.latest.0 l), λ m. k.latest.1 (back (turn_of es) m));
    }

-- the turns that need one of these words, with the one that is on
turns_again : (es : List Event) (b t : ℕ) (P : ℕ → Type 0) (n m : Need) → turn_of es + 1 < 2 ^ 64 → IsWriter es b (suc t) → t < turn_of es → P b → KeepsNeed es P n → IsAgain (suc (turn_of es)) (turn_of es - t) n m
    → HowMany (NeedsOne (Read b ∷ es) P) (suc (turn_of es)) m.turns
turns_again es b t P n m few h lt p k again =
    let es' = Read b ∷ es in
    let now = turn_of es in
    let here : NeedsOne es' P now = (t, b, p, here_read es b t h lt) in
    let there : (j : ℕ) → NeedsOne es P j → NeedsOne es' P j = λ j x. (x.0, x.1, x.2, old_read es b x.0 j x.1 x.3) in
    let back : (j : ℕ) → (j ≡ now → ⊥) → NeedsOne es' P j → NeedsOne es P j =
    λ j other x. elim (new_read es b t x.0 j x.1 h x.3) [ inl y ↦ (x.0, x.1, x.2, y) | inr e ↦ absurd (other e.0) ] in
    elim (same_or_not n.latest (suc now)) [
      | inl same ↦
          let before : NeedsOne es P now = k.latest.0 same in
          let back' : (j : ℕ) → NeedsOne es' P j → NeedsOne es P j = λ j x. elim (same_or_not j now) [ inl e ↦ subst (NeedsOne es P) (sym e) before | inr other ↦ back j other x ] in
          subst (HowMany (NeedsOne es' P) (suc now)) (sym (again.same same)) (many_as (NeedsOne es P) (NeedsOne es' P) (suc now) n.turns (λ j _. there j) (λ j _. back' j) k.need.turns)
      | inr other ↦
          let never : NeedsOne es P now → ⊥ = λ x. other (k.latest.1 x) in
          let made = many_more (NeedsOne es P) (NeedsOne es' P) now n.turns (λ j _. there j) (λ j less. back j (omega (arith, less))) never here k.need.turns in
          let most : n.turns + 1 ≤ suc now = many_at_most (NeedsOne es' P) (suc now) (n.turns + 1) made in
          let is : m.turns ≡ n.turns + 1 = let e = again.more other in omega (arith, e, most, few) in
          subst (HowMany (NeedsOne es' P) (suc now)) (sym is) made
    ]

least_again : (es : List Event) (b t : ℕ) (P : ℕ → Type 0) (n m : Need) → IsWriter es b (suc t) → t < turn_of es → KeepsNeed es P n → IsAgain (suc (turn_of es)) (turn_of es - t) n m
    → (i j a : ℕ) → P a → Needs (Read b ∷ es) i j a → i + m.distance ≤ j
least_again es b t P n m h lt k again i j a p x =
    elim (new_read es b t i j a h x) [
      | inl old ↦
          let le : i + n.distance ≤ j = k.need.least i j a p old in
          let before : j ≤ turn_of es = needs_before es i j a old in
          let some : 0 < n.turns = elim (same_or_not n.turns 0) [ inl e ↦ absurd (many_none (NeedsOne es P) (suc (turn_of es)) n.turns j k.need.turns e (omega (arith, before)) (i, a, p, old)) | inr e ↦ omega (arith, e) ] in
          let d = again.other some in
          omega (arith, le, d)
      | inr new ↦
          let now = new.0 in
          let le = new.2 in
          elim (same_or_not n.turns 0) [
            | inl e ↦ let d = again.first e in omega (arith, now, le, lt, d)
            | inr e ↦ let some : 0 < n.turns = omega (arith, e) in let d = again.other some in omega (arith, now, le, lt, d)
          ]
    ]

nearest_again : (es : List Event) (b t : ℕ) (P : ℕ → Type 0) (n m : Need) → IsWriter es b (suc t) → t < turn_of es → P b → KeepsNeed es P n → IsAgain (suc (turn_of es)) (turn_of es - t) n m → OneAsNear (Read b ∷ es) P m.distance
nearest_again es b t P n m h lt p k again =
    let here : (d : ℕ) → d ≡ turn_of es - t → OneAsNear (Read b ∷ es) P d = λ d e. (t, turn_of es, b, p, here_read es b t h lt, omega (arith, e, lt)) in
    elim (same_or_not n.turns 0) [
      | inl e ↦ here m.distance (again.first e)
      | inr e ↦
          let some : 0 < n.turns = omega (arith, e) in
          let d = again.other some in
          let x = k.need.nearest some in
          elim (least_of n.distance (turn_of es - t)) [
            | inl f ↦ let is : m.distance ≡ n.distance = d ∙ f in (x.0, x.1, x.2, x.3, old_read es b x.0 x.1 x.2 x.4, x.5 ∙ ap (λ y. x.0 + y) (sym is))
            | inr f ↦ here m.distance (d ∙ f)
          ]
    ]
  where
    least_of : (x y : ℕ) → (min x y ≡ x) ⊎ (min x y ≡ y)
    least_of x y = elim (same_or_not (min x y) x) [ inl e ↦ inl e | inr e ↦ inr (omega (arith, e)) ]

-- one of these words is needed
pub keeps_again : (es : List Event) (b t : ℕ) (P : ℕ → Type 0) (n m : Need) → turn_of es + 1 < 2 ^ 64 → IsWriter es b (suc t) → t < turn_of es → P b → KeepsNeed es P n → IsAgain (suc (turn_of es)) (turn_of es - t) n m → KeepsNeed (Read b ∷ es) P m
keeps_again es b t P n m few h lt p k again =
    let turns = turns_again es b t P n m few h lt p k again in
    let here : NeedsOne (Read b ∷ es) P (turn_of es) = (t, b, p, here_read es b t h lt) in
    let is = again.latest in
    record {
      need = record {
        turns = turns;
        least = least_again es b t P n m h lt k again;
        nearest = λ some. nearest_again es b t P n m h lt p k again;
        none = λ e. absurd (many_none (NeedsOne (Read b ∷ es) P) (suc (turn_of es)) m.turns (turn_of es) turns e (omega arith) here);
      };
      before = omega (arith, is);
      latest = (λ _. here, λ _. is);
    }
