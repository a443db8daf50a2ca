-- What words were needed for in all the times that a region was opened, one time more.
use Rattle.std.proofs.Common.{◌≡◌, ◌≢◌, ℕ, zero, suc, ◌+◌, ◌<◌, ◌≤◌, ◌⊎◌, min, inl, inr, List, [], ◌∷◌, length, Result, Ok, Err, refl, ap, sym, subst, ◌∙◌, arith}
use Rattle.std.specs.Prelude.{OnOk}
use Rattle.std.proofs.lemmas.Bool.{ne_eqb, cases_lt}
use Rattle.std.proofs.lemmas.List.{get_or_past}
use Rattle.hx_code.specs.Region.{held}
use Rattle.hx_speculation.proofs.Stores.{same_or_not}
use Rattle.hx_advise.specs.declared.watch.Need.{Need}
use Rattle.hx_advise.specs.Events.{Event, turn_of, NeedsOne, HowMany, IsIndependent}
use Rattle.hx_advise.specs.Watch.{NoneNearer, OneAsNear, IsNeed, AreBoth, nearer, need_at, no_need}
use Rattle.hx_advise.specs.Runs.{Story, Each, SomeTime, SumsTo, AreNeeds}
use Rattle.hx_advise.proofs.Needs.{many_none, one_before}

-- ---- one list of events

-- no turn needs one of these words
abbrev pub NoneNeeds : List Event → (ℕ → Type 0) → Type 0
NoneNeeds es P = (j : ℕ) → NeedsOne es P j → ⊥

pub independent_none : (es : List Event) (P : ℕ → Type 0) → IsIndependent es → NoneNeeds es P
independent_none es P f j h = f h.0 j h.1 h.3.0 h.3.1 h.3.2

counted_none : (es : List Event) (P : ℕ → Type 0) (k : ℕ) → HowMany (NeedsOne es P) (suc (turn_of es)) k → k ≡ 0 → NoneNeeds es P
counted_none es P k h e j x = let le : j ≤ turn_of es = one_before es P j x in many_none (NeedsOne es P) (suc (turn_of es)) k j h e (omega (arith, le)) x

pub need_none : (es : List Event) (P : ℕ → Type 0) (n : Need) → IsNeed es P n → n.turns ≡ 0 → NoneNeeds es P
need_none es P n h e = counted_none es P n.turns h.turns e

none_many : (Q : ℕ → Type 0) (n : ℕ) → ((j : ℕ) → Q j → ⊥) → HowMany Q n 0
none_many Q zero f = refl
none_many Q (suc n) f = inr (f n, none_many Q n f)

none_nearer : (es : List Event) (P : ℕ → Type 0) (d : ℕ) → NoneNeeds es P → NoneNearer es P d
none_nearer es P d f i j a p h = absurd (f j (i, a, p, h))

nearer_less : (es : List Event) (P : ℕ → Type 0) (d less : ℕ) → less ≤ d → NoneNearer es P d → NoneNearer es P less
nearer_less es P d less le f i j a p h = let far : i + d ≤ j = f i j a p h in omega (arith, le, far)

-- ---- some times

-- the turns of a time that need one of these words
abbrev Counts : (ℕ → Type 0) → Story → ℕ → Type 0
Counts P x k = HowMany (NeedsOne x.events P) (suc (turn_of x.events)) k

each_less : (r : ℕ) (P : ℕ → Type 0) (d less : ℕ) (xs : List Story) → less ≤ d → Each r (λ x. NoneNearer x.events P d) xs → Each r (λ x. NoneNearer x.events P less) xs
each_less r P d less [] le h = h
each_less r P d less (x ∷ xs) le h = (λ e. nearer_less x.events P d less le (h.0 e), each_less r P d less xs le h.1)

each_none : (r : ℕ) (P : ℕ → Type 0) (d : ℕ) (xs : List Story) (k : ℕ) → SumsTo r (Counts P) xs k → k ≡ 0 → Each r (λ x. NoneNearer x.events P d) xs
each_none r P d [] k h e = tt
each_none r P d (x ∷ xs) k h e =
    let sum = h.5 in
    let n : h.0 ≡ 0 = omega (arith, sum, e) in
    let m : h.1 ≡ 0 = omega (arith, sum, e) in
    (λ s. none_nearer x.events P d (counted_none x.events P h.0 (h.2 s) n), each_none r P d xs h.1 h.4 m)

sum_own : (P : ℕ → Type 0) (x : Story) (xs : List Story) (n k : ℕ) → Counts P x n → SumsTo x.region (Counts P) xs k → SumsTo x.region (Counts P) (x ∷ xs) (n + k)
sum_own P x xs n k c h = (n, k, λ e. c, λ other. absurd (other refl), h, refl)

sum_none : (r : ℕ) (P : ℕ → Type 0) (x : Story) (xs : List Story) (k : ℕ) → (x.region ≡ r → NoneNeeds x.events P) → SumsTo r (Counts P) xs k → SumsTo r (Counts P) (x ∷ xs) k
sum_none r P x xs k f h = (0, k, λ e. none_many (NeedsOne x.events P) (suc (turn_of x.events)) (f e), λ other. refl, h, omega arith)

-- ---- one time more

-- in which none of these words was needed, or of another region
pub needs_same : (r : ℕ) (P : ℕ → Type 0) (x : Story) (xs : List Story) (n : Need) → (x.region ≡ r → NoneNeeds x.events P) → AreNeeds r P xs n → AreNeeds r P (x ∷ xs) n
needs_same r P x xs n f h = record {
  turns = (h.turns.0, sum_none r P x xs h.turns.0 f h.turns.1, h.turns.2);
  least = (λ e. none_nearer x.events P n.distance (f e), h.least);
  nearest = λ some. inr (h.nearest some);
  none = h.none;
}

nearer_first : (n m : Need) → m.turns ≡ 0 → nearer n m ≡ n.distance
nearer_first n m e = rw e refl

nearer_second : (n m : Need) → m.turns ≢ 0 → n.turns ≡ 0 → nearer n m ≡ m.distance
nearer_second n m o e = rw (ne_eqb m.turns 0 o, e) refl

nearer_both : (n m : Need) → m.turns ≢ 0 → n.turns ≢ 0 → nearer n m ≡ min n.distance m.distance
nearer_both n m o p = rw (ne_eqb m.turns 0 o, ne_eqb n.turns 0 p) refl

-- with this distance
needs_with : (P : ℕ → Type 0) (x : Story) (xs : List Story) (n m z : Need) (d : ℕ) → IsNeed x.events P m → AreNeeds x.region P xs n → AreBoth n m z → z.distance ≡ d
    → Each x.region (λ y. NoneNearer y.events P d) (x ∷ xs) → (0 < z.turns → SomeTime x.region (λ y. OneAsNear y.events P d) (x ∷ xs)) → AreNeeds x.region P (x ∷ xs) z
needs_with P x xs n m z d new old both is least nearest =
    let k = old.turns.0 in
    let was : n.turns ≡ held k = old.turns.2 in
    let sum : z.turns ≡ held (n.turns + m.turns) = both.turns in
    let made : z.turns ≡ held (m.turns + k) = omega (arith, was, sum) in
    record {
      turns = (m.turns + k, sum_own P x xs m.turns k new.turns old.turns.1, made);
      least = subst (λ e. Each x.region (λ y. NoneNearer y.events P e) (x ∷ xs)) (sym is) least;
      nearest = λ some. subst (λ e. SomeTime x.region (λ y. OneAsNear y.events P e) (x ∷ xs)) (sym is) (nearest some);
      none = λ e.
          let first : n.turns ≡ 0 = omega (arith, e, sum) in
          let second : m.turns ≡ 0 = omega (arith, e, sum) in
          both.distance ∙ nearer_first n m second ∙ old.none first;
    }

least_of : (x y : ℕ) → (min x y ≡ x) ⊎ (min x y ≡ y)
least_of x y = elim (same_or_not (min x y) x) [ inl e ↦ inl e | inr e ↦ inr (omega (arith, e)) ]

-- of this region
pub needs_next : (P : ℕ → Type 0) (x : Story) (xs : List Story) (n m z : Need) → IsNeed x.events P m → AreNeeds x.region P xs n → AreBoth n m z → AreNeeds x.region P (x ∷ xs) z
needs_next P x xs n m z new old both =
    let sum : z.turns ≡ held (n.turns + m.turns) = both.turns in
    elim (same_or_not m.turns 0) [
      | inl e ↦
          needs_with P x xs n m z n.distance new old both (both.distance ∙ nearer_first n m e)
          (λ _. none_nearer x.events P n.distance (need_none x.events P m new e), old.least)
          (λ some. let some' : 0 < n.turns = omega (arith, some, sum, e) in inr (old.nearest some'))
      | inr o ↦
          let here : 0 < m.turns = omega (arith, o) in
          elim (same_or_not n.turns 0) [
            | inl e ↦
                let was : n.turns ≡ held old.turns.0 = old.turns.2 in
                let k : old.turns.0 ≡ 0 = omega (arith, was, e) in
                needs_with P x xs n m z m.distance new old both (both.distance ∙ nearer_second n m o e)
                (λ _. new.least, each_none x.region P m.distance xs old.turns.0 old.turns.1 k)
                (λ some. inl (refl, new.nearest here))
            | inr p ↦
                let there : 0 < n.turns = omega (arith, p) in
                needs_with P x xs n m z (min n.distance m.distance) new old both (both.distance ∙ nearer_both n m o p)
                (λ _. nearer_less x.events P m.distance (min n.distance m.distance) (omega arith) new.least, each_less x.region P n.distance (min n.distance m.distance) xs (omega arith) old.least)
                (λ some. elim (least_of n.distance m.distance) [
                  | inl f ↦ subst (λ d. SomeTime x.region (λ y. OneAsNear y.events P d) (x ∷ xs)) (sym f) (inr (old.nearest there))
                  | inr f ↦ subst (λ d. SomeTime x.region (λ y. OneAsNear y.events P d) (x ∷ xs)) (sym f) (inl (refl, new.nearest here))
                ])
          ]
    ]

-- word by word
pub words_next : (x : Story) (xs : List Story) (old more new : List Need) → ((a : ℕ) → IsNeed x.events (λ b. b ≡ a) (need_at more a)) → ((a : ℕ) → AreNeeds x.region (λ b. b ≡ a) xs (need_at old a))
    → ((a : ℕ) → a < length more → AreBoth (need_at old a) (need_at more a) (need_at new a)) → ((a : ℕ) → length more ≤ a → need_at new a ≡ need_at old a)
    → (a : ℕ) → AreNeeds x.region (λ b. b ≡ a) (x ∷ xs) (need_at new a)
words_next x xs old more new here was both others a =
    elim (cases_lt a (length more)) [
      | inl lt ↦ needs_next (λ b. b ≡ a) x xs (need_at old a) (need_at more a) (need_at new a) (here a) (was a) (both a lt)
      | inr le ↦
          let none : need_at more a ≡ no_need = get_or_past more a no_need le in
          let unneeded : NoneNeeds x.events (λ b. b ≡ a) = need_none x.events (λ b. b ≡ a) (need_at more a) (here a) (ap (λ (n : Need). n.turns) none) in
          subst (AreNeeds x.region (λ b. b ≡ a) (x ∷ xs)) (sym (others a le)) (needs_same x.region (λ b. b ≡ a) x xs (need_at old a) (λ _. unneeded) (was a))
    ]

-- ---- of another region, and of none

pub needs_unseen : (r k : ℕ) (P : ℕ → Type 0) (n : Need) → AreNeeds r P [] n → AreNeeds k P [] n
needs_unseen r k P n h = record { turns = h.turns; least = h.least; nearest = h.nearest; none = h.none }

-- ---- results

pub both_ok : {T E : Type 0} (r : Result T E) (A B C : Type 0) → OnOk r A → OnOk r B → (A → B → C) → OnOk r C
both_ok (Ok x) A B C a b f = f a b
both_ok (Err e) A B C a b f = a
