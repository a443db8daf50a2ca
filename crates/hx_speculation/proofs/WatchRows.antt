-- Worked loops, watched: what their turns read and write, and which of them are independent.
use Rattle.std.proofs.Common.{◌≡◌, ℕ, zero, suc, ℤ, pos, true, ◌&&◌, ◌==◌, List, [], ◌∷◌, Some, None, map, inl, inr, refl, sym, ap₂, ◌∙◌, subst, arith}
use Rattle.std.specs.Prelude.{if◌then◌else◌, nat_lt}
use Rattle.hx_marks.specs.Table.{Table, look}
use Rattle.hx_marks.proofs.Tables.{look_put_own}
use Rattle.hx_code.specs.declared.word.Exit.TheVariants.{Left}
use Rattle.hx_speculation.specs.Iteration.{Store, write, Ask, Loads, Stores, TurnEnds, Leaves, IsIn}
use Rattle.hx_speculation.specs.Region.{Region, Plain, Going, Over, does, steps, Comes}
use Rattle.hx_speculation.specs.Replay.{Course}
use Rattle.hx_speculation.specs.Watch.{noted, watched, in_turn, Exposed, Wrote, IsIndependent}
use Rattle.hx_speculation.specs.Attempts.{HasCommittedNone}
use Rattle.hx_speculation.proofs.Stores.{if_cases, and_left, and_right, eq_true, eq_same}
use Rattle.hx_speculation.proofs.Watch.{watched_comes}
use Rattle.hx_speculation.proofs.Rows.{zeros, course, shows, counted, counting}

-- what the present turn has written after n words
abbrev written : Region ℕ → ℕ → List (ℕ × ℤ)
written r n = map (λ e. (e.word, e.value)) (watched r n (in_turn 0 (r.opening 0) zeros [] [])).writes

-- ---- while (c < 2) c = c + 1, where c is word 0

abbrev counter : Region ℕ
counter = (course counting 512 64).region

nothing_yet : written counter 3 ≡ []
nothing_yet = refl

-- the fourth word stores c
one_word : written counter 4 ≡ (0, pos 1) ∷ []
one_word = refl

-- the fifth ends the turn
next_turn : written counter 5 ≡ []
next_turn = refl

wrote_c : Wrote counter zeros 0 0 (pos 1)
wrote_c = (101, zeros, [], 2, (3, refl), refl)

-- the next turn reads it first
exposed_c : Exposed counter zeros 1 0
exposed_c = (0, write zeros 0 (pos 1), [], [], _, (5, refl), refl, refl)

-- once iteration 1 is the head, and before it has settled anything
none_committed : HasCommittedNone counter zeros 1 (write zeros 0 (pos 1)) [] 1 0
none_committed = inr (refl, (5, refl))

-- iteration 2 is behind it, wherever it stands
none_committed_behind : HasCommittedNone counter zeros 1 (write zeros 0 (pos 1)) [] 2 10
none_committed_behind = inl (omega arith)

counter_depends : IsIndependent counter zeros → ⊥
counter_depends h = h 0 1 0 (pos 1) (omega arith) wrote_c exposed_c

-- ---- for (i = 0; i < 2; i++) { a = 5; b = a; }, where a is word 0, b word 1, and i no word

abbrev keeping : ℕ → Ask ℕ
keeping zero = Stores 0 (pos 5) 2
keeping (suc zero) = Leaves
keeping (suc (suc zero)) = Loads 0 (λ v. 4)
keeping (suc (suc (suc zero))) = TurnEnds
keeping (suc (suc (suc (suc n)))) = Stores 1 (pos 5) 3

abbrev keeper : Course ℕ
keeper =
    let c = course keeping 512 64 in
    record c { region = record c.region { opening = λ j. if nat_lt j 2 then 0 else 1 } }

-- a turn may write what an earlier one wrote, and read it then
both_words : written keeper.region 3 ≡ (0, pos 5) ∷ (1, pos 5) ∷ []
both_words = refl

-- before it reads a, a turn has written it
abbrev HasKept : Plain ℕ → Table → Type 0
HasKept (Going q s text k) writes = q ≡ 2 → IsIn writes 0
HasKept (Over e s text k) writes = Unit {0}

word_keeps : (q : ℕ) (s : Store) (text : List ℕ) (k : ℕ) (writes : Table) → HasKept (Going q s text k) writes → HasKept (does keeper.region (keeping q) s text k) (noted (keeping q) writes)
word_keeps zero s text k writes h = λ _. (pos 5, look_put_own writes 0 (pos 5))
word_keeps (suc zero) s text k writes h = tt
word_keeps (suc (suc zero)) s text k writes h = λ e. absurd (omega (arith, e))
word_keeps (suc (suc (suc zero))) s text k writes h =
    if_cases (λ q. q ≡ 2 → IsIn [] 0) (nat_lt (suc k) 2) 0 1 (λ _ n. absurd (omega (arith, n))) (λ _ n. absurd (omega (arith, n)))
word_keeps (suc (suc (suc (suc n)))) s text k writes h = λ e. absurd (omega (arith, e))

words_keep : (n : ℕ) (p : Plain ℕ) (writes : Table) → HasKept p writes → HasKept (watched keeper.region n (record { plain = p; writes = writes })).plain (watched keeper.region n (record { plain = p; writes = writes })).writes
words_keep zero p writes h = h
words_keep (suc n) (Going q s text k) writes h = words_keep n _ _ (word_keeps q s text k writes h)
words_keep (suc n) (Over e s text k) writes h = words_keep n (Over e s text k) writes h

not_before : (q a : ℕ) (next : ℤ → ℕ) (writes : Table) → (q ≡ 2 → IsIn writes 0) → keeping q ≡ Loads a next → look writes a ≡ None → ⊥
not_before zero a next writes h e n = cc
not_before (suc zero) a next writes h e n = cc
not_before (suc (suc zero)) a next writes h e n = let w = (h refl).1 in cc
not_before (suc (suc (suc zero))) a next writes h e n = cc
not_before (suc (suc (suc (suc m)))) a next writes h e n = cc

none_exposed : (j a : ℕ) → Exposed keeper.region zeros j a → ⊥
none_exposed j a e =
    let start : HasKept (Going (keeper.region.opening 0) zeros [] 0) [] = (λ n. absurd (omega (arith, n))) in
    let kept = subst (λ w. HasKept w.plain w.writes) e.5.1 (words_keep e.5.0 (Going (keeper.region.opening 0) zeros [] 0) [] start) in
    not_before e.0 a e.4 e.3 kept e.6 e.7

keeper_is_independent : IsIndependent keeper.region zeros
keeper_is_independent i j a v lt w e = none_exposed j a e

-- two workers side by side: both write a and read what they wrote
side_by_side : shows keeper (0 ∷ 1 ∷ 0 ∷ 1 ∷ 1 ∷ 0 ∷ 1 ∷ 1 ∷ 0 ∷ 0 ∷ 1 ∷ 1 ∷ 0 ∷ 0 ∷ 0 ∷ []) 1 ≡ record { exit = Some Left; text = []; word = pos 5; counts = counted 2 0 0 0 0 }
side_by_side = refl

-- ---- for (i = 0; i < 2; i++) { x = a[i]; a[i] = 7; }, where a[i] is word i, and i and x are no words

-- at a place of its turn, with i
abbrev Place : Type 0
Place = ℕ × ℕ

abbrev touching : Place → Ask Place
touching (i, zero) = if nat_lt i 2 then Loads i (λ x. (i, 1)) else Leaves
touching (i, suc zero) = Stores i (pos 7) (i, 2)
touching (i, suc (suc n)) = TurnEnds

same_place : (p q : Place) → ((p.0 == q.0) && (p.1 == q.1)) ≡ true → p ≡ q
same_place p q h = ap₂ {C = Place} (λ x y. (x, y)) (eq_true p.0 q.0 (and_left _ _ h)) (eq_true p.1 q.1 (and_right (p.0 == q.0) _ h))

abbrev toucher : Course Place
toucher =
    record {
      region = record { ask = touching; opening = λ j. (j, 0); printed = 0; same = λ p q. (p.0 == q.0) && (p.1 == q.1); same_holds = same_place; same_itself = λ p. ap₂ ◌&&◌ (eq_same p.0) (eq_same p.1) };
      capacities = record { marks = 512; buffer = 64 };
      limit = 20;
    }

-- i is the number of the turn
abbrev IsInStep : Plain Place → Type 0
IsInStep (Going p s text k) = p.0 ≡ k
IsInStep (Over e s text k) = Unit {0}

word_in_step : (p : Place) (s : Store) (text : List ℕ) (k : ℕ) → p.0 ≡ k → IsInStep (does toucher.region (touching p) s text k)
word_in_step (i, zero) s text k h = if_cases (λ z. IsInStep (does toucher.region z s text k)) (nat_lt i 2) (Loads i (λ x. (i, 1))) Leaves (λ _. h) (λ _. tt)
word_in_step (i, suc zero) s text k h = h
word_in_step (i, suc (suc n)) s text k h = refl

words_in_step : (n : ℕ) (p : Plain Place) → IsInStep p → IsInStep (steps toucher.region n p)
words_in_step zero p h = h
words_in_step (suc n) (Going p s text k) h = words_in_step n _ (word_in_step p s text k h)
words_in_step (suc n) (Over e s text k) h = words_in_step n (Over e s text k) tt

in_step : (j : ℕ) (p : Place) (s : Store) (text : List ℕ) → Comes toucher.region zeros (Going p s text j) → p.0 ≡ j
in_step j p s text c = subst IsInStep c.1 (words_in_step c.0 (Going (0, 0) zeros [] 0) refl)

writes_own : (p : Place) (a : ℕ) (v : ℤ) (next : Place) → touching p ≡ Stores a v next → p.0 ≡ a
writes_own (i, zero) a v next = if_cases (λ z. z ≡ Stores a v next → i ≡ a) (nat_lt i 2) (Loads i (λ x. (i, 1))) Leaves (λ _ e. absurd (cc)) (λ _ e. absurd (cc))
writes_own (i, suc zero) a v next = λ e. cc
writes_own (i, suc (suc n)) a v next = λ e. absurd (cc)

reads_own : (p : Place) (a : ℕ) (next : ℤ → Place) → touching p ≡ Loads a next → p.0 ≡ a
reads_own (i, zero) a next = if_cases (λ z. z ≡ Loads a next → i ≡ a) (nat_lt i 2) (Loads i (λ x. (i, 1))) Leaves (λ _ e. cc) (λ _ e. absurd (cc))
reads_own (i, suc zero) a next = λ e. absurd (cc)
reads_own (i, suc (suc n)) a next = λ e. absurd (cc)

-- each turn reads and writes its own word
toucher_is_independent : IsIndependent toucher.region zeros
toucher_is_independent i j a v lt w e =
    let wrote = sym (in_step i w.0 w.1 w.2 w.4) ∙ writes_own w.0 a v w.3 w.5 in
    let read = sym (in_step j e.0 e.1 e.2 (watched_comes toucher.region zeros j e.0 e.1 e.2 e.3 e.5)) ∙ reads_own e.0 a e.4 e.6 in
    omega (arith, lt, wrote, read)

-- two workers side by side: both read before either writes
both_read : shows toucher (0 ∷ 1 ∷ 0 ∷ 1 ∷ 1 ∷ 0 ∷ 1 ∷ 1 ∷ 0 ∷ 0 ∷ 1 ∷ 1 ∷ 0 ∷ 0 ∷ 0 ∷ []) 1 ≡ record { exit = Some Left; text = []; word = pos 7; counts = counted 2 0 0 0 0 }
both_read = refl
