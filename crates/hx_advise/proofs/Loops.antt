-- The events of a plain region, and what its turns write and expose by its definition.
use Rattle.std.proofs.Common.{◌≡◌, ◌≢◌, ℕ, zero, suc, ◌+◌, ◌<◌, ◌≤◌, ℤ, ◌⊎◌, inl, inr, List, [], ◌∷◌, ◌++◌, Some, None, refl, sym, ap, subst, ◌∙◌, arith}
use Rattle.std.specs.Prelude.{◌↔◌}
use Rattle.hx_code.specs.declared.word.Exit.TheVariants.{Faulted}
use Rattle.hx_marks.specs.Table.{Table, look, put}
use Rattle.hx_marks.proofs.Tables.{look_put_own, look_put_other}
use Rattle.hx_speculation.specs.Iteration.{Store, Ask, Goes, Loads, Stores, Prints, TurnEnds, Leaves, Returns, Faults}
use Rattle.hx_speculation.specs.Region.{Region, Plain, Going, Over, has_room_for, does, step, steps}
use Rattle.hx_speculation.specs.Watch.{Watched, watch, watched, in_turn, noted as noted_in, noted_of as noted_for, Wrote as WroteLoop, Exposed as ExposedLoop, IsIndependent as IsIndependentLoop}
use Rattle.hx_speculation.proofs.Stores.{if_cases, same_or_not}
use Rattle.hx_regions.proofs.Plain.{steps_last}
use Rattle.hx_advise.specs.Events.{Event, Write, TurnEnd, turn_of, HasWritten, Exposed, Wrote, IsIndependent}
use Rattle.hx_advise.specs.Regions.{noted, noted_of, after, events_after, IsOver, one_of, words_done}

-- ---- what stays as events are added

wrote_noted : {σ : Type 0} (ask : Ask σ) (es : List Event) (i a : ℕ) → Wrote es i a → Wrote (noted ask es) i a
wrote_noted (Goes q) es i a h = h
wrote_noted (Loads b q) es i a h = h
wrote_noted (Stores b v q) es i a h = inr h
wrote_noted (Prints bytes q full) es i a h = h
wrote_noted TurnEnds es i a h = h
wrote_noted Leaves es i a h = h
wrote_noted (Returns v) es i a h = h
wrote_noted (Faults fault) es i a h = h

exposed_noted : {σ : Type 0} (ask : Ask σ) (es : List Event) (j a : ℕ) → Exposed es j a → Exposed (noted ask es) j a
exposed_noted (Goes q) es j a h = h
exposed_noted (Loads b q) es j a h = inr h
exposed_noted (Stores b v q) es j a h = h
exposed_noted (Prints bytes q full) es j a h = h
exposed_noted TurnEnds es j a h = h
exposed_noted Leaves es j a h = h
exposed_noted (Returns v) es j a h = h
exposed_noted (Faults fault) es j a h = h

-- ---- what a turn has written, in a table and in a list of events

abbrev AreSame : Table → List Event → Type 0
AreSame writes es = (a : ℕ) → (look writes a ≡ None → HasWritten es a → ⊥) × ((HasWritten es a → ⊥) → look writes a ≡ None)

none_written : AreSame [] []
none_written a = (λ e h. h, λ f. refl)

none_since : (es : List Event) → AreSame [] (TurnEnd ∷ es)
none_since es a = (λ e h. h, λ f. refl)

not_put : (writes : Table) (es : List Event) (b a : ℕ) → a ≢ b → (look writes a ≡ None → HasWritten es a → ⊥) → look writes a ≡ None → HasWritten (Write b ∷ es) a → ⊥
not_put writes es b a n f h (inl e) = n (sym e)
not_put writes es b a n f h (inr w) = f h w

put_same : (writes : Table) (es : List Event) (b : ℕ) (v : ℤ) → AreSame writes es → (a : ℕ) → (a ≡ b) ⊎ (a ≢ b) → (look (put writes b v) a ≡ None → HasWritten (Write b ∷ es) a → ⊥) × ((HasWritten (Write b ∷ es) a → ⊥) → look (put writes b v) a ≡ None)
put_same writes es b v s a (inl e) =
    let there : look (put writes b v) a ≡ Some v = ap (look (put writes b v)) e ∙ look_put_own writes b v in
    (λ n. let no : Some v ≡ None = sym there ∙ n in absurd cc, λ f. absurd (f (inl (sym e))))
put_same writes es b v s a (inr n) =
    let there : look (put writes b v) a ≡ look writes a = look_put_other writes b a v n in
    (λ h. not_put writes es b a n (s a).0 (sym there ∙ h), λ f. there ∙ (s a).1 (λ w. f (inr w)))

ask_same : {σ : Type 0} (ask : Ask σ) (writes : Table) (es : List Event) → AreSame writes es → AreSame (noted_in ask writes) (noted ask es)
ask_same (Goes q) writes es s = s
ask_same (Loads b q) writes es s = s
ask_same (Stores b v q) writes es s = λ a. put_same writes es b v s a (same_or_not a b)
ask_same (Prints bytes q full) writes es s = s
ask_same TurnEnds writes es s = none_since es
ask_same Leaves writes es s = s
ask_same (Returns v) writes es s = s
ask_same (Faults fault) writes es s = s

-- ---- one region

module _ {σ : Type 0} (r : Region σ) (entry : Store) where
  pub after_next : (n : ℕ) → after r entry (suc n) ≡ step r (after r entry n)
  after_next n = steps_last r n (Going (r.opening 0) entry [] 0)

  -- the turn that is on
  abbrev pub AtTurn : Plain σ → List Event → Type 0
  AtTurn (Going q s text k) es = turn_of es ≡ k
  AtTurn (Over e s text k) es = turn_of es ≡ k

  does_turn : (ask : Ask σ) (s : Store) (text : List ℕ) (k : ℕ) (es : List Event) → turn_of es ≡ k → AtTurn (does r ask s text k) (noted ask es)
  does_turn (Goes q) s text k es e = e
  does_turn (Loads a q) s text k es e = e
  does_turn (Stores a v q) s text k es e = e
  does_turn (Prints bytes q full) s text k es e = if_cases (λ p. AtTurn p es) (has_room_for r text bytes) (Going q s (text ++ bytes) k) (Over (Faulted full) s text k) (λ _. e) (λ _. e)
  does_turn TurnEnds s text k es e = ap (λ n. suc n) e
  does_turn Leaves s text k es e = e
  does_turn (Returns v) s text k es e = e
  does_turn (Faults fault) s text k es e = e

  step_turn : (p : Plain σ) (es : List Event) → AtTurn p es → AtTurn (step r p) (noted_of r p es)
  step_turn (Going q s text k) es e = does_turn (r.ask q) s text k es e
  step_turn (Over x s text k) es e = e

  at_turn : (n : ℕ) → AtTurn (after r entry n) (events_after r entry n)
  at_turn zero = refl
  at_turn (suc n) = subst (λ p. AtTurn p (events_after r entry (suc n))) (sym (after_next n)) (step_turn (after r entry n) (events_after r entry n) (at_turn n))

  pub turn_at : (n : ℕ) (q : σ) (s : Store) (text : List ℕ) (k : ℕ) → after r entry n ≡ Going q s text k → turn_of (events_after r entry n) ≡ k
  turn_at n q s text k e = subst (λ p. AtTurn p (events_after r entry n)) e (at_turn n)

  -- the watched region after n words
  abbrev seen : ℕ → Watched σ
  seen n = watched r n (in_turn 0 (r.opening 0) entry [] [])

  watched_last : (n : ℕ) (w : Watched σ) → watched r (suc n) w ≡ watch r (watched r n w)
  watched_last zero w = refl
  watched_last (suc n) w = watched_last n (watch r w)

  watched_plain : (n : ℕ) (w : Watched σ) → (watched r n w).plain ≡ steps r n w.plain
  watched_plain zero w = refl
  watched_plain (suc n) w = watched_plain n (watch r w)

  seen_plain : (n : ℕ) → (seen n).plain ≡ after r entry n
  seen_plain n = watched_plain n (in_turn 0 (r.opening 0) entry [] [])

  of_same : (p : Plain σ) (writes : Table) (es : List Event) → AreSame writes es → AreSame (noted_for r p writes) (noted_of r p es)
  of_same (Going q s text k) writes es h = ask_same (r.ask q) writes es h
  of_same (Over e s text k) writes es h = h

  writes_same : (n : ℕ) → AreSame (seen n).writes (events_after r entry n)
  writes_same zero = none_written
  writes_same (suc n) =
      let next = of_same (after r entry n) (seen n).writes (events_after r entry n) (writes_same n) in
      let there : (seen (suc n)).writes ≡ noted_for r (after r entry n) (seen n).writes = ap (λ (w : Watched σ). w.writes) (watched_last n (in_turn 0 (r.opening 0) entry [] [])) ∙ ap (λ p. noted_for r p (seen n).writes) (seen_plain n) in
      subst (λ t. AreSame t (events_after r entry (suc n))) (sym there) next

  -- ---- what the events tell is so

  abbrev WritesSome : ℕ → ℕ → Type 0
  WritesSome i a = (v : ℤ) × WroteLoop r entry i a v

  wrote_word : (n : ℕ) (q : σ) (s : Store) (text : List ℕ) (k : ℕ) (ask : Ask σ) (i a : ℕ) → after r entry n ≡ Going q s text k → r.ask q ≡ ask → (Wrote (events_after r entry n) i a → WritesSome i a) → Wrote (noted ask (events_after r entry n)) i a → WritesSome i a
  wrote_word n q s text k (Goes q') i a e asks f h = f h
  wrote_word n q s text k (Loads b q') i a e asks f h = f h
  wrote_word n q s text k (Stores b v q') i a e asks f (inl h) =
      let now : k ≡ i = sym (turn_at n q s text k e) ∙ h.0 in
      let here : WroteLoop r entry k b v = (q, s, text, q', (n, e), asks) in
      (v, subst (λ c. WroteLoop r entry i c v) h.1 (subst (λ m. WroteLoop r entry m b v) now here))
  wrote_word n q s text k (Stores b v q') i a e asks f (inr h) = f h
  wrote_word n q s text k (Prints bytes q' full) i a e asks f h = f h
  wrote_word n q s text k TurnEnds i a e asks f h = f h
  wrote_word n q s text k Leaves i a e asks f h = f h
  wrote_word n q s text k (Returns v) i a e asks f h = f h
  wrote_word n q s text k (Faults fault) i a e asks f h = f h

  wrote_at : (n : ℕ) (p : Plain σ) (i a : ℕ) → after r entry n ≡ p → (Wrote (events_after r entry n) i a → WritesSome i a) → Wrote (noted_of r p (events_after r entry n)) i a → WritesSome i a
  wrote_at n (Going q s text k) i a e f h = wrote_word n q s text k (r.ask q) i a e refl f h
  wrote_at n (Over x s text k) i a e f h = f h

  pub wrote_is : (n i a : ℕ) → Wrote (events_after r entry n) i a → WritesSome i a
  wrote_is zero i a h = absurd h
  wrote_is (suc n) i a h = wrote_at n (after r entry n) i a refl (wrote_is n i a) h

  exposed_word : (n : ℕ) (q : σ) (s : Store) (text : List ℕ) (k : ℕ) (ask : Ask σ) (j a : ℕ) → after r entry n ≡ Going q s text k → r.ask q ≡ ask → (Exposed (events_after r entry n) j a → ExposedLoop r entry j a) → Exposed (noted ask (events_after r entry n)) j a → ExposedLoop r entry j a
  exposed_word n q s text k (Goes q') j a e asks f h = f h
  exposed_word n q s text k (Loads b q') j a e asks f (inl h) =
      let now : k ≡ j = sym (turn_at n q s text k e) ∙ h.0 in
      let comes : seen n ≡ in_turn k q s text (seen n).writes = ap {B = Watched σ} (λ p. record { plain = p; writes = (seen n).writes }) (seen_plain n ∙ e) in
      let none : look (seen n).writes b ≡ None = (writes_same n b).1 (λ w. h.2 (subst (λ c. HasWritten (events_after r entry n) c) h.1 w)) in
      let here : ExposedLoop r entry k b = (q, s, text, (seen n).writes, q', (n, comes), asks, none) in
      subst (λ c. ExposedLoop r entry j c) h.1 (subst (λ m. ExposedLoop r entry m b) now here)
  exposed_word n q s text k (Loads b q') j a e asks f (inr h) = f h
  exposed_word n q s text k (Stores b v q') j a e asks f h = f h
  exposed_word n q s text k (Prints bytes q' full) j a e asks f h = f h
  exposed_word n q s text k TurnEnds j a e asks f h = f h
  exposed_word n q s text k Leaves j a e asks f h = f h
  exposed_word n q s text k (Returns v) j a e asks f h = f h
  exposed_word n q s text k (Faults fault) j a e asks f h = f h

  exposed_at : (n : ℕ) (p : Plain σ) (j a : ℕ) → after r entry n ≡ p → (Exposed (events_after r entry n) j a → ExposedLoop r entry j a) → Exposed (noted_of r p (events_after r entry n)) j a → ExposedLoop r entry j a
  exposed_at n (Going q s text k) j a e f h = exposed_word n q s text k (r.ask q) j a e refl f h
  exposed_at n (Over x s text k) j a e f h = f h

  pub exposed_is : (n j a : ℕ) → Exposed (events_after r entry n) j a → ExposedLoop r entry j a
  exposed_is zero j a h = absurd h
  exposed_is (suc n) j a h = exposed_at n (after r entry n) j a refl (exposed_is n j a) h

  -- ---- and of a region that is over they tell it all

  over_step : (p : Plain σ) → IsOver p → IsOver (step r p)
  over_step (Going q s text k) h = absurd h
  over_step (Over e s text k) h = h

  pub over_later : (m n : ℕ) → n ≤ m → IsOver (after r entry n) → IsOver (after r entry m)
  over_later zero n le h = let e : n ≡ 0 = omega arith in subst (λ k. IsOver (after r entry k)) e h
  over_later (suc m) n le h =
      elim (same_or_not n (suc m)) [
        | inl e ↦ subst (λ k. IsOver (after r entry k)) e h
        | inr d ↦ let le' : n ≤ m = omega arith in subst IsOver (sym (after_next m)) (over_step (after r entry m) (over_later m n le' h))
      ]

  -- and nothing more is told of it
  over_tells : (p : Plain σ) (es : List Event) → IsOver p → noted_of r p es ≡ es
  over_tells (Going q s text k) es h = absurd h
  over_tells (Over e s text k) es h = refl

  pub told_still : (m n : ℕ) → n ≤ m → IsOver (after r entry n) → events_after r entry m ≡ events_after r entry n
  told_still zero n le h = let e : n ≡ 0 = omega arith in ap (λ k. events_after r entry k) (sym e)
  told_still (suc m) n le h =
      elim (same_or_not n (suc m)) [
        | inl e ↦ ap (λ k. events_after r entry k) (sym e)
        | inr d ↦ let le' : n ≤ m = omega arith in over_tells (after r entry m) (events_after r entry m) (over_later m n le' h) ∙ told_still m n le' h
      ]

  over_does : (p : Plain σ) (k : ℕ) → IsOver p → k + one_of p ≡ k
  over_does (Going q s text j) k h = absurd h
  over_does (Over e s text j) k h = omega arith

  pub done_still : (m n : ℕ) → n ≤ m → IsOver (after r entry n) → words_done r entry m ≡ words_done r entry n
  done_still zero n le h = let e : n ≡ 0 = omega arith in ap (λ k. words_done r entry k) (sym e)
  done_still (suc m) n le h =
      elim (same_or_not n (suc m)) [
        | inl e ↦ ap (λ k. words_done r entry k) (sym e)
        | inr d ↦ let le' : n ≤ m = omega arith in over_does (after r entry m) (words_done r entry m) (over_later m n le' h) ∙ done_still m n le' h
      ]

  going_does : (p : Plain σ) (k : ℕ) → (IsOver p → ⊥) → k + one_of p ≡ suc k
  going_does (Going q s text j) k h = omega arith
  going_does (Over e s text j) k h = absurd (h tt)

  -- all words of a region that isn't over before them are its own
  pub all_done : (n : ℕ) → ((k : ℕ) → k < n → IsOver (after r entry k) → ⊥) → words_done r entry n ≡ n
  all_done zero f = refl
  all_done (suc n) f =
      let fewer : (k : ℕ) → k < n → IsOver (after r entry k) → ⊥ = λ k lt. let more : k < suc n = omega arith in f k more in
      let last : n < suc n = omega arith in
      going_does (after r entry n) (words_done r entry n) (f n last) ∙ ap (λ k. suc k) (all_done n fewer)

  -- a word of the region comes before its end
  sooner : (m n : ℕ) (q : σ) (s : Store) (text : List ℕ) (k : ℕ) → after r entry m ≡ Going q s text k → IsOver (after r entry n) → suc m ≤ n
  sooner m n q s text k e over =
      let no : n ≤ m → ⊥ = λ le. subst IsOver e (over_later m n le over) in
      omega (arith, no)

  wrote_of : (p : Plain σ) (es : List Event) (i a : ℕ) → Wrote es i a → Wrote (noted_of r p es) i a
  wrote_of (Going q s text k) es i a h = wrote_noted (r.ask q) es i a h
  wrote_of (Over e s text k) es i a h = h

  exposed_of : (p : Plain σ) (es : List Event) (j a : ℕ) → Exposed es j a → Exposed (noted_of r p es) j a
  exposed_of (Going q s text k) es j a h = exposed_noted (r.ask q) es j a h
  exposed_of (Over e s text k) es j a h = h

  wrote_later : (m n i a : ℕ) → n ≤ m → Wrote (events_after r entry n) i a → Wrote (events_after r entry m) i a
  wrote_later zero n i a le h = let e : n ≡ 0 = omega arith in subst (λ k. Wrote (events_after r entry k) i a) e h
  wrote_later (suc m) n i a le h =
      elim (same_or_not n (suc m)) [
        | inl e ↦ subst (λ k. Wrote (events_after r entry k) i a) e h
        | inr d ↦ let le' : n ≤ m = omega arith in wrote_of (after r entry m) (events_after r entry m) i a (wrote_later m n i a le' h)
      ]

  exposed_later : (m n j a : ℕ) → n ≤ m → Exposed (events_after r entry n) j a → Exposed (events_after r entry m) j a
  exposed_later zero n j a le h = let e : n ≡ 0 = omega arith in subst (λ k. Exposed (events_after r entry k) j a) e h
  exposed_later (suc m) n j a le h =
      elim (same_or_not n (suc m)) [
        | inl e ↦ subst (λ k. Exposed (events_after r entry k) j a) e h
        | inr d ↦ let le' : n ≤ m = omega arith in exposed_of (after r entry m) (events_after r entry m) j a (exposed_later m n j a le' h)
      ]

  wrote_all : (n i a : ℕ) (v : ℤ) → IsOver (after r entry n) → WroteLoop r entry i a v → Wrote (events_after r entry n) i a
  wrote_all n i a v over w =
      let m = w.4.0 in
      let e : after r entry m ≡ Going w.0 w.1 w.2 i = w.4.1 in
      let turn = turn_at m w.0 w.1 w.2 i e in
      let es = events_after r entry m in
      let one : Wrote (noted (r.ask w.0) es) i a = subst (λ k. Wrote (noted k es) i a) (sym w.5) (inl (turn, refl)) in
      let here : Wrote (events_after r entry (suc m)) i a = subst (λ p. Wrote (noted_of r p es) i a) (sym e) one in
      wrote_later n (suc m) i a (sooner m n w.0 w.1 w.2 i e over) here

  exposed_all : (n j a : ℕ) → IsOver (after r entry n) → ExposedLoop r entry j a → Exposed (events_after r entry n) j a
  exposed_all n j a over x =
      let m = x.5.0 in
      let is : seen m ≡ in_turn j x.0 x.1 x.2 x.3 = x.5.1 in
      let e : after r entry m ≡ Going x.0 x.1 x.2 j = sym (seen_plain m) ∙ ap (λ (w : Watched σ). w.plain) is in
      let turn = turn_at m x.0 x.1 x.2 j e in
      let es = events_after r entry m in
      let none : look (seen m).writes a ≡ None = ap (λ (w : Watched σ). look w.writes a) is ∙ x.7 in
      let one : Exposed (noted (r.ask x.0) es) j a = subst (λ k. Exposed (noted k es) j a) (sym x.6) (inl (turn, refl, (writes_same m a).0 none)) in
      let here : Exposed (events_after r entry (suc m)) j a = subst (λ p. Exposed (noted_of r p es) j a) (sym e) one in
      exposed_later n (suc m) j a (sooner m n x.0 x.1 x.2 j e over) here

  -- ---- independence

  pub events_are : (n : ℕ) → IsIndependentLoop r entry → IsIndependent (events_after r entry n)
  events_are n f = λ i j a lt w x. let o = wrote_is n i a w in f i j a o.0 lt o.1 (exposed_is n j a x)

  pub loop_is : (n : ℕ) → IsOver (after r entry n) → IsIndependent (events_after r entry n) → IsIndependentLoop r entry
  loop_is n over f = λ i j a v lt w x. f i j a lt (wrote_all n i a v over w) (exposed_all n j a over x)

  pub events_tell : (n : ℕ) → IsOver (after r entry n) → IsIndependent (events_after r entry n) ↔ IsIndependentLoop r entry
  events_tell n over = (loop_is n over, events_are n)
