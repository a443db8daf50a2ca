-- What is known of a watched region where it has come.
use Rattle.std.proofs.Common.{◌≡◌, ◌≢◌, ℕ, zero, suc, ◌<◌, ◌≤◌, ℤ, ◌⊎◌, inl, inr, List, [], ◌++◌, refl, sym, ap, ◌∙◌, subst, arith}
use Rattle.hx_code.specs.declared.word.Exit.TheVariants.{Faulted}
use Rattle.hx_marks.specs.Table.{Table, look, put}
use Rattle.hx_marks.proofs.Tables.{look_put_own}
use Rattle.hx_speculation.specs.Iteration.{Store, write, Ask, Goes, Loads, Stores, Prints, TurnEnds, Leaves, Returns, Faults, IsIn}
use Rattle.hx_speculation.specs.Region.{Region, Plain, Going, Over, has_room_for, does, steps, Comes}
use Rattle.hx_speculation.specs.Watch.{Watched, noted, watch, watched, in_turn, ComesWatched, Begins, Wrote}
use Rattle.hx_speculation.proofs.Stores.{if_cases, same_or_not, write_same, write_other, is_in_put}

module _ {σ : Type 0} (r : Region σ) (entry : Store) where
  watched_then : (m n : ℕ) (w : Watched σ) → (k : ℕ) × (watched r k w ≡ watched r n (watched r m w))
  watched_then zero n w = (n, refl)
  watched_then (suc m) n w = let k = watched_then m n (watch r w) in (suc k.0, k.1)

  -- what the watched region comes to from where it has come
  pub watched_on : (w u : Watched σ) (n : ℕ) → ComesWatched r entry w → watched r n w ≡ u → ComesWatched r entry u
  watched_on w u n c e =
      let k = watched_then c.0 n (in_turn 0 (r.opening 0) entry [] []) in
      (k.0, k.1 ∙ ap (watched r n) c.1 ∙ e)

  watched_plain : (n : ℕ) (w : Watched σ) → (watched r n w).plain ≡ steps r n w.plain
  watched_plain zero w = refl
  watched_plain (suc n) w = watched_plain n (watch r w)

  -- where the plain region comes, the watched one comes too
  pub comes_watched : (k : ℕ) (q : σ) (s : Store) (text : List ℕ) → Comes r entry (Going q s text k) → (writes : Table) × ComesWatched r entry (in_turn k q s text writes)
  comes_watched k q s text c =
      let w = watched r c.0 (in_turn 0 (r.opening 0) entry [] []) in
      let e : w.plain ≡ Going q s text k = watched_plain c.0 (in_turn 0 (r.opening 0) entry [] []) ∙ c.1 in
      (w.writes, (c.0, ap {B = Watched σ} (λ p. record { plain = p; writes = w.writes }) e))

  pub watched_comes : (k : ℕ) (q : σ) (s : Store) (text : List ℕ) (writes : Table) → ComesWatched r entry (in_turn k q s text writes) → Comes r entry (Going q s text k)
  watched_comes k q s text writes c = (c.0, sym (watched_plain c.0 (in_turn 0 (r.opening 0) entry [] [])) ∙ ap (λ (w : Watched σ). w.plain) c.1)

  -- turn k at its beginning
  abbrev pub AtOpening : ℕ → Type 0
  AtOpening k = (s : Store) × (text : List ℕ) × ComesWatched r entry (in_turn k (r.opening k) s text [])

  -- a word is the entry's, or an earlier turn wrote it, or this one did
  abbrev pub Source : Store → ℕ → Table → ℕ → Type 0
  Source s k writes a = (s a ≡ entry a) ⊎ (((i : ℕ) × (i < k) × Wrote r entry i a (s a)) ⊎ (Wrote r entry k a (s a) × IsIn writes a))

  -- in turn k: how it began, that all before it began, and where each word comes from
  pub record Knows (s : Store) (k : ℕ) (writes : Table) : Type 0 where
    pub opening : AtOpening k
    pub earlier : (i : ℕ) → i ≤ k → Begins r entry i
    pub source : (a : ℕ) → Source s k writes a

  abbrev KnowsPlain : Plain σ → Table → Type 0
  KnowsPlain (Going q s text k) writes = Knows s k writes
  KnowsPlain (Over e s text k) writes = Unit {0}

  stored_source : (s : Store) (k a : ℕ) (v : ℤ) (b : ℕ) (writes : Table) → Wrote r entry k a v → Source s k writes b → (b ≡ a) ⊎ (b ≢ a) → Source (write s a v) k (put writes a v) b
  stored_source s k a v b writes w h (inl e) =
      let now : v ≡ write s a v b = sym (ap (write s a v) e ∙ write_same s a v) in
      let there = subst (Wrote r entry k a) now w in
      inr (inr (subst (λ c. Wrote r entry k c (write s a v b)) (sym e) there, (v, ap (look (put writes a v)) e ∙ look_put_own writes a v)))
  stored_source s k a v b writes w (inl h) (inr n) = inl (write_other s a v b n ∙ h)
  stored_source s k a v b writes w (inr (inl h)) (inr n) = inr (inl (h.0, h.1, subst (Wrote r entry h.0 b) (sym (write_other s a v b n)) h.2))
  stored_source s k a v b writes w (inr (inr h)) (inr n) = inr (inr (subst (Wrote r entry k b) (sym (write_other s a v b n)) h.0, is_in_put writes a v b h.1))

  turn_source : (s : Store) (k a : ℕ) (writes : Table) → Source s k writes a → Source s (suc k) [] a
  turn_source s k a writes (inl h) = inl h
  turn_source s k a writes (inr (inl h)) = inr (inl (h.0, omega (arith, h.1), h.2))
  turn_source s k a writes (inr (inr h)) = inr (inl (k, omega arith, h.0))

  turn_earlier : (q : σ) (s : Store) (text : List ℕ) (k : ℕ) → Comes r entry (Going q s text (suc k)) → ((i : ℕ) → i ≤ k → Begins r entry i) → (i : ℕ) → i ≤ suc k → (i ≡ suc k) ⊎ (i ≢ suc k) → Begins r entry i
  turn_earlier q s text k c h i le (inl e) = subst (Begins r entry) (sym e) (q, s, text, c)
  turn_earlier q s text k c h i le (inr n) = h i (omega arith)

  knows_word : (ask : Ask σ) (q : σ) (s : Store) (text : List ℕ) (k : ℕ) (writes : Table) → r.ask q ≡ ask → ComesWatched r entry (in_turn k q s text writes) → ComesWatched r entry (record { plain = does r ask s text k; writes = noted ask writes }) → Knows s k writes → KnowsPlain (does r ask s text k) (noted ask writes)
  knows_word (Goes n) q s text k writes e c d h = h
  knows_word (Loads a n) q s text k writes e c d h = h
  knows_word (Stores a v n) q s text k writes e c d h =
      let w : Wrote r entry k a v = (q, s, text, n, watched_comes k q s text writes c, e) in
      record { opening = h.opening; earlier = h.earlier; source = λ b. stored_source s k a v b writes w (h.source b) (same_or_not b a) }
  knows_word (Prints bytes n full) q s text k writes e c d h =
      if_cases (λ p. KnowsPlain p writes) (has_room_for r text bytes) (Going n s (text ++ bytes) k) (Over (Faulted full) s text k) (λ _. h) (λ _. tt)
  knows_word TurnEnds q s text k writes e c d h =
      record {
        opening = (s, text, d);
        earlier = λ i le. turn_earlier (r.opening (suc k)) s text k (watched_comes (suc k) (r.opening (suc k)) s text [] d) h.earlier i le (same_or_not i (suc k));
        source = λ a. turn_source s k a writes (h.source a);
      }
  knows_word Leaves q s text k writes e c d h = tt
  knows_word (Returns v) q s text k writes e c d h = tt
  knows_word (Faults fault) q s text k writes e c d h = tt

  knows_words : (n : ℕ) (p : Plain σ) (writes : Table) → ComesWatched r entry (record { plain = p; writes = writes }) → KnowsPlain p writes → KnowsPlain (watched r n (record { plain = p; writes = writes })).plain (watched r n (record { plain = p; writes = writes })).writes
  knows_words zero p writes c h = h
  knows_words (suc n) (Going q s text k) writes c h =
      let d = watched_on (in_turn k q s text writes) (watch r (in_turn k q s text writes)) 1 c refl in
      knows_words n (does r (r.ask q) s text k) (noted (r.ask q) writes) d (knows_word (r.ask q) q s text k writes refl c d h)
  knows_words (suc n) (Over e s text k) writes c h = knows_words n (Over e s text k) writes (watched_on _ _ 1 c refl) h

  none_before : (i : ℕ) → i ≤ 0 → Begins r entry i
  none_before i le =
      let e : 0 ≡ i = omega arith in
      subst (Begins r entry) e (r.opening 0, entry, [], (0, refl))

  pub knows : (k : ℕ) (q : σ) (s : Store) (text : List ℕ) (writes : Table) → ComesWatched r entry (in_turn k q s text writes) → Knows s k writes
  knows k q s text writes c =
      let h = knows_words c.0 (Going (r.opening 0) entry [] 0) [] (0, refl) (record { opening = (entry, [], (0, refl)); earlier = none_before; source = λ a. inl refl }) in
      subst (λ (w : Watched σ). KnowsPlain w.plain w.writes) c.1 h

  -- a turn begins only where all earlier ones do
  pub begins_before : (i j : ℕ) → i ≤ j → Begins r entry j → Begins r entry i
  begins_before i j le b =
      let c = comes_watched j b.0 b.1 b.2 b.3 in
      (knows j b.0 b.1 b.2 c.0 c.1).earlier i le
