-- What a tracked frame has done, and what it asks for next, the plain region's turn does.
use Rattle.std.proofs.Common.{◌≡◌, ◌≢◌, ℕ, zero, suc, ℤ, ◌⊎◌, inl, inr, List, [], Some, None, refl, sym, ap, ◌∙◌, subst}
use Rattle.hx_marks.specs.Table.{Table, look, put}
use Rattle.hx_marks.proofs.Tables.{look_put_other}
use Rattle.hx_speculation.specs.Iteration.{Store, overlay, Agrees, Ask, Goes, Loads, Stores, Prints, TurnEnds, Leaves, Returns, Faults, Once, Went}
use Rattle.hx_speculation.specs.Region.{Region}
use Rattle.hx_speculation.specs.Frame.{Frame, IsTracked}
use Rattle.hx_speculation.specs.Watch.{Watched, noted, in_turn, ComesWatched, Exposed, Wrote}
use Rattle.hx_speculation.proofs.Stores.{same_or_not}
use Rattle.hx_speculation.proofs.Steps.{once_does}
use Rattle.hx_speculation.proofs.Watch.{watched_on, watched_comes}

-- what isn't in the table t hasn't been written since
abbrev Spares : Table → Table → Table → Type 0
Spares t before after = (b : ℕ) → look t b ≡ None → look before b ≡ None → look after b ≡ None

put_spares : (t : Table) (a : ℕ) (v w : ℤ) (writes : Table) (b : ℕ) → look t a ≡ Some w → look t b ≡ None → look writes b ≡ None → (b ≡ a) ⊎ (b ≢ a) → look (put writes a v) b ≡ None
put_spares t a v w writes b h n m (inl e) = let gone : look t a ≡ None = ap (look t) (sym e) ∙ n in absurd (cc)
put_spares t a v w writes b h n m (inr d) = look_put_other writes a b v d ∙ m

once_spares : {σ : Type 0} (t : Table) (ask : Ask σ) (s : Store) (q : σ) (u : Store) (writes : Table) → Once t ask s q u → Spares t writes (noted ask writes)
once_spares t (Goes n) s q u writes h b x y = y
once_spares t (Loads a n) s q u writes h b x y = y
once_spares t (Stores a v n) s q u writes h b x y = put_spares t a v h.2.0 writes b h.2.1 x y (same_or_not b a)
once_spares t (Prints bytes n full) s q u writes h b x y = absurd h
once_spares t TurnEnds s q u writes h b x y = absurd h
once_spares t Leaves s q u writes h b x y = absurd h
once_spares t (Returns v) s q u writes h b x y = absurd h
once_spares t (Faults fault) s q u writes h b x y = absurd h

module _ {σ : Type 0} (r : Region σ) (entry : Store) where
  once_watched : (t : Table) (k : ℕ) (q : σ) (s : Store) (m : σ) (u : Store) (text : List ℕ) (writes : Table) → Once t (r.ask q) s m u → ComesWatched r entry (in_turn k q s text writes) → ComesWatched r entry (in_turn k m u text (noted (r.ask q) writes))
  once_watched t k q s m u text writes h c =
      watched_on r entry _ _ 1 c (ap {B = Watched σ} (λ p. record { plain = p; writes = noted (r.ask q) writes }) (once_does r t (r.ask q) s m u text k h))

  -- the words of an iteration are words of the watched region, which write nothing but words of the table
  went_watched : (t : Table) (n k : ℕ) (q : σ) (s : Store) (m : σ) (u : Store) (text : List ℕ) (writes : Table) → Went r.ask t n q s m u → ComesWatched r entry (in_turn k q s text writes) → (after : Table) × ComesWatched r entry (in_turn k m u text after) × Spares t writes after
  went_watched t zero k q s m u text writes h c =
      (writes, subst (λ x. ComesWatched r entry (in_turn k x u text writes)) h.0 (subst (λ x. ComesWatched r entry (in_turn k q x text writes)) h.1 c), λ b x y. y)
  went_watched t (suc n) k q s m u text writes h c =
      let before = went_watched t n k q s h.0 h.1 text writes h.2 c in
      (noted (r.ask h.0) before.0, once_watched t k h.0 h.1 m u text before.0 h.3 before.1, λ b x y. once_spares t (r.ask h.0) h.1 m u before.0 h.3 b x (before.2 b x y))

  -- a load that the frame can't answer itself is of an exposed word
  pub exposed_here : (f : Frame σ) (a j : ℕ) (next : ℤ → σ) (s : Store) (text : List ℕ) → IsTracked r.ask f → r.ask f.here ≡ Loads a next → look f.writes a ≡ None → ComesWatched r entry (in_turn j f.start s text []) → Agrees s f.marks → Exposed r entry j a
  exposed_here f a j next s text t e none c g =
      let by = t.by s g in
      let there = went_watched f.writes by.0 j f.start s f.here (overlay f.writes s) text [] by.1 c in
      (f.here, overlay f.writes s, text, there.0, next, there.1, e, there.2 a none refl)

  pub wrote_here : (f : Frame σ) (a j : ℕ) (v : ℤ) (next : σ) (s : Store) (text : List ℕ) (writes : Table) → IsTracked r.ask f → r.ask f.here ≡ Stores a v next → ComesWatched r entry (in_turn j f.start s text writes) → Agrees s f.marks → Wrote r entry j a v
  wrote_here f a j v next s text writes t e c g =
      let by = t.by s g in
      let there = went_watched f.writes by.0 j f.start s f.here (overlay f.writes s) text writes by.1 c in
      (f.here, overlay f.writes s, text, next, watched_comes r entry j f.here (overlay f.writes s) text there.0 there.1, e)
