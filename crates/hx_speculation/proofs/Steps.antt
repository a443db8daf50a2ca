-- Runs of the plain region, and the words of one iteration as a part of one.
use Rattle.std.proofs.Common.{◌≡◌, ℕ, zero, suc, ℤ, List, [], refl, ap, ◌∙◌, subst}
use Rattle.hx_marks.specs.Table.{Table, put}
use Rattle.hx_speculation.specs.Iteration.{Store, Ask, Goes, Loads, Stores, Prints, TurnEnds, Leaves, Returns, Faults, Once, Went}
use Rattle.hx_speculation.specs.Region.{Region, Plain, Going, does, step, steps, Comes}
use Rattle.hx_speculation.proofs.Stores.{is_in_put}

steps_then : {σ : Type 0} (r : Region σ) (m n : ℕ) (p : Plain σ) → (k : ℕ) × (steps r k p ≡ steps r n (steps r m p))
steps_then r zero n p = (n, refl)
steps_then r (suc m) n p = let k = steps_then r m n (step r p) in (suc k.0, k.1)

-- what the plain region comes to from where it has come
pub comes_on : {σ : Type 0} (r : Region σ) (entry : Store) (p q : Plain σ) (n : ℕ) → Comes r entry p → steps r n p ≡ q → Comes r entry q
comes_on r entry p q n c e =
    let k = steps_then r c.0 n (Going (r.opening 0) entry [] 0) in
    (k.0, k.1 ∙ ap (steps r n) c.1 ∙ e)

-- one word of an iteration is one of the plain region
pub once_does : {σ : Type 0} (r : Region σ) (w : Table) (ask : Ask σ) (s : Store) (q : σ) (u : Store) (text : List ℕ) (k : ℕ) → Once w ask s q u → does r ask s text k ≡ Going q u text k
once_does r w (Goes n) s q u text k h = cc (h.0, h.1)
once_does r w (Loads a n) s q u text k h = cc (h.0, h.1)
once_does r w (Stores a v n) s q u text k h = cc (h.0, h.1)
once_does r w (Prints bytes n full) s q u text k h = absurd h
once_does r w TurnEnds s q u text k h = absurd h
once_does r w Leaves s q u text k h = absurd h
once_does r w (Returns v) s q u text k h = absurd h
once_does r w (Faults fault) s q u text k h = absurd h

-- and so are n
pub went_comes : {σ : Type 0} (r : Region σ) (entry : Store) (w : Table) (n : ℕ) (q : σ) (s : Store) (m : σ) (u : Store) (text : List ℕ) (k : ℕ) → Went r.ask w n q s m u → Comes r entry (Going q s text k) → Comes r entry (Going m u text k)
went_comes r entry w zero q s m u text k h c = subst (λ x. Comes r entry (Going x u text k)) h.0 (subst (λ x. Comes r entry (Going q x text k)) h.1 c)
went_comes r entry w (suc n) q s m u text k h c =
    let before = went_comes r entry w n q s h.0 h.1 text k h.2 c in
    comes_on r entry _ _ 1 before (once_does r w (r.ask h.0) h.1 m u text k h.3)

once_put : {σ : Type 0} (w : Table) (a : ℕ) (v : ℤ) (ask : Ask σ) (s : Store) (q : σ) (u : Store) → Once w ask s q u → Once (put w a v) ask s q u
once_put w a v (Goes n) s q u h = h
once_put w a v (Loads b n) s q u h = h
once_put w a v (Stores b x n) s q u h = (h.0, h.1, is_in_put w a v b h.2)
once_put w a v (Prints bytes n full) s q u h = h
once_put w a v TurnEnds s q u h = h
once_put w a v Leaves s q u h = h
once_put w a v (Returns x) s q u h = h
once_put w a v (Faults fault) s q u h = h

-- more words may be written
pub went_put : {σ : Type 0} (ask : σ → Ask σ) (w : Table) (a : ℕ) (v : ℤ) (n : ℕ) (q : σ) (s : Store) (m : σ) (u : Store) → Went ask w n q s m u → Went ask (put w a v) n q s m u
went_put ask w a v zero q s m u h = h
went_put ask w a v (suc n) q s m u h = (h.0, h.1, went_put ask w a v n q s h.0 h.1 h.2, once_put w a v (ask h.0) h.1 m u h.3)
