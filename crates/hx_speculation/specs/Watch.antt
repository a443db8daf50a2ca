-- The plain region, watched: what a turn reads before it writes it, and what it writes.
use Rattle.std.specs.Prelude.{◌≡◌, ℕ, zero, suc, ◌<◌, ℤ, List, [], None}
use Rattle.hx_marks.specs.Table.{Table, look, put}
use Rattle.hx_speculation.specs.Iteration.{Store, Ask, Loads, Stores, TurnEnds}
use Rattle.hx_speculation.specs.Region.{Region, Plain, Going, Over, step, Comes}

-- a region, and what its present turn has written so far
pub record Watched (σ : Type 0) : Type 0 where
  pub plain : Plain σ
  pub writes : Table

-- what the turn has written, one word later
abbrev pub noted : {σ : Type 0} → Ask σ → Table → Table
noted (Stores a v q) writes = put writes a v
noted TurnEnds writes = []
noted _ writes = writes

abbrev pub noted_of : {σ : Type 0} → Region σ → Plain σ → Table → Table
noted_of r (Going q s text k) writes = noted (r.ask q) writes
noted_of r (Over e s text k) writes = writes

-- one word, watched
abbrev pub watch : {σ : Type 0} → Region σ → Watched σ → Watched σ
watch r w = record { plain = step r w.plain; writes = noted_of r w.plain w.writes }

abbrev pub watched : {σ : Type 0} → Region σ → ℕ → Watched σ → Watched σ
watched r zero w = w
watched r (suc n) w = watched r n (watch r w)

-- in turn k, which has written this
abbrev pub in_turn : {σ : Type 0} → ℕ → σ → Store → List ℕ → Table → Watched σ
in_turn k q s text writes = record { plain = Going q s text k; writes = writes }

-- the watched region from its entry comes to this
abbrev pub ComesWatched : {σ : Type 0} → Region σ → Store → Watched σ → Type 0
ComesWatched r entry w = (n : ℕ) × (watched r n (in_turn 0 (r.opening 0) entry [] []) ≡ w)

-- the plain region begins turn j
abbrev pub Begins : {σ : Type 0} → Region σ → Store → ℕ → Type 0
Begins {σ} r entry j = (q : σ) × (s : Store) × (text : List ℕ) × Comes r entry (Going q s text j)

-- turn j comes to a load of a word that it hasn't written
abbrev pub Exposed : {σ : Type 0} → Region σ → Store → ℕ → ℕ → Type 0
Exposed {σ} r entry j a =
    (q : σ) × (s : Store) × (text : List ℕ) × (writes : Table) × (next : ℤ → σ) × ComesWatched r entry (in_turn j q s text writes) × (r.ask q ≡ Loads a next) × (look writes a ≡ None)

-- turn j comes to a store of v in the word
abbrev pub Wrote : {σ : Type 0} → Region σ → Store → ℕ → ℕ → ℤ → Type 0
Wrote {σ} r entry j a v = (q : σ) × (s : Store) × (text : List ℕ) × (next : σ) × Comes r entry (Going q s text j) × (r.ask q ≡ Stores a v next)

-- no turn reads, before it writes it, a word that an earlier one wrote
abbrev pub IsIndependent : {σ : Type 0} → Region σ → Store → Type 0
IsIndependent r entry = (i j a : ℕ) (v : ℤ) → i < j → Wrote r entry i a v → Exposed r entry j a → ⊥

-- what earlier turns write in a word that a turn reads before it writes it is what the entry has there
abbrev pub IsQuiet : {σ : Type 0} → Region σ → Store → Type 0
IsQuiet r entry = (i j a : ℕ) (v : ℤ) → i < j → Wrote r entry i a v → Exposed r entry j a → v ≡ entry a
