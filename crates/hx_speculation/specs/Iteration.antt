-- One iteration: what it does next, whatever the store, and what it makes of a store.
use Rattle.std.specs.Prelude.{◌≡◌, ℕ, zero, suc, ℤ, List, Some, ◌==◌, if◌then◌else◌}
use Rattle.hx_tree.specs.declared.outcome.Fault.{Fault}
use Rattle.hx_marks.specs.Table.{Table, look}
use Rattle.hx_buffer.specs.Overlay.{or_else}

-- a value for each word
abbrev pub Store : Type 0
Store = ℕ → ℤ

abbrev pub write : Store → ℕ → ℤ → Store
write s a v b = if b == a then v else s b

-- the store with a table laid over it
abbrev pub overlay : Table → Store → Store
overlay t s a = or_else (look t a) (s a)

-- what the table says is so in the store
abbrev pub Agrees : Store → Table → Type 0
Agrees s t = (a : ℕ) (v : ℤ) → look t a ≡ Some v → s a ≡ v

-- what an iteration asks for by its next word, and how it goes on once it has that
pub data Ask (σ : Type 0) : Type 0 where
  Goes : (next : σ) → Ask σ
  Loads : (word : ℕ) → (next : ℤ → σ) → Ask σ
  Stores : (word : ℕ) → (value : ℤ) → (next : σ) → Ask σ
  Prints : (bytes : List ℕ) → (next : σ) → (full : Fault) → Ask σ
  TurnEnds : Ask σ
  Leaves : Ask σ
  Returns : (value : ℤ) → Ask σ
  Faults : (fault : Fault) → Ask σ

-- the table has the word
abbrev pub IsIn : Table → ℕ → Type 0
IsIn t a = (v : ℤ) × (look t a ≡ Some v)

-- one word that is no print, no fault and no end of the iteration leads to this state and this store; it writes no word but
-- those of the table
abbrev pub Once : {σ : Type 0} → Table → Ask σ → Store → σ → Store → Type 0
Once w (Goes q) s q' s' = (q' ≡ q) × (s' ≡ s)
Once w (Loads a q) s q' s' = (q' ≡ q (s a)) × (s' ≡ s)
Once w (Stores a v q) s q' s' = (q' ≡ q) × (s' ≡ write s a v) × IsIn w a
Once w (Prints bytes q full) s q' s' = ⊥
Once w TurnEnds s q' s' = ⊥
Once w Leaves s q' s' = ⊥
Once w (Returns v) s q' s' = ⊥
Once w (Faults fault) s q' s' = ⊥

-- n such words
abbrev pub Went : {σ : Type 0} → (σ → Ask σ) → Table → ℕ → σ → Store → σ → Store → Type 0
Went ask w zero q s q' s' = (q ≡ q') × (s ≡ s')
Went {σ} ask w (suc n) q s q' s' = (m : σ) × (u : Store) × Went ask w n q s m u × Once w (ask m) u q' s'
