-- What the turns of a loop read and write, in order, and when they are independent.
use Rattle.std.specs.Prelude.{◌≡◌, ◌⊎◌, ◌<◌, ℕ, zero, suc, List, [], ◌∷◌}

pub data Event : Type 0 where
  Read : (word : ℕ) → Event
  Write : (word : ℕ) → Event
  TurnEnd : Event

-- Events stand in a list, the latest first.

-- the number of the turn that is on: so many are whole
abbrev pub turn_of : List Event → ℕ
turn_of [] = 0
turn_of (Read a ∷ es) = turn_of es
turn_of (Write a ∷ es) = turn_of es
turn_of (TurnEnd ∷ es) = suc (turn_of es)

-- the turn that is on has written the word
abbrev pub HasWritten : List Event → ℕ → Type 0
HasWritten [] a = ⊥
HasWritten (Read b ∷ es) a = HasWritten es a
HasWritten (Write b ∷ es) a = (b ≡ a) ⊎ HasWritten es a
HasWritten (TurnEnd ∷ es) a = ⊥

-- turn j comes to a read of a word that it hasn't written
abbrev pub Exposed : List Event → ℕ → ℕ → Type 0
Exposed [] j a = ⊥
Exposed (Read b ∷ es) j a = ((turn_of es ≡ j) × (b ≡ a) × (HasWritten es a → ⊥)) ⊎ Exposed es j a
Exposed (Write b ∷ es) j a = Exposed es j a
Exposed (TurnEnd ∷ es) j a = Exposed es j a

-- turn i comes to a write of the word
abbrev pub Wrote : List Event → ℕ → ℕ → Type 0
Wrote [] i a = ⊥
Wrote (Read b ∷ es) i a = Wrote es i a
Wrote (Write b ∷ es) i a = ((turn_of es ≡ i) × (b ≡ a)) ⊎ Wrote es i a
Wrote (TurnEnd ∷ es) i a = Wrote es i a

-- no turn reads, before it writes it, a word that an earlier one wrote
abbrev pub IsIndependent : List Event → Type 0
IsIndependent es = (i j a : ℕ) → i < j → Wrote es i a → Exposed es j a → ⊥

-- turn j reads, before it writes it, a word that turn i wrote, an earlier one
abbrev pub Needs : List Event → ℕ → ℕ → ℕ → Type 0
Needs es i j a = (i < j) × Wrote es i a × Exposed es j a

-- turn j needs one of these words
abbrev pub NeedsOne : List Event → (ℕ → Type 0) → ℕ → Type 0
NeedsOne es P j = (i : ℕ) × (a : ℕ) × P a × Needs es i j a

-- of the numbers below n so many have the property
abbrev pub HowMany : (ℕ → Type 0) → ℕ → ℕ → Type 0
HowMany Q zero k = k ≡ 0
HowMany Q (suc n) k = (Q n × (m : ℕ) × (k ≡ suc m) × HowMany Q n m) ⊎ ((Q n → ⊥) × HowMany Q n k)

-- how often a word was read, and one was written
abbrev pub reads_in : List Event → ℕ
reads_in [] = 0
reads_in (Read a ∷ es) = suc (reads_in es)
reads_in (Write a ∷ es) = reads_in es
reads_in (TurnEnd ∷ es) = reads_in es

abbrev pub writes_in : List Event → ℕ
writes_in [] = 0
writes_in (Read a ∷ es) = writes_in es
writes_in (Write a ∷ es) = suc (writes_in es)
writes_in (TurnEnd ∷ es) = writes_in es
