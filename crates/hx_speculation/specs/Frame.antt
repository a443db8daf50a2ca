-- A frame: one attempt at an iteration, as a worker runs it by itself.
use Rattle.std.specs.Prelude.{◌≡◌, ℕ, zero, suc, ℤ, [], length, Option, Some, None, Bool, true, false, ◌&&◌, not, nat_le, is_some, if◌then◌else◌}
use Rattle.hx_marks.specs.Table.{Table, look, put}
use Rattle.hx_speculation.specs.Iteration.{Store, overlay, Agrees, Ask, Goes, Loads, Stores, Prints, TurnEnds, Leaves, Returns, Faults, Went}

-- what a frame stopped for, last: nothing, a word that it can't tell by itself, a write, the action that it waits with until it
-- is the head; or it found a table full, and waits for that without an action
pub data Need : Type 0 where
  Nothing : Need
  ForLoad : (word : ℕ) → Need
  ForStore : (word : ℕ) → (value : ℤ) → Need
  ForHead : Need
  Held : Need

pub record Frame (σ : Type 0) : Type 0 where
  pub worker : ℕ
  pub iteration : ℕ
  pub attempt : ℕ
  pub start : σ
  pub here : σ
  pub marks : Table  -- what it has read, and what it saw
  pub writes : Table  -- what it has written
  pub need : Need

-- over every store that agrees with the marks, words that print nothing and end nothing lead from the start to the present state,
-- leave that store with the writes laid over it, and write no other word
pub record IsTracked {σ : Type 0} (ask : σ → Ask σ) (f : Frame σ) : Type 0 where
  pub by : (s : Store) → Agrees s f.marks → (n : ℕ) × Went ask f.writes n f.start s f.here (overlay f.writes s)

-- it is a print, a fault or the end of the iteration
abbrev pub IsAction : {σ : Type 0} → Ask σ → Type 0
IsAction (Goes q) = ⊥
IsAction (Loads a q) = ⊥
IsAction (Stores a v q) = ⊥
IsAction (Prints bytes q full) = Unit {0}
IsAction TurnEnds = Unit {0}
IsAction Leaves = Unit {0}
IsAction (Returns v) = Unit {0}
IsAction (Faults fault) = Unit {0}

-- what a frame stopped for is what its state asks for, and it can't tell that by itself
abbrev pub IsNeeded : {σ : Type 0} → (σ → Ask σ) → Frame σ → Need → Type 0
IsNeeded ask f Nothing = Unit {0}
IsNeeded {σ} ask f (ForLoad a) = (q : ℤ → σ) × (ask f.here ≡ Loads a q) × (look f.writes a ≡ None) × (look f.marks a ≡ None)
IsNeeded {σ} ask f (ForStore a v) = (q : σ) × (ask f.here ≡ Stores a v q)
IsNeeded ask f ForHead = IsAction (ask f.here)
IsNeeded ask f Held = Unit {0}

-- what each call on a frame keeps
pub record IsTrue {σ : Type 0} (ask : σ → Ask σ) (f : Frame σ) : Type 0 where
  pub tracked : IsTracked ask f
  pub needed : IsNeeded ask f f.need

-- a frame that begins
abbrev pub begins : {σ : Type 0} → ℕ → ℕ → ℕ → σ → Frame σ
begins w j attempt q =
    record { worker = w; iteration = j; attempt = attempt; start = q; here = q; marks = []; writes = []; need = Nothing }

abbrev pub goes_to : {σ : Type 0} → σ → Frame σ → Frame σ
goes_to q f = record f { here = q; need = Nothing }

abbrev pub stops_for : {σ : Type 0} → Need → Frame σ → Frame σ
stops_for need f = record f { need = need }

-- a load: the frame's own write, then its mark
abbrev pub reads : {σ : Type 0} → Option ℤ → Option ℤ → ℕ → (ℤ → σ) → Frame σ → (Frame σ → Frame σ) → Frame σ
reads (Some v) mark a q f on = on (goes_to (q v) f)
reads None (Some v) a q f on = on (goes_to (q v) f)
reads None None a q f on = stops_for (ForLoad a) f

-- one word, if the frame can do it by itself, and then the others
abbrev pub word : {σ : Type 0} → Ask σ → Frame σ → (Frame σ → Frame σ) → Frame σ
word (Goes q) f on = on (goes_to q f)
word (Loads a q) f on = reads (look f.writes a) (look f.marks a) a q f on
word (Stores a v q) f on = stops_for (ForStore a v) f
word (Prints bytes q full) f on = stops_for ForHead f
word TurnEnds f on = stops_for ForHead f
word Leaves f on = stops_for ForHead f
word (Returns v) f on = stops_for ForHead f
word (Faults fault) f on = stops_for ForHead f

-- at most n words
abbrev pub words : {σ : Type 0} → (σ → Ask σ) → ℕ → Frame σ → Frame σ
words ask zero f = stops_for Nothing f
words ask (suc n) f = word (ask f.here) f (words ask n)

abbrev pub is_held : Need → Bool
is_held Held = true
is_held _ = false

-- a stretch: words up to a limit, and none for a frame that waits after a full table
abbrev pub stretch : {σ : Type 0} → (σ → Ask σ) → ℕ → Frame σ → Frame σ
stretch ask limit f = if is_held f.need then f else words ask limit f

-- no room for this word
abbrev pub is_full : ℕ → Table → ℕ → Bool
is_full capacity t a = not (is_some (look t a)) && nat_le capacity (length t)

-- the word that it asked for, which it marks
abbrev pub loads : {σ : Type 0} → Ask σ → ℕ → ℤ → Frame σ → Frame σ
loads (Loads b q) a v f = record f { here = q v; marks = put f.marks a v; need = Nothing }
loads _ a v f = f

abbrev pub loaded_for : {σ : Type 0} → (σ → Ask σ) → ℕ → ℤ → Frame σ → Need → Frame σ
loaded_for ask capacity v f (ForLoad a) = if is_full capacity f.marks a then f else loads (ask f.here) a v f
loaded_for ask capacity v f _ = f

-- the word that it asked for is v; without such a need, or without room for the mark, nothing changes
abbrev pub loaded : {σ : Type 0} → (σ → Ask σ) → ℕ → ℤ → Frame σ → Frame σ
loaded ask capacity v f = loaded_for ask capacity v f f.need

-- the write that it asked for was done
abbrev pub stores : {σ : Type 0} → Ask σ → ℕ → ℤ → Frame σ → Frame σ
stores (Stores b u q) a v f = record f { here = q; writes = put f.writes a v; need = Nothing }
stores _ a v f = f

abbrev pub stored_for : {σ : Type 0} → (σ → Ask σ) → ℕ → Frame σ → Need → Frame σ
stored_for ask capacity f (ForStore a v) = if is_full capacity f.writes a then f else stores (ask f.here) a v f
stored_for ask capacity f _ = f

-- the write that it asked for was done; without such a need, or without room for the word, nothing changes
abbrev pub stored : {σ : Type 0} → (σ → Ask σ) → ℕ → Frame σ → Frame σ
stored ask capacity f = stored_for ask capacity f f.need

abbrev pub held_for : {σ : Type 0} → Frame σ → Need → Frame σ
held_for f (ForLoad a) = stops_for Held f
held_for f (ForStore a v) = stops_for Held f
held_for f _ = f

-- the table was full for what it asked for
abbrev pub holds : {σ : Type 0} → Frame σ → Frame σ
holds f = held_for f f.need

-- the state behind a print that it waits with, and else the present one
abbrev pub behind : {σ : Type 0} → Ask σ → Need → σ → σ
behind (Prints bytes q full) ForHead here = q
behind _ _ here = here

-- what it waited with is done: it begins again from there
abbrev pub advanced : {σ : Type 0} → (σ → Ask σ) → Frame σ → Frame σ
advanced ask f = begins f.worker f.iteration f.attempt (behind (ask f.here) f.need f.here)

-- and so it does from another state
abbrev pub restarts : {σ : Type 0} → σ → Frame σ → Frame σ
restarts q f = begins f.worker f.iteration f.attempt q

abbrev pub tagged : {σ : Type 0} → ℕ → ℕ → ℕ → Frame σ → Frame σ
tagged w j attempt f = record f { worker = w; iteration = j; attempt = attempt }
