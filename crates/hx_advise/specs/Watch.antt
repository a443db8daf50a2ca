-- What is kept of a list of events.
use Rattle.std.specs.Prelude.{◌≡◌, ◌≢◌, ◌↔◌, ◌<◌, ◌≤◌, ℕ, zero, suc, ◌+◌, min, ◌==◌, if◌then◌else◌, List, Bool, IsTrue, length, slice_index, slice_index_or}
use Rattle.hx_code.specs.Region.{held}
use Rattle.hx_advise.specs.declared.watch.Need.{Need}
use Rattle.hx_advise.specs.Events.{Event, turn_of, Wrote, Needs, NeedsOne, HowMany, IsIndependent, reads_in, writes_in}

-- ---- needs

-- each turn that needs one of these words is at least d turns behind those that wrote it
abbrev pub NoneNearer : List Event → (ℕ → Type 0) → ℕ → Type 0
NoneNearer es P d = (i j a : ℕ) → P a → Needs es i j a → i + d ≤ j

-- and one is just d turns behind one that wrote it
abbrev pub OneAsNear : List Event → (ℕ → Type 0) → ℕ → Type 0
OneAsNear es P d = (i : ℕ) × (j : ℕ) × (a : ℕ) × P a × Needs es i j a × (j ≡ i + d)

-- so many turns need one of these words, and the nearest of them is so far behind one that wrote it; 0 where none does
pub record IsNeed (es : List Event) (P : ℕ → Type 0) (n : Need) : Type 0 where
  pub turns : HowMany (NeedsOne es P) (suc (turn_of es)) n.turns
  pub least : NoneNearer es P n.distance
  pub nearest : 0 < n.turns → OneAsNear es P n.distance
  pub none : n.turns ≡ 0 → n.distance ≡ 0

abbrev pub no_need : Need
no_need = record { turns = 0; distance = 0; latest = 0 }

-- that of a word, where those of the words from 0 on are these
abbrev pub need_at : List Need → ℕ → Need
need_at needs a = slice_index_or needs a no_need

abbrev pub AnyWord : ℕ → Type 0
AnyWord a = Unit {0}

-- the least distance of two needs, of which one may be none
abbrev pub nearer : Need → Need → ℕ
nearer n m = if m.turns == 0 then n.distance else (if n.turns == 0 then m.distance else min n.distance m.distance)

-- one need and another, both together
pub record AreBoth (n m both : Need) : Type 0 where
  pub turns : both.turns ≡ held (n.turns + m.turns)
  pub distance : both.distance ≡ nearer n m

-- ---- what is kept

-- and whether the turn that is on has needed one of them
pub record KeepsNeed (es : List Event) (P : ℕ → Type 0) (n : Need) : Type 0 where
  pub need : IsNeed es P n
  pub before : n.latest ≤ suc (turn_of es)
  pub latest : (n.latest ≡ suc (turn_of es)) ↔ NeedsOne es P (turn_of es)

-- a need once more, in this turn, counted from 1, and so many turns behind the one that wrote the word
pub record IsAgain (turn distance : ℕ) (old new : Need) : Type 0 where
  pub same : old.latest ≡ turn → new.turns ≡ old.turns
  pub more : old.latest ≢ turn → new.turns ≡ held (old.turns + 1)
  pub first : old.turns ≡ 0 → new.distance ≡ distance
  pub other : 0 < old.turns → new.distance ≡ min old.distance distance
  pub latest : new.latest ≡ turn

pub record WatchView : Type 0 where
  pub turn : ℕ
  pub writers : List ℕ
  pub reads : ℕ
  pub writes : ℕ
  pub is_independent : Bool
  pub needs : List Need
  pub needed : Need

-- w is one more than the number of the last turn that wrote the word, or 0 where none did
abbrev pub IsWriter : List Event → ℕ → ℕ → Type 0
IsWriter es a zero = (i : ℕ) → Wrote es i a → ⊥
IsWriter es a (suc t) = Wrote es t a × ((i : ℕ) → Wrote es i a → i ≤ t)

-- the watch tells these events
pub record Tells (w : WatchView) (es : List Event) : Type 0 where
  pub turn : w.turn ≡ turn_of es
  pub writers : (a : ℕ) → a < length w.writers → IsWriter es a (slice_index w.writers a)
  pub reads : w.reads ≡ held (reads_in es)
  pub writes : w.writes ≡ held (writes_in es)
  pub verdict : IsTrue w.is_independent ↔ IsIndependent es
  pub needs : (a : ℕ) → KeepsNeed es (λ b. b ≡ a) (need_at w.needs a)
  pub needed : KeepsNeed es AnyWord w.needed
