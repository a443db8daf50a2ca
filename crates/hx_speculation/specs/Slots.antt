-- The active iterations of a board, in order from the head.
use Rattle.std.specs.Prelude.{ℕ, suc, ◌^◌, ℤ, List, [], ◌∷◌, length, map, Option, Some, None, Bool, true, false, ◌&&◌, ◌||◌, not, is_some, nat_lt, nat_le, ◌==◌, if◌then◌else◌}
use Rattle.std.specs.Ordering.{int_eq}
use Rattle.hx_marks.specs.Table.{Table, look, put}
use Rattle.hx_buffer.specs.Overlay.{or_else}
use Rattle.hx_speculation.specs.Frame.{is_full}

-- an active iteration: its worker, its attempt, where that begins, and what it has read and written since
pub record Slot (σ : Type 0) : Type 0 where
  pub worker : ℕ
  pub attempt : ℕ
  pub start : σ
  pub marks : Table
  pub buffer : Table

abbrev pub first_attempt : {σ : Type 0} → ℕ → σ → Slot σ
first_attempt w q = record { worker = w; attempt = 1; start = q; marks = []; buffer = [] }

-- this worker's attempt
abbrev pub is_at : {σ : Type 0} → Slot σ → ℕ → ℕ → Bool
is_at x w attempt = (x.worker == w) && (x.attempt == attempt)

-- the number and the slot of a worker's iteration, the first of these having number j
abbrev pub of_worker : {σ : Type 0} → ℕ → ℕ → List (Slot σ) → Option (ℕ × Slot σ)
of_worker w j [] = None
of_worker w j (x ∷ xs) = if x.worker == w then Some (j, x) else of_worker w (suc j) xs

-- ---- beginning again

abbrev pub restarted : {σ : Type 0} → Slot σ → Slot σ
restarted x = record x { attempt = suc x.attempt; marks = []; buffer = [] }

-- none has the last number of 64 bits for its attempt
abbrev pub may_restart : {σ : Type 0} → List (Slot σ) → Bool
may_restart [] = true
may_restart (x ∷ xs) = nat_lt (suc x.attempt) (2 ^ 64) && may_restart xs

-- ---- load

-- what a load comes to: the value of a word that was written or marked before, that of one to be marked now, no room for
-- the mark, or no such attempt
pub data Found : Type 0 where
  Known : (value : ℤ) → Found
  New : (value : ℤ) → Found
  MarksFull : Found
  LoadLost : Found

-- by the slot that sees u there: its own write, its own mark, or u, which it marks
abbrev pub finds_seen : ℕ → ℤ → Table → Option ℤ → Found
finds_seen capacity u marks (Some v) = Known v
finds_seen capacity u marks None = if nat_le capacity (length marks) then MarksFull else New u

abbrev pub finds_own : {σ : Type 0} → ℕ → ℕ → ℤ → Slot σ → Option ℤ → Found
finds_own capacity a u x (Some v) = Known v
finds_own capacity a u x None = finds_seen capacity u x.marks (look x.marks a)

-- a word, as a worker's attempt finds it behind the slots before it; u is what the first of these sees
abbrev pub found : {σ : Type 0} → ℕ → ℕ → ℕ → ℕ → ℤ → List (Slot σ) → Found
found capacity w attempt a u [] = LoadLost
found capacity w attempt a u (x ∷ xs) =
    if is_at x w attempt then finds_own capacity a u x (look x.buffer a) else found capacity w attempt a (or_else (look x.buffer a) u) xs

-- the slots with a mark more for that attempt
abbrev pub with_mark : {σ : Type 0} → ℕ → ℕ → ℕ → ℤ → List (Slot σ) → List (Slot σ)
with_mark w attempt a v [] = []
with_mark w attempt a v (x ∷ xs) =
    if is_at x w attempt then record x { marks = put x.marks a v } ∷ xs else x ∷ with_mark w attempt a v xs

-- ---- store

-- what was read of a word isn't this value; a word that wasn't read is never another
abbrev pub differs : Option ℤ → ℤ → Bool
differs None u = false
differs (Some v) u = not (int_eq v u)

-- a write of the word restarts an iteration whose mark of it isn't u, which is what it sees there now
abbrev pub is_violated : {σ : Type 0} → ℕ → ℤ → Slot σ → Bool
is_violated a u x = differs (look x.marks a) u

-- the first violated one and all after it
abbrev pub violated : {σ : Type 0} → ℕ → ℤ → List (Slot σ) → List (Slot σ)
violated a u [] = []
violated a u (x ∷ xs) = if is_violated a u x then x ∷ xs else violated a (or_else (look x.buffer a) u) xs

-- those begin again
abbrev pub squashed : {σ : Type 0} → ℕ → ℤ → List (Slot σ) → List (Slot σ)
squashed a u [] = []
squashed a u (x ∷ xs) = if is_violated a u x then map restarted (x ∷ xs) else x ∷ squashed a (or_else (look x.buffer a) u) xs

-- one of these has marked the word
abbrev pub is_marked : {σ : Type 0} → ℕ → List (Slot σ) → Bool
is_marked a [] = false
is_marked a (x ∷ xs) = is_some (look x.marks a) || is_marked a xs

-- what a write comes to: done, with so many iterations that begin again, and whether a later one had marked the word; no room for
-- the word; an attempt's number that would pass 64 bits; or no such attempt
pub data Written : Type 0 where
  Restarts : (count : ℕ) → (had_readers : Bool) → Written
  BufferFull : Written
  NumbersEnd : Written
  StoreLost : Written

abbrev pub writes_own : {σ : Type 0} → ℕ → ℕ → ℤ → Slot σ → List (Slot σ) → Written
writes_own capacity a v x later =
    if is_full capacity x.buffer a then BufferFull else
    if may_restart (violated a v later) then Restarts (length (violated a v later)) (is_marked a later) else
    NumbersEnd

abbrev pub written : {σ : Type 0} → ℕ → ℕ → ℕ → ℕ → ℤ → List (Slot σ) → Written
written capacity w attempt a v [] = StoreLost
written capacity w attempt a v (x ∷ xs) = if is_at x w attempt then writes_own capacity a v x xs else written capacity w attempt a v xs

-- the slots with a word more in that attempt's buffer, and those that it violates begun again
abbrev pub with_write : {σ : Type 0} → ℕ → ℕ → ℕ → ℤ → List (Slot σ) → List (Slot σ)
with_write w attempt a v [] = []
with_write w attempt a v (x ∷ xs) =
    if is_at x w attempt then record x { buffer = put x.buffer a v } ∷ squashed a v xs else x ∷ with_write w attempt a v xs

-- ---- abandon

-- a worker's iteration and all after it
abbrev pub from_worker : {σ : Type 0} → ℕ → List (Slot σ) → List (Slot σ)
from_worker w [] = []
from_worker w (x ∷ xs) = if x.worker == w then x ∷ xs else from_worker w xs

abbrev pub restarted_from : {σ : Type 0} → ℕ → List (Slot σ) → List (Slot σ)
restarted_from w [] = []
restarted_from w (x ∷ xs) = if x.worker == w then map restarted (x ∷ xs) else x ∷ restarted_from w xs
