-- The board of a region: what each call on it does, and what it answers.
use Rattle.std.specs.Prelude.{ℕ, zero, suc, ◌+◌, ◌-◌, ◌^◌, ℤ, List, [], ◌∷◌, ◌++◌, length, Option, Some, None, Bool, true, false, ◌&&◌, not, nat_lt, ◌==◌, if◌then◌else◌}
use Rattle.hx_tree.specs.declared.outcome.Counts.{Counts}
use Rattle.hx_marks.specs.Table.{Table}
use Rattle.hx_code.specs.declared.word.Exit.{Exit}
use Rattle.hx_code.specs.declared.word.Exit.TheVariants.{Left, Returned, Faulted}
use Rattle.hx_code.specs.Region.{held}
use Rattle.hx_speculation.specs.Iteration.{Store, overlay, Ask, Prints, TurnEnds, Leaves, Returns, Faults}
use Rattle.hx_speculation.specs.Region.{Region, has_room_for}
use Rattle.hx_speculation.specs.Frame.{Frame, Need, ForHead, begins}
use Rattle.hx_speculation.specs.Slots.{Slot, first_attempt, of_worker, may_restart, Found, Known, New, MarksFull, LoadLost, found, with_mark, Written, Restarts, BufferFull, NumbersEnd, StoreLost, written, with_write, from_worker, restarted_from}

pub record Board (σ : Type 0) : Type 0 where
  pub head : ℕ  -- the head's iteration, which is the number of whole turns
  pub active : List (Slot σ)  -- iterations head, head + 1, ..
  pub store : Store  -- what is committed
  pub text : List ℕ
  pub exit : Option Exit  -- how the region ended, once it has
  pub is_out : Bool  -- a token of the head is out
  pub is_spent : Bool  -- a number would have passed 64 bits
  pub counts : Counts

-- how many words marks and buffer may have
pub record Capacities : Type 0 where
  pub marks : ℕ
  pub buffer : ℕ

-- the right to settle: whose iteration it was, and which
pub record Token : Type 0 where
  pub worker : ℕ
  pub iteration : ℕ
  pub attempt : ℕ

-- a frame that is handed in is the board's own where its code, and for a start its capacities too, are those of the board
pub data Call (σ : Type 0) : Type 0 where
  Start : (worker : ℕ) → (is_own : Bool) → Call σ
  Load : (worker attempt : ℕ) → (word : ℕ) → Call σ
  Write : (worker attempt : ℕ) → (word : ℕ) → (value : ℤ) → Call σ
  Head : (worker attempt : ℕ) → Call σ
  Alive : (worker attempt : ℕ) → Call σ
  Settle : (token : Token) → (frame : Frame σ) → (is_own : Bool) → Call σ
  Abandon : (worker : ℕ) → Call σ

pub data Answer (σ : Type 0) : Type 0 where
  Go : (frame : Frame σ) → Answer σ
  Value : (value : ℤ) → Answer σ
  Done : Answer σ
  Full : Answer σ
  Yours : (token : Token) → Answer σ
  NotYet : Answer σ
  Live : Answer σ
  Again : (token : Token) → (frame : Frame σ) → Answer σ
  Passed : Answer σ
  Squashed : Answer σ
  NotThisFrame : Answer σ
  Ended : Answer σ

-- a number that would pass 64 bits: nothing changes, and from now on the board answers that it has ended
abbrev pub spends : {σ : Type 0} → Board σ → Answer σ × Board σ
spends b = (Ended, record b { is_spent = true })

-- ---- start

abbrev pub next_iteration : {σ : Type 0} → Board σ → ℕ
next_iteration b = b.head + length b.active

abbrev pub starts_next : {σ : Type 0} → Region σ → ℕ → Board σ → Answer σ × Board σ
starts_next r w b =
    let j = next_iteration b in
    if nat_lt j (2 ^ 64)
    then (Go (begins w j 1 (r.opening j)), record b { active = b.active ++ first_attempt w (r.opening j) ∷ [] })
    else spends b

-- a worker's iteration from its start, or for a free one the next
abbrev pub starts : {σ : Type 0} → Region σ → ℕ → Board σ → Option (ℕ × Slot σ) → Answer σ × Board σ
starts r w b (Some p) = (Go (begins w p.0 p.1.attempt p.1.start), b)
starts r w b None = starts_next r w b

-- ---- load

abbrev pub after_load : {σ : Type 0} → ℕ → ℕ → ℕ → Board σ → Found → Answer σ × Board σ
after_load w attempt a b (Known v) = (Value v, b)
after_load w attempt a b (New v) = (Value v, record b { active = with_mark w attempt a v b.active })
after_load w attempt a b MarksFull = (Full, record b { counts = record b.counts { holds = held (b.counts.holds + 1) } })
after_load w attempt a b LoadLost = (Squashed, b)

-- ---- store

-- what is counted of a store that is done: so many iterations begin again; or none does, and where a later one had marked the word,
-- that one is spared
abbrev pub counts_store : ℕ → Bool → Counts → Counts
counts_store zero false c = c
counts_store zero true c = record c { spared = held (c.spared + 1) }
counts_store (suc n) had_readers c = record c { violations = held (c.violations + 1); restarts = held (c.restarts + suc n) }

abbrev pub after_store : {σ : Type 0} → ℕ → ℕ → ℕ → ℤ → Board σ → Written → Answer σ × Board σ
after_store w attempt a v b (Restarts n had_readers) = (Done, record b { active = with_write w attempt a v b.active; counts = counts_store n had_readers b.counts })
after_store w attempt a v b BufferFull = (Full, record b { counts = record b.counts { holds = held (b.counts.holds + 1) } })
after_store w attempt a v b NumbersEnd = spends b
after_store w attempt a v b StoreLost = (Squashed, b)

-- ---- head and alive

abbrev pub gives_head : {σ : Type 0} → ℕ → ℕ → ℕ → Board σ → Answer σ × Board σ
gives_head w attempt j b =
    if (j == b.head) && not b.is_out then (Yours (record { worker = w; iteration = j; attempt = attempt }), record b { is_out = true }) else (NotYet, b)

abbrev pub asks_head : {σ : Type 0} → ℕ → ℕ → Board σ → Option (ℕ × Slot σ) → Answer σ × Board σ
asks_head w attempt b None = (Squashed, b)
asks_head w attempt b (Some p) = if p.1.attempt == attempt then gives_head w attempt p.0 b else (Squashed, b)

abbrev pub lives : {σ : Type 0} → ℕ → Option (ℕ × Slot σ) → Answer σ
lives attempt None = Squashed
lives attempt (Some p) = if p.1.attempt == attempt then Live else Squashed

-- ---- settle

abbrev pub same_value : ℤ → ℤ → Bool
same_value (ℤ.pos m) (ℤ.pos n) = m == n
same_value (ℤ.negsuc m) (ℤ.negsuc n) = m == n
same_value _ _ = false

abbrev pub same_table : Table → Table → Bool
same_table [] [] = true
same_table (e ∷ es) (f ∷ fs) = (e.word == f.word) && (same_value e.value f.value && same_table es fs)
same_table _ _ = false

-- the token and the frame are those of a slot, which is iteration j
abbrev pub is_of_slot : {σ : Type 0} → Region σ → ℕ → Token → Frame σ → Slot σ → Bool
is_of_slot r j t f x =
    ((t.worker == x.worker) && ((t.iteration == j) && ((t.attempt == x.attempt) && ((f.worker == x.worker) && ((f.iteration == j) && (f.attempt == x.attempt))))))
    && (r.same f.start x.start && (same_table f.marks x.marks && same_table f.writes x.buffer))

-- the head's words are committed, and it begins again behind what it did, with this text
abbrev pub commits : {σ : Type 0} → Board σ → Token → Slot σ → List (Slot σ) → σ → List ℕ → Answer σ × Board σ
commits b t x later q text = (
  Again t (begins x.worker b.head x.attempt q),
  record b { active = record x { start = q; marks = []; buffer = [] } ∷ later; store = overlay x.buffer b.store; text = text; is_out = true },
)

-- the head's words are committed, the region ends, and all other iterations are dropped
abbrev pub ends : {σ : Type 0} → Board σ → Slot σ → List (Slot σ) → Exit → Answer σ × Board σ
ends b x later e = (
  Ended,
  record b { active = []; store = overlay x.buffer b.store; exit = Some e; is_out = false; counts = record b.counts { discarded = held (b.counts.discarded + length later) } },
)

-- the head's words are committed, and the next iteration is the head
abbrev pub passes : {σ : Type 0} → Board σ → Slot σ → List (Slot σ) → Answer σ × Board σ
passes b x later =
    if nat_lt (b.head + 1) (2 ^ 64)
    then (
      Passed,
      record b {
        head = b.head + 1;
        active = later;
        store = overlay x.buffer b.store;
        is_out = false;
        counts = record b.counts { turns = held (b.counts.turns + 1); repeats = held (b.counts.repeats + (x.attempt - 1)) };
      },
    )
    else spends (record b { is_out = false })

abbrev pub settles_ask : {σ : Type 0} → Region σ → Board σ → Token → Frame σ → Slot σ → List (Slot σ) → Ask σ → Answer σ × Board σ
settles_ask r b t f x later (Prints bytes q full) =
    if has_room_for r b.text bytes then commits b t x later q (b.text ++ bytes) else ends b x later (Faulted full)
settles_ask r b t f x later TurnEnds = passes b x later
settles_ask r b t f x later Leaves = ends b x later Left
settles_ask r b t f x later (Returns v) = ends b x later (Returned v)
settles_ask r b t f x later (Faults fault) = ends b x later (Faulted fault)
settles_ask r b t f x later _ = commits b t x later f.here b.text

-- what the frame waits with takes effect, and nothing where it waits without an action
abbrev pub settles_need : {σ : Type 0} → Region σ → Board σ → Token → Frame σ → Slot σ → List (Slot σ) → Need → Answer σ × Board σ
settles_need r b t f x later ForHead = settles_ask r b t f x later (r.ask f.here)
settles_need r b t f x later _ = commits b t x later f.here b.text

abbrev pub refuses : {σ : Type 0} → Board σ → Answer σ × Board σ
refuses b = (NotThisFrame, record b { is_out = false })

abbrev pub settles : {σ : Type 0} → Region σ → Board σ → Token → Frame σ → Bool → List (Slot σ) → Answer σ × Board σ
settles r b t f is_own [] = refuses b
settles r b t f is_own (x ∷ later) = if is_own && is_of_slot r b.head t f x then settles_need r b t f x later f.need else refuses b

-- ---- abandon

abbrev pub abandons : {σ : Type 0} → ℕ → Board σ → Option (ℕ × Slot σ) → Answer σ × Board σ
abandons w b None = (Done, b)
abandons w b (Some p) =
    if may_restart (from_worker w b.active)
    then (Done, record b { active = restarted_from w b.active; counts = record b.counts { abandons = held (b.counts.abandons + 1) } })
    else spends b

-- ---- every call

abbrev pub does : {σ : Type 0} → Region σ → Capacities → Call σ → Board σ → Answer σ × Board σ
does r caps (Start w is_own) b = if is_own then starts r w b (of_worker w b.head b.active) else (NotThisFrame, b)
does r caps (Load w attempt a) b = after_load w attempt a b (found caps.marks w attempt a (b.store a) b.active)
does r caps (Write w attempt a v) b = after_store w attempt a v b (written caps.buffer w attempt a v b.active)
does r caps (Head w attempt) b = asks_head w attempt b (of_worker w b.head b.active)
does r caps (Alive w attempt) b = (lives attempt (of_worker w b.head b.active), b)
does r caps (Settle t f is_own) b = settles r b t f is_own b.active
does r caps (Abandon w) b = abandons w b (of_worker w b.head b.active)

abbrev pub has_ended : Option Exit → Bool → Bool
has_ended None is_spent = is_spent
has_ended (Some e) is_spent = true

-- one call: the answer, and the board after it. A board that has ended, or is spent, stays
abbrev pub call : {σ : Type 0} → Region σ → Capacities → Call σ → Board σ → Answer σ × Board σ
call r caps c b = if has_ended b.exit b.is_spent then (Ended, b) else does r caps c b

-- one after another
abbrev pub after : {σ : Type 0} → Region σ → Capacities → List (Call σ) → Board σ → Board σ
after r caps [] b = b
after r caps (c ∷ cs) b = after r caps cs (call r caps c b).1

-- ---- the beginning

abbrev pub opened : {σ : Type 0} → Store → Board σ
opened entry =
    record {
      head = 0;
      active = [];
      store = entry;
      text = [];
      exit = None;
      is_out = false;
      is_spent = false;
      counts = record { regions = 1; turns = 0; repeats = 0; violations = 0; restarts = 0; holds = 0; abandons = 0; discarded = 0; spared = 0 };
    }
