-- What the entries of a schedule come to: each tells of the call that a worker makes, and of its answer.
use Rattle.std.specs.Prelude.{ℕ, suc, ◌+◌, ◌-◌, ℤ, List, [], ◌∷◌, length, Option, Some, None, true, is_some, if◌then◌else◌}
use Rattle.hx_marks.specs.Table.{look}
use Rattle.hx_speculation.specs.Frame.{Frame, Need, Nothing, ForLoad, ForStore, ForHead, Held, stretch}
use Rattle.hx_speculation.specs.Slots.{Slot, is_at}
use Rattle.hx_speculation.specs.Board.{Board, Token, Call, Start, Load, Write, Head, Alive, Settle, Abandon, Answer, Go, Value, Done, Full, Yours, NotYet, Live, Again, Passed, Squashed, NotThisFrame, call}
use Rattle.hx_speculation.specs.Replay.{Running, World, Course, entry_of}
use Rattle.hx_board.specs.declared.answers.State.{State}
use Rattle.hx_board.specs.declared.answers.State.TheVariants as state
use Rattle.hx_board.specs.Ends.{state_of}
use Rattle.hx_trace.specs.declared.event.Event.{Event}
use Rattle.hx_trace.specs.declared.event.Deed.{Deed}
use Rattle.hx_trace.specs.declared.event.Deed.TheVariants.{Starts, Loads, Stores, FindsMarksFull, FindsBufferFull, ComputesOn, GetsHead, Waits, GoesOn, Passes, Ends, IsSquashed, IsRefused, FindsEnd}
use Rattle.hx_trace.specs.declared.event.Source.{Source}
use Rattle.hx_trace.specs.declared.event.Source.TheVariants as source

-- ---- where a value is found

-- by an iteration, where another value than its own would be found there
abbrev pub own_source : {σ : Type 0} → ℕ → Source → Slot σ → Source
own_source a other x = if is_some (look x.buffer a) then source.Buffer else if is_some (look x.marks a) then source.Marks else other

-- by the iteration behind this one, which is iteration j
abbrev pub source_behind : {σ : Type 0} → ℕ → ℕ → Source → Slot σ → Source
source_behind a j other x = if is_some (look x.buffer a) then source.Iteration j else other

-- by a worker's attempt among these, of which the first is iteration j and finds it there
abbrev pub source_in : {σ : Type 0} → ℕ → ℕ → ℕ → ℕ → Source → List (Slot σ) → Source
source_in w attempt a j there [] = there
source_in w attempt a j there (x ∷ xs) = if is_at x w attempt then own_source a there x else source_in w attempt a (suc j) (source_behind a j there x) xs

abbrev pub source_on : {σ : Type 0} → ℕ → ℕ → ℕ → Board σ → Source
source_on w attempt a b = source_in w attempt a b.head source.Store b.active

-- ---- calls and answers

-- the last active iteration
abbrev pub last_of : {σ : Type 0} → Board σ → ℕ
last_of b = b.head + (length b.active - 1)

abbrev pub load_deed : {σ : Type 0} → ℕ → ℕ → ℕ → Board σ → Answer σ → Deed
load_deed w attempt a before (Value v) = Loads a v (source_on w attempt a before)
load_deed w attempt a before Full = FindsMarksFull a
load_deed w attempt a before Squashed = IsSquashed
load_deed w attempt a before _ = FindsEnd

abbrev pub store_deed : {σ : Type 0} → ℕ → ℤ → Board σ → Board σ → Answer σ → Deed
store_deed a v before after Done = Stores a v (after.counts.restarts - before.counts.restarts) (last_of before)
store_deed a v before after Full = FindsBufferFull a v
store_deed a v before after Squashed = IsSquashed
store_deed a v before after _ = FindsEnd

abbrev pub head_deed : {σ : Type 0} → Answer σ → Deed
head_deed (Yours t) = GetsHead
head_deed NotYet = Waits
head_deed Squashed = IsSquashed
head_deed _ = FindsEnd

abbrev pub alive_deed : {σ : Type 0} → Answer σ → Deed
alive_deed Live = ComputesOn
alive_deed Squashed = IsSquashed
alive_deed _ = FindsEnd

-- a settlement that is answered that the region has ended: it had, or ends by it
abbrev pub end_deed : State → State → ℕ → ℕ → Deed
end_deed state.Running now dropped last = Ends now dropped last
end_deed _ now dropped last = FindsEnd

abbrev pub settle_deed : {σ : Type 0} → Board σ → Board σ → Answer σ → Deed
settle_deed before after (Again t f) = GoesOn (length before.text) (length after.text)
settle_deed before after Passed = Passes
settle_deed before after NotThisFrame = IsRefused
settle_deed before after _ = end_deed (state_of before.exit) (state_of after.exit) (after.counts.discarded - before.counts.discarded) (last_of before)

-- what a call of a worker that runs comes to, by its answer and by the boards before and after it
abbrev pub deed_of : {σ : Type 0} → Call σ → Board σ → Answer σ → Board σ → Deed
deed_of (Load w attempt a) before answer after = load_deed w attempt a before answer
deed_of (Write w attempt a v) before answer after = store_deed a v before after answer
deed_of (Head w attempt) before answer after = head_deed answer
deed_of (Alive w attempt) before answer after = alive_deed answer
deed_of (Settle t f is_own) before answer after = settle_deed before after answer
deed_of (Start w is_own) before answer after = Starts
deed_of (Abandon w) before answer after = IsRefused

-- ---- entries

-- the call of a frame that stopped for this, with this token in its worker's hand
abbrev pub call_at_head : {σ : Type 0} → ℕ → Frame σ → Option Token → Call σ
call_at_head w f None = Head w f.attempt
call_at_head w f (Some t) = Settle t f true

abbrev pub call_at_stop : {σ : Type 0} → ℕ → Frame σ → Option Token → Need → Call σ
call_at_stop w f token (ForLoad a) = Load w f.attempt a
call_at_stop w f token (ForStore a v) = Write w f.attempt a v
call_at_stop w f token ForHead = call_at_head w f token
call_at_stop w f token Held = call_at_head w f token
call_at_stop w f token Nothing = Alive w f.attempt

-- what that call comes to
abbrev pub deed_by : {σ : Type 0} → Course σ → Board σ → Call σ → Deed
deed_by c b k = let p = call c.region c.capacities k b in deed_of k b p.0 p.1

-- a worker asks for an iteration
abbrev pub start_event : {σ : Type 0} → ℕ → Answer σ → Event
start_event w (Go f) = record { worker = w; iteration = f.iteration; attempt = f.attempt; deed = Starts }
start_event w _ = record { worker = w; iteration = 0; attempt = 0; deed = FindsEnd }

-- a worker makes the call of its frame that stopped for this
abbrev pub event_at : {σ : Type 0} → Course σ → ℕ → Board σ → Option Token → Frame σ → Need → Event
event_at c w b token f need = record { worker = w; iteration = f.iteration; attempt = f.attempt; deed = deed_by c b (call_at_stop w f token need) }

-- one entry of a schedule: a worker without a frame asks for one, and another runs a stretch and hands on what that stopped for
abbrev pub event_of : {σ : Type 0} → Course σ → ℕ → Board σ → Option (Running σ) → Event
event_of c w b None = start_event w (call c.region c.capacities (Start w true) b).0
event_of c w b (Some x) = let f = stretch c.region.ask c.limit x.frame in event_at c w b x.token f f.need

-- THE events of a schedule
abbrev pub events_of : {σ : Type 0} → Course σ → List ℕ → World σ → List Event
events_of c [] d = []
events_of c (w ∷ ws) d = event_of c w d.board (d.running w) ∷ events_of c ws (entry_of c w d (d.running w))
