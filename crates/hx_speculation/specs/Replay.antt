-- What a schedule does: workers with their frames, one entry after another.
use Rattle.std.specs.Prelude.{ℕ, List, [], ◌∷◌, Option, Some, None, true, ◌==◌, if◌then◌else◌}
use Rattle.hx_speculation.specs.Iteration.{Store}
use Rattle.hx_speculation.specs.Region.{Region}
use Rattle.hx_speculation.specs.Frame.{Frame, Need, Nothing, ForLoad, ForStore, ForHead, Held, stretch, loaded, stored, holds}
use Rattle.hx_speculation.specs.Board.{Board, Capacities, Token, Start, Load, Write, Head, Alive, Settle, Abandon, Answer, Go, Value, Done, Full, Yours, NotYet, Live, Again, NotThisFrame, call, opened}

-- a worker's frame, and the token in its hand
pub record Running (σ : Type 0) : Type 0 where
  pub frame : Frame σ
  pub token : Option Token

pub record World (σ : Type 0) : Type 0 where
  pub board : Board σ
  pub running : ℕ → Option (Running σ)

-- a region, the room of its tables, and how many words a stretch has at most
pub record Course (σ : Type 0) : Type 0 where
  pub region : Region σ
  pub capacities : Capacities
  pub limit : ℕ

abbrev pub with_running : {σ : Type 0} → (ℕ → Option (Running σ)) → ℕ → Option (Running σ) → ℕ → Option (Running σ)
with_running g w o v = if v == w then o else g v

abbrev pub goes_on : {σ : Type 0} → ℕ → World σ → Frame σ → Option Token → Board σ → World σ
goes_on w d f token b = record { board = b; running = with_running d.running w (Some (record { frame = f; token = token })) }

abbrev pub stops : {σ : Type 0} → ℕ → World σ → Board σ → World σ
stops w d b = record { board = b; running = with_running d.running w None }

-- the board after a call
abbrev pub board_after : {σ : Type 0} → Answer σ × Board σ → Board σ
board_after p = p.1

-- a token in hand is spent: its worker gives its iteration up, and settles with it
abbrev pub spends_token : {σ : Type 0} → Course σ → ℕ → Frame σ → Option Token → Board σ → Board σ
spends_token c w f None b = b
spends_token c w f (Some t) b =
    board_after (call c.region c.capacities (Settle t f true) (board_after (call c.region c.capacities (Abandon w) b)))

abbrev pub after_start : {σ : Type 0} → ℕ → World σ → Answer σ → Board σ → World σ
after_start w d (Go f) b = goes_on w d f None b
after_start w d _ b = stops w d b

abbrev pub after_load : {σ : Type 0} → Course σ → ℕ → World σ → Frame σ → Option Token → Answer σ → Board σ → World σ
after_load c w d f token (Value v) b = goes_on w d (loaded c.region.ask c.capacities.marks v f) token b
after_load c w d f token Full b = goes_on w d (holds f) token b
after_load c w d f token _ b = stops w d (spends_token c w f token b)

abbrev pub after_write : {σ : Type 0} → Course σ → ℕ → World σ → Frame σ → Option Token → Answer σ → Board σ → World σ
after_write c w d f token Done b = goes_on w d (stored c.region.ask c.capacities.buffer f) token b
after_write c w d f token Full b = goes_on w d (holds f) token b
after_write c w d f token _ b = stops w d (spends_token c w f token b)

abbrev pub after_alive : {σ : Type 0} → Course σ → ℕ → World σ → Frame σ → Option Token → Answer σ → Board σ → World σ
after_alive c w d f token Live b = goes_on w d f token b
after_alive c w d f token _ b = stops w d (spends_token c w f token b)

abbrev pub after_head : {σ : Type 0} → ℕ → World σ → Frame σ → Answer σ → Board σ → World σ
after_head w d f (Yours t) b = goes_on w d f (Some t) b
after_head w d f NotYet b = goes_on w d f None b
after_head w d f _ b = stops w d b

abbrev pub after_settle : {σ : Type 0} → Course σ → ℕ → World σ → Answer σ → Board σ → World σ
after_settle c w d (Again t f) b = goes_on w d f (Some t) b
after_settle c w d NotThisFrame b = stops w d (board_after (call c.region c.capacities (Abandon w) b))
after_settle c w d _ b = stops w d b

-- before what only the head may do: it settles with a token, and else asks for one
abbrev pub at_head : {σ : Type 0} → Course σ → ℕ → World σ → Frame σ → Option Token → World σ
at_head c w d f (Some t) = let p = call c.region c.capacities (Settle t f true) d.board in after_settle c w d p.0 p.1
at_head c w d f None = let p = call c.region c.capacities (Head w f.attempt) d.board in after_head w d f p.0 p.1

-- what a stretch stopped for
abbrev pub at_stop : {σ : Type 0} → Course σ → ℕ → World σ → Frame σ → Option Token → Need → World σ
at_stop c w d f token (ForLoad a) = let p = call c.region c.capacities (Load w f.attempt a) d.board in after_load c w d f token p.0 p.1
at_stop c w d f token (ForStore a v) = let p = call c.region c.capacities (Write w f.attempt a v) d.board in after_write c w d f token p.0 p.1
at_stop c w d f token ForHead = at_head c w d f token
at_stop c w d f token Held = at_head c w d f token
at_stop c w d f token Nothing = let p = call c.region c.capacities (Alive w f.attempt) d.board in after_alive c w d f token p.0 p.1

-- one entry of a schedule: a worker without a frame asks for one, and another runs a stretch and hands on what that stopped for
abbrev pub entry_of : {σ : Type 0} → Course σ → ℕ → World σ → Option (Running σ) → World σ
entry_of c w d None = let p = call c.region c.capacities (Start w true) d.board in after_start w d p.0 p.1
entry_of c w d (Some x) = let f = stretch c.region.ask c.limit x.frame in at_stop c w d f x.token f.need

abbrev pub replayed : {σ : Type 0} → Course σ → List ℕ → World σ → World σ
replayed c [] d = d
replayed c (w ∷ ws) d = replayed c ws (entry_of c w d (d.running w))

-- nobody runs, on the board of an entry
abbrev pub world_at : {σ : Type 0} → Store → World σ
world_at entry = record { board = opened entry; running = λ w. None }
