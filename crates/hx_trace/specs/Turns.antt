-- What one entry of a schedule leads to.
use Rattle.std.specs.Prelude.{◌≡◌, ℕ, ◌<◌, List, length, slice_get, Option, Some, None, true, ◌==◌, if◌then◌else◌}
use Rattle.hx_code.specs.Local.{LocalView}
use Rattle.hx_speculation.specs.Frame.{Frame}
use Rattle.hx_speculation.specs.Board.{Board, Token}
use Rattle.hx_speculation.specs.Replay.{Running, World, Course, with_running}
use Rattle.hx_board.specs.Board.{BoardView, Setup, region_on, board_of}
use Rattle.hx_board.specs.Calls.{IsOwnFrame}
use Rattle.hx_trace.specs.declared.worker.Worker.{Worker}
use Rattle.hx_trace.specs.declared.worker.Held.{Held}
use Rattle.hx_trace.specs.Tokens.{IsOutOf}

-- a board's own region and the room of its tables, with stretches of at most so many words
abbrev pub course_of : Setup → Course LocalView
course_of s = record { region = region_on s; capacities = s.capacities; limit = 1024 }

-- a worker with this token, as the definition knows it
abbrev pub running_of : Worker → Option Token → Option (Running LocalView)
running_of x token = if x.is_running then Some (record { frame = x.frame.frame; token = token }) else None

-- the token in worker w's hand is of an iteration that runs
pub record IsOwnToken (w : ℕ) (b : BoardView) (x : Worker) (t : Token) : Type 0 where
  pub worker : t.worker ≡ w
  pub runs : x.is_running ≡ true
  pub out : IsOutOf (board_of b) t

abbrev pub IsInHand : ℕ → BoardView → Worker → Option Token → Type 0
IsInHand w b x None = Unit {0}
IsInHand w b x (Some t) = IsOwnToken w b x t

-- worker w's entry leads from a board and a token to these, whatever the others do; a token of another stays out, and is the only one
pub record Moves (entry : World LocalView → World LocalView) (w : ℕ) (b : BoardView) (token : Option Token) (after : BoardView) (x : Worker) (next : Option Token) : Type 0 where
  pub step : (others : ℕ → Option (Running LocalView)) → entry (record { board = board_of b; running = others }) ≡ record { board = board_of after; running = with_running others w (running_of x next) }
  pub setup : after.setup ≡ b.setup
  pub own : IsOwnFrame b.setup x.frame
  pub hand : IsInHand w after x next
  pub beside : token ≡ None → (t : Token) → (w ≡ t.worker → ⊥) → IsOutOf (board_of b) t → (next ≡ None) × IsOutOf (board_of after) t

-- ---- all workers, of whom one may have a token in its hand

abbrev pub token_at : Option Held → ℕ → Option Token
token_at None w = None
token_at (Some h) w = if h.worker == w then Some h.head else None

abbrev pub running_at : Option Worker → Option Token → Option (Running LocalView)
running_at None token = None
running_at (Some x) token = running_of x token

abbrev pub world_of : BoardView → List Worker → Option Held → World LocalView
world_of b xs held = record { board = board_of b; running = λ w. running_at (slice_get xs w) (token_at held w) }

-- a worker with this token, if it has one
abbrev pub held_at : ℕ → Option Token → Option Held
held_at w None = None
held_at w (Some t) = Some (record { worker = w; head = t })

-- the token is this worker's, and of an iteration that runs
pub record IsHeldBy (b : BoardView) (xs : List Worker) (h : Held) : Type 0 where
  pub own : h.head.worker ≡ h.worker
  pub there : h.worker < length xs
  pub runs : (x : Worker) → slice_get xs h.worker ≡ Some x → x.is_running ≡ true
  pub out : IsOutOf (board_of b) h.head

abbrev pub MayBeHeld : BoardView → List Worker → Option Held → Type 0
MayBeHeld b xs None = Unit {0}
MayBeHeld b xs (Some h) = IsHeldBy b xs h

-- what is kept from entry to entry: there are as many workers as the board has room for, and each has a frame of the board's own
pub record Keeps (b : BoardView) (xs : List Worker) (h : Option Held) : Type 0 where
  pub many : length xs ≡ b.setup.slots
  pub own : (w : ℕ) (x : Worker) → slice_get xs w ≡ Some x → IsOwnFrame b.setup x.frame
  pub held : MayBeHeld b xs h
