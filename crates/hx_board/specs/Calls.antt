-- What a call on a board does, by the definition.
use Rattle.std.specs.Prelude.{◌≡◌}
use Rattle.hx_code.specs.Local.{LocalView}
use Rattle.hx_frame.specs.Frame.{FrameView}
use Rattle.hx_speculation.specs.Frame.{Frame}
use Rattle.hx_speculation.specs.Board.{Call, Answer, Go, Value, Done, Full, Yours, NotYet, Live, Again, Passed, Squashed, NotThisFrame, Ended, call}
use Rattle.hx_board.specs.Board.{BoardView, Setup, rooms_of, region_on, board_of}
use Rattle.hx_board.specs.declared.answers.Started.{Started}
use Rattle.hx_board.specs.declared.answers.Started.TheVariants.{Go as Goes, NotThisFrame as RefusesStart, Ended as EndedStart}
use Rattle.hx_board.specs.declared.answers.Loaded.{Loaded}
use Rattle.hx_board.specs.declared.answers.Loaded.TheVariants.{Value as GivesValue, Squashed as SquashedLoad, Full as FullLoad, Ended as EndedLoad}
use Rattle.hx_board.specs.declared.answers.Stored.{Stored}
use Rattle.hx_board.specs.declared.answers.Stored.TheVariants.{Done as DoneStore, Squashed as SquashedStore, Full as FullStore, Ended as EndedStore}
use Rattle.hx_board.specs.declared.answers.Headed.{Headed}
use Rattle.hx_board.specs.declared.answers.Headed.TheVariants.{Yours as YoursHead, NotYet as NotYetHead, Squashed as SquashedHead, Ended as EndedHead}
use Rattle.hx_board.specs.declared.answers.Alive.{Alive}
use Rattle.hx_board.specs.declared.answers.Alive.TheVariants.{Live as LiveOn, Squashed as SquashedOn, Ended as EndedOn}
use Rattle.hx_board.specs.declared.answers.Settled.{Settled}
use Rattle.hx_board.specs.declared.answers.Settled.TheVariants.{Again as AgainSettled, Passed as PassedSettled, Ended as EndedSettled, NotThisFrame as RefusesSettle}

-- the definition's call gives this answer and this board, and what the board is for stays
pub record Does (b : BoardView) (c : Call LocalView) (answer : Answer LocalView) (after : BoardView) : Type 0 where
  pub step : call (region_on b.setup) b.setup.capacities c (board_of b) ≡ (answer, board_of after)
  pub setup : after.setup ≡ b.setup

-- the definition's call leads to this board
pub record Becomes (b : BoardView) (c : Call LocalView) (after : BoardView) : Type 0 where
  pub step : (call (region_on b.setup) b.setup.capacities c (board_of b)).1 ≡ board_of after
  pub setup : after.setup ≡ b.setup

-- a frame is the board's own
abbrev pub IsOwnCode : Setup → FrameView → Type 0
IsOwnCode s f = f.code ≡ s.code

pub record IsOwnFrame (s : Setup) (f : FrameView) : Type 0 where
  pub code : IsOwnCode s f
  pub capacities : rooms_of f.capacities ≡ s.capacities

-- the answers, as the definition has them; the frame is the one that was handed in, as it is afterwards
abbrev pub started_answer : Started → Frame LocalView → Answer LocalView
started_answer (Goes iteration attempt) f = Go f
started_answer RefusesStart f = NotThisFrame
started_answer EndedStart f = Ended

abbrev pub loaded_answer : Loaded → Answer LocalView
loaded_answer (GivesValue v) = Value v
loaded_answer SquashedLoad = Squashed
loaded_answer FullLoad = Full
loaded_answer EndedLoad = Ended

abbrev pub stored_answer : Stored → Answer LocalView
stored_answer DoneStore = Done
stored_answer SquashedStore = Squashed
stored_answer FullStore = Full
stored_answer EndedStore = Ended

abbrev pub headed_answer : Headed → Answer LocalView
headed_answer (YoursHead t) = Yours t
headed_answer NotYetHead = NotYet
headed_answer SquashedHead = Squashed
headed_answer EndedHead = Ended

abbrev pub alive_answer : Alive → Answer LocalView
alive_answer LiveOn = Live
alive_answer SquashedOn = Squashed
alive_answer EndedOn = Ended

abbrev pub settled_answer : Settled → Frame LocalView → Answer LocalView
settled_answer (AgainSettled t) f = Again t f
settled_answer PassedSettled f = Passed
settled_answer EndedSettled f = Ended
settled_answer RefusesSettle f = NotThisFrame

-- the frame that is handed in changes only where it gets an iteration, whose numbers are told
abbrev pub StartsFrame : Started → FrameView → FrameView → Type 0
StartsFrame (Goes iteration attempt) f g = (g ≡ record f { frame = g.frame }) × (iteration ≡ g.frame.iteration) × (attempt ≡ g.frame.attempt)
StartsFrame RefusesStart f g = g ≡ f
StartsFrame EndedStart f g = g ≡ f

-- and where it goes on behind what was settled
abbrev pub SettlesFrame : Settled → FrameView → FrameView → Type 0
SettlesFrame (AgainSettled t) f g = g ≡ record f { frame = g.frame }
SettlesFrame PassedSettled f g = g ≡ f
SettlesFrame EndedSettled f g = g ≡ f
SettlesFrame RefusesSettle f g = g ≡ f
