-- A frame of valid code.
use Rattle.std.specs.Prelude.{◌≡◌}
use Rattle.hx_marks.specs.Table.{Table}
use Rattle.hx_code.specs.Code.{CodeView}
use Rattle.hx_code.specs.declared.word.Ask.{Ask}
use Rattle.hx_code.specs.declared.word.Ask.TheVariants.{Goes, Loads, Stores}
use Rattle.hx_code.specs.declared.word.Next.{Next}
use Rattle.hx_code.specs.Local.{LocalView, LocalWant, LocalAsks, LocalStuck, asks_of}
use Rattle.hx_code.specs.Fits.{FitsLocal, LocalWell, goes_on, MayGoOn}
use Rattle.hx_speculation.specs.Frame.{Frame, Need as Needed, IsTrue}
use Rattle.hx_frame.specs.declared.action.Action.{Action}
use Rattle.hx_frame.specs.declared.action.Action.TheVariants.{None}
use Rattle.hx_frame.specs.declared.action.Stop.{Stop}
use Rattle.hx_frame.specs.declared.action.Stop.TheVariants.{NeedLoad, NeedStore, NeedHead, Limit}
use Rattle.hx_frame.specs.declared.action.Need.{Need}
use Rattle.hx_frame.specs.declared.action.Need.TheVariants.{Nothing, ForLoad, ForStore, ForHead, Held}
use Rattle.hx_frame.specs.declared.frame.Tag.{Tag}
use Rattle.hx_frame.specs.declared.frame.Capacities.{Capacities}
use Rattle.hx_frame.specs.Automaton.{ask_in}
use Rattle.hx_frame.specs.Action.{action_in, need_of}

pub record FrameView : Type 0 where
  pub code : CodeView
  pub capacities : Capacities
  pub frame : Frame LocalView

abbrev pub frame_of : Tag → LocalView → LocalView → Table → Table → Need → Frame LocalView
frame_of tag start here marks writes need =
    record { worker = tag.worker; iteration = tag.iteration; attempt = tag.attempt; start = start; here = here; marks = marks; writes = writes; need = need_of need }

-- what a frame waits with, by what its state asks
abbrev pub action_needed : CodeView → LocalView → Needed → Action
action_needed code l Needed.ForHead = action_in (asks_of code l)
action_needed code l _ = None

abbrev pub action_of : FrameView → Action
action_of f = action_needed f.code f.frame.here f.frame.need

-- what a word asks; a stuck one, which valid code has none of, asks nothing
abbrev pub asked_word : LocalWant → Ask
asked_word LocalStuck = Goes
asked_word (LocalAsks ask l) = ask

abbrev pub ask_needed : CodeView → LocalView → Needed → Ask
ask_needed code l Needed.ForHead = asked_word (asks_of code l)
ask_needed code l _ = Goes

-- what the word asks that a frame waits with
abbrev pub waiting_ask : FrameView → Ask
waiting_ask f = ask_needed f.code f.frame.here f.frame.need

-- the stop that tells what a frame needs
abbrev pub stop_needed : Action → Needed → Stop
stop_needed action Needed.Nothing = Limit
stop_needed action (Needed.ForLoad a) = NeedLoad a
stop_needed action (Needed.ForStore a v) = NeedStore a v
stop_needed action Needed.ForHead = NeedHead action
stop_needed action Needed.Held = NeedHead None

abbrev pub stop_of : FrameView → Stop
stop_of f = stop_needed (action_of f) f.frame.need

-- the next word asks this, and goes on there once it has it
pub record WellAsked (code : CodeView) (l : LocalView) (ask : Ask) (next : Next) : Type 0 where
  pub asks : asks_of code l ≡ LocalAsks ask (goes_on next l)
  pub well : LocalWell code ask (goes_on next l)
  pub may : MayGoOn next l.calls

-- what is needed is what the next word asks
abbrev pub TellsNeed : CodeView → LocalView → Need → Type 0
TellsNeed code l Nothing = Unit {0}
TellsNeed code l (ForLoad a next) = WellAsked code l (Loads a) next
TellsNeed code l (ForStore a v next) = WellAsked code l (Stores a v) next
TellsNeed code l (ForHead ask next) = WellAsked code l ask next
TellsNeed code l Held = Unit {0}

-- what every frame keeps
pub record Keeps (code : CodeView) (tag : Tag) (start here : LocalView) (marks writes : Table) (need : Need) : Type 0 where
  pub start_fits : FitsLocal code start
  pub here_fits : FitsLocal code here
  pub is_true : IsTrue (ask_in code) (frame_of tag start here marks writes need)
  pub tells : TellsNeed code here need
