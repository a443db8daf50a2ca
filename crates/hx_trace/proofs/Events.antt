-- From the calls that an entry of a schedule makes to what is told of it.
use Rattle.std.proofs.Common.{◌≡◌, ℕ, Option, Some, None, true, refl, ap, sym, ◌∙◌}
use Rattle.std.specs.Prelude.{if◌then◌else◌}
use Rattle.hx_code.specs.Local.{LocalView}
use Rattle.hx_frame.specs.declared.action.Action.{Action}
use Rattle.hx_frame.specs.declared.action.Stop.TheVariants.{NeedHead}
use Rattle.hx_frame.specs.declared.frame.Tag.{Tag}
use Rattle.hx_frame.specs.Automaton.{ask_in}
use Rattle.hx_frame.specs.Frame.{FrameView, stop_needed}
use Rattle.hx_speculation.specs.Frame.{Frame, Need, Nothing, ForLoad, ForStore, ForHead, Held, stretch}
use Rattle.hx_speculation.specs.Board.{Token, Call, Answer}
use Rattle.hx_board.specs.Board.{BoardView, board_of}
use Rattle.hx_board.specs.Calls.{Does, IsOwnFrame}
use Rattle.hx_trace.specs.declared.event.Deed.{Deed}
use Rattle.hx_trace.specs.declared.event.Event.{Event}
use Rattle.hx_trace.specs.declared.worker.Worker.{Worker}
use Rattle.hx_trace.specs.Events.{deed_of, deed_by, event_at, event_of}
use Rattle.hx_trace.specs.Turns.{course_of, running_of}

-- an answer tells what the call comes to
pub deed_told : (b after : BoardView) (k : Call LocalView) (answer : Answer LocalView) → Does b k answer after → deed_of k (board_of b) answer (board_of after) ≡ deed_by (course_of b.setup) (board_of b) k
deed_told b after k answer d = sym (ap (λ p. deed_of k (board_of b) p.0 p.1) d.step)

-- what a worker did, in the attempt of its frame
pub event_told : (w : ℕ) (f : Frame LocalView) (tag : Tag) (deed is : Deed) (e : Event) → e ≡ record { worker = w; iteration = tag.iteration; attempt = tag.attempt; deed = deed } → tag ≡ record { worker = f.worker; iteration = f.iteration; attempt = f.attempt } → deed ≡ is → e ≡ record { worker = w; iteration = f.iteration; attempt = f.attempt; deed = is }
event_told w f tag deed is e told tagged same =
    told ∙ ap (λ (t : Tag). record { worker = w; iteration = t.iteration; attempt = t.attempt; deed = deed }) tagged ∙ ap (λ d. record { worker = w; iteration = f.iteration; attempt = f.attempt; deed = d }) same

module _ (w : ℕ) (b : BoardView) (token : Option Token) (x : Worker) (own : IsOwnFrame b.setup x.frame) (runs : x.is_running ≡ true) (g : FrameView) (ran : g ≡ record x.frame { frame = stretch (ask_in x.frame.code) 1024 x.frame.frame }) where
  -- its stretch
  stretched : event_of (course_of b.setup) w (board_of b) (running_of x token) ≡ event_at (course_of b.setup) w (board_of b) token g.frame g.frame.need
  stretched =
      let f : stretch (ask_in b.setup.code) 1024 x.frame.frame ≡ g.frame = ap (λ k. stretch (ask_in k) 1024 x.frame.frame) (sym own.code) ∙ sym (ap (λ (v : FrameView). v.frame) ran) in
      ap (λ s. event_of (course_of b.setup) w (board_of b) (if s then Some (record { frame = x.frame.frame; token = token }) else None)) runs ∙ ap (λ (h : Frame LocalView). event_at (course_of b.setup) w (board_of b) token h h.need) f

  pub stop_told : (need : Need) (e : Event) → g.frame.need ≡ need → e ≡ event_at (course_of b.setup) w (board_of b) token g.frame need → e ≡ event_of (course_of b.setup) w (board_of b) (running_of x token)
  stop_told need e is told = told ∙ sym (stretched ∙ ap (event_at (course_of b.setup) w (board_of b) token g.frame) is)

  pub head_told : (action in_stop : Action) (need : Need) (e : Event) → g.frame.need ≡ need → NeedHead in_stop ≡ stop_needed action need → e ≡ event_at (course_of b.setup) w (board_of b) token g.frame ForHead → e ≡ event_of (course_of b.setup) w (board_of b) (running_of x token)
  head_told action in_stop Nothing e is s told = absurd cc
  head_told action in_stop (ForLoad a) e is s told = absurd cc
  head_told action in_stop (ForStore a v) e is s told = absurd cc
  head_told action in_stop ForHead e is s told = stop_told ForHead e is told
  head_told action in_stop Held e is s told = stop_told Held e is told
