-- Words that an iteration does by itself.
use Rattle.std.specs.Prelude.{◌≡◌, ℕ}
use Rattle.hx_marks.specs.Table.{Table}
use Rattle.hx_code.specs.Code.{CodeView}
use Rattle.hx_code.specs.Local.{LocalView}
use Rattle.hx_code.specs.Fits.{FitsLocal}
use Rattle.hx_speculation.specs.Frame.{Frame, words, goes_to, stops_for}
use Rattle.hx_frame.specs.declared.action.Need.{Need}
use Rattle.hx_frame.specs.Automaton.{ask_in}
use Rattle.hx_frame.specs.Action.{need_of}
use Rattle.hx_frame.specs.Frame.{TellsNeed}

-- with these marks and writes, as many words as may be done lead there, for this need
pub record RanTo (code : CodeView) (marks writes : Table) (limit : ℕ) (from to : LocalView) (need : Need) : Type 0 where
  pub ran : (f : Frame LocalView) → f.marks ≡ marks → f.writes ≡ writes → words (ask_in code) limit (goes_to from f) ≡ stops_for (need_of need) (goes_to to f)
  pub fits : FitsLocal code to
  pub tells : TellsNeed code to need
