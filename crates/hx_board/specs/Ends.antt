-- How a board ends.
use Rattle.std.specs.Prelude.{◌≡◌, ℕ, Option, Some, None, length, take}
use Rattle.hx_code.specs.declared.word.Exit.{Exit}
use Rattle.hx_code.specs.declared.word.Exit.TheVariants.{Left as LeftRegion, Returned as ReturnedFrom, Faulted as FaultedIn}
use Rattle.hx_code.specs.Code.{CodeView}
use Rattle.hx_code.specs.Region.{words_after, region_after}
use Rattle.hx_word.specs.declared.entry.Entry.{Entry}
use Rattle.hx_word.specs.declared.entry.RegionEnd.{RegionEnd}
use Rattle.hx_word.specs.Entry.{IsEndOf, EndLasts, region_counts}
use Rattle.hx_word.specs.Laws.{begun_from}
use Rattle.hx_board.specs.Board.{BoardView, Setup, entry_view, opened_at}
use Rattle.hx_board.specs.declared.answers.State.{State}
use Rattle.hx_board.specs.declared.answers.State.TheVariants.{Running, Left, Returned, Faulted}

abbrev pub state_of : Option Exit → State
state_of None = Running
state_of (Some LeftRegion) = Left
state_of (Some (ReturnedFrom v)) = Returned v
state_of (Some (FaultedIn fault)) = Faulted fault

-- a board was made for this region of this code, and this entry
pub record IsFor (s : Setup) (code : CodeView) (region : ℕ) (e : Entry) : Type 0 where
  pub same_code : s.code ≡ code
  pub same_region : s.region ≡ region
  pub same_entry : s.entry ≡ entry_view e

-- an end tells how the board ended
pub record EndsAs (b : BoardView) (e : RegionEnd) : Type 0 where
  pub exit : b.exit ≡ Some e.exit
  pub store : e.store.items ≡ b.store
  pub locals : e.locals.items ≡ take (length b.setup.entry.locals) (words_after b.setup.code e.exit (opened_at b.setup) b.head b.store)
  pub text : e.text.items ≡ b.text
  pub counts : e.counts ≡ b.counts

-- an end but for what speculation counts beside the whole turns
abbrev pub plainly : RegionEnd → RegionEnd
plainly e = record e { counts = region_counts e.counts.turns }

-- this is where the plain region of the code comes to from its entry, after some words: one thread's end
pub record EndsPlainly (code : CodeView) (region : ℕ) (entry : Entry) (e : RegionEnd) : Type 0 where
  pub words : ℕ
  pub end : IsEndOf code (region_after code words (begun_from code region entry)) (length entry.locals.items) (plainly e)
  pub lasts : EndLasts code (region_after code words (begun_from code region entry)) (length entry.locals.items) e
  pub regions : e.counts.regions ≡ 1
