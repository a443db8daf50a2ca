-- What a finish promises: the source spells an accepted program, and the finish is that of the program on one thread.
use Rattle.std.specs.Prelude.{◌≡◌, ℕ, ◌≤◌, ◌^◌, ◌-◌, min, ℤ, List, None}
use Rattle.hx_tree.specs.declared.limits.TheConstants.{TABLE_LIMIT, WORKER_LIMIT}
use Rattle.hx_tree.specs.declared.outcome.Finish.{Finish}
use Rattle.hx_tree.specs.declared.outcome.Settings.{Settings}
use Rattle.hx_tree.specs.Tree.{Program}
use Rattle.hx_tree.specs.Meaning.{Means, InputFits, shown_by}
use Rattle.hx_code.specs.Code.{CodeView}
use Rattle.hx_lowering.specs.Correct.{Behaves}
use Rattle.hx_run.specs.declared.refusal.Refusal.{Refusal}
use Rattle.hx_run.specs.declared.refusal.Refusal.TheVariants as refusal
use Rattle.hx_run.specs.declared.running.PlainRan.{PlainRan}
use Rattle.hx_run.specs.declared.running.PlainRan.TheVariants.{Ended, More}
use Rattle.hx_run.specs.Sources.{IsSourceOf}
use Rattle.hx_run.specs.Refusals.{RefusesSource}
use Rattle.hx_run.specs.Runs.{after, EndsAs}

-- the printed text, the final globals and the end are those of the program of the source, and so are the whole turns, as far
-- as 64 bits count them
pub record IsFinishOf (source : List ℕ) (input : List ℤ) (f : Finish) : Type 0 where
  pub program : Program
  pub is_source : IsSourceOf source program
  pub fits : InputFits program input
  pub turns : ℕ
  pub means : Means program input (shown_by f.outcome turns)
  pub counted : f.counts.turns ≡ min turns (2 ^ 64 - 1)

-- code that takes the inputs of the program of the source, and does what the program means
pub record IsCodeOf (source : List ℕ) (code : CodeView) : Type 0 where
  pub program : Program
  pub is_source : IsSourceOf source program
  pub behaves : Behaves program code

-- one to sixteen workers, and tables of 1 to 4,096 words
pub record AreInRange (s : Settings) : Type 0 where
  pub some_workers : 1 ≤ s.workers
  pub few_workers : s.workers ≤ WORKER_LIMIT
  pub some_marks : 1 ≤ s.marks
  pub few_marks : s.marks ≤ TABLE_LIMIT
  pub some_buffer : 1 ≤ s.buffer
  pub few_buffer : s.buffer ≤ TABLE_LIMIT

-- the source is that of an accepted program, which the input doesn't fit
pub record IsTooLong (source : List ℕ) (input : List ℤ) : Type 0 where
  pub program : Program
  pub is_source : IsSourceOf source program
  pub unfit : InputFits program input → ⊥

-- code of the source has ended after so many words, with this outcome and these counts
abbrev pub EndsWithin : List ℕ → List ℤ → ℕ → Finish → Type 0
EndsWithin source input steps f = (code : CodeView) × IsCodeOf source code × EndsAs code (after code input steps) f

-- so many words of a run: its finish, where code of the source has ended after them; and where it isn't over, that code hasn't
abbrev pub IsPlainRanOf : List ℕ → List ℤ → ℕ → PlainRan → Type 0
IsPlainRanOf source input steps (Ended f) = IsFinishOf source input f × EndsWithin source input steps f
IsPlainRanOf source input steps More = (code : CodeView) × IsCodeOf source code × ((after code input steps).end ≡ None)

-- a refusal of a source and its input: memory (50 and 62) says nothing, 61 is the input's, and any other is the source's
abbrev pub RefusesRun : List ℕ → List ℤ → Refusal → Type 0
RefusesRun source input refusal.InputTooLong = IsTooLong source input
RefusesRun source input refusal.Memory = Unit {0}
RefusesRun source input refusal.Pool = Unit {0}
RefusesRun source input e = RefusesSource source e
