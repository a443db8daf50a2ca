use Rattle.std.proofs.Common.{ℕ, ◌<◌, ℤ, w32, FitsSigned}
use Rattle.std.specs.Prelude.{slice_index_or}
use Rattle.hx_run.proofs.running.known.Given as goal

abbrev pub invariant-loop-word : goal.invariant-loop-word
invariant-loop-word l = (k : ℕ) (d : ℤ) → k < l.word-index → FitsSigned w32 (slice_index_or l.input k d)
