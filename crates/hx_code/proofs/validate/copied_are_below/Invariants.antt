use Rattle.std.proofs.Common.{ℕ, ◌<◌}
use Rattle.std.specs.Prelude.{slice_index_or}
use Rattle.hx_code.proofs.validate.copied_are_below.Given as goal

abbrev pub invariant-loop-private : goal.invariant-loop-private
invariant-loop-private l = (k d : ℕ) → k < l.private-index → slice_index_or l.copied k d < l.privates
