use Rattle.std.proofs.Common.{◌≡◌, drop}
use Rattle.hx_lowering.specs.Lines.{cell_of}
use Rattle.hx_lower.proofs.draft.cell_of.Given as goal

abbrev pub invariant-loop-c : goal.invariant-loop-c
invariant-loop-c l = cell_of l.carried l.private ≡ cell_of (drop l.c-index l.carried) l.private
