use Rattle.std.proofs.Common.{◌≡◌, ◌++◌, drop}
use Rattle.hx_lowering.specs.Draft.{cells_from}
use Rattle.hx_lower.proofs.draft.cells_of.Given as goal

abbrev pub invariant-loop-private : goal.invariant-loop-private
invariant-loop-private l = cells_from l.carried 0 ≡ l.cells.items ++ cells_from (drop l.private-index l.carried) l.cell
