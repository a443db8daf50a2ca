use Rattle.std.proofs.Common.{◌≡◌, ◌+◌, ◌<◌, map, drop}
use Rattle.hx_resolved.specs.Resolved.{stmts}
use Rattle.hx_resolved.specs.Views.{resolved_stmt}
use Rattle.hx_lowering.specs.Size as size
use Rattle.hx_lower.proofs.size.+statements.Given as goal

abbrev pub invariant-stmts_size-loop-s : goal.invariant-stmts_size-loop-s
invariant-stmts_size-loop-s l = (size.stmts_size (stmts (map resolved_stmt l.ss)) ≡ l.words + size.stmts_size (stmts (map resolved_stmt (drop l.s-index l.ss)))) × (l.words < 4294967296)
