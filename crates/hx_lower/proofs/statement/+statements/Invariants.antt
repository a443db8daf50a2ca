use Rattle.std.proofs.Common.{map, drop}
use Rattle.hx_resolved.specs.Views.{resolved_stmt}
use Rattle.hx_lower.proofs.Puts.{StmtsPut}
use Rattle.hx_lower.proofs.statement.+statements.Given as goal

abbrev pub invariant-put_stmts-loop-s : goal.invariant-put_stmts-loop-s
invariant-put_stmts-loop-s l = StmtsPut (map resolved_stmt l.ss) (map resolved_stmt (drop l.s-index l.ss)) l.version l.to l.initial.draft l.draft
