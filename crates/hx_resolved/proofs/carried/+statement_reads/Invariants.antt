use Rattle.std.proofs.Common.{◌≡◌, drop, map}
use Rattle.hx_resolved.specs.Resolved.{stmts}
use Rattle.hx_resolved.specs.Views.{resolved_stmt}
use Rattle.hx_resolved.specs.Carried.{stmts_read}
use Rattle.hx_resolved.proofs.carried.+statement_reads.Given as goal

abbrev pub invariant-stmts_read-loop-s : goal.invariant-stmts_read-loop-s
invariant-stmts_read-loop-s l = stmts_read l.k (stmts (map resolved_stmt l.ss)) ≡ stmts_read l.k (stmts (map resolved_stmt (drop l.s-index l.ss)))
