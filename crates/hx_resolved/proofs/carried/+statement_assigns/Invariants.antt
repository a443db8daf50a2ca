use Rattle.std.proofs.Common.{◌≡◌, drop, map}
use Rattle.hx_resolved.specs.Resolved.{stmts}
use Rattle.hx_resolved.specs.Views.{resolved_stmt}
use Rattle.hx_resolved.specs.Carried.{stmts_assign}
use Rattle.hx_resolved.proofs.carried.+statement_assigns.Given as goal

abbrev pub invariant-stmts_assign-loop-s : goal.invariant-stmts_assign-loop-s
invariant-stmts_assign-loop-s l = stmts_assign l.k (stmts (map resolved_stmt l.ss)) ≡ stmts_assign l.k (stmts (map resolved_stmt (drop l.s-index l.ss)))
