use Rattle.std.proofs.Common.{◌≡◌, drop, map}
use Rattle.hx_resolved.specs.Resolved.{stmts}
use Rattle.hx_resolved.specs.Views.{resolved_stmt}
use Rattle.hx_resolved.specs.Carried.{stmts_declare}
use Rattle.hx_resolved.proofs.carried.+statement_declares.Given as goal

abbrev pub invariant-stmts_declare-loop-s : goal.invariant-stmts_declare-loop-s
invariant-stmts_declare-loop-s l = stmts_declare l.k (stmts (map resolved_stmt l.ss)) ≡ stmts_declare l.k (stmts (map resolved_stmt (drop l.s-index l.ss)))
