use Rattle.std.proofs.Common.{map, sym, ap, ◌∙◌, arith}
use Rattle.std.proofs.lemmas.Grind.{common_steps}
use Rattle.hx_resolved.specs.Resolved.{stmts}
use Rattle.hx_resolved.specs.Views.{resolved_stmt}
use Rattle.hx_resolved.specs.Carried.{stmt_declares, stmts_declare}
use Rattle.hx_resolved.proofs.Nodes.{block_is}
use Rattle.hx_resolved.proofs.carried.+statement_declares.Goals as goal

pub stmt_declares-returns-in-Block : goal.stmt_declares-returns-in-Block
stmt_declares-returns-in-Block t c =
    c.stmts_declare.ensures
    ∙ ap (λ l. stmts_declare c.args.k (stmts (map resolved_stmt l))) c.deref.ensures.value
    ∙ sym (ap (λ s. stmt_declares c.args.k (resolved_stmt s)) c.in-Block.is ∙ ap (stmt_declares c.args.k) (block_is c.in-Block.body))

pub stmts_declare-loop-s-preserved : goal.stmts_declare-loop-s-preserved
stmts_declare-loop-s-preserved t c = grind (arith, common_steps)
