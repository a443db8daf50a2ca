use Rattle.std.proofs.Common.{map, sym, ap, ◌∙◌, arith}
use Rattle.std.proofs.lemmas.Grind.{common_steps}
use Rattle.hx_resolved.specs.Resolved.{stmts}
use Rattle.hx_resolved.specs.Views.{resolved_stmt}
use Rattle.hx_resolved.specs.Carried.{stmt_reads, stmts_read}
use Rattle.hx_resolved.proofs.Nodes.{block_is}
use Rattle.hx_resolved.proofs.carried.+statement_reads.Goals as goal

pub stmt_reads-returns-in-Block : goal.stmt_reads-returns-in-Block
stmt_reads-returns-in-Block t c =
    c.stmts_read.ensures
    ∙ ap (λ l. stmts_read c.args.k (stmts (map resolved_stmt l))) c.deref.ensures.value
    ∙ sym (ap (λ s. stmt_reads c.args.k (resolved_stmt s)) c.in-Block.is ∙ ap (stmt_reads c.args.k) (block_is c.in-Block.body))

pub stmts_read-loop-s-preserved : goal.stmts_read-loop-s-preserved
stmts_read-loop-s-preserved t c = grind (arith, common_steps)
