use Rattle.std.proofs.Common.{map, sym, ap, ◌∙◌, arith}
use Rattle.std.proofs.lemmas.Grind.{common_steps}
use Rattle.hx_resolved.specs.Resolved.{stmts}
use Rattle.hx_resolved.specs.Views.{resolved_stmt}
use Rattle.hx_resolved.specs.Carried.{stmt_assigns, stmts_assign}
use Rattle.hx_resolved.proofs.Nodes.{block_is}
use Rattle.hx_resolved.proofs.carried.+statement_assigns.Goals as goal

pub stmt_assigns-returns-in-Block : goal.stmt_assigns-returns-in-Block
stmt_assigns-returns-in-Block t c =
    c.stmts_assign.ensures
    ∙ ap (λ l. stmts_assign c.args.k (stmts (map resolved_stmt l))) c.deref.ensures.value
    ∙ sym (ap (λ s. stmt_assigns c.args.k (resolved_stmt s)) c.in-Block.is ∙ ap (stmt_assigns c.args.k) (block_is c.in-Block.body))

pub stmts_assign-loop-s-preserved : goal.stmts_assign-loop-s-preserved
stmts_assign-loop-s-preserved t c = grind (arith, common_steps)
