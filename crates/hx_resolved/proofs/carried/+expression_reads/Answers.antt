use Rattle.std.proofs.Common.{map, sym, ap, ◌∙◌, arith}
use Rattle.std.proofs.lemmas.Grind.{common_steps}
use Rattle.hx_resolved.specs.Resolved.{exprs}
use Rattle.hx_resolved.specs.Views.{resolved_expr}
use Rattle.hx_resolved.specs.Carried.{expr_reads, exprs_read}
use Rattle.hx_resolved.proofs.Nodes.{call_is}
use Rattle.hx_resolved.proofs.carried.+expression_reads.Goals as goal

pub expr_reads-returns-in-Call : goal.expr_reads-returns-in-Call
expr_reads-returns-in-Call t c =
    c.exprs_read.ensures
    ∙ ap (λ l. exprs_read c.args.k (exprs (map resolved_expr l))) c.deref-in-Call.ensures.value
    ∙ sym (ap (λ e. expr_reads c.args.k (resolved_expr e)) c.in-Call.is ∙ ap (expr_reads c.args.k) (call_is c.in-Call.field-0 c.in-Call.field-1 c.in-Call.arguments))

pub exprs_read-loop-e-preserved : goal.exprs_read-loop-e-preserved
exprs_read-loop-e-preserved t c = grind (arith, common_steps)
