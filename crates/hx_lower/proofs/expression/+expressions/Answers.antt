use Rattle.std.proofs.lemmas.Grind.{common_steps}
use Rattle.std.proofs.Common.{arith, rules, ◌≡◌, map, ap, ◌∙◌, length}
use Rattle.hx_resolved.specs.Resolved as resolved
use Rattle.hx_resolved.specs.Views.{resolved_expr}
use Rattle.hx_lowering.specs.Lines.{count}
use Rattle.hx_resolved.proofs.Nodes.{call_is}
use Rattle.hx_lower.proofs.Nodes.{count_is}
use Rattle.hx_lower.proofs.expression.+expressions.Goals as goal

pub put_expr-returns-in-Call-clause-words : goal.put_expr-returns-in-Call-clause-words
put_expr-returns-in-Call-clause-words t c =
    let es = map resolved_expr c.in-Call.arguments.items in
    let all : resolved_expr c.args.e.now ≡ resolved.Call c.in-Call.function c.in-Call.at (resolved.exprs es) =
    ap resolved_expr c.in-Call.is ∙ call_is c.in-Call.function c.in-Call.at c.in-Call.arguments in
    let many : count (resolved.exprs es) ≡ length c.in-Call.arguments.items = count_is c.in-Call.arguments.items in
    rw all (search rules)

pub put_exprs-loop-e-preserved : goal.put_exprs-loop-e-preserved
put_exprs-loop-e-preserved t c = grind (arith, common_steps)
