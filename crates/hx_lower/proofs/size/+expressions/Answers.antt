use Rattle.std.proofs.Common.{rules, ◌≡◌, map, ap, ◌∙◌, ◌+◌}
use Rattle.hx_resolved.specs.Resolved.{exprs}
use Rattle.hx_resolved.specs.Views.{resolved_expr}
use Rattle.hx_lowering.specs.Size as size
use Rattle.hx_resolved.proofs.Nodes.{call_is}
use Rattle.hx_lower.proofs.size.+expressions.Goals as goal

pub expr_size-returns-in-Call : goal.expr_size-returns-in-Call
expr_size-returns-in-Call t c =
    let all : size.expr_size (resolved_expr c.args.e.now) ≡ size.exprs_size (exprs (map resolved_expr c.in-Call.arguments.items)) + 1 =
    ap (λ e. size.expr_size (resolved_expr e)) c.in-Call.is ∙ ap size.expr_size (call_is c.in-Call.field-0 c.in-Call.field-1 c.in-Call.arguments) in
    search rules
