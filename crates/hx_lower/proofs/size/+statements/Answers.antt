use Rattle.std.proofs.Common.{rules, ◌≡◌, map, ap, ◌∙◌}
use Rattle.hx_resolved.specs.Resolved.{stmts}
use Rattle.hx_resolved.specs.Views.{resolved_stmt}
use Rattle.hx_lowering.specs.Size as size
use Rattle.hx_resolved.proofs.Nodes.{block_is}
use Rattle.hx_lower.proofs.size.+statements.Goals as goal

pub stmt_size-returns-in-Block : goal.stmt_size-returns-in-Block
stmt_size-returns-in-Block t c =
    let all : size.stmt_size (resolved_stmt c.args.s.now) ≡ size.stmts_size (stmts (map resolved_stmt c.in-Block.inner.items)) =
    ap (λ e. size.stmt_size (resolved_stmt e)) c.in-Block.is ∙ ap size.stmt_size (block_is c.in-Block.inner) in
    search rules
