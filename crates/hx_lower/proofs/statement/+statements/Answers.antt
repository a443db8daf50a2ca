use Rattle.std.proofs.Common.{rules, ◌≡◌, map, ap, ◌∙◌, length}
use Rattle.hx_resolved.specs.Resolved as resolved
use Rattle.hx_resolved.specs.Views.{resolved_expr, resolved_stmt}
use Rattle.hx_lowering.specs.Lines.{count}
use Rattle.hx_resolved.proofs.Nodes.{block_is}
use Rattle.hx_lower.proofs.Nodes.{count_is}
use Rattle.hx_lower.proofs.statement.+statements.Goals as goal

pub put_stmt-returns-in-Block : goal.put_stmt-returns-in-Block
put_stmt-returns-in-Block t c =
    let all : resolved_stmt c.args.s.now ≡ resolved.Block (resolved.stmts (map resolved_stmt c.in-Block.inner.items)) =
    ap resolved_stmt c.in-Block.is ∙ block_is c.in-Block.inner in
    rw all (search rules)

pub put_stmt-returns-in-CallStatement : goal.put_stmt-returns-in-CallStatement
put_stmt-returns-in-CallStatement t c =
    let many : count (resolved.exprs (map resolved_expr c.in-CallStatement.arguments.items)) ≡ length c.in-CallStatement.arguments.items =
    count_is c.in-CallStatement.arguments.items in
    search rules
