use Rattle.hx_names.proofs.Blocks.{appended, marks_of_block}
use Rattle.hx_names.proofs.loops.+statements.Goals as goal

pub put_stmt-returns-in-Block : goal.put_stmt-returns-in-Block
put_stmt-returns-in-Block t c =
    appended _ _ _ (marks_of_block c.args.stmt.now c.in-Block.parts c.deref.result.now c.args.is_inside c.in-Block.is c.deref.ensures.value) c.put_parts.ensures
