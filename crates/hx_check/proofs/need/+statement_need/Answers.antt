use Rattle.std.proofs.Common.{map, ap, arith}
use Rattle.std.proofs.lemmas.Grind.{common_steps}
use Rattle.hx_tree.specs.Tree.{parts}
use Rattle.hx_tree.specs.View.{part_of}
use Rattle.hx_tree.specs.Need.{parts_need}
use Rattle.hx_check.proofs.Needs.{need_of_block}
use Rattle.hx_check.proofs.need.+statement_need.Goals as goal

pub stmt_need-returns-in-Block : goal.stmt_need-returns-in-Block
stmt_need-returns-in-Block t c =
    let is = need_of_block c.args.s.now c.in-Block.ps c.in-Block.is in
    let items = ap (λ l. parts_need (parts (map part_of l))) c.deref.ensures.value in
    omega arith

pub parts_need-loop-p-preserved : goal.parts_need-loop-p-preserved
parts_need-loop-p-preserved t c = grind (arith, common_steps)
