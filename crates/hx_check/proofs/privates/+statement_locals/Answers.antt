use Rattle.std.proofs.Common.{map, ap, arith}
use Rattle.std.proofs.lemmas.Grind.{common_steps}
use Rattle.hx_tree.specs.Tree.{parts}
use Rattle.hx_tree.specs.View.{part_of}
use Rattle.hx_tree.specs.Accepted.{parts_locals}
use Rattle.hx_check.proofs.Needs.{locals_of_block}
use Rattle.hx_check.proofs.privates.+statement_locals.Goals as goal

pub stmt_locals-returns-in-Block : goal.stmt_locals-returns-in-Block
stmt_locals-returns-in-Block t c =
    let is = locals_of_block c.args.s.now c.in-Block.ps c.in-Block.is in
    let items = ap (λ l. parts_locals (parts (map part_of l))) c.deref.ensures.value in
    omega arith

pub parts_locals-loop-p-preserved : goal.parts_locals-loop-p-preserved
parts_locals-loop-p-preserved t c = grind (arith, common_steps)
