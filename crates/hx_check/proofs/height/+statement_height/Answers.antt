use Rattle.std.proofs.Common.{map, ap, arith}
use Rattle.std.proofs.lemmas.Grind.{common_steps}
use Rattle.std.proofs.lemmas.Bool.{false≢true}
use Rattle.hx_tree.specs.Tree.{parts}
use Rattle.hx_tree.specs.View.{part_of, stmt_of}
use Rattle.hx_tree.specs.Height.{parts_height}
use Rattle.hx_check.proofs.Needs.{stmt_height_positive, height_of_block}
use Rattle.hx_check.proofs.height.+statement_height.Goals as goal

pub stmt_fits-returns-then-room-eq0 : goal.stmt_fits-returns-then-room-eq0
stmt_fits-returns-then-room-eq0 t c =
    (λ h. absurd (false≢true h), λ h. absurd (omega (arith, stmt_height_positive (stmt_of c.args.s.now), c.if-room-eq0.true)))

pub stmt_fits-returns-in-Block : goal.stmt_fits-returns-in-Block
stmt_fits-returns-in-Block t c =
    let is = height_of_block c.args.s.now c.in-Block.ps c.in-Block.is in
    let items = ap (λ l. parts_height (parts (map part_of l))) c.deref.ensures.value in
    (λ h. omega (arith, c.parts_fit.ensures.0 h), λ h. c.parts_fit.ensures.1 (omega arith))

pub parts_fit-loop-p-preserved : goal.parts_fit-loop-p-preserved
parts_fit-loop-p-preserved t c = grind (arith, common_steps)
