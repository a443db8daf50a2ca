use Rattle.std.proofs.Common.{map, arith, ap}
use Rattle.std.proofs.lemmas.Grind.{common_steps}
use Rattle.std.proofs.lemmas.Bool.{false≢true}
use Rattle.hx_tree.specs.Tree.{exprs}
use Rattle.hx_tree.specs.View.{expr_of}
use Rattle.hx_tree.specs.Height.{heights}
use Rattle.hx_check.proofs.Needs.{height_positive, height_of_call}
use Rattle.hx_check.proofs.height.+expression_height.Goals as goal

pub expr_fits-returns-then-room-eq0 : goal.expr_fits-returns-then-room-eq0
expr_fits-returns-then-room-eq0 t c =
    (λ h. absurd (false≢true h), λ h. absurd (omega (arith, height_positive (expr_of c.args.e.now), c.if-room-eq0.true)))

pub expr_fits-returns-in-Call : goal.expr_fits-returns-in-Call
expr_fits-returns-in-Call t c =
    let is = height_of_call c.args.e.now c.in-Call.field-0 c.in-Call.arguments c.in-Call.is in
    let items = ap (λ l. heights (exprs (map expr_of l))) c.deref-in-Call.ensures.value in
    (λ h. omega (arith, c.exprs_fit.ensures.0 h), λ h. c.exprs_fit.ensures.1 (omega arith))

pub exprs_fit-loop-e-preserved : goal.exprs_fit-loop-e-preserved
exprs_fit-loop-e-preserved t c = grind (arith, common_steps)
