use Rattle.std.proofs.Common.{map, ap, arith}
use Rattle.std.proofs.lemmas.Grind.{common_steps}
use Rattle.hx_tree.specs.Tree.{exprs}
use Rattle.hx_tree.specs.View.{expr_of}
use Rattle.hx_tree.specs.Need.{needs}
use Rattle.hx_check.proofs.Needs.{need_of_call}
use Rattle.hx_check.proofs.need.+expression_need.Goals as goal

pub need-returns-in-Call : goal.need-returns-in-Call
need-returns-in-Call t c =
    let is = need_of_call c.args.e.now c.in-Call.field-0 c.in-Call.arguments c.in-Call.is in
    let items = ap (λ l. needs (exprs (map expr_of l)) 0) c.deref-in-Call.ensures.value in
    omega arith

pub needs-loop-e-preserved : goal.needs-loop-e-preserved
needs-loop-e-preserved t c = grind (arith, common_steps)
