use Rattle.std.proofs.Common.{arith}
use Rattle.std.proofs.lemmas.Grind.{common_steps}
use Rattle.hx_check.proofs.statement.local_decls.Goals as goal

pub loop-d-preserved : goal.loop-d-preserved
loop-d-preserved c = grind (arith, common_steps)

pub loop-d-init : goal.loop-d-init
loop-d-init c = grind (arith, common_steps)

pub offset_bounds-ds-d-index : goal.offset_bounds-ds-d-index
offset_bounds-ds-d-index c = grind (arith, common_steps)

pub returns-in_err-check_new : goal.returns-in_err-check_new
returns-in_err-check_new c = grind (arith, common_steps)

pub returns-in_err-value : goal.returns-in_err-value
returns-in_err-value c = grind (arith, common_steps)

pub returns-in_err-word : goal.returns-in_err-word
returns-in_err-word c = grind (arith, common_steps)

pub returns-in_err-push : goal.returns-in_err-push
returns-in_err-push c = grind (arith, common_steps)

pub returns : goal.returns
returns c = grind (arith, common_steps)
