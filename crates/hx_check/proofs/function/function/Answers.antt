use Rattle.std.proofs.lemmas.Grind.{common_steps}
use Rattle.std.proofs.Common.{arith}
use Rattle.hx_check.proofs.function.function.Goals as goal

pub returns-in_err-privates : goal.returns-in_err-privates
returns-in_err-privates c = grind (arith, common_steps)

pub returns-in_err-need : goal.returns-in_err-need
returns-in_err-need c = grind (arith, common_steps)

pub returns-in_err-check_distinct : goal.returns-in_err-check_distinct
returns-in_err-check_distinct c = grind (arith, common_steps)

pub with_parameters-requires : goal.with_parameters-requires
with_parameters-requires c = grind (arith, common_steps)

pub returns-in_err-locals : goal.returns-in_err-locals
returns-in_err-locals c = grind (arith, common_steps)

pub returns-in_err-body : goal.returns-in_err-body
returns-in_err-body c = grind (arith, common_steps)

pub returns-in_err-from_slice : goal.returns-in_err-from_slice
returns-in_err-from_slice c = grind (arith, common_steps)

pub overflow_cast-result : goal.overflow_cast-result
overflow_cast-result c = grind (arith, common_steps)

pub returns : goal.returns
returns c = grind (arith, common_steps)
