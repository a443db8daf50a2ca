use Rattle.std.proofs.Common.{arith}
use Rattle.std.proofs.lemmas.Grind.{common_steps}
use Rattle.hx_check.proofs.opening.add_globals.Goals as goal

pub loop-g-preserved : goal.loop-g-preserved
loop-g-preserved c = grind (arith, common_steps)

pub returns : goal.returns
returns c = grind (arith, common_steps)
