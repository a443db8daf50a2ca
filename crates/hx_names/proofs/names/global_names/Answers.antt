use Rattle.std.proofs.Common.{arith}
use Rattle.std.proofs.lemmas.Grind.{common_steps}
use Rattle.hx_names.proofs.Places.{global_names_more}
use Rattle.hx_names.proofs.names.global_names.Goals as goal

pub loop-item-preserved : goal.loop-item-preserved
loop-item-preserved c = (grind (arith, common_steps, global_names_more), grind (arith, common_steps))
