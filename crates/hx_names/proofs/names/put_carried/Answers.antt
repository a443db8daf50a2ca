use Rattle.std.proofs.Common.{arith}
use Rattle.std.proofs.lemmas.Grind.{common_steps}
use Rattle.hx_names.proofs.Places.{filter_map_push}
use Rattle.hx_names.proofs.names.put_carried.Goals as goal

pub loop-one-preserved : goal.loop-one-preserved
loop-one-preserved c = grind (arith, common_steps, filter_map_push)
