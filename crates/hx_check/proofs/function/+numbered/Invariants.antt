use Rattle.std.proofs.Common.{length}
use Rattle.hx_check.proofs.function.+numbered.Given as goal

abbrev pub decreases-numbered : goal.decreases-numbered
decreases-numbered l = length l.names.now
