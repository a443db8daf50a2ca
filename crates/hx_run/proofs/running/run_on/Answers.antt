use Rattle.std.proofs.Common.{rules}
use Rattle.hx_run.proofs.running.run_on.Goals as goal

pub returns-clause-settings : goal.returns-clause-settings
returns-clause-settings g c = search rules
