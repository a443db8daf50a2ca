use Rattle.std.proofs.Common.{rules}
use Rattle.hx_run.proofs.executing.execute.Goals as goal

pub returns-then-not-are_in_range-clause-settings : goal.returns-then-not-are_in_range-clause-settings
returns-then-not-are_in_range-clause-settings g c = search rules
