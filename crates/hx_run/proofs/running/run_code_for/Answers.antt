use Rattle.std.proofs.Common.{rules}
use Rattle.hx_run.proofs.running.run_code_for.Goals as goal

pub returns-in-Ended-clause-ran : goal.returns-in-Ended-clause-ran
returns-in-Ended-clause-ran c = search rules

pub returns-in-More-clause-ran : goal.returns-in-More-clause-ran
returns-in-More-clause-ran c = search rules
