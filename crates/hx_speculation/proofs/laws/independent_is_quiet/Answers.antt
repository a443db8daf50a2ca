use Rattle.hx_speculation.proofs.Attempts.{independent_is_quiet}
use Rattle.hx_speculation.proofs.laws.independent_is_quiet.Goals as goal

pub returns : goal.returns
returns c r entry i = independent_is_quiet r entry i
