use Rattle.hx_lowered.proofs.Lowered.{lowered_valid}
use Rattle.hx_lowered.proofs.laws.lowered_code_is_valid.Goals as goal

pub returns : goal.returns
returns c = lowered_valid
