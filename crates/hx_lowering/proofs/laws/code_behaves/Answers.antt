use Rattle.hx_lowering.proofs.Programs.{behaves}
use Rattle.hx_lowering.proofs.laws.code_behaves.Goals as goal

pub returns : goal.returns
returns c = behaves
