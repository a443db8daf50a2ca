use Rattle.hx_regions.proofs.Plain.{plain_fits}
use Rattle.hx_regions.proofs.laws.states_fit.Goals as goal

pub returns : goal.returns
returns c = λ code valid o is entry n. plain_fits code valid o is entry n
