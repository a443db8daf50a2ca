use Rattle.hx_advise.proofs.Loops.{events_are, events_tell}
use Rattle.hx_advise.proofs.laws.events_tell.Goals as goal

pub returns : goal.returns
returns c = record { all = λ r entry n over. events_tell r entry n over; some = λ r entry n f. events_are r entry n f }
