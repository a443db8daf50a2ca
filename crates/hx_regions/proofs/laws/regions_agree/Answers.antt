use Rattle.hx_regions.proofs.Agree.{agree}
use Rattle.hx_regions.proofs.laws.regions_agree.Goals as goal

pub returns : goal.returns
returns c = λ code valid o is words long n. agree code valid o is words long n
