use Rattle.hx_word.proofs.Alone.{regions_end}
use Rattle.hx_word.proofs.laws.regions_end_alike.Goals as goal

pub returns : goal.returns
returns c = regions_end
