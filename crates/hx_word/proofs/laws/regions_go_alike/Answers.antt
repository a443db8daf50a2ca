use Rattle.hx_word.proofs.Alone.{regions_go}
use Rattle.hx_word.proofs.laws.regions_go_alike.Goals as goal

pub returns : goal.returns
returns c = regions_go
