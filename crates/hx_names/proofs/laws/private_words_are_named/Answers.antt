use Rattle.hx_names.proofs.Counts.{private_count}
use Rattle.hx_names.proofs.laws.private_words_are_named.Goals as goal

pub returns : goal.returns
returns c = private_count
