use Rattle.hx_lowered.proofs.Spelled.{few_words}
use Rattle.hx_lowered.proofs.laws.spelled_code_is_short.Goals as goal

pub returns : goal.returns
returns c = few_words
