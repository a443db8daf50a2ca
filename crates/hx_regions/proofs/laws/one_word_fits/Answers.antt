use Rattle.hx_regions.proofs.Words.{word_fits}
use Rattle.hx_regions.proofs.laws.one_word_fits.Goals as goal

pub returns : goal.returns
returns c = λ code valid r l s. word_fits code valid r l s
