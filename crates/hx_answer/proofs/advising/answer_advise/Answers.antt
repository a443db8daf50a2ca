use Rattle.std.proofs.Common.{rules}
use Rattle.hx_answer.proofs.advising.answer_advise.Goals as goal

pub returns-in-Ok-advice_of-clause-answer : goal.returns-in-Ok-advice_of-clause-answer
returns-in-Ok-advice_of-clause-answer g c = search rules
