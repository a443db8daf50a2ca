use Rattle.std.proofs.Common.{rules}
use Rattle.hx_answer.proofs.answer.answer_execution.Goals as goal

pub returns-clause-answer : goal.returns-clause-answer
returns-clause-answer g c = search rules
