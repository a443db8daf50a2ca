use Rattle.std.proofs.Common.{rules}
use Rattle.hx_answer.proofs.explaining.explain_execution.Goals as goal

pub returns-in-Ok-clause-answer : goal.returns-in-Ok-clause-answer
returns-in-Ok-clause-answer g c = search rules

pub returns-in_default-case_of_execution-clause-answer : goal.returns-in_default-case_of_execution-clause-answer
returns-in_default-case_of_execution-clause-answer g c = search rules

pub returns-in_default-clause-answer : goal.returns-in_default-clause-answer
returns-in_default-clause-answer g c = search rules
