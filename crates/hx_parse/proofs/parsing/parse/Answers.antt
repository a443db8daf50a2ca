use Rattle.hx_tree.specs.View.{program_of}
use Rattle.hx_lex.specs.View.{tokens_of}
use Rattle.hx_grammar.proofs.Whole.{found}
use Rattle.hx_parse.proofs.parsing.parse.Goals as goal

pub returns-in-Ok-clause-spelled : goal.returns-in-Ok-clause-spelled
returns-in-Ok-clause-spelled c = (found _ (tokens_of c.args.tokens.now) (program_of c.in-Ok.found) c.in-Ok.ensures).0

pub returns-in-Ok-clause-low : goal.returns-in-Ok-clause-low
returns-in-Ok-clause-low c = (found _ (tokens_of c.args.tokens.now) (program_of c.in-Ok.found) c.in-Ok.ensures).1
