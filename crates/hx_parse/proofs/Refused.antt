-- What a refusal of a whole program says.
use Rattle.std.proofs.Common.{ℕ, ◌+◌, ◌<◌, ◌≤◌, List, arith}
use Rattle.hx_tree.specs.declared.limits.TheConstants.{HEIGHT_LIMIT}
use Rattle.hx_tree.specs.Lexis.{Token}
use Rattle.hx_tree.specs.Height.{program_height}
use Rattle.hx_grammar.specs.Reading.{program_at}
use Rattle.hx_grammar.proofs.Whole.{none_spelled, none_low}
use Rattle.hx_parse.specs.declared.error.ParseError.{ParseError}
use Rattle.hx_parse.specs.declared.error.ParseError.TheVariants.{Syntax, TooDeep, Memory}
use Rattle.hx_parse.specs.Gives.{Fails}
use Rattle.hx_parse.specs.Answer.{Refuses}

pub refuses : (tokens : List Token) (e : ParseError) (room : ℕ) → Fails e (program_at room tokens) → HEIGHT_LIMIT ≤ room + 3 → Refuses tokens e
refuses tokens (Syntax pos) room h enough = none_spelled room tokens h
refuses tokens TooDeep room h enough = λ p is. let high : room + 3 < program_height p = none_low room tokens h p is in omega arith
refuses tokens Memory room h enough = tt
