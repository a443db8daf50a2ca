-- What an answer of the parser tells of the tokens.
use Rattle.std.specs.Prelude.{◌≡◌, ℕ, ◌<◌, List, Option, Some, None}
use Rattle.hx_tree.specs.declared.limits.TheConstants.{HEIGHT_LIMIT}
use Rattle.hx_tree.specs.declared.token.Pos.{Pos}
use Rattle.hx_tree.specs.Tree.{Program}
use Rattle.hx_tree.specs.Lexis.{Token}
use Rattle.hx_tree.specs.Grammar.{IsProgram}
use Rattle.hx_tree.specs.Height.{program_height}
use Rattle.hx_parse.specs.declared.error.ParseError.{ParseError}
use Rattle.hx_parse.specs.declared.error.ParseError.TheVariants.{Syntax, TooDeep, Memory}

-- ---- programs

-- the tokens spell no other program, of whatever height
abbrev pub NoOthers : List Token → Program → Type 0
NoOthers tokens p = (other : Program) → IsProgram other tokens → other ≡ p

-- ---- refusals

abbrev pub number_of : ParseError → ℕ
number_of (Syntax pos) = 10
number_of TooDeep = 11
number_of Memory = 12

abbrev pub pos_of : ParseError → Option Pos
pos_of (Syntax pos) = Some pos
pos_of TooDeep = None
pos_of Memory = None

-- what a refusal means: the tokens spell no program of any height; none of at most the limit; nothing
abbrev pub Refuses : List Token → ParseError → Type 0
Refuses tokens (Syntax pos) = (p : Program) → IsProgram p tokens → ⊥
Refuses tokens TooDeep = (p : Program) → IsProgram p tokens → HEIGHT_LIMIT < program_height p
Refuses tokens Memory = Unit {0}
