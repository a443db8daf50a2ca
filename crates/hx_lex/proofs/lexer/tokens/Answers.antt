use Rattle.std.proofs.Common.{◌≡◌, ℕ, List, length, Result, Ok, Err, arith}
use Rattle.std.specs.Prelude.{IfOk, IfErr}
use Rattle.std.specs.Global.{Vec}
use Rattle.hx_tree.specs.Lexis.{first_place}
use Rattle.hx_lex.specs.declared.token.Token.{Token}
use Rattle.hx_lex.specs.declared.error.LexError.{LexError}
use Rattle.hx_lex.specs.declared.error.LexError.TheVariants as error
use Rattle.hx_lex.specs.View.{tokens_of}
use Rattle.hx_lex.specs.Reading.{Gives, lex_at}
use Rattle.hx_lex.specs.Answer.{NoOthers, Refuses}
use Rattle.hx_lex.proofs.Whole.{is_only, is_none, is_first, never_too_long}
use Rattle.hx_lex.proofs.lexer.tokens.Goals as goal

-- the answer is what the reading gives
abbrev IsReading : List ℕ → Result (Vec Token) LexError → Type 0
IsReading bytes r = Gives (λ v. tokens_of v.items) r (lex_at (length bytes) first_place bytes)

only : (bytes : List ℕ) (r : Result (Vec Token) LexError) → IsReading bytes r → IfOk r (λ v. NoOthers bytes (tokens_of v.items))
only bytes (Ok v) e = is_only bytes (tokens_of v.items) e
only bytes (Err f) e = tt

refused : (bytes : List ℕ) (r : Result (Vec Token) LexError) → IsReading bytes r → IfErr r (Refuses bytes)
refused bytes (Ok v) e = tt
refused bytes (Err error.Memory) e = tt
refused bytes (Err error.TooLong) e = absurd (never_too_long bytes e)
refused bytes (Err (error.ForeignByte pos)) e = (is_none bytes (error.ForeignByte pos) e, is_first bytes (error.ForeignByte pos) e)
refused bytes (Err (error.BadConstant pos)) e = (is_none bytes (error.BadConstant pos) e, is_first bytes (error.BadConstant pos) e)
refused bytes (Err (error.OpenComment pos)) e = (is_none bytes (error.OpenComment pos) e, is_first bytes (error.OpenComment pos) e)
refused bytes (Err (error.LongName pos)) e = (is_none bytes (error.LongName pos) e, is_first bytes (error.LongName pos) e)

not_long : (bytes : List ℕ) (r : Result (Vec Token) LexError) → IsReading bytes r → r ≡ Err error.TooLong → ⊥
not_long bytes (Ok v) e is = absurd cc
not_long bytes (Err error.Memory) e is = absurd cc
not_long bytes (Err error.TooLong) e is = never_too_long bytes e
not_long bytes (Err (error.ForeignByte pos)) e is = absurd cc
not_long bytes (Err (error.BadConstant pos)) e is = absurd cc
not_long bytes (Err (error.OpenComment pos)) e is = absurd cc
not_long bytes (Err (error.LongName pos)) e is = absurd cc

pub returns-clause-only : goal.returns-clause-only
returns-clause-only c = only c.args.source.now c.read.result c.read.ensures.reading

pub returns-clause-refused : goal.returns-clause-refused
returns-clause-refused c = refused c.args.source.now c.read.result c.read.ensures.reading

pub returns-clause-long : goal.returns-clause-long
returns-clause-long c = (λ is. absurd (not_long c.args.source.now c.read.result c.read.ensures.reading is), λ long. absurd (omega arith))
