-- What the refusals of the lexer and the parser say of a source.
use Rattle.std.proofs.Common.{ℕ, ◌≤◌, List, subst, arith, length}
use Rattle.hx_tree.specs.declared.limits.TheConstants.{SOURCE_LIMIT}
use Rattle.hx_tree.specs.Tree.{Program}
use Rattle.hx_tree.specs.Lexis.{Token, AreTokens}
use Rattle.hx_tree.specs.Grammar.{IsProgram, Spells}
use Rattle.hx_lex.specs.declared.error.LexError.{LexError}
use Rattle.hx_lex.specs.declared.error.LexError.TheVariants as lex
use Rattle.hx_lex.specs.Answer.{Refuses, NoOthers, HasNoTokens}
use Rattle.hx_parse.specs.declared.error.ParseError.{ParseError}
use Rattle.hx_parse.specs.declared.error.ParseError.TheVariants as parse
use Rattle.hx_parse.specs.Answer.{Refuses as ParserRefuses}
use Rattle.hx_run.specs.declared.refusal.Refusal.TheVariants.{Lex, Parse, Check}
use Rattle.hx_check.specs.declared.error.CheckError.{CheckError}
use Rattle.hx_check.specs.declared.error.CheckError.TheVariants as check
use Rattle.hx_check.specs.Refusals as checker
use Rattle.hx_tree.specs.Accepted.{IsAccepted}
use Rattle.hx_parse.specs.Answer as parser
use Rattle.hx_run.specs.Sources.{IsSourceOfNone, IsSpelledAlone}
use Rattle.hx_run.specs.Refusals.{RefusesSource}

without_tokens : (source : List ℕ) → HasNoTokens source → IsSourceOfNone source
without_tokens source none p h = none h.spells.tokens h.spells.are_tokens

pub lexer_refuses : (source : List ℕ) (e : LexError) → Refuses source e → RefusesSource source (Lex e)
lexer_refuses source (lex.ForeignByte pos) h = without_tokens source h.0
lexer_refuses source (lex.BadConstant pos) h = without_tokens source h.0
lexer_refuses source (lex.OpenComment pos) h = without_tokens source h.0
lexer_refuses source (lex.LongName pos) h = without_tokens source h.0
lexer_refuses source lex.TooLong h = λ p s. let short = s.spells.is_short in absurd (omega arith)
lexer_refuses source lex.Memory h = h

-- a spelling of the source is one of its tokens
spelled_by : (source : List ℕ) (tokens : List Token) (p : Program) → NoOthers source tokens → Spells source p → IsProgram p tokens
spelled_by source tokens p only s = subst (λ ts. IsProgram p ts) (only s.tokens s.are_tokens) s.is_program

pub parser_refuses : (source : List ℕ) (tokens : List Token) (e : ParseError) → NoOthers source tokens → ParserRefuses tokens e → RefusesSource source (Parse e)
parser_refuses source tokens (parse.Syntax pos) only h = λ p s. h p (spelled_by source tokens p only s.spells)
parser_refuses source tokens parse.TooDeep only h = λ p s. let high = h p (spelled_by source tokens p only s.spells) in let low = s.accepted.is_low in absurd (omega arith)
parser_refuses source tokens parse.Memory only h = h

pub spelled_alone : (source : List ℕ) (tokens : List Token) (p : Program) → length source ≤ SOURCE_LIMIT → AreTokens source tokens → NoOthers source tokens
    → IsProgram p tokens → parser.NoOthers tokens p → IsSpelledAlone source p
spelled_alone source tokens p short are only is alone = record {
  spells = record { is_short = short; tokens = tokens; are_tokens = are; is_program = is };
  only = λ q s. alone q (spelled_by source tokens q only s);
}

not_accepted : (source : List ℕ) (p : Program) → IsSpelledAlone source p → (IsAccepted p → ⊥) → IsSourceOfNone source
not_accepted source p alone none q s = none (subst IsAccepted (alone.only q s.spells) s.accepted)

pub checker_refuses : (source : List ℕ) (p : Program) (e : CheckError) → IsSpelledAlone source p → checker.Refuses e (IsAccepted p) → RefusesSource source (Check e)
checker_refuses source p (check.UnknownName pos) alone h = not_accepted source p alone h
checker_refuses source p (check.DoubledName pos) alone h = not_accepted source p alone h
checker_refuses source p (check.WrongKind pos) alone h = not_accepted source p alone h
checker_refuses source p (check.WrongCount pos) alone h = not_accepted source p alone h
checker_refuses source p (check.OutsideLoop pos) alone h = not_accepted source p alone h
checker_refuses source p check.NoMain alone h = not_accepted source p alone h
checker_refuses source p (check.LimitPassed pos) alone h = not_accepted source p alone h
checker_refuses source p check.TooLarge alone h = not_accepted source p alone h
checker_refuses source p check.Memory alone h = h
