use Rattle.std.proofs.Common.{rules, subst}
use Rattle.hx_lex.specs.View.{tokens_of}
use Rattle.hx_tree.specs.View.{program_of}
use Rattle.hx_tree.specs.Grammar.{IsProgram}
use Rattle.hx_parse.specs.Answer.{NoOthers, Refuses as ParserRefuses}
use Rattle.hx_run.proofs.Sources.{lexer_refuses, parser_refuses, spelled_alone}
use Rattle.hx_run.proofs.source.parse_source.Goals as goal

pub returns-in_err-tokens-clause-refused : goal.returns-in_err-tokens-clause-refused
returns-in_err-tokens-clause-refused c = let refuses = lexer_refuses c.args.source.now c.in_err-tokens.field-0.0 c.in_err-tokens.ensures.refused in search rules

pub returns-in_err-parse-clause-refused : goal.returns-in_err-parse-clause-refused
returns-in_err-parse-clause-refused c =
    let none = subst (λ ts. ParserRefuses (tokens_of ts) c.in_err-parse.field-0.0) c.as_slice.ensures.value c.in_err-parse.ensures.refused in
    let refuses = parser_refuses c.args.source.now _ c.in_err-parse.field-0.0 c.in_ok-tokens.ensures.only none in
    search rules

pub returns-clause-spelled : goal.returns-clause-spelled
returns-clause-spelled c =
    let is = subst (λ ts. IsProgram (program_of c.in_ok-parse.field-0) (tokens_of ts)) c.as_slice.ensures.value c.in_ok-parse.ensures.spelled in
    let alone = subst (λ ts. NoOthers (tokens_of ts) (program_of c.in_ok-parse.field-0)) c.as_slice.ensures.value c.in_ok-parse.ensures.only in
    spelled_alone c.args.source.now (tokens_of c.in_ok-tokens.tokens.items) (program_of c.in_ok-parse.field-0) c.in_ok-tokens.ensures.short c.in_ok-tokens.ensures.found
    c.in_ok-tokens.ensures.only is alone
