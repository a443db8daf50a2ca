use Rattle.std.proofs.Common.{rules, ◌≡◌, ◌∙◌, Ok}
use Rattle.hx_input.proofs.Words.{numbers_are_text, numbers_are_parsed}
use Rattle.hx_input.proofs.input.number_of.Goals as goal

pub returns-in_default-clause-none : goal.returns-in_default-clause-none
returns-in_default-clause-none c = λ none z h e. (c.in_default.ensures.cases).0 (numbers_are_text z c.args.word.now h e)

pub returns-in_default-parse-clause-none : goal.returns-in_default-parse-clause-none
returns-in_default-parse-clause-none c = λ none z h e.
    c.in_default-parse.not-Ok z (numbers_are_parsed z c.in-Ok.text.now c.parse.result h (c.in-Ok.ensures.cases.0 ∙ e) c.parse.ensures.value.0)

pub returns-else-is_decimal_of-clause-none : goal.returns-else-is_decimal_of-clause-none
returns-else-is_decimal_of-clause-none c = λ none z h e.
    let parsed : c.parse.result ≡ Ok z = numbers_are_parsed z c.in-Ok.text.now c.parse.result h (c.in-Ok.ensures.cases.0 ∙ e) c.parse.ensures.value.0 in
    search rules
