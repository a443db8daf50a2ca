use Rattle.hx_lex.specs.declared.token.Token.{Token}
use Rattle.hx_lex.specs.Answer.{IsCut}
use Rattle.hx_lex.proofs.Cut.{cut_goes_on}
use Rattle.hx_lex.proofs.lexer.push_token.Goals as goal

pub returns-in_ok-push-clause-cut : goal.returns-in_ok-push-clause-cut
returns-in_ok-push-clause-cut c = λ source some text place cut.
    let t : Token = record { kind = c.in-Some.kind; text = c.args.text; span = c.args.span; pos = c.args.pos } in
    let is : IsCut source t = record { some = some; text = text; place = place } in
    rw c.in_ok-push.ensures.items (cut_goes_on source 0 c.args.tokens.now.items t cut is)
