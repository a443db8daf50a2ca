use Rattle.std.proofs.Common.{Ok, refl}
use Rattle.std.proofs.lemmas.Result.{err_from_is_err_and}
use Rattle.hx_tree.specs.declared.token.Mark.TheVariants as mark
use Rattle.hx_tree.specs.Tree.{Print}
use Rattle.hx_tree.specs.View.{expr_of}
use Rattle.hx_grammar.specs.Reading.{print_at, in_parens_at}
use Rattle.hx_parse.proofs.Loops.{open_fails}
use Rattle.hx_parse.proofs.parser.Parser.print.Goals as goal

pub returns-in_err-value-clause-read : goal.returns-in_err-value-clause-read
unfolding print_at
returns-in_err-value-clause-read c =
    let p = err_from_is_err_and c.from_residual.result c.from_residual.ensures.1 in
    rw (p.1, p.2) (open_fails expr_of c.in_parens-value.result c.in_parens-value.new.self (in_parens_at c.args.room c.args.self.now) mark.Semicolon (λ x to. Ok (Print c.args.pos x.0, to)) c.in_err-value.field-0.0 c.in_parens-value.ensures.read c.in_err-value.ensures.refused)

pub returns-clause-read : goal.returns-clause-read
unfolding print_at
returns-clause-read c =
    let given = c.in_ok-value.ensures.given in
    let read = rw (given.0) at c.in_parens-value.ensures.read in
    rw (read, given.1) refl
