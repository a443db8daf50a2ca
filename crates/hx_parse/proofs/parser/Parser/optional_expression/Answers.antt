use Rattle.std.proofs.Common.{length, Some, Ok, refl, ap, arith}
use Rattle.std.proofs.lemmas.Result.{err_from_is_err_and}
use Rattle.hx_tree.specs.declared.token.Mark.TheVariants as mark
use Rattle.hx_tree.specs.View.{expr_of}
use Rattle.hx_grammar.specs.Reading.{optional_at, expr_at}
use Rattle.hx_parse.proofs.Marks.{behind_shorter}
use Rattle.hx_parse.proofs.Loops.{open_fails}
use Rattle.hx_parse.proofs.parser.Parser.optional_expression.Goals as goal

pub returns-then-take-clause-read : goal.returns-then-take-clause-read
unfolding optional_at
returns-then-take-clause-read c = rw (c.if-take.ensures) refl

pub returns-then-take-clause-shorter : goal.returns-then-take-clause-shorter
returns-then-take-clause-shorter c = behind_shorter mark.Semicolon c.args.self.now c.take.new.self c.if-take.ensures

pub returns-in_err-value-clause-read : goal.returns-in_err-value-clause-read
unfolding optional_at
returns-in_err-value-clause-read c =
    let p = err_from_is_err_and c.from_residual.result c.from_residual.ensures.1 in
    let read = rw (c.if-take.ensures.1) at c.expression-value.ensures.read in
    rw (p.1, p.2, c.if-take.ensures.0) (open_fails expr_of c.expression-value.result c.expression-value.new.self (expr_at c.args.room 11 c.args.self.now) mark.Semicolon (λ x to. Ok (Some x.0, to)) c.in_err-value.field-0.0 read c.in_err-value.ensures.refused)

pub returns-clause-read : goal.returns-clause-read
unfolding optional_at
returns-clause-read c =
    let given = c.in_ok-value.ensures.given in
    let read = rw (given.0, c.if-take.ensures.1) at c.expression-value.ensures.read in
    rw (c.if-take.ensures.0, read, given.1) refl

pub returns-clause-shorter : goal.returns-clause-shorter
returns-clause-shorter c =
    let read = rw (c.in_ok-value.ensures.given.0) at c.expression-value.ensures.shorter in
    omega (arith, ap length c.if-take.ensures.1, read, c.in_ok-value.ensures.shorter)
