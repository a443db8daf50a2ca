use Rattle.std.proofs.Common.{Ok, refl, arith}
use Rattle.std.proofs.lemmas.Result.{err_from_is_err_and}
use Rattle.hx_tree.specs.declared.token.Mark.TheVariants as mark
use Rattle.hx_tree.specs.Tree.{ToElement}
use Rattle.hx_tree.specs.View.{name_of, expr_of}
use Rattle.hx_grammar.specs.Reading.{place_at, expr_at}
use Rattle.hx_parse.proofs.Marks.{behind_shorter}
use Rattle.hx_parse.proofs.Loops.{open_fails}
use Rattle.hx_parse.proofs.parser.Parser.target.Goals as goal

pub returns-in_err-name-clause-read : goal.returns-in_err-name-clause-read
unfolding place_at
returns-in_err-name-clause-read c =
    let p = err_from_is_err_and c.from_residual.result c.from_residual.ensures.1 in
    let h = rw (c.in_err-name.ensures) at c.closed.ensures.refused in
    rw (p.1, p.2, c.if-take.ensures) (open_fails expr_of c.expression-index.result c.expression-index.new.self (expr_at c.args.room 11 c.take.new.self) mark.CloseBracket (λ e to. Ok (ToElement (name_of c.args.name) e.0, to)) c.in_err-name.field-0.0 c.expression-index.ensures.read h)

pub returns-then-take-clause-read : goal.returns-then-take-clause-read
unfolding place_at
returns-then-take-clause-read c =
    let given = rw (c.in_ok-name.ensures.1) at c.closed.ensures.given in
    let index = rw (given.0) at c.expression-index.ensures.read in
    rw (c.if-take.ensures, index, given.1, c.in_ok-name.ensures.0) refl

pub returns-then-take-clause-shorter : goal.returns-then-take-clause-shorter
returns-then-take-clause-shorter c =
    let given = rw (c.in_ok-name.ensures.1) at c.closed.ensures.given in
    let index = rw (given.0) at c.expression-index.ensures.shorter in
    let closed = rw (c.in_ok-name.ensures.1) at c.closed.ensures.shorter in
    omega (arith, behind_shorter mark.OpenBracket c.args.self.now c.take.new.self c.if-take.ensures, index, closed)

pub returns-clause-read : goal.returns-clause-read
unfolding place_at
returns-clause-read c = rw (c.if-take.ensures.0, c.if-take.ensures.1) refl
