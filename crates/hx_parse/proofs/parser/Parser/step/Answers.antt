use Rattle.std.proofs.Common.{length, Some, Ok, refl, ap, arith}
use Rattle.std.proofs.lemmas.Result.{err_from_is_err_and}
use Rattle.hx_tree.specs.declared.token.Mark.TheVariants as mark
use Rattle.hx_tree.specs.View.{assignment_of}
use Rattle.hx_grammar.specs.Reading.{optional_at, assignment_at}
use Rattle.hx_parse.proofs.Marks.{behind_shorter}
use Rattle.hx_parse.proofs.Loops.{open_fails}
use Rattle.hx_parse.proofs.parser.Parser.step.Goals as goal

pub returns-then-take-clause-read : goal.returns-then-take-clause-read
unfolding optional_at
returns-then-take-clause-read c = rw (c.if-take.ensures) refl

pub returns-then-take-clause-shorter : goal.returns-then-take-clause-shorter
returns-then-take-clause-shorter c = behind_shorter mark.CloseParen c.args.self.now c.take.new.self c.if-take.ensures

pub returns-in_err-assignment-clause-read : goal.returns-in_err-assignment-clause-read
unfolding optional_at
returns-in_err-assignment-clause-read c =
    let p = err_from_is_err_and c.from_residual.result c.from_residual.ensures.1 in
    let read = rw (c.if-take.ensures.1) at c.assignment-assignment.ensures.read in
    rw (p.1, p.2, c.if-take.ensures.0) (open_fails assignment_of c.assignment-assignment.result c.assignment-assignment.new.self (assignment_at c.args.room c.args.self.now) mark.CloseParen (λ x to. Ok (Some x.0, to)) c.in_err-assignment.field-0.0 read c.in_err-assignment.ensures.refused)

pub returns-clause-read : goal.returns-clause-read
unfolding optional_at
returns-clause-read c =
    let given = c.in_ok-assignment.ensures.given in
    let read = rw (given.0, c.if-take.ensures.1) at c.assignment-assignment.ensures.read in
    rw (c.if-take.ensures.0, read, given.1) refl

pub returns-clause-shorter : goal.returns-clause-shorter
returns-clause-shorter c =
    let read = rw (c.in_ok-assignment.ensures.given.0) at c.assignment-assignment.ensures.shorter in
    omega (arith, ap length c.if-take.ensures.1, read, c.in_ok-assignment.ensures.shorter)
