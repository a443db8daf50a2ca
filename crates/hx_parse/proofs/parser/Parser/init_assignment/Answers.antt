use Rattle.std.proofs.Common.{Ok, refl}
use Rattle.std.proofs.lemmas.Result.{err_from_is_err_and}
use Rattle.hx_tree.specs.declared.token.Mark.TheVariants as mark
use Rattle.hx_tree.specs.Tree.{InitAssign}
use Rattle.hx_tree.specs.View.{assignment_of}
use Rattle.hx_grammar.specs.Reading.{assignment_at}
use Rattle.hx_parse.proofs.Loops.{open_fails}
use Rattle.hx_parse.proofs.parser.Parser.init_assignment.Goals as goal

pub returns-in_err-assignment-clause-read : goal.returns-in_err-assignment-clause-read
returns-in_err-assignment-clause-read c =
    let p = err_from_is_err_and c.from_residual.result c.from_residual.ensures.1 in
    rw (p.1, p.2) (open_fails assignment_of c.assignment-assignment.result c.assignment-assignment.new.self (assignment_at c.args.room c.args.self.now) mark.Semicolon (λ x to. Ok (InitAssign x.0, to)) c.in_err-assignment.field-0.0 c.assignment-assignment.ensures.read c.in_err-assignment.ensures.refused)

pub returns-clause-read : goal.returns-clause-read
returns-clause-read c =
    let given = c.in_ok-assignment.ensures.given in
    let read = rw (given.0) at c.assignment-assignment.ensures.read in
    rw (read, given.1) refl
