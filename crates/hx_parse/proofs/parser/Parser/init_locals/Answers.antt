use Rattle.std.proofs.Common.{Ok, refl}
use Rattle.std.proofs.lemmas.Result.{err_from_is_err_and}
use Rattle.hx_tree.specs.declared.token.Mark.TheVariants as mark
use Rattle.hx_tree.specs.Tree.{InitLocals}
use Rattle.hx_grammar.specs.Reading.{locals_at}
use Rattle.hx_parse.proofs.Loops.{open_fails}
use Rattle.hx_parse.proofs.parser.Parser.init_locals.Goals as goal

pub returns-in_err-locals-clause-read : goal.returns-in_err-locals-clause-read
returns-in_err-locals-clause-read c =
    let p = err_from_is_err_and c.from_residual.result c.from_residual.ensures.1 in
    rw (p.1, p.2) (open_fails _ c.locals-locals.result c.locals-locals.new.self (locals_at c.args.room c.args.self.now) mark.Semicolon (λ x to. Ok (InitLocals x.0, to)) c.in_err-locals.field-0.0 c.locals-locals.ensures.read c.in_err-locals.ensures.refused)

pub returns-clause-read : goal.returns-clause-read
returns-clause-read c =
    let given = c.in_ok-locals.ensures.given in
    let read = rw (given.0) at c.locals-locals.ensures.read in
    rw (read, given.1) refl
