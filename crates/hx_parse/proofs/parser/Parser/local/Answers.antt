use Rattle.std.proofs.Common.{length, refl, ap, arith}
use Rattle.std.proofs.lemmas.Result.{err_from_is_err_and}
use Rattle.hx_tree.specs.declared.token.Mark.TheVariants as mark
use Rattle.hx_grammar.specs.Reading.{behind, name_at, local_turn, local_at}
use Rattle.hx_parse.proofs.Marks.{behind_shorter}
use Rattle.hx_parse.proofs.Loops.{fails_then}
use Rattle.hx_parse.proofs.parser.Parser.local.Goals as goal

pub returns-in_err-name-clause-read : goal.returns-in_err-name-clause-read
unfolding local_at
returns-in_err-name-clause-read c =
    let p = err_from_is_err_and c.from_residual.result c.from_residual.ensures.1 in
    rw (p.1, p.2) (fails_then c.in_err-name.field-0.0 (name_at c.args.self.now) (λ x. local_turn c.args.room x.0 x.1 (behind mark.Assign x.1)) c.in_err-name.ensures.read)

pub returns-then-take-clause-read : goal.returns-then-take-clause-read
unfolding local_at
returns-then-take-clause-read c =
    let value = rw (c.in_ok-name-2.ensures.1) at c.expression.ensures.read in
    rw (c.in_ok-name.ensures.read, c.if-take.ensures, value, c.in_ok-name-2.ensures.0) refl

pub returns-then-take-clause-shorter : goal.returns-then-take-clause-shorter
returns-then-take-clause-shorter c =
    let value = rw (c.in_ok-name-2.ensures.1) at c.expression.ensures.shorter in
    omega (arith, c.in_ok-name.ensures.shorter, behind_shorter mark.Assign c.name.new.self c.take.new.self c.if-take.ensures, value)

pub returns-clause-read : goal.returns-clause-read
unfolding local_at
returns-clause-read c = rw (c.in_ok-name.ensures.read, c.if-take.ensures.0, c.if-take.ensures.1) refl

pub returns-clause-shorter : goal.returns-clause-shorter
returns-clause-shorter c = omega (arith, ap length c.if-take.ensures.1, c.in_ok-name.ensures.shorter)
