use Rattle.std.proofs.Common.{subst, sym, ◌≡◌}
use Rattle.std.proofs.lemmas.Result.{err_from_is_err_and}
use Rattle.std.specs.Prelude.{IfErr}
use Rattle.hx_run.specs.Headline.{RefusesRun}
use Rattle.hx_run.proofs.Headline.{refuses_run}
use Rattle.hx_answer.proofs.advising.advised_of.Goals as goal

pub returns-in_err-advice-clause-refused : goal.returns-in_err-advice-clause-refused
returns-in_err-advice-clause-refused c =
    let source = c.args.source.now in
    let input = c.args.input.now in
    let refused = refuses_run source input c.in_ok-code.code c.in_err-advice.field-0.0 c.in_ok-code.ensures.code c.in_err-advice.ensures.refused in
    let p = err_from_is_err_and c.from_residual-in_err-advice.result c.from_residual-in_err-advice.ensures.1 in
    subst (λ r. IfErr r (RefusesRun source input)) (sym p.1) (subst (RefusesRun source input) (sym p.2) refused)
