use Rattle.hx_run.proofs.Headline.{ran_if_ok, refused_if_err}
use Rattle.hx_run.proofs.running.run_plain.Goals as goal

pub returns-clause-ran : goal.returns-clause-ran
returns-clause-ran c =
    ran_if_ok c.args.source.now c.args.input.now c.in_ok-code.code c.args.steps c.run_code_for.result c.known.ensures c.in_ok-code.ensures.code c.run_code_for.ensures.ran c.run_code_for.ensures.fits

pub returns-clause-refused : goal.returns-clause-refused
returns-clause-refused c = refused_if_err c.args.source.now c.args.input.now c.in_ok-code.code c.run_code_for.result c.in_ok-code.ensures.code c.run_code_for.ensures.refused
