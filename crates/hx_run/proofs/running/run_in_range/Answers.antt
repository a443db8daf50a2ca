use Rattle.hx_run.proofs.Headline.{finish_if_ok, refused_if_err}
use Rattle.hx_run.proofs.running.run_in_range.Goals as goal

pub returns-clause-finish : goal.returns-clause-finish
returns-clause-finish g c =
    finish_if_ok c.args.source.now c.args.input.now c.in_ok-code.code c.run_code.result c.known.ensures c.in_ok-code.ensures.code c.run_code.ensures.ended c.run_code.ensures.fits

pub returns-clause-refused : goal.returns-clause-refused
returns-clause-refused g c = refused_if_err c.args.source.now c.args.input.now c.in_ok-code.code c.run_code.result c.in_ok-code.ensures.code c.run_code.ensures.refused
