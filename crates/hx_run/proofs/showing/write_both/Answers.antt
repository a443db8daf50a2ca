use Rattle.hx_run.proofs.Executions.{begun_at_first, begun_at_second}
use Rattle.hx_run.proofs.showing.write_both.Goals as goal

pub returns-in_err-write_all-clause-beginning : goal.returns-in_err-write_all-clause-beginning
returns-in_err-write_all-clause-beginning g c = begun_at_first c.from_residual.result _ _ c.args.first.now c.args.second.now c.in_err-write_all.ensures.beginning

pub returns-clause-beginning : goal.returns-clause-beginning
returns-clause-beginning g c =
    begun_at_second c.write_all-2.result _ _ _ c.args.first.now c.args.second.now c.in_ok-write_all.ensures.written c.write_all-2.ensures.beginning
