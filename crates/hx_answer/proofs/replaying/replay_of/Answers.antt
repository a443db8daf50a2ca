use Rattle.hx_answer.specs.Replays.{RefusesReplay}
use Rattle.hx_answer.proofs.Replays.{entry_refuses, passed_on}
use Rattle.hx_answer.proofs.replaying.replay_of.Goals as goal

pub returns-in_err-region-clause-refused : goal.returns-in_err-region-clause-refused
returns-in_err-region-clause-refused c =
    let source = c.args.source.now in
    let input = c.args.input.now in
    let asked = c.args.asked.now in
    let refused = entry_refuses source input asked c.in_ok-code.code c.in_err-region.field-0.0 c.in_ok-code.ensures.code c.in_err-region.ensures.refused in
    passed_on c.from_residual-in_err-region.result c.in_err-region.field-0.0 (RefusesReplay source input asked) c.from_residual-in_err-region.ensures.1 refused
