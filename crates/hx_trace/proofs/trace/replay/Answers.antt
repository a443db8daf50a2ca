use Rattle.hx_trace.proofs.Once.{once, alone}
use Rattle.hx_trace.proofs.trace.replay.Goals as goal

pub returns-in-Ok-clause-once : goal.returns-in-Ok-clause-once
returns-in-Ok-clause-once c =
    once c.args.code.now c.args.region c.args.entry.now c.args.slots c.args.capacities c.args.schedule.now c.in-Ok.told.trace c.in-Ok.ensures.told

pub returns-in-Ok-clause-alone : goal.returns-in-Ok-clause-alone
returns-in-Ok-clause-alone c independent =
    once c.args.code.now c.args.region c.args.entry.now c.args.slots c.args.capacities c.args.schedule.now c.in-Ok.told.trace c.in-Ok.ensures.told (alone c.args.code.now c.args.region c.args.entry.now independent)
