use Rattle.std.proofs.Common.{arith}
use Rattle.std.proofs.lemmas.Grind.{common_steps}
use Rattle.std.proofs.lemmas.Option.{gets}
use Rattle.hx_names.proofs.Carried.{carried_none, carried_some}
use Rattle.hx_names.proofs.names.put_one.Goals as goal

pub returns-in_ok-push : goal.returns-in_ok-push
returns-in_ok-push c =
    let e = carried_some c.args.privates.now c.args.globals c.args.one c.in-Some.name.now (grind (arith, common_steps, gets)) in
    grind (arith, common_steps)

pub returns-in_default : goal.returns-in_default
returns-in_default c =
    let e = carried_none c.args.privates.now c.args.globals c.args.one (grind (arith, common_steps, gets)) in
    grind (arith, common_steps)
