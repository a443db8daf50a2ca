use Rattle.std.proofs.Common.{arith, map, take}
use Rattle.std.proofs.lemmas.Grind.{common_steps}
use Rattle.hx_tree.specs.View.{global_of}
use Rattle.hx_names.proofs.Places.{global_names_push}
use Rattle.hx_names.proofs.names.put_globals.Goals as goal

pub loop-global-preserved : goal.loop-global-preserved
loop-global-preserved c =
    let e = global_names_push (map global_of (take c.loop-global.global-index c.args.globals.now)) (global_of c.global-item.result) c.args.base c.loop-global.word c.loop-global.invariant.1 in
    (grind (arith, common_steps), grind (arith, common_steps))
