use Rattle.std.proofs.Common.{◌≡◌, arith, sym, ap, ◌∙◌}
use Rattle.std.specs.Prelude.{Some, None, filter_map}
use Rattle.std.proofs.lemmas.Grind.{common_steps}
use Rattle.std.proofs.lemmas.Option.{gets}
use Rattle.hx_tree.specs.View.{program_of, func_of}
use Rattle.hx_names.specs.Names.{private_names, carried_name}
use Rattle.hx_names.proofs.Blocks.{appended}
use Rattle.hx_names.proofs.Carried.{carried_nowhere, carried_in}
use Rattle.hx_names.proofs.names.put_locals.Goals as goal

pub returns-in_default : goal.returns-in_default
returns-in_default c =
    let e = carried_nowhere (program_of c.args.program.now) c.args.code.now c.args.region.now (grind (arith, common_steps, gets)) in
    grind (arith, common_steps)

pub returns-in-Some-function_at : goal.returns-in-Some-function_at
returns-in-Some-function_at c =
    let f = func_of c.in-Some-function_at.function.now in
    let e = carried_in (program_of c.args.program.now) c.args.code.now c.args.region.now c.in-Some.spot.now (Some f) (grind (arith, common_steps, gets)) c.in-Some-function_at.ensures in
    let carried : c.deref.result.now ≡ c.args.region.now.carried = cc in
    appended _ _ _
    (ap (λ l. filter_map (carried_name (private_names f) c.globals.result) l) carried
    ∙ ap (λ n. filter_map (carried_name (private_names f) n) c.args.region.now.carried) c.globals.ensures
    ∙ sym e)
    c.put_carried.ensures

pub returns-in-None : goal.returns-in-None
returns-in-None c =
    let e = carried_in (program_of c.args.program.now) c.args.code.now c.args.region.now c.in-Some.spot.now None (grind (arith, common_steps, gets)) c.in-None.ensures in
    grind (arith, common_steps)
