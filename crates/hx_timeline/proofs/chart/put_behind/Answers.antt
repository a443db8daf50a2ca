use Rattle.std.proofs.Common.{◌<◌, length, get_or, set, ap, ◌∙◌, arith}
use Rattle.std.proofs.lemmas.List.{get_or_default}
use Rattle.std.proofs.lemmas.List.Edits.{map_over_more}
use Rattle.hx_timeline.specs.Chart.{behind}
use Rattle.hx_timeline.specs.declared.chart.Attempt.{Attempt}
use Rattle.hx_timeline.specs.declared.chart.Fate.TheVariants.{Runs}
use Rattle.hx_timeline.proofs.chart.put_behind.Goals as goal

pub loop-attempt-preserved : goal.loop-attempt-preserved
loop-attempt-preserved c =
    let ys = c.loop-attempt.attempts in
    let i = c.loop-attempt.attempt-index in
    let nobody : Attempt = record { worker = 0; iteration = 0; attempt = 0; first = 0; last = 0; fate = Runs } in
    let inside : i < length ys = omega arith in
    let x = get_or ys i nobody in
    ap (set ys i) c.behind.ensures ∙ map_over_more (behind c.args.row c.args.event) c.args.attempts.now ys i x (omega arith) c.loop-attempt.invariant (get_or_default ys i nobody x inside)
