use Rattle.std.proofs.Common.{arith}
use Rattle.hx_timeline.specs.declared.chart.Attempt.{Attempt}
use Rattle.hx_timeline.specs.declared.chart.Fate.TheVariants.{Runs}
use Rattle.hx_timeline.specs.Drawing.{box_of}
use Rattle.hx_timeline.proofs.Texts.{piece_put}
use Rattle.hx_timeline.proofs.drawing.put_boxes.Goals as goal

pub loop-attempt-preserved : goal.loop-attempt-preserved
loop-attempt-preserved c =
    let nobody : Attempt = record { worker = 0; iteration = 0; attempt = 0; first = 0; last = 0; fate = Runs } in
    piece_put box_of c.args.svg.now.items c.loop-attempt.svg.items c.put_box.new.svg.items c.args.attempts.now c.loop-attempt.attempt-index nobody (omega arith) c.loop-attempt.invariant c.in_ok-put_box.ensures
