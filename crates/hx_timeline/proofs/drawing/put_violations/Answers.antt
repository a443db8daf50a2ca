use Rattle.std.proofs.Common.{arith}
use Rattle.hx_timeline.specs.declared.chart.Link.{Link}
use Rattle.hx_timeline.specs.Drawing.{violation_of}
use Rattle.hx_timeline.proofs.Texts.{piece_put}
use Rattle.hx_timeline.proofs.drawing.put_violations.Goals as goal

pub loop-link-preserved : goal.loop-link-preserved
loop-link-preserved c =
    let nowhere : Link = record { from = 0; from_row = 0; to = 0; to_row = 0 } in
    piece_put violation_of c.args.svg.now.items c.loop-link.svg.items c.put_violation.new.svg.items c.args.violations.now c.loop-link.link-index nowhere (omega arith) c.loop-link.invariant c.in_ok-put_violation.ensures
