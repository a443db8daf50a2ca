use Rattle.hx_timeline.specs.Drawing.{head_of}
use Rattle.hx_timeline.proofs.Texts.{worker_put}
use Rattle.hx_timeline.proofs.drawing.put_heads.Goals as goal

pub loop-worker-preserved : goal.loop-worker-preserved
loop-worker-preserved c = worker_put head_of c.args.svg.now.items c.loop-worker.svg.items c.put_head.new.svg.items c.loop-worker.worker c.loop-worker.invariant c.in_ok-put_head.ensures
