use Rattle.std.proofs.Common.{rules}
use Rattle.hx_device.proofs.Known.{Appends-more}
use Rattle.hx_device.proofs.writing.write_all.Goals as goal

pub loop-at-preserved : goal.loop-at-preserved
loop-at-preserved g c = (
  search rules,
  Appends-more _ (g.K.ByteSink.written c.loop-at.sink) _ c.args.bytes.now c.loop-at.at c.in_ok-at.field-0 c.loop-at.invariant.1 c.in_ok-at.ensures.bytes,
  search rules,
)
