use Rattle.hx_device.proofs.Known.{Consumes-more}
use Rattle.hx_device.proofs.reading.read_all.Goals as goal

pub returns-then-is_err-clause-lost : goal.returns-then-is_err-clause-lost
returns-then-is_err-clause-lost g c = (
  _,
  Consumes-more _ (g.S.ByteSource.rest c.loop-chunk.source) _ _ _ c.loop-chunk.invariant.1 c.in-Ok.ensures.bytes.0,
)
