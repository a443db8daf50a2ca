use Rattle.std.proofs.Common.{arith}
use Rattle.hx_slots.proofs.Kept.{forget_step}
use Rattle.hx_slots.proofs.index.MarkIndex.forget_from.Goals as goal

pub loop-k-preserved : goal.loop-k-preserved
loop-k-preserved c = (
  omega (arith, c.loop-k-test.true),
  omega (arith, c.loop-k.invariant.1),
  forget_step c.args.active.now _ c.loop-k.k c.index-active-k.result c.marks.result.now.entries c.worker.result c.loop-k.self.rows.items c.forget.new.self.rows.items
      (omega (arith, c.loop-k-test.true, c.loop-k.invariant.1)) (omega (arith, c.loop-k-test.true)) c.index-active-k.is c.marks.ensures c.worker.ensures c.requires.apart c.loop-k.invariant.2 c.forget.ensures,
)
