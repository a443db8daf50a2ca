use Rattle.std.proofs.Common.{arith, refl}
use Rattle.hx_slots.proofs.Kept.{have_step}
use Rattle.hx_slots.proofs.places.may_violate.Goals as goal

pub loop-k-preserved : goal.loop-k-preserved
loop-k-preserved c = (
  omega (arith, c.loop-k-test.true),
  omega (arith, c.loop-k.invariant.1),
  have_step c.args.readers.bits c.args.word c.args.active.now _ c.loop-k.k c.index-active-k.result c.worker.result
      (omega (arith, c.loop-k-test.true, c.loop-k.invariant.1)) (omega (arith, c.loop-k-test.true)) c.index-active-k.is c.worker.ensures c.requires.readers (c.if-may_have.ensures refl) c.loop-k.invariant.2,
)
