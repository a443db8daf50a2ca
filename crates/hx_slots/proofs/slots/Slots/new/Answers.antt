use Rattle.std.proofs.Common.{arith, sym, subst}
use Rattle.hx_slots.specs.Slots.{HaveRooms}
use Rattle.hx_slots.proofs.Rooms.{rooms_last}
use Rattle.hx_slots.proofs.slots.Slots.new.Goals as goal

pub loop-k-preserved : goal.loop-k-preserved
loop-k-preserved c = (
  subst (HaveRooms _) (sym c.in_ok-push.ensures.items) (rooms_last _ c.loop-k.free.items c.in_ok-new.field-0 c.in_ok-new.ensures c.loop-k.invariant.0),
  omega (arith, c.in_ok-push.ensures.len, c.loop-k.invariant.1),
  omega (arith, c.in_ok-push.ensures.capacity, c.loop-k.invariant.2),
)
