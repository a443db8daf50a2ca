use Rattle.std.proofs.Common.{arith, ap}
use Rattle.hx_slots.specs.Slot.{SlotView}
use Rattle.hx_slots.proofs.Counting.{restart_more}
use Rattle.hx_slots.proofs.places.restart.Goals as goal

pub loop-k-preserved : goal.loop-k-preserved
loop-k-preserved c =
    restart_more _ _ c.loop-k.k c.loop-k.active c.index-active-k.result c.restart.new.self c.loop-k.invariant (omega arith)
    (ap (λ (x : SlotView). x.slot) c.restart.ensures) (ap (λ (x : SlotView). x.rooms) c.restart.ensures)
