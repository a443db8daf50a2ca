use Rattle.std.proofs.Common.{ap, sym, ◌∙◌}
use Rattle.hx_marks.specs.Table.{MapView}
use Rattle.hx_frame.proofs.Kept.{begun_keeps}
use Rattle.hx_frame.proofs.frame.Frame.new.Goals as goal

pub invariant_of-result : goal.invariant_of-result
invariant_of-result c = (
  begun_keeps _ _ _ _ _ _ c.in_ok-new.ensures.fits (c.in_ok-new-2.ensures.first ∙ sym c.in_ok-new.ensures.first)
      (ap (λ (m : MapView). m.entries) c.in_ok-with_capacity.ensures) (ap (λ (m : MapView). m.entries) c.in_ok-with_capacity-2.ensures),
  ap (λ (m : MapView). m.capacity) c.in_ok-with_capacity.ensures,
  ap (λ (m : MapView). m.capacity) c.in_ok-with_capacity-2.ensures,
)
