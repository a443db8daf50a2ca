use Rattle.std.proofs.Common.{◌≡◌, ◌++◌, take}
use Rattle.std.specs.Prelude.{flat_map}
use Rattle.hx_timeline.specs.Drawing.{box_of}
use Rattle.hx_timeline.proofs.drawing.put_boxes.Given as goal

abbrev pub invariant-loop-attempt : goal.invariant-loop-attempt
invariant-loop-attempt l = l.svg.items ≡ l.initial.svg.items ++ flat_map box_of (take l.attempt-index l.attempts)
