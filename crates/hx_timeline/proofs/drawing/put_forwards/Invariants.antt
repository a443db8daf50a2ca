use Rattle.std.proofs.Common.{◌≡◌, ◌++◌, take}
use Rattle.std.specs.Prelude.{flat_map}
use Rattle.hx_timeline.specs.Drawing.{arrow_of}
use Rattle.hx_timeline.proofs.drawing.put_forwards.Given as goal

abbrev pub invariant-loop-link : goal.invariant-loop-link
invariant-loop-link l = l.svg.items ≡ l.initial.svg.items ++ flat_map arrow_of (take l.link-index l.forwards)
