use Rattle.std.proofs.Common.{◌≡◌, ◌++◌}
use Rattle.std.specs.Prelude.{flat_map}
use Rattle.std.specs.List.{range_with_len}
use Rattle.hx_timeline.specs.Drawing.{head_of}
use Rattle.hx_timeline.proofs.drawing.put_heads.Given as goal

abbrev pub invariant-loop-worker : goal.invariant-loop-worker
invariant-loop-worker l = l.svg.items ≡ l.initial.svg.items ++ flat_map head_of (range_with_len 0 l.worker)
