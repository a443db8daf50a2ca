use Rattle.std.proofs.Common.{◌≡◌, ◌+◌, ◌<◌, map, drop}
use Rattle.hx_resolved.specs.Views.{resolved_simple}
use Rattle.hx_lowering.specs.Size as size
use Rattle.hx_lower.proofs.size.simples_size.Given as goal

abbrev pub invariant-loop-s : goal.invariant-loop-s
invariant-loop-s l = (size.simples_size (map resolved_simple l.ss) ≡ l.words + size.simples_size (map resolved_simple (drop l.s-index l.ss))) × (l.words < 4294967296)
