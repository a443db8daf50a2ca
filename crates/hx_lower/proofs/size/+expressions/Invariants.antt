use Rattle.std.proofs.Common.{◌≡◌, ◌+◌, ◌<◌, map, drop}
use Rattle.hx_resolved.specs.Resolved.{exprs}
use Rattle.hx_resolved.specs.Views.{resolved_expr}
use Rattle.hx_lowering.specs.Size as size
use Rattle.hx_lower.proofs.size.+expressions.Given as goal

abbrev pub invariant-exprs_size-loop-e : goal.invariant-exprs_size-loop-e
invariant-exprs_size-loop-e l = (size.exprs_size (exprs (map resolved_expr l.es)) ≡ l.words + size.exprs_size (exprs (map resolved_expr (drop l.e-index l.es)))) × (l.words < 4294967296)
