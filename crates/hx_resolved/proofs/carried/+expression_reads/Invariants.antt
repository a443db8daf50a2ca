use Rattle.std.proofs.Common.{◌≡◌, drop, map}
use Rattle.hx_resolved.specs.Resolved.{exprs}
use Rattle.hx_resolved.specs.Views.{resolved_expr}
use Rattle.hx_resolved.specs.Carried.{exprs_read}
use Rattle.hx_resolved.proofs.carried.+expression_reads.Given as goal

abbrev pub invariant-exprs_read-loop-e : goal.invariant-exprs_read-loop-e
invariant-exprs_read-loop-e l = exprs_read l.k (exprs (map resolved_expr l.es)) ≡ exprs_read l.k (exprs (map resolved_expr (drop l.e-index l.es)))
