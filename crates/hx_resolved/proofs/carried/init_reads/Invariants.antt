use Rattle.std.proofs.Common.{◌≡◌, drop, map}
use Rattle.hx_resolved.specs.Views.{resolved_simple}
use Rattle.hx_resolved.specs.Carried.{any_of, simple_reads}
use Rattle.hx_resolved.proofs.carried.init_reads.Given as goal

abbrev pub invariant-loop-s : goal.invariant-loop-s
invariant-loop-s l =
    any_of (simple_reads l.k) (map resolved_simple l.init) ≡ any_of (simple_reads l.k) (map resolved_simple (drop l.s-index l.init))
