use Rattle.std.proofs.Common.{map, drop}
use Rattle.hx_resolved.specs.Views.{resolved_simple}
use Rattle.hx_lower.proofs.Puts.{SimplesPut}
use Rattle.hx_lower.proofs.assignment.put_simples.Given as goal

abbrev pub invariant-loop-s : goal.invariant-loop-s
invariant-loop-s l = SimplesPut (map resolved_simple l.ss) (map resolved_simple (drop l.s-index l.ss)) l.version l.initial.draft l.draft
