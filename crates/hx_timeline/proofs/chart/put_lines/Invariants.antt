use Rattle.std.proofs.Common.{◌≡◌, ◌++◌, take}
use Rattle.std.specs.Prelude.{map, filter}
use Rattle.hx_timeline.specs.Chart.{line_to, is_among}
use Rattle.hx_timeline.proofs.chart.put_lines.Given as goal

abbrev pub invariant-loop-attempt : goal.invariant-loop-attempt
invariant-loop-attempt l = l.violations.items ≡ l.initial.violations.items ++ map (line_to l.row l.worker) (filter (λ x. is_among x l.count l.last) (take l.attempt-index l.attempts))
