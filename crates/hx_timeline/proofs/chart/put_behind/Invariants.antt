use Rattle.std.proofs.Common.{◌≡◌, ◌++◌, take, drop}
use Rattle.std.specs.Prelude.{map}
use Rattle.hx_timeline.specs.Chart.{behind}
use Rattle.hx_timeline.proofs.chart.put_behind.Given as goal

abbrev pub invariant-loop-attempt : goal.invariant-loop-attempt
invariant-loop-attempt l = l.attempts ≡ map (behind l.row l.event) (take l.attempt-index l.initial.attempts) ++ drop l.attempt-index l.initial.attempts
