use Rattle.std.proofs.Common.{◌≡◌, drop, None}
use Rattle.hx_timeline.specs.Chart.{last_store}
use Rattle.hx_timeline.proofs.chart.last_store.Given as goal

abbrev pub invariant-loop-row : goal.invariant-loop-row
invariant-loop-row l = last_store l.word l.iteration l.row (drop l.row l.events) l.found ≡ last_store l.word l.iteration 0 l.events None
