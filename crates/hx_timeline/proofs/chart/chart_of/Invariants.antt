use Rattle.std.proofs.Common.{◌≡◌, ◌++◌, length, drop}
use Rattle.std.specs.Prelude.{fold}
use Rattle.hx_timeline.specs.Chart.{more_lanes, lane_count, attempts_after, attempts_of, violations_after, violations_of, forwards_from, forwards_of}
use Rattle.hx_timeline.proofs.chart.chart_of.Given as goal

abbrev pub invariant-loop-row : goal.invariant-loop-row
invariant-loop-row l = record {
  lanes : fold more_lanes l.chart.lanes (drop l.row l.events) ≡ lane_count l.events;
  rows : l.chart.rows ≡ length l.events;
  attempts : attempts_after l.row (drop l.row l.events) l.chart.attempts.items ≡ attempts_of l.events;
  forwards : l.chart.forwards.items ++ forwards_from l.events l.row (drop l.row l.events) ≡ forwards_of l.events;
  violations : l.chart.violations.items ++ violations_after l.row (drop l.row l.events) l.chart.attempts.items ≡ violations_of l.events;
}
