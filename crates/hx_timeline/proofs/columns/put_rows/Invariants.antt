use Rattle.std.proofs.Common.{◌≡◌, ◌++◌, drop}
use Rattle.hx_timeline.specs.Columns.{row_lines}
use Rattle.hx_timeline.proofs.columns.put_rows.Given as goal

abbrev pub invariant-loop-row : goal.invariant-loop-row
invariant-loop-row l = l.text.items ++ row_lines l.names l.told.trace.text.items l.chart.lanes l.chart.attempts.items l.row (drop l.row l.told.events.items) ≡ l.initial.text.items ++ row_lines l.names l.told.trace.text.items l.chart.lanes l.chart.attempts.items 0 l.told.events.items
