use Rattle.std.proofs.Common.{◌≡◌, ◌++◌, drop}
use Rattle.hx_timeline.specs.Drawing.{events_from}
use Rattle.hx_timeline.proofs.drawing.put_events.Given as goal

abbrev pub invariant-loop-row : goal.invariant-loop-row
invariant-loop-row l = l.svg.items ++ events_from l.names l.printed l.row (drop l.row l.events) ≡ l.initial.svg.items ++ events_from l.names l.printed 0 l.events
