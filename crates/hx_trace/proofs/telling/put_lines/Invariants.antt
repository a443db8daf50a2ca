use Rattle.std.proofs.Common.{◌≡◌, ◌++◌, take}
use Rattle.hx_trace.specs.Telling.{lines_of}
use Rattle.hx_trace.proofs.telling.put_lines.Given as goal

abbrev pub invariant-loop-event : goal.invariant-loop-event
invariant-loop-event l = l.text.items ≡ l.initial.text.items ++ lines_of l.names l.printed (take l.event-index l.events)
