use Rattle.std.proofs.Common.{◌≡◌, length, All}
use Rattle.hx_trace.specs.Trace.{IsNew}
use Rattle.hx_trace.proofs.trace.new_workers.Given as goal

abbrev pub invariant-loop-number : goal.invariant-loop-number
invariant-loop-number l = (length l.workers.items ≡ l._number) × All (IsNew l.code l.capacities) l.workers.items
