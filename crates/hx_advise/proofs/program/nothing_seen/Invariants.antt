use Rattle.std.proofs.Common.{◌≡◌, [], length}
use Rattle.hx_advise.specs.Runs.{AreSeen}
use Rattle.hx_advise.proofs.program.nothing_seen.Given as goal

abbrev pub invariant-loop-k : goal.invariant-loop-k
invariant-loop-k l = record {
  long : length l.loops.items ≡ l._k;
  seen : AreSeen [] l.loops.items;
}
