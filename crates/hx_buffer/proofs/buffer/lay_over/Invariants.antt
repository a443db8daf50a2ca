use Rattle.std.proofs.Common.{◌≡◌, drop}
use Rattle.hx_buffer.proofs.Overlays.{written}
use Rattle.hx_buffer.proofs.buffer.lay_over.Given as goal

abbrev pub invariant-loop-k : goal.invariant-loop-k
invariant-loop-k l = written (drop l.k l.words.entries) l.store ≡ written l.words.entries l.initial.store
