use Rattle.std.proofs.Common.{◌≡◌, ◌++◌, pos}
use Rattle.std.specs.Prelude.{replicate}
use Rattle.hx_check.proofs.opening.add_zeros.Given as goal

abbrev pub invariant-loop-k : goal.invariant-loop-k
invariant-loop-k l = l.out.items ≡ l.initial.out.items ++ replicate l._k (pos 0)
