use Rattle.std.proofs.Common.{take}
use Rattle.hx_slots.specs.Index.{IsWithout}
use Rattle.hx_slots.proofs.index.clear_all.Given as goal

abbrev pub invariant-loop-k : goal.invariant-loop-k
invariant-loop-k l = IsWithout (take l.k l.marks.entries) l.worker l.initial.rows l.rows
