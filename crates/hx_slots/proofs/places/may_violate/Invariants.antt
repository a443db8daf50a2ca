use Rattle.std.proofs.Common.{◌≤◌, length, drop}
use Rattle.hx_slots.specs.Slot.{slots_of}
use Rattle.hx_slots.specs.Index.{HaveNot}
use Rattle.hx_slots.proofs.places.may_violate.Given as goal

abbrev pub invariant-loop-k : goal.invariant-loop-k
invariant-loop-k l = (l.from ≤ l.k) × (l.k ≤ length l.active) × HaveNot l.word (slots_of (drop l.k l.active))

abbrev pub decreases-loop-k : goal.decreases-loop-k
decreases-loop-k l = l.k
