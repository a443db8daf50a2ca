use Rattle.std.proofs.Common.{◌≤◌, length, take}
use Rattle.hx_slots.specs.Slot.{slots_of}
use Rattle.hx_slots.specs.Index.{IsIndexOf}
use Rattle.hx_slots.proofs.index.MarkIndex.forget_from.Given as goal

abbrev pub invariant-loop-k : goal.invariant-loop-k
invariant-loop-k l = (l.from ≤ l.k) × (l.k ≤ length l.active) × IsIndexOf l.self.rows.items (slots_of (take l.k l.active))

abbrev pub decreases-loop-k : goal.decreases-loop-k
decreases-loop-k l = l.k
