use Rattle.std.proofs.Common.{◌≡◌, drop}
use Rattle.hx_speculation.specs.Slots.{may_restart as may_all_restart}
use Rattle.hx_slots.specs.Slot.{slots_of}
use Rattle.hx_slots.proofs.places.may_restart.Given as goal

abbrev pub invariant-loop-k : goal.invariant-loop-k
invariant-loop-k l = may_all_restart (slots_of (drop l.from l.active)) ≡ may_all_restart (slots_of (drop l.k l.active))
