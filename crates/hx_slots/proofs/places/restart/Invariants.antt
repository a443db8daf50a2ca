use Rattle.std.proofs.Common.{drop, take, ◌++◌, map}
use Rattle.hx_speculation.specs.Slots.{restarted}
use Rattle.hx_slots.specs.Slot.{slots_of, rooms_of}
use Rattle.hx_slots.proofs.Counting.{Restarting}
use Rattle.hx_slots.proofs.places.restart.Given as goal

abbrev pub invariant-loop-k : goal.invariant-loop-k
invariant-loop-k l = Restarting (slots_of (take l.from l.initial.active) ++ map restarted (slots_of (drop l.from l.initial.active))) (rooms_of l.initial.active) l.k l.active
