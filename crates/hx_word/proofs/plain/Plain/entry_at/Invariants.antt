use Rattle.std.proofs.Common.{◌-◌, ◌+◌, ◌≡◌, ◌≤◌}
use Rattle.hx_code.specs.Machine.{machine_after}
use Rattle.hx_word.specs.Plain.{machine_of, one_store, openings, HasRoom, StandsWell}
use Rattle.hx_word.proofs.plain.Plain.entry_at.Given as goal

abbrev pub invariant-loop-left : goal.invariant-loop-left
invariant-loop-left l = record {
  few : l.left ≤ l.steps;
  ran : one_store (machine_after l.code (l.steps - l.left) (machine_of l.initial.state)) ≡ machine_of l.state;
  counted : openings l.code (l.steps - l.left) (machine_of l.initial.state) + l.before + 1 ≡ l.n;
  well : StandsWell l.code (machine_of l.state);
  room : HasRoom l.state;
}

abbrev pub decreases-loop-left : goal.decreases-loop-left
decreases-loop-left l = l.left
