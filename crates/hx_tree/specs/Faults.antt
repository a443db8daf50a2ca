-- The numbers by which faults are shown.
use Rattle.std.specs.Prelude.{ℕ}
use Rattle.hx_tree.specs.declared.outcome.FaultKind.{FaultKind}
use Rattle.hx_tree.specs.declared.outcome.FaultKind.TheVariants.{ZeroDivisor, IndexOutOfRange, CallTooDeep, TextFull}

abbrev pub fault_number : FaultKind → ℕ
fault_number ZeroDivisor = 1
fault_number IndexOutOfRange = 2
fault_number CallTooDeep = 3
fault_number TextFull = 4
