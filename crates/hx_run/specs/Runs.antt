-- What runs of code come to.
use Rattle.std.specs.Prelude.{◌≡◌, ℕ, ℤ, List, None, true}
use Rattle.hx_tree.specs.declared.outcome.Finish.{Finish}
use Rattle.hx_code.specs.Code.{CodeView}
use Rattle.hx_code.specs.Machine.{Machine, machine_after, machine_step, opening_machine, EndsWith, counts_of, InputFits}
use Rattle.hx_word.specs.Plain.{PlainView, OpenView, whole, one_store, opens_next}
use Rattle.hx_run.specs.declared.refusal.Refusal.{Refusal}
use Rattle.hx_run.specs.declared.refusal.Refusal.TheVariants.{InputTooLong, Memory, Pool}
use Rattle.hx_run.specs.declared.running.PlainRan.{PlainRan}
use Rattle.hx_run.specs.declared.running.PlainRan.TheVariants.{Ended, More}

-- the machine after so many words of a run
abbrev pub after : CodeView → List ℤ → ℕ → Machine
after code input n = machine_after code n (opening_machine code input)

-- a machine of the code before its first word
abbrev pub IsOpening : CodeView → List ℤ → PlainView → Type 0
IsOpening code input p = p ≡ record { code = code; machine = opening_machine code input }

-- the machine has ended with this outcome and these counts
abbrev pub EndsAs : CodeView → Machine → Finish → Type 0
EndsAs code m f = EndsWith code m f.outcome × (f.counts ≡ counts_of m)

-- the machine has ended with this outcome, and its regions and whole turns are counted; what else is counted is speculation's own
pub record EndsSpeculatively (code : CodeView) (m : Machine) (f : Finish) : Type 0 where
  pub ends : EndsWith code m f.outcome
  pub regions : f.counts.regions ≡ m.regions
  pub turns : f.counts.turns ≡ m.turns

-- after some number of words
abbrev pub EndsSo : CodeView → List ℤ → Finish → Type 0
EndsSo code input f = (n : ℕ) × EndsSpeculatively code (after code input n) f

-- a machine behind a region that opened: any machine whose next word opened it is there after some words
pub record IsBehind (o : OpenView) (p : PlainView) : Type 0 where
  pub code : p.code ≡ o.code
  pub machine : (m : Machine) → opens_next o.code m ≡ true → whole o ≡ one_store (machine_step o.code m) → (n : ℕ) × (p.machine ≡ one_store (machine_after o.code n m))

-- after this number of words, or it hasn't ended then
abbrev pub PlainlySo : CodeView → List ℤ → ℕ → PlainRan → Type 0
PlainlySo code input n (Ended f) = EndsAs code (after code input n) f
PlainlySo code input n More = (after code input n).end ≡ None

-- the input doesn't fit, or there was no memory, which says nothing
abbrev pub RefusesInput : CodeView → List ℤ → Refusal → Type 0
RefusesInput code input InputTooLong = InputFits code input → ⊥
RefusesInput code input Memory = Unit {0}
RefusesInput code input Pool = Unit {0}
RefusesInput code input _ = ⊥

abbrev pub IsMemory : Refusal → Type 0
IsMemory Memory = Unit {0}
IsMemory Pool = Unit {0}
IsMemory _ = ⊥
