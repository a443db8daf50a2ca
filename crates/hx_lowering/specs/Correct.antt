-- What is promised of the code of a program.
use Rattle.std.specs.Prelude.{◌≡◌, ◌↔◌, ℕ, ℤ, List, take, Some, All}
use Rattle.std.specs.Int.{w32}
use Rattle.std.specs.Int.RustNames.{FitsSigned}
use Rattle.hx_tree.specs.declared.outcome.End.{End}
use Rattle.hx_tree.specs.Tree.{Program}
use Rattle.hx_tree.specs.Meaning.{Ending, Means, InputFits}
use Rattle.hx_code.specs.Code.{CodeView}
use Rattle.hx_code.specs.Machine as code
use Rattle.hx_code.specs.Region.{held}
use Rattle.hx_code.specs.Machine.{Machine, machine_after, opening_machine}

-- the machine has ended as the program does, with its whole turns, as far as 64 bits count them
pub record Shows (code : CodeView) (m : Machine) (r : Ending) : Type 0 where
  pub finish : m.end ≡ Some r.finish
  pub text : m.text ≡ r.text
  pub globals : take code.globals m.store ≡ r.globals
  pub turns : m.turns ≡ held r.turns

-- the machine after so many words, from the beginning
abbrev pub run : CodeView → List ℤ → ℕ → Machine
run code input n = machine_after code n (opening_machine code input)

-- the code does what the program means, and nothing else: the same inputs fit; where the program ends, the code ends so; and
-- where the code has ended, the program ends so. An input is a list of numbers of 32 bits: a counter is computed by an addition
-- that wraps, which leaves such numbers alone as they are
pub record Behaves (p : Program) (view : CodeView) : Type 0 where
  pub fits : (input : List ℤ) → InputFits p input ↔ code.InputFits view input
  pub ends : (input : List ℤ) → All (FitsSigned w32) input → InputFits p input → (r : Ending) → Means p input r → (n : ℕ) × Shows view (run view input n) r
  pub ends_only : (input : List ℤ) → All (FitsSigned w32) input → InputFits p input → (n : ℕ) (finish : End) → (run view input n).end ≡ Some finish
      → (r : Ending) × Means p input r × Shows view (run view input n) r
