-- Which sources are of which programs.
use Rattle.std.specs.Prelude.{◌≡◌, ℕ, List}
use Rattle.hx_tree.specs.Tree.{Program}
use Rattle.hx_tree.specs.Grammar.{Spells}
use Rattle.hx_tree.specs.Accepted.{IsAccepted}

-- the source spells the program, which is accepted
pub record IsSourceOf (source : List ℕ) (p : Program) : Type 0 where
  pub spells : Spells source p
  pub accepted : IsAccepted p

abbrev pub IsSourceOfNone : List ℕ → Type 0
IsSourceOfNone source = (p : Program) → IsSourceOf source p → ⊥

-- the source spells this program, and no other
pub record IsSpelledAlone (source : List ℕ) (p : Program) : Type 0 where
  pub spells : Spells source p
  pub only : (q : Program) → Spells source q → q ≡ p
