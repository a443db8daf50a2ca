-- What holds of the code of every accepted program.
use Rattle.std.specs.Prelude.{ℕ, ◌<◌, ◌^◌, List, length}
use Rattle.hx_tree.specs.Tree.{Program}
use Rattle.hx_tree.specs.Grammar.{Spells}
use Rattle.hx_tree.specs.Accepted.{IsAccepted}
use Rattle.hx_resolved.specs.Resolve.{resolve}
use Rattle.hx_code.specs.Valid.{IsValid}
use Rattle.hx_lowering.specs.Draft.{code_of}

-- the words of an accepted program, where their places are numbers of 32 bits, keep each rule of valid code
abbrev pub LoweredCodeIsValid : Type 0
LoweredCodeIsValid = (p : Program) → IsAccepted p → length (code_of (resolve p)).words < 2 ^ 32 → IsValid (code_of (resolve p))

-- a source is short, so the code of the program that it spells has places of 32 bits
abbrev pub SpelledCodeIsShort : Type 0
SpelledCodeIsShort = (bytes : List ℕ) (p : Program) → Spells bytes p → length (code_of (resolve p)).words < 2 ^ 32
