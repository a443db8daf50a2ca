-- What holds of the reading of all tokens, at every room. A program, a function and its body are the three nodes above the room.
use Rattle.std.specs.Prelude.{◌≡◌, ℕ, ◌+◌, ◌<◌, ◌≤◌, List, Ok, Err}
use Rattle.hx_tree.specs.Tree.{Program}
use Rattle.hx_tree.specs.Lexis.{Token}
use Rattle.hx_tree.specs.Grammar.{IsProgram}
use Rattle.hx_tree.specs.Height.{program_height}
use Rattle.hx_grammar.specs.Reading.{Syntax, TooDeep, program_at}

-- what is read is a program that the tokens spell, and not too high
abbrev pub WhatIsReadIsSpelled : Type 0
WhatIsReadIsSpelled =
    (room : ℕ) (tokens : List Token) (p : Program) → program_at room tokens ≡ Ok p → IsProgram p tokens × (program_height p ≤ room + 3)

-- a program that the tokens spell, and that isn't too high, is read
abbrev pub WhatIsSpelledIsRead : Type 0
WhatIsSpelledIsRead =
    (room : ℕ) (tokens : List Token) (p : Program) → IsProgram p tokens → program_height p ≤ room + 3 → program_at room tokens ≡ Ok p

-- one that is higher is refused as that
abbrev pub HigherIsTooDeep : Type 0
HigherIsTooDeep =
    (room : ℕ) (tokens : List Token) (p : Program) → IsProgram p tokens → room + 3 < program_height p → program_at room tokens ≡ Err TooDeep

-- tokens spell one program at most, of whatever height
abbrev pub SpellsOneAtMost : Type 0
SpellsOneAtMost = (tokens : List Token) (p q : Program) → IsProgram p tokens → IsProgram q tokens → p ≡ q

-- where the syntax is refused, the tokens spell no program of any height
abbrev pub SyntaxSpellsNone : Type 0
SyntaxSpellsNone = (room : ℕ) (tokens : List Token) → program_at room tokens ≡ Err Syntax → (p : Program) → IsProgram p tokens → ⊥

-- where they're refused as too deep, they spell none that isn't too high
abbrev pub TooDeepSpellsHigher : Type 0
TooDeepSpellsHigher =
    (room : ℕ) (tokens : List Token) → program_at room tokens ≡ Err TooDeep → (p : Program) → IsProgram p tokens → room + 3 < program_height p
