-- What an answer to all tokens says, at every room; and that they spell one program at most.
use Rattle.std.proofs.Common.{◌≡◌, ℕ, ◌+◌, ◌<◌, ◌≤◌, List, Result, Ok, Err, ◌⊎◌, inl, inr, sym, ◌∙◌, arith}
use Rattle.hx_tree.specs.Tree.{Program}
use Rattle.hx_tree.specs.Lexis.{Token}
use Rattle.hx_tree.specs.Grammar.{IsProgram}
use Rattle.hx_tree.specs.Height.{program_height}
use Rattle.hx_grammar.specs.Reading.{Refusal, Syntax, TooDeep, program_at}
use Rattle.hx_grammar.proofs.Readings.{made, made_is}
use Rattle.hx_grammar.proofs.ItemSound.{program_sound}
use Rattle.hx_grammar.proofs.ItemComplete.{program_complete}

abbrev refused : Refusal → Result Program Refusal
refused f = Err f

-- the program is read, or it's too deep
abbrev pub Again : ℕ → List Token → Program → Type 0
Again room tokens p =
    ((program_height p ≤ room + 3) × (program_at room tokens ≡ Ok p)) ⊎
    ((room + 3 < program_height p) × (program_at room tokens ≡ Err TooDeep))

pub again : (room : ℕ) (tokens : List Token) (p : Program) → IsProgram p tokens → Again room tokens p
again = program_complete

-- ---- programs that are spelled

pub low_is_read : (room : ℕ) (tokens : List Token) (p : Program) → IsProgram p tokens → program_height p ≤ room + 3
    → program_at room tokens ≡ Ok p
low_is_read room tokens p is low = elim (again room tokens p is) [ inl (fits, h) ↦ h | inr (deep, h) ↦ absurd (omega arith) ]

pub high_is_too_deep : (room : ℕ) (tokens : List Token) (p : Program) → IsProgram p tokens → room + 3 < program_height p
    → program_at room tokens ≡ Err TooDeep
high_is_too_deep room tokens p is high = elim (again room tokens p is) [ inl (fits, h) ↦ absurd (omega arith) | inr (deep, h) ↦ h ]

same_program : (room : ℕ) (tokens : List Token) (p q : Program) → program_at room tokens ≡ made p → Again room tokens q → p ≡ q
same_program room tokens p q e (inl (fits, h)) = made_is p q (sym e ∙ h)
same_program room tokens p q e (inr (deep, h)) = let x : made p ≡ refused TooDeep = sym e ∙ h in absurd cc

-- read with as much room as the first needs, they're the same
pub spells_one_at_most : (tokens : List Token) (p q : Program) → IsProgram p tokens → IsProgram q tokens → p ≡ q
spells_one_at_most tokens p q is other =
    let room : ℕ = program_height p in
    same_program room tokens p q (low_is_read room tokens p is (omega arith)) (again room tokens q other)

-- ---- answers

fits_room : (room : ℕ) (tokens : List Token) (p : Program) → program_at room tokens ≡ made p → Again room tokens p
    → program_height p ≤ room + 3
fits_room room tokens p e (inl (fits, h)) = fits
fits_room room tokens p e (inr (deep, h)) = let x : made p ≡ refused TooDeep = sym e ∙ h in absurd cc

pub found : (room : ℕ) (tokens : List Token) (p : Program) → program_at room tokens ≡ Ok p
    → IsProgram p tokens × (program_height p ≤ room + 3)
found room tokens p e =
    let is = program_sound room tokens p e in
    (is, fits_room room tokens p e (again room tokens p is))

pub only_one : (room : ℕ) (tokens : List Token) (p : Program) → program_at room tokens ≡ Ok p → (q : Program) → IsProgram q tokens → q ≡ p
only_one room tokens p e q is = spells_one_at_most tokens q p is (program_sound room tokens p e)

different : refused TooDeep ≡ refused Syntax → ⊥
different e = cc

pub none_spelled : (room : ℕ) (tokens : List Token) → program_at room tokens ≡ Err Syntax → (p : Program) → IsProgram p tokens → ⊥
none_spelled room tokens e p is =
    elim
    (again room tokens p is) [ inl (fits, h) ↦ (let x : made p ≡ refused Syntax = sym h ∙ e in cc) | inr (deep, h) ↦ different (sym h ∙ e) ]

pub none_low : (room : ℕ) (tokens : List Token) → program_at room tokens ≡ Err TooDeep → (p : Program) → IsProgram p tokens
    → room + 3 < program_height p
none_low room tokens e p is =
    elim (again room tokens p is) [ inl (fits, h) ↦ (let x : made p ≡ refused TooDeep = sym h ∙ e in absurd cc) | inr (deep, h) ↦ deep ]
