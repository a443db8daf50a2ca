-- The numbers and the places of refusals.
use Rattle.std.specs.Prelude.{ℕ, Option, Some, None}
use Rattle.hx_tree.specs.declared.token.Pos.{Pos}
use Rattle.hx_check.specs.declared.error.CheckError.{CheckError}
use Rattle.hx_check.specs.declared.error.CheckError.TheVariants.{UnknownName, DoubledName, WrongKind, WrongCount, OutsideLoop, NoMain, LimitPassed, TooLarge, Memory}

abbrev pub number_of : CheckError → ℕ
number_of (UnknownName pos) = 20
number_of (DoubledName pos) = 21
number_of (WrongKind pos) = 22
number_of (WrongCount pos) = 23
number_of (OutsideLoop pos) = 24
number_of NoMain = 25
number_of (LimitPassed pos) = 26
number_of TooLarge = 26
number_of Memory = 27

abbrev pub place_of : CheckError → Option Pos
place_of (UnknownName pos) = Some pos
place_of (DoubledName pos) = Some pos
place_of (WrongKind pos) = Some pos
place_of (WrongCount pos) = Some pos
place_of (OutsideLoop pos) = Some pos
place_of NoMain = None
place_of (LimitPassed pos) = Some pos
place_of TooLarge = None
place_of Memory = None

-- a refusal other than for memory means that this doesn't hold
abbrev pub Refuses : CheckError → Type 0 → Type 0
Refuses Memory Accepted = Unit {0}
Refuses e Accepted = Accepted → ⊥
