-- The numbers and places of refusals, and what those of a source mean.
use Rattle.std.specs.Prelude.{ℕ, ℤ, Bool, true, false, List, Option, None}
use Rattle.hx_tree.specs.declared.token.Pos.{Pos}
use Rattle.hx_lex.specs.declared.error.LexError.TheVariants as lex
use Rattle.hx_lex.specs.Answer as lexer
use Rattle.hx_parse.specs.declared.error.ParseError.TheVariants as parse
use Rattle.hx_parse.specs.Answer as parser
use Rattle.hx_check.specs.declared.error.CheckError.TheVariants as check
use Rattle.hx_check.specs.Refusals as checker
use Rattle.hx_lower.specs.declared.error.LowerError.TheVariants as lower
use Rattle.hx_word.specs.declared.plain.PlainError.{PlainError}
use Rattle.hx_word.specs.declared.plain.PlainError.TheVariants as plain
use Rattle.hx_input.specs.declared.input.InputError.{InputError}
use Rattle.hx_input.specs.declared.input.InputError.TheVariants as input
use Rattle.hx_run.specs.declared.refusal.Refusal.{Refusal}
use Rattle.hx_run.specs.declared.refusal.Refusal.TheVariants.{Lex, Parse, Check, Lower, Pool, Settings, InputTooLong, Memory, ReadFailed, WriteFailed, InputText}
use Rattle.hx_input.specs.InputText.{IsInputText}
use Rattle.hx_run.specs.Sources.{IsSourceOfNone}

abbrev pub number_of : Refusal → ℕ
number_of (Lex e) = lexer.number_of e
number_of (Parse e) = parser.number_of e
number_of (Check e) = checker.number_of e
number_of (Lower lower.Memory) = 30
number_of Pool = 50
number_of Settings = 60
number_of InputTooLong = 61
number_of Memory = 62
number_of ReadFailed = 63
number_of WriteFailed = 64
number_of InputText = 65

abbrev pub pos_of : Refusal → Option Pos
pos_of (Lex e) = lexer.pos_of e
pos_of (Parse e) = parser.pos_of e
pos_of (Check e) = checker.place_of e
pos_of (Lower e) = None
pos_of Pool = None
pos_of Settings = None
pos_of InputTooLong = None
pos_of Memory = None
pos_of ReadFailed = None
pos_of WriteFailed = None
pos_of InputText = None

abbrev pub is_memory : Refusal → Bool
is_memory (Lex lex.Memory) = true
is_memory (Parse parse.Memory) = true
is_memory (Check check.Memory) = true
is_memory (Lower lower.Memory) = true
is_memory Pool = true
is_memory Memory = true
is_memory _ = false

abbrev pub is_of_device : Refusal → Bool
is_of_device ReadFailed = true
is_of_device WriteFailed = true
is_of_device _ = false

-- a refusal of a source: memory says nothing of it, and any other means that it is the source of no accepted program
abbrev pub RefusesSource : List ℕ → Refusal → Type 0
RefusesSource source (Lex lex.Memory) = Unit {0}
RefusesSource source (Lex e) = IsSourceOfNone source
RefusesSource source (Parse parse.Memory) = Unit {0}
RefusesSource source (Parse e) = IsSourceOfNone source
RefusesSource source (Check check.Memory) = Unit {0}
RefusesSource source (Check e) = IsSourceOfNone source
RefusesSource source (Lower lower.Memory) = Unit {0}
RefusesSource source _ = ⊥

-- what the refusals of the machine and of the input text are

abbrev pub refusal_of_plain : PlainError → Refusal
refusal_of_plain plain.InputUnfit = InputTooLong
refusal_of_plain plain.OutOfMemory = Memory

abbrev pub refusal_of_input : InputError → Refusal
refusal_of_input input.BadText = InputText
refusal_of_input input.Memory = Memory

-- 65 means that the text spells no numbers, and memory nothing
abbrev pub RefusesText : List ℕ → Refusal → Type 0
RefusesText text InputText = (numbers : List ℤ) → IsInputText text numbers → ⊥
RefusesText text Memory = Unit {0}
RefusesText text _ = ⊥
