-- Which numbers an input text spells.
use Rattle.std.specs.Prelude.{◌≡◌, ℕ, ◌≤◌, ℤ, FitsSigned, Bool, not, List, length, map, filter, nat_lt, All}
use Rattle.std.specs.Fmt.{signed_decimal}
use Rattle.std.specs.Int.{w32}
use Rattle.std.specs.List.{slice_split}
use Rattle.hx_tree.specs.declared.limits.TheConstants.{INPUT_LIMIT}
use Rattle.hx_tree.specs.Lexis.{is_space}
use Rattle.hx_input.specs.declared.input.InputError.{InputError}
use Rattle.hx_input.specs.declared.input.InputError.TheVariants.{BadText, Memory}

abbrev pub is_in_word : ℕ → Bool
is_in_word b = not (is_space b)

-- what stands between white space
abbrev pub words_of : List ℕ → List (List ℕ)
words_of text = filter (λ word. nat_lt 0 (length word)) (slice_split is_space text)

-- a number of 32 bits
abbrev pub IsWordNumber : ℤ → Type 0
IsWordNumber z = FitsSigned w32 z

-- the words of the text are the decimals of these numbers
pub record IsInputText (text : List ℕ) (numbers : List ℤ) : Type 0 where
  pub is_short : length text ≤ INPUT_LIMIT
  pub words : words_of text ≡ map signed_decimal numbers
  pub each : All IsWordNumber numbers

abbrev pub IsRefusedInput : List ℕ → InputError → Type 0
IsRefusedInput text BadText = (numbers : List ℤ) → IsInputText text numbers → ⊥
IsRefusedInput text Memory = Unit {0}
