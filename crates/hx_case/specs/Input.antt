-- What is said of settings and inputs that don't fit.
use Rattle.std.specs.Prelude.{◌≡◌, ◌⊎◌, ℕ, ℤ, List, [], ◌∷◌, ◌++◌, take, All, Bool, not, ◌&&◌, nat_lt, nat_le, ◌==◌, if◌then◌else◌, Option, Some, None, codes, decimal}
use Rattle.std.specs.Fmt.{signed_decimal}
use Rattle.hx_tree.specs.declared.limits.TheConstants.{INPUT_LIMIT, TABLE_LIMIT, WORKER_LIMIT}
use Rattle.hx_tree.specs.declared.outcome.Settings.{Settings}
use Rattle.hx_input.specs.InputText.{words_of, IsWordNumber}

-- ---- settings

abbrev pub is_in_range : ℕ → ℕ → Bool
is_in_range n limit = nat_lt 0 n && nat_le n limit

abbrev pub out_of_range : List ℕ → ℕ → ℕ → List ℕ
out_of_range option n limit = option ++ codes " " ++ decimal n ++ codes " is out of range: it goes from 1 to " ++ decimal limit ++ codes ".\n"

-- THE sentence about settings: the first of them that is out of range, and else the last
abbrev pub settings_case : Settings → List ℕ
settings_case s =
    if not (is_in_range s.workers WORKER_LIMIT) then out_of_range (codes "--workers") s.workers WORKER_LIMIT
    else (if not (is_in_range s.marks TABLE_LIMIT) then out_of_range (codes "--marks") s.marks TABLE_LIMIT
    else out_of_range (codes "--buffer") s.buffer TABLE_LIMIT)

-- ---- numbers that don't fit

abbrev pub plural : ℕ → List ℕ
plural count = if count == 1 then [] else codes "s"

-- THE sentence about so many numbers, and the length of the array `in` of a program
abbrev pub input_case : ℕ → Option ℕ → List ℕ
input_case count (Some room) = codes "The input has " ++ decimal count ++ codes " numbers, and the array 'in' has room for " ++ decimal room ++ codes ".\n"
input_case count None = codes "The input has " ++ decimal count ++ codes " number" ++ plural count ++ codes ", and the program has no global array 'in'.\n"

-- ---- a text

-- the word is the decimal of a number of 32 bits
abbrev pub IsNumber : List ℕ → Type 0
IsNumber word = (z : ℤ) × IsWordNumber z × (word ≡ signed_decimal z)

-- the first word of the text that is no number
pub record IsFirstBad (text word : List ℕ) : Type 0 where
  pub before : List (List ℕ)
  pub behind : List (List ℕ)
  pub words : words_of text ≡ before ++ word ∷ behind
  pub numbers : All IsNumber before
  pub bad : IsNumber word → ⊥

-- the sentence about a text that is too long
abbrev pub long_text_case : List ℕ
long_text_case = codes "The input has more than " ++ decimal INPUT_LIMIT ++ codes " bytes.\n"

-- the one about a word, of which no more than 80 bytes are shown
abbrev pub word_case : List ℕ → List ℕ
word_case word = codes "'" ++ take 80 word ++ codes "' is no number of the input.\n"

-- what is said of a text that isn't too long: which is the first word that is no number, or, where each word is one, that it is no list
abbrev pub IsTextCase : List ℕ → List ℕ → Type 0
IsTextCase text said =
    ((word : List ℕ) × IsFirstBad text word × (said ≡ word_case word))
    ⊎ (All IsNumber (words_of text) × (said ≡ codes "The input is no list of numbers.\n"))
