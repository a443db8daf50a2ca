-- What is told of a number.
use Rattle.std.specs.Prelude.{◌≡◌, ℕ, Bool, true, false, List, [], ◌∷◌, ◌++◌, Option, codes}
use Rattle.std.specs.Io.KnownBytes.{Appends}
use Rattle.hx_explain.specs.Numbers.{is_fault, is_refusal}
use Rattle.hx_explain.specs.declared.row.Explanation.{Explanation}
use Rattle.hx_answer.specs.declared.explaining.Asked.{Asked}
use Rattle.hx_answer.specs.declared.explaining.Asked.TheVariants.{Refusal, Fault}
use Rattle.hx_answer.specs.declared.status.Status.{Status}
use Rattle.hx_answer.specs.declared.status.Status.TheVariants as status

-- there is such a number
abbrev pub is_asked : Asked → Bool
is_asked (Refusal n) = is_refusal n
is_asked (Fault k) = is_fault k

-- a meaning, and behind it a wrong source and a right one
abbrev pub explained_text : Explanation → List ℕ
explained_text e = e.meaning.now ++ codes "\nwrong: " ++ e.wrong.now ++ codes "\nright: " ++ e.right.now ++ 10 ∷ []

-- the command `explain`
abbrev pub ExplainAnswer : Asked → Option (List ℕ) → Option (List ℕ) → Status → Type 0
ExplainAnswer asked old new status.Done = (is_asked asked ≡ true) × ((e : Explanation) × Appends old new (explained_text e))
ExplainAnswer asked old new status.Refused = (is_asked asked ≡ false) × (new ≡ old)
ExplainAnswer asked old new status.Memory = new ≡ old
ExplainAnswer asked old new status.Device = Unit {0}
ExplainAnswer asked old new status.Fault = ⊥
