-- An explanation that is shown.
use Rattle.std.proofs.Common.{◌≡◌, ℕ, true, List, Option, subst}
use Rattle.std.specs.Io.KnownBytes.{Appends}
use Rattle.hx_explain.specs.declared.row.Explanation.{Explanation}
use Rattle.hx_answer.specs.declared.explaining.Asked.{Asked}
use Rattle.hx_answer.specs.declared.status.Status.{Status}
use Rattle.hx_answer.specs.declared.status.Status.TheVariants as status
use Rattle.hx_answer.specs.Answers.{ShowsText}
use Rattle.hx_answer.specs.Explanations.{explained_text, is_asked, ExplainAnswer}

pub explanation_shown : (asked : Asked) (e : Explanation) (text : List ℕ) (old new : Option (List ℕ)) (s : Status) → is_asked asked ≡ true → text ≡ explained_text e
    → ShowsText text old new s → ExplainAnswer asked old new s
explanation_shown asked e text old new status.Done there is shown = (there, (e, subst (λ t. Appends old new t) is shown))
explanation_shown asked e text old new status.Device there is shown = tt
explanation_shown asked e text old new status.Fault there is shown = absurd shown
explanation_shown asked e text old new status.Refused there is shown = absurd shown
explanation_shown asked e text old new status.Memory there is shown = absurd shown
