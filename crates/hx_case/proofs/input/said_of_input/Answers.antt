use Rattle.std.proofs.Common.{◌≡◌, ◌∙◌, append_assoc}
use Rattle.std.specs.Prelude.{decimal}
use Rattle.hx_case.proofs.Said.{said_as}
use Rattle.hx_case.proofs.input.said_of_input.Goals as goal

pub returns-in-Some : goal.returns-in-Some
returns-in-Some c =
    let has : c.as_bytes-has.result.now ≡ decimal c.args.count = c.as_bytes-has.ensures.value ∙ c.format.ensures.text in
    let most : c.as_bytes.result.now ≡ decimal c.in-Some.words = c.as_bytes.ensures.value ∙ c.format-in-Some.ensures.text in
    said_as (λ v. v.items) c.say.result _ _ c.say.ensures (simp (c.in-Some.is, has, most, append_assoc))

pub returns-in-None : goal.returns-in-None
returns-in-None c =
    let has : c.as_bytes-has.result.now ≡ decimal c.args.count = c.as_bytes-has.ensures.value ∙ c.format.ensures.text in
    said_as (λ v. v.items) c.say-in-None.result _ _ c.say-in-None.ensures (simp (c.in-None.is, has, c.plural.ensures, append_assoc))
