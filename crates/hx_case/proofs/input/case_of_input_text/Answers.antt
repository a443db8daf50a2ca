use Rattle.std.proofs.Common.{◌≡◌, inl, append_assoc}
use Rattle.std.proofs.lemmas.Result.{IfOk-weaker}
use Rattle.hx_case.specs.Input.{IsTextCase, word_case}
use Rattle.hx_case.proofs.Said.{said_as}
use Rattle.hx_case.proofs.input.case_of_input_text.Goals as goal

pub returns-in-Some-clause-short : goal.returns-in-Some-clause-short
returns-in-Some-clause-short c = λ short.
    let said = said_as (λ v. v.items) c.say-in-Some.result _ (word_case c.in-Some.word.now) c.say-in-Some.ensures (simp (c.first.ensures, append_assoc)) in
    IfOk-weaker c.say-in-Some.result (λ v. v.items ≡ word_case c.in-Some.word.now) (λ v. IsTextCase c.args.text.now v.items) (λ v e. inl (c.in-Some.word.now, c.in-Some.ensures, e)) said
