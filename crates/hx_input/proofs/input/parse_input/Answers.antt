use Rattle.std.proofs.Common.{rules, ◌≡◌, ◌+◌, [], ◌∷◌, ◌++◌, ◌∙◌, ap, sym, ℤ, drop, take}
use Rattle.std.specs.Fmt.{signed_decimal}
use Rattle.hx_input.specs.InputText.{IsWordNumber}
use Rattle.hx_input.proofs.Words.{reads_blank, reads_number, refuses, is_only, IsRead, word_len}
use Rattle.hx_input.proofs.input.parse_input.Goals.{then-len-gt0+in-Some+in_ok-push-in-Some, else-len-gt0}
use Rattle.hx_input.proofs.input.parse_input.Goals as goal

pub returns-in-None-clause-refused : goal.returns-in-None-clause-refused
returns-in-None-clause-refused c =
    let rest_is : c.split_at.result.1.now ≡ drop c.loop-at.at c.args.text.now = search rules in
    let at_rest : c.word_len-len.result ≡ word_len (drop c.loop-at.at c.args.text.now) = c.word_len-len.ensures ∙ ap word_len rest_is in
    let never : (z : ℤ) → IsWordNumber z → take c.word_len-len.result (drop c.loop-at.at c.args.text.now) ≡ signed_decimal z → ⊥ =
    λ z good is. c.number_of.ensures.none c.in-None.is z good (ap (λ rest. take c.word_len-len.result rest) rest_is ∙ is) in
    refuses c.args.text.now c.loop-at.at c.word_len-len.result c.loop-at.values.items c.loop-at.invariant at_rest c.if-len-gt0.true never

pub loop-at-preserved : goal.loop-at-preserved
loop-at-preserved c =
    let rest_is : c.split_at.result.1.now ≡ drop c.loop-at.at c.args.text.now = search rules in
    let at_rest : c.word_len-len.result ≡ word_len (drop c.loop-at.at c.args.text.now) = c.word_len-len.ensures ∙ ap word_len rest_is in
    elim c.if-len-gt0.branch [
      | then-len-gt0+in-Some+in_ok-push-in-Some w ↦
          let word_is : take c.word_len-len.result (drop c.loop-at.at c.args.text.now) ≡ signed_decimal w.in-Some.value =
          sym (ap (λ rest. take c.word_len-len.result rest) rest_is) ∙ w.in-Some.ensures.some.0 in
          let fact : IsRead c.args.text.now (c.loop-at.at + (c.word_len-len.result + 1)) (c.loop-at.values.items ++ w.in-Some.value ∷ []) =
          reads_number c.args.text.now c.loop-at.at c.word_len-len.result c.loop-at.values.items w.in-Some.value c.loop-at.invariant c.loop-at-test.true at_rest w.if-len-gt0.true
          word_is w.in-Some.ensures.some.1 in
          search rules
      | else-len-gt0 w ↦
          let none : c.word_len-len.result ≡ 0 = search rules in
          let fact : IsRead c.args.text.now (c.loop-at.at + (0 + 1)) c.loop-at.values.items = reads_blank c.args.text.now c.loop-at.at c.loop-at.values.items c.loop-at.invariant c.loop-at-test.true (sym none ∙ at_rest) in
          search rules
    ]

pub returns-clause-only : goal.returns-clause-only
returns-clause-only c = is_only c.args.text.now c.loop-at.at c.loop-at.values.items c.loop-at.invariant (search rules)
