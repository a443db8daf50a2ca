use Rattle.std.proofs.Common.{arith, ◌≡◌, ◌∙◌, ◌+◌, ap, sym, subst, ℕ, List, drop, take, false, true}
use Rattle.hx_case.specs.Input.{IsFirstBad, IsNumber}
use Rattle.hx_input.proofs.Words.{word_len}
use Rattle.hx_case.proofs.BadWords.{IsPast, past_blank, past_number, past_bad, past_all}
use Rattle.hx_case.proofs.input.bad_word.Goals as goal
use Rattle.hx_case.proofs.input.bad_word.Goals.{else-len-gt0-via-then-len-gt0+else-not-is_number, else-len-gt0-via-else-len-gt0}

pub returns-then-not-is_number : goal.returns-then-not-is_number
returns-then-not-is_number c =
    let text = c.args.text.now in
    let n = c.word_len-len.result in
    let rest : c.split_at.result.1.now ≡ drop c.loop-at.at text = c.split_at.ensures.back in
    let long : n ≡ word_len (drop c.loop-at.at text) = c.word_len-len.ensures ∙ ap word_len rest in
    let never : IsNumber (take n c.split_at.result.1.now) → ⊥ = λ p. let no : false ≡ true = sym c.if-not-is_number.true ∙ c.is_number.ensures.1 p in absurd cc in
    let bad = past_bad text c.loop-at.at n c.loop-at.invariant long c.if-len-gt0.true (subst (λ (r : List ℕ). IsNumber (take n r) → ⊥) rest never) in
    subst (λ (r : List ℕ). IsFirstBad text (take n r)) (sym rest) bad

pub loop-at-preserved : goal.loop-at-preserved
loop-at-preserved c =
    let text = c.args.text.now in
    let n = c.word_len-len.result in
    let rest : c.split_at.result.1.now ≡ drop c.loop-at.at text = c.split_at.ensures.back in
    let long : n ≡ word_len (drop c.loop-at.at text) = c.word_len-len.ensures ∙ ap word_len rest in
    elim c.else-len-gt0.branch [
      | else-len-gt0-via-then-len-gt0+else-not-is_number w ↦
          let is : IsNumber (take n c.split_at.result.1.now) = w.is_number.ensures.0 w.if-not-is_number.false in
          past_number text c.loop-at.at n c.loop-at.invariant long w.if-len-gt0.true (subst (λ (r : List ℕ). IsNumber (take n r)) rest is)
      | else-len-gt0-via-else-len-gt0 w ↦
          let none : n ≡ 0 = omega (arith, w.if-len-gt0.false) in
          subst (λ (k : ℕ). IsPast text (c.loop-at.at + (k + 1))) (sym none) (past_blank text c.loop-at.at c.loop-at.invariant (sym none ∙ long))
    ]

pub returns : goal.returns
returns c = past_all c.args.text.now c.loop-at.at c.loop-at.invariant c.loop-at-test.false
