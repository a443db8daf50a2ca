-- What `to_region` comes to is a machine of the same code, and so is what stands behind a region.
use Rattle.std.proofs.Common.{ap, sym, ◌∙◌}
use Rattle.hx_code.specs.Machine.{machine_after}
use Rattle.hx_word.specs.Plain.{PlainView}
use Rattle.hx_tests_pools.proofs.passing.words_by_regions.Goals as goal
use Rattle.hx_tests_pools.proofs.passing.words_by_regions.Goals.{in-More, in-At}

pub loop-init : goal.loop-init
loop-init g c =
    let first = c.machine_for-plain in
    (first.ensures.code, first.result.machine, first.ensures.one)

pub loop-preserved : goal.loop-preserved
loop-preserved g c = elim c.match-to_region.branch [
  | in-More w ↦
      let x = w.in-More.ensures c.loop.invariant.1 c.loop.invariant.2 in
      (ap (λ (p : PlainView). p.code) w.plain-is ∙ x.1 ∙ c.loop.invariant.0, machine_after c.loop.plain.code 1 c.loop.invariant.1, sym (ap (λ (p : PlainView). p.machine) w.plain-is ∙ x.2))
  | in-At w ↦
      let next = w.behind-plain in
      (ap (λ (p : PlainView). p.code) w.plain-is ∙ next.ensures.code, next.result.machine, next.ensures.one ∙ sym (ap (λ (p : PlainView). p.machine) w.plain-is))
]
