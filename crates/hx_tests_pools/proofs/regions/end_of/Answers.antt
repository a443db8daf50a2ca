-- The region's own end fits its machine.
use Rattle.std.proofs.Common.{arith, ap, ◌∙◌}
use Rattle.hx_code.specs.Code.{store_words}
use Rattle.hx_code.specs.Region.{Opened}
use Rattle.hx_word.specs.Running.{RunView}
use Rattle.hx_tests_pools.proofs.regions.end_of.Goals as goal

pub returns : goal.returns
returns g c =
    let lasts = c.ended.ensures in
    let begun = c.run_of-run.ensures in
    let ran = c.run-ended.ensures in
    let printed = ap (λ (o : Opened). o.printed) ran.opened ∙ begun.printed in
    record {
      store = lasts.store ∙ ap store_words (ap (λ (r : RunView). r.code) ran.ran ∙ begun.code);
      locals = lasts.locals ∙ ap (λ (r : RunView). r.locals) ran.ran ∙ begun.locals;
      text = omega (arith, printed, lasts.text);
    }
