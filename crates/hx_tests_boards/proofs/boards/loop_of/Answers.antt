-- The machine at the region has the code that the machine was made of.
use Rattle.std.proofs.Common.{ap, sym, ◌∙◌}
use Rattle.hx_word.specs.Plain.{PlainView, one_store}
use Rattle.hx_tests_boards.proofs.boards.loop_of.Goals as goal

pub replayed-requires : goal.replayed-requires
replayed-requires g c =
    let is = ap (λ (p : PlainView). p.machine) c.in-Ok.ensures.opening in
    let one = ap one_store is ∙ sym is in
    (c.in-At.ensures c.in-Ok.plain.machine one).4 ∙ ap (λ (p : PlainView). p.code) c.in-Ok.ensures.opening
