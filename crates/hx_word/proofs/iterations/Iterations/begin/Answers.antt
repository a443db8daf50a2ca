use Rattle.std.proofs.Common.{ap, refl}
use Rattle.hx_word.specs.declared.iterations.Iterations.{Iterations}
use Rattle.hx_word.specs.Opening.{opened_of}
use Rattle.hx_word.proofs.iterations.Iterations.begin.Goals as goal

pub returns : goal.returns
returns c =
    ap (λ l. let i : Iterations = record { opened = c.args.self.now.opened; number = c.args.j; local = l; text = c.args.self.now.text; turns = c.args.self.now.turns } in i) (c.begin.ensures.begun (opened_of c.args.self.now.opened) refl refl refl)
