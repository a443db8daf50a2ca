use Rattle.std.proofs.Common.{arith, ap}
use Rattle.hx_word.specs.Plain.{OpenView}
use Rattle.hx_word.specs.Entry.{privates_in}
use Rattle.hx_word.proofs.Entries.{privates_few}
use Rattle.hx_word.proofs.plain.Open.resume.Goals as goal

pub resume-requires-clause-locals : goal.resume-requires-clause-locals
resume-requires-clause-locals c =
    let few = privates_few c.self.inside.code.now c.known.ensures c.args.self.region.opened.region in
    let same = ap (λ (o : OpenView). privates_in o.code c.args.self.region.opened.region) c.self.view_is in
    omega (arith, few, same, c.requires.locals)
