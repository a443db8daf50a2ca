use Rattle.std.proofs.Common.{arith, ap, refl}
use Rattle.hx_marks.specs.Table.{MapView}
use Rattle.hx_marks.proofs.Columns.{length_seen}
use Rattle.hx_marks.proofs.marks.Marks.known.Goals as goal

pub returns-clause-few : goal.returns-clause-few
returns-clause-few c =
    let capacity = ap (λ (v : MapView). v.capacity) c.self.view_is in
    let long = length_seen c.self.inside.words.items c.self.inside.words.items c.self.inside.values.items c.args.self.now.entries refl (ap (λ (v : MapView). v.entries) c.self.view_is) c.self.invariant.0 c.self.invariant.1 in
    omega (arith, capacity, long, c.self.invariant.2)
