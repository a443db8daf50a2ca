use Rattle.std.proofs.Common.{ap}
use Rattle.hx_marks.specs.Table.{MapView}
use Rattle.hx_marks.proofs.Columns.{length_seen}
use Rattle.hx_marks.proofs.marks.Marks.len.Goals as goal

pub returns : goal.returns
returns c =
    length_seen c.self.inside.words.items c.as_slice.result.now c.self.inside.values.items c.args.self.now.entries c.as_slice.ensures.value (ap (λ (v : MapView). v.entries) c.self.view_is) c.self.invariant.0 c.self.invariant.1
