use Rattle.std.proofs.Common.{rules, arith, ◌≡◌, ◌<◌, Some, length, slice_get, refl, ap}
use Rattle.hx_marks.specs.Table.{MapView}
use Rattle.hx_marks.proofs.Columns.{length_seen, seen_at}
use Rattle.hx_marks.proofs.marks.Marks.at.Goals as goal

pub index-requires : goal.index-requires
index-requires c =
    let long = length_seen c.self.inside.words.items c.self.inside.words.items c.self.inside.values.items c.args.self.now.entries refl (ap (λ (v : MapView). v.entries) c.self.view_is) c.self.invariant.0 c.self.invariant.1 in
    let within : c.args.place < length c.self.inside.words.items = omega (arith, long, c.requires) in
    search rules

pub index-requires-2 : goal.index-requires-2
index-requires-2 c =
    let long = length_seen c.self.inside.words.items c.self.inside.words.items c.self.inside.values.items c.args.self.now.entries refl (ap (λ (v : MapView). v.entries) c.self.view_is) c.self.invariant.0 c.self.invariant.1 in
    let within : c.args.place < length c.self.inside.values.items = omega (arith, long, c.requires, c.self.invariant.1) in
    search rules

pub returns : goal.returns
returns c =
    let long = length_seen c.self.inside.words.items c.self.inside.words.items c.self.inside.values.items c.args.self.now.entries refl (ap (λ (v : MapView). v.entries) c.self.view_is) c.self.invariant.0 c.self.invariant.1 in
    let is : slice_get c.args.self.now.entries c.args.place ≡ Some (record { word = c.index.result.now; value = c.index-2.result.now }) =
    seen_at c.self.inside.words.items c.self.inside.words.items c.self.inside.values.items c.args.self.now.entries refl (ap (λ (v : MapView). v.entries) c.self.view_is) c.self.invariant.0 c.self.invariant.1 c.args.place c.index.result.now c.index-2.result.now (omega (arith, long, c.requires)) c.index.ensures c.index-2.ensures in
    search rules
