use Rattle.std.proofs.Common.{rules, ◌≡◌, Some, sym, ap}
use Rattle.hx_marks.specs.Table.{MapView, look}
use Rattle.hx_marks.proofs.Columns.{slice_rises, seen_least, seen_nowhere}
use Rattle.hx_marks.proofs.marks.Marks.get.Goals as goal

pub search-requires : goal.search-requires
search-requires c =
    slice_rises c.self.inside.words.items c.as_slice.result.now c.self.inside.values.items c.args.self.now.entries c.as_slice.ensures.value (ap (λ (v : MapView). v.entries) c.self.view_is) c.self.invariant.0 c.self.invariant.1

pub returns-in-Ok : goal.returns-in-Ok
returns-in-Ok c =
    let place = c.in-Ok.ensures.found in
    let found : look c.args.self.now.entries c.args.word ≡ Some c.index.result.now =
    seen_least c.self.inside.words.items c.as_slice.result.now c.self.inside.values.items c.args.self.now.entries c.as_slice.ensures.value (ap (λ (v : MapView). v.entries) c.self.view_is) c.self.invariant.0 c.self.invariant.1 c.args.word c.in-Ok.place c.index.result.now place.0 place.1 place.2 c.index.ensures in
    search rules

pub returns-in-Err : goal.returns-in-Err
returns-in-Err c =
    sym (seen_nowhere c.self.inside.words.items c.as_slice.result.now c.self.inside.values.items c.args.self.now.entries c.as_slice.ensures.value (ap (λ (v : MapView). v.entries) c.self.view_is) c.self.invariant.0 c.self.invariant.1 c.args.word c.in-Err.field-0 c.in-Err.ensures.missing.1)
