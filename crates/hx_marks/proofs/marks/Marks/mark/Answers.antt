use Rattle.std.proofs.Common.{rules, arith, ◌≡◌, ◌≤◌, ◌+◌, ℕ, List, Some, length, slice_set, insert, sym, subst, refl, ap, ap₂, ◌∙◌}
use Rattle.std.proofs.lemmas.Bool.{false≢true}
use Rattle.std.proofs.lemmas.List.{length-set}
use Rattle.std.proofs.lemmas.List.Edits.{length-insert}
use Rattle.hx_marks.specs.Table.{MapView, IsRising, look, put, tabled}
use Rattle.hx_marks.proofs.Tables.{put_rises}
use Rattle.hx_marks.proofs.Columns.{slice_rises, length_seen, seen_least, seen_nowhere, seen_set, seen_insert}
use Rattle.hx_marks.proofs.marks.Marks.mark.Goals as goal

pub search-requires : goal.search-requires
search-requires c =
    slice_rises c.self.inside.words.items c.as_slice.result.now c.self.inside.values.items c.args.self.now.entries c.as_slice.ensures.value (ap (λ (v : MapView). v.entries) c.self.view_is) c.self.invariant.0 c.self.invariant.1

pub invariant_of-self : goal.invariant_of-self
invariant_of-self c =
    let es = ap (λ (v : MapView). v.entries) c.self.view_is in
    let place = c.in-Ok.ensures.found in
    let is : tabled c.self.inside.words.items (slice_set c.self.inside.values.items c.in-Ok.place c.args.value) ≡ put c.args.self.now.entries c.args.word c.args.value =
    seen_set c.self.inside.words.items c.as_slice.result.now c.self.inside.values.items c.args.self.now.entries c.as_slice.ensures.value es c.self.invariant.0 c.self.invariant.1 c.args.word c.in-Ok.place c.args.value place.0 place.1 in
    let rises : IsRising (tabled c.self.inside.words.items (slice_set c.self.inside.values.items c.in-Ok.place c.args.value)) =
    subst IsRising (sym is) (put_rises c.args.self.now.entries c.args.word c.args.value (subst IsRising es c.self.invariant.0)) in
    let long : length (slice_set c.self.inside.values.items c.in-Ok.place c.args.value) ≡ length c.self.inside.values.items = length-set c.self.inside.values.items c.in-Ok.place c.args.value in
    search rules

pub returns-in-Ok-clause-marked : goal.returns-in-Ok-clause-marked
returns-in-Ok-clause-marked c =
    let es = ap (λ (v : MapView). v.entries) c.self.view_is in
    let place = c.in-Ok.ensures.found in
    let is : tabled c.self.inside.words.items (slice_set c.self.inside.values.items c.in-Ok.place c.args.value) ≡ put c.args.self.now.entries c.args.word c.args.value =
    seen_set c.self.inside.words.items c.as_slice.result.now c.self.inside.values.items c.args.self.now.entries c.as_slice.ensures.value es c.self.invariant.0 c.self.invariant.1 c.args.word c.in-Ok.place c.args.value place.0 place.1 in
    search rules

pub returns-in-Ok-clause-full : goal.returns-in-Ok-clause-full
returns-in-Ok-clause-full c =
    let es = ap (λ (v : MapView). v.entries) c.self.view_is in
    let place = c.in-Ok.ensures.found in
    let found : look c.args.self.now.entries c.args.word ≡ Some c.index_mut.result.now =
    seen_least c.self.inside.words.items c.as_slice.result.now c.self.inside.values.items c.args.self.now.entries c.as_slice.ensures.value es c.self.invariant.0 c.self.invariant.1 c.args.word c.in-Ok.place c.index_mut.result.now place.0 place.1 place.2 c.index_mut.ensures.value in
    (λ h. absurd (false≢true h), λ h. let none = h.0 in absurd (cc (found, none)))

pub returns-in-Err-clause-full : goal.returns-in-Err-clause-full
returns-in-Err-clause-full c =
    let es = ap (λ (v : MapView). v.entries) c.self.view_is in
    let none = seen_nowhere c.self.inside.words.items c.as_slice.result.now c.self.inside.values.items c.args.self.now.entries c.as_slice.ensures.value es c.self.invariant.0 c.self.invariant.1 c.args.word c.in-Err.field-0 c.in-Err.ensures.missing.1 in
    let capacity = ap (λ (v : MapView). v.capacity) c.self.view_is in
    let long = length_seen c.self.inside.words.items c.as_slice.result.now c.self.inside.values.items c.args.self.now.entries c.as_slice.ensures.value es c.self.invariant.0 c.self.invariant.1 in
    (λ _. (none, omega (arith, capacity, long, c.if-len-self.true)), λ _. refl)

pub invariant_of-self-in-Err-2 : goal.invariant_of-self-in-Err-2
invariant_of-self-in-Err-2 c =
    let es = ap (λ (v : MapView). v.entries) c.self.view_is in
    let place = c.in-Err.ensures.missing in
    let words : c.put_in.new.items.items ≡ insert c.self.inside.words.items c.in-Err.field-0 c.args.word = (let is = c.put_in.ensures.items in search rules) in
    let values : c.put_in-in-Err-2.new.items.items ≡ insert c.self.inside.values.items c.in-Err.field-0 c.args.value = (let is = c.put_in-in-Err-2.ensures.items in search rules) in
    let is : tabled c.put_in.new.items.items c.put_in-in-Err-2.new.items.items ≡ put c.args.self.now.entries c.args.word c.args.value =
    ap₂ tabled words values ∙ seen_insert c.self.inside.words.items c.as_slice.result.now c.self.inside.values.items c.args.self.now.entries c.as_slice.ensures.value es c.self.invariant.0 c.self.invariant.1 c.args.word c.in-Err.field-0 c.args.value place.0 place.1 in
    let rises : IsRising (tabled c.put_in.new.items.items c.put_in-in-Err-2.new.items.items) =
    subst IsRising (sym is) (put_rises c.args.self.now.entries c.args.word c.args.value (subst IsRising es c.self.invariant.0)) in
    let within : c.in-Err.field-0 ≤ length c.self.inside.words.items = subst (λ (l : List ℕ). c.in-Err.field-0 ≤ length l) c.as_slice.ensures.value place.0 in
    let long : length c.put_in.new.items.items ≡ length c.self.inside.words.items + 1 = ap length words ∙ length-insert c.self.inside.words.items c.in-Err.field-0 c.args.word within in
    let as_long : length c.put_in-in-Err-2.new.items.items ≡ length c.self.inside.values.items + 1 = ap length values ∙ length-insert c.self.inside.values.items c.in-Err.field-0 c.args.value (omega (arith, within, c.self.invariant.1)) in
    (rises, omega (arith, long, as_long, c.self.invariant.1), omega (arith, long, c.if-len-self.false), omega (arith, c.put_in.ensures.capacity, c.self.invariant.3), omega (arith, c.put_in-in-Err-2.ensures.capacity, c.self.invariant.4))

pub returns-in-Err-2-clause-marked : goal.returns-in-Err-2-clause-marked
returns-in-Err-2-clause-marked c =
    let es = ap (λ (v : MapView). v.entries) c.self.view_is in
    let place = c.in-Err.ensures.missing in
    let words : c.put_in.new.items.items ≡ insert c.self.inside.words.items c.in-Err.field-0 c.args.word = (let is = c.put_in.ensures.items in search rules) in
    let values : c.put_in-in-Err-2.new.items.items ≡ insert c.self.inside.values.items c.in-Err.field-0 c.args.value = (let is = c.put_in-in-Err-2.ensures.items in search rules) in
    let is : tabled c.put_in.new.items.items c.put_in-in-Err-2.new.items.items ≡ put c.args.self.now.entries c.args.word c.args.value =
    ap₂ tabled words values ∙ seen_insert c.self.inside.words.items c.as_slice.result.now c.self.inside.values.items c.args.self.now.entries c.as_slice.ensures.value es c.self.invariant.0 c.self.invariant.1 c.args.word c.in-Err.field-0 c.args.value place.0 place.1 in
    search rules

pub returns-in-Err-2-clause-full : goal.returns-in-Err-2-clause-full
returns-in-Err-2-clause-full c =
    let es = ap (λ (v : MapView). v.entries) c.self.view_is in
    let capacity = ap (λ (v : MapView). v.capacity) c.self.view_is in
    let long = length_seen c.self.inside.words.items c.as_slice.result.now c.self.inside.values.items c.args.self.now.entries c.as_slice.ensures.value es c.self.invariant.0 c.self.invariant.1 in
    (λ h. absurd (false≢true h), λ h. absurd (omega (arith, capacity, long, c.if-len-self.false, h.1)))
