use Rattle.std.proofs.Common.{◌≡◌, Some, refl, sym, ◌∙◌}
use Rattle.std.specs.Prelude.{slice_get}
use Rattle.hx_table.specs.Loading.{HasSite}
use Rattle.hx_single.proofs.Words.{fits_site, room_in, low_place, went_alone, lacking, asks_alone}
use Rattle.hx_single.proofs.single.word_alone.Goals as goal

pub one-done-requires-clause-room : goal.one-done-requires-clause-room
one-done-requires-clause-room c =
    let at : slice_get c.args.code.now.words c.args.place ≡ Some c.word_in-word.result = rw (← c.words.ensures) c.word_in-word.ensures in
    let site : HasSite c.args.code.now c.args.place c.height_at.result = sym c.height_at.ensures.is in
    room_in c.args.code.now c.known.ensures c.args.place _ c.args.slots.now c.word_in-word.result (fits_site c.args.code.now c.args.place _ c.args.slots.now site c.requires) at

pub one-done-requires-clause-place : goal.one-done-requires-clause-place
one-done-requires-clause-place c = low_place c.args.code.now c.known.ensures _ c.requires

pub returns-in-Some : goal.returns-in-Some
returns-in-Some c =
    let at : slice_get c.args.code.now.words c.args.place ≡ Some c.word_in-word.result = rw (← c.words.ensures) c.word_in-word.ensures in
    let site : HasSite c.args.code.now c.args.place c.height_at.result = sym c.height_at.ensures.is in
    went_alone c.args.code.now c.known.ensures c.args.place _ c.args.slots.now c.args.store.now c.word_in-word.result _ _ _ _ _ _ site at c.one-done.ensures.asks c.in-Some.ensures.given

pub returns-in-None : goal.returns-in-None
returns-in-None c =
    let at : slice_get c.args.code.now.words c.args.place ≡ Some c.word_in-word.result = rw (← c.words.ensures) c.word_in-word.ensures in
    let site : HasSite c.args.code.now c.args.place c.height_at.result = sym c.height_at.ensures.is in
    let lacks = c.in-None.ensures.lacks refl in
    let other = lacking _ _ lacks in
    let same = c.one-done.ensures.same other in
    (asks_alone c.args.code.now c.args.place _ c.args.slots.now _ c.word_in-word.result _ _ site at c.one-done.ensures.asks same (c.one-done.ensures.fewer other), lacks, c.in-None.ensures.same_slots refl ∙ same, c.in-None.ensures.same_store refl)
