use Rattle.std.proofs.Common.{◌≡◌, ℤ, List, length, refl, ap, sym, subst, ◌∙◌, arith}
use Rattle.std.specs.Prelude.{◌↔◌, IsTrue}
use Rattle.hx_code.specs.Code.{store_words}
use Rattle.hx_code.specs.Region.{Opened, opening}
use Rattle.hx_word.specs.Opening.{opened_of}
use Rattle.hx_speculation.specs.Watch.{IsIndependent as IsIndependentLoop}
use Rattle.hx_regions.specs.Region.{store_of, region_in}
use Rattle.hx_advise.specs.declared.region.Course.{Course}
use Rattle.hx_advise.specs.Course.{Keeps}
use Rattle.hx_advise.proofs.Courses.{keeps_first, verdict_is}
use Rattle.hx_advise.proofs.region.watch_region.Goals as goal

pub follow-words-requires-clause-keeps : goal.follow-words-requires-clause-keeps
follow-words-requires-clause-keeps c =
    let code = c.args.code.now in
    let o = opened_of c.opened_by-opened.result in
    let k : Course = record { local = opening code o 0; store = c.in_ok-from_slice.field-0; text = c.in_ok-with_capacity.field-0; watch = c.in_ok-new-2.field-0 } in
    let store : k.store.items ≡ c.args.entry.now.store.items = c.in_ok-from_slice.ensures.items ∙ c.deref.ensures.value in
    let long : length k.store.items ≡ store_words code = ap length store ∙ c.requires.store in
    let count : c.len.result ≡ store_words code = omega (arith, c.len.ensures, c.requires.store) in
    let writers : length k.watch.writers ≡ store_words code = c.in_ok-new-2.ensures.words ∙ count in
    subst (λ (x : Course). Keeps code o x.store.items 0 x) (sym c.begin.ensures)
    (keeps_first code o k.store.items c.known.ensures c.opened_by-opened.ensures.fits k refl refl c.in_ok-with_capacity.ensures.items c.in_ok-new-2.ensures.turn c.in_ok-new-2.ensures.tells long writers (omega (arith, c.in_ok-with_capacity.ensures.exact)))

pub returns-clause-verdict : goal.returns-clause-verdict
returns-clause-verdict c = λ h.
    let code = c.args.code.now in
    let o = opened_of c.opened_by-opened.result in
    let s = c.begin.new.course.store.items in
    let w = c.follow-words.new.course.watch in
    let f = c.follow-words.ensures.followed in
    let store : s ≡ c.args.entry.now.store.items = ap (λ (x : Course). x.store.items) c.begin.ensures ∙ c.in_ok-from_slice.ensures.items ∙ c.deref.ensures.value in
    subst (λ (k : Opened). IsTrue w.is_independent ↔ IsIndependentLoop (region_in code k) (store_of c.args.entry.now.store.items)) c.opened_by-opened.ensures.opened
    (subst (λ (xs : List ℤ). IsTrue w.is_independent ↔ IsIndependentLoop (region_in code o) (store_of xs)) store (verdict_is code o s c.follow-words.result.0 w f.tells (f.over.0 h)))
