use Rattle.std.proofs.Common.{rules, to_z, of_z, w32, ◌≡◌, ap, sym, subst, ◌∙◌, true}
use Rattle.std.specs.Result.{is_ok}
use Rattle.hx_marks.specs.Table.{MapView, put}
use Rattle.hx_code.specs.Fits.{goes_on}
use Rattle.hx_frame.specs.Frame.{Keeps}
use Rattle.hx_frame.proofs.Kept.{on_ok, stored_keeps}
use Rattle.hx_frame.proofs.frame.Frame.stored.Goals as goal

-- src/frame.rt:142:17
pub invariant_of-self : goal.invariant_of-self
invariant_of-self c =
    let f = c.self.inside in
    let i = c.self.invariant in
    let keeps = subst (Keeps f.code.now f.tag f.start f.here f.marks.entries f.writes.entries) c.in-ForStore.is i.0 in
    let same : to_z w32 (of_z w32 c.in-ForStore.value) ≡ c.in-ForStore.value = search rules in
    let there : c.go_on.new.self ≡ goes_on c.in-ForStore.next f.here = c.go_on.ensures in
    let told : is_ok c.put.result ≡ true = sym c.is_ok.ensures.value ∙ c.if-is_ok.true in
    let written = on_ok _ _ c.put.ensures.written told in
    let table : c.put.new.self.entries ≡ put f.writes.entries c.in-ForStore.word c.in-ForStore.value = ap (λ (m : MapView). m.entries) written ∙ ap (put f.writes.entries c.in-ForStore.word) same in
    (stored_keeps _ _ _ _ _ _ c.in-ForStore.word c.in-ForStore.value c.in-ForStore.next keeps _ _ there table, i.1, ap (λ (m : MapView). m.capacity) written ∙ i.2)
