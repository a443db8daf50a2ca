use Rattle.std.proofs.Common.{rules, to_z, of_z, w32, ◌≡◌, ap, sym, subst, ◌∙◌, true}
use Rattle.std.specs.Result.{is_ok}
use Rattle.hx_marks.specs.Table.{MapView, put}
use Rattle.hx_code.specs.Local.{loaded as on_top}
use Rattle.hx_code.specs.Fits.{goes_on}
use Rattle.hx_frame.specs.Frame.{Keeps}
use Rattle.hx_frame.proofs.Kept.{on_ok, loaded_keeps}
use Rattle.hx_frame.proofs.frame.Frame.loaded.Goals as goal

-- src/frame.rt:127:17
pub invariant_of-self : goal.invariant_of-self
invariant_of-self c =
    let f = c.self.inside in
    let i = c.self.invariant in
    let keeps = subst (Keeps f.code.now f.tag f.start f.here f.marks.entries f.writes.entries) c.in-ForLoad.is i.0 in
    let same : to_z w32 (of_z w32 c.args.value) ≡ c.args.value = search rules in
    let there : c.load.new.self ≡ on_top c.args.value (goes_on c.in-ForLoad.next f.here) = c.load.ensures ∙ ap (λ v. on_top v (goes_on c.in-ForLoad.next f.here)) same in
    let told : is_ok c.mark.result ≡ true = sym c.is_ok.ensures.value ∙ c.if-is_ok.true in
    let marked = on_ok _ _ c.mark.ensures.marked told in
    let table : c.mark.new.self.entries ≡ put f.marks.entries c.in-ForLoad.word c.args.value = ap (λ (m : MapView). m.entries) marked ∙ ap (put f.marks.entries c.in-ForLoad.word) same in
    (loaded_keeps _ _ _ _ _ _ c.in-ForLoad.word c.args.value c.in-ForLoad.next keeps _ _ there table, ap (λ (m : MapView). m.capacity) marked ∙ i.1, i.2)
