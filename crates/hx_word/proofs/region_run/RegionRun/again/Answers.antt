use Rattle.std.proofs.Common.{arith, ◌≡◌, ◌+◌, ◌≤◌, ℕ, length, refl, ap, sym, subst, ◌∙◌}
use Rattle.hx_tree.specs.declared.limits.TheConstants.{TEXT_LIMIT}
use Rattle.hx_code.specs.Code.{CodeView, store_words}
use Rattle.hx_code.specs.Region.{RegionState, region_opening}
use Rattle.hx_word.specs.Opening.{opened_of}
use Rattle.hx_word.specs.Running.{RunView, IsOpened, RunsWell}
use Rattle.hx_word.specs.Entry.{EntryFits, opened_from}
use Rattle.hx_word.proofs.Regions.{opening_fits}
use Rattle.hx_word.proofs.Entries.{privates_few}
use Rattle.hx_word.proofs.region_run.RegionRun.again.Goals as goal

pub invariant_of-self : goal.invariant_of-self
invariant_of-self c =
    let code = c.self.inside.code.now in
    let o = opened_of c.opened_by-self-inside.result in
    let is : IsOpened code o = c.opened_by-self-inside.ensures.fits in
    let st = c.copy_from_slice.new.self.items in
    let fits : EntryFits code c.args.region c.args.entry.now = subst (λ (v : RunView). EntryFits v.code c.args.region c.args.entry.now) (sym c.self.view_is) c.requires in
    let long : length st ≡ store_words code = ap length c.copy_from_slice.ensures.items ∙ ap length c.deref.ensures.value ∙ fits.store in
    let runs : RunsWell code (region_opening code o st) = record { opened = is; local = opening_fits code c.known.ensures o is 0; region = refl; store = long; text = omega (arith, is.printed) } in
    let same = c.open.ensures.same st in
    let few = privates_few code c.known.ensures c.args.region in
    record {
      opened = subst (λ (z : RegionState). IsOpened code z.opened) (sym same) is;
      store = long;
      goes = λ _. subst (RunsWell code) (sym same) runs;
      text = subst (λ (z : RegionState). z.opened.printed + length z.text ≤ TEXT_LIMIT) (sym same) (omega (arith, is.printed));
      room = omega (arith, c.open.ensures.room, c.self.invariant.room);
      locals = omega (arith, few, ap length c.refill_words.ensures.items, ap length c.deref-2.ensures.value, fits.locals);
      own_room = omega (arith, c.self.invariant.own_room, c.refill_words.ensures.room);
    }

pub returns : goal.returns
returns c =
    let code = c.self.inside.code.now in
    let e = c.args.entry.now in
    let st = c.copy_from_slice.new.self.items in
    let view : CodeView → RegionState → ℕ → RunView = λ k z n. record { code = k; state = z; locals = n } in
    let items = c.copy_from_slice.ensures.items ∙ c.deref.ensures.value in
    let locals = ap length (c.refill_words.ensures.items ∙ c.deref-2.ensures.value) in
    let state = c.open.ensures.same st ∙ ap (λ o. region_opening code o st) c.opened_by-self-inside.ensures.opened ∙ ap (region_opening code (opened_from c.args.region e)) items in
    ap (λ z. view code z (length c.refill_words.new.kept.items)) state ∙ ap (view code (region_opening code (opened_from c.args.region e) e.store.items)) locals ∙ ap (λ (r : RunView). view r.code (region_opening r.code (opened_from c.args.region e) e.store.items) (length e.locals.items)) c.self.view_is
