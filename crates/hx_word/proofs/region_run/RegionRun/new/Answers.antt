use Rattle.std.proofs.Common.{arith, ◌≡◌, ◌+◌, ◌≤◌, ℕ, length, refl, ap, sym, subst, ◌∙◌}
use Rattle.hx_tree.specs.declared.limits.TheConstants.{TEXT_LIMIT}
use Rattle.hx_code.specs.Code.{store_words}
use Rattle.hx_code.specs.Region.{RegionState, region_opening}
use Rattle.hx_word.specs.Opening.{opened_of}
use Rattle.hx_word.specs.Running.{RunView, IsOpened, RunsWell}
use Rattle.hx_word.specs.Entry.{opened_from}
use Rattle.hx_word.proofs.Regions.{opening_fits}
use Rattle.hx_word.proofs.Entries.{privates_few}
use Rattle.hx_word.proofs.region_run.RegionRun.new.Goals as goal

pub refill_words-requires : goal.refill_words-requires
refill_words-requires c =
    let few = privates_few c.args.code.now c.known.ensures c.args.region in
    omega (arith, few, c.in_ok-locals.ensures.exact, ap length c.deref-2.ensures.value, c.requires.locals)

pub invariant_of-result : goal.invariant_of-result
invariant_of-result c =
    let code = c.args.code.now in
    let o = opened_of c.opened_by-iterations.result in
    let is = c.opened_by-iterations.ensures.fits in
    let st = c.in_ok-store.store.items in
    let long : length st ≡ store_words code = ap length c.in_ok-store.ensures.items ∙ ap length c.deref.ensures.value ∙ c.requires.store in
    let runs : RunsWell code (region_opening code o st) = record { opened = is; local = opening_fits code c.known.ensures o is 0; region = refl; store = long; text = omega (arith, is.printed) } in
    let same = c.open.ensures.same st in
    let few = privates_few code c.known.ensures c.args.region in
    record {
      opened = subst (λ (z : RegionState). IsOpened code z.opened) (sym same) is;
      store = long;
      goes = λ _. subst (RunsWell code) (sym same) runs;
      text = subst (λ (z : RegionState). z.opened.printed + length z.text ≤ TEXT_LIMIT) (sym same) (omega (arith, is.printed));
      room = omega (arith, c.open.ensures.room, c.in_ok-iterations.ensures);
      locals = omega (arith, few, ap length c.refill_words.ensures.items, ap length c.deref-2.ensures.value, c.requires.locals);
      own_room = omega (arith, c.in_ok-locals.ensures.exact, c.refill_words.ensures.room);
    }

pub returns : goal.returns
returns c =
    let code = c.args.code.now in
    let e = c.args.entry.now in
    let st = c.in_ok-store.store.items in
    let state = c.open.ensures.same st ∙ ap (λ o. region_opening code o st) c.opened_by-iterations.ensures.opened ∙ ap (region_opening code (opened_from c.args.region e)) (c.in_ok-store.ensures.items ∙ c.deref.ensures.value) in
    let locals = ap length (c.refill_words.ensures.items ∙ c.deref-2.ensures.value) in
    let view : RegionState → ℕ → RunView = λ z n. record { code = code; state = z; locals = n } in
    ap (λ z. view z (length c.refill_words.new.kept.items)) state ∙ ap (view (region_opening code (opened_from c.args.region e) e.store.items)) locals
