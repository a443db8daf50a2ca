use Rattle.std.proofs.Common.{arith, ◌≡◌, ◌+◌, ◌-◌, ◌<◌, ◌≤◌, ℕ, ℤ, List, [], ◌∷◌, Some, None, length, ap, sym, subst, ◌∙◌, refl}
use Rattle.std.specs.Vec.{with_items, vec_len}
use Rattle.std.proofs.lemmas.List.{with_items_is}
use Rattle.std.proofs.lemmas.Option.{slice_get_within}
use Rattle.hx_tree.specs.declared.limits.TheConstants.{TEXT_LIMIT}
use Rattle.hx_code.specs.Code.{CodeView, RegionView, region_of, store_words}
use Rattle.hx_code.specs.Call.{CallView}
use Rattle.hx_code.specs.Local.{LocalView}
use Rattle.hx_code.specs.Region.{Opened, RegionState, region_opening, into_cells}
use Rattle.hx_code.specs.Machine.{Machine, innermost_words, opened_by, opens}
use Rattle.hx_exec.specs.Carry.{AreCarried}
use Rattle.hx_word.specs.Running.{running, IsOpened, RunsWell}
use Rattle.hx_word.specs.Plain.{machine_of, one_store, GoesOn, WaitsFor, StandsWell, RunsInside}
use Rattle.hx_code.proofs.Regions.{the_region, length-into}
use Rattle.hx_exec.proofs.Carrying.{are_carried}
use Rattle.hx_word.proofs.Regions.{opening_fits}
use Rattle.hx_word.proofs.Through.{same_cells, waits_long}
use Rattle.hx_word.proofs.state.State.open.Goals as goal

some_calls : (code : CodeView) (r : ℕ) (cs : List CallView) → WaitsFor code r cs → (0 < length cs) × (r < length code.regions)
some_calls code r [] h = absurd h
some_calls code r (c ∷ rest) h = (omega arith, slice_get_within code.regions r h.0.region h.0.at)

pub region_at-requires : goal.region_at-requires
region_at-requires c = (some_calls _ _ _ c.requires.waits.calls).1

pub privates_into-requires : goal.privates_into-requires
privates_into-requires c = (some_calls _ _ _ c.requires.waits.calls).0

pub store_cells-requires-clause-words : goal.store_cells-requires-clause-words
store_cells-requires-clause-words c =
    subst AreCarried (sym (c.deref.ensures.value ∙ ap (λ (g : RegionView). g.carried) c.behind-code.view_is)) (are_carried c.args.code.now c.known.ensures c.args.region c.region_at.result.now c.region_at.ensures)

same_opened : (r b n p : ℕ) (w : List ℤ) (l : LocalView) (text : List ℕ) → b ≡ l.below → n ≡ length l.calls → w ≡ innermost_words l.calls → p ≡ length text → ◌≡◌ {A = Opened} (record { region = r; below = b + n - 1; words = w; printed = p }) (opened_by r l text)
same_opened r b n p w l text eb en ew ep = cc

pub open-requires : goal.open-requires
open-requires c =
    let some = some_calls _ _ _ c.requires.waits.calls in
    record {
      region = some.1;
      below = omega (arith, some.0, c.below.ensures, c.calls.ensures.calls, c.requires.waits.deep);
      words = ap length c.privates_into.ensures ∙ waits_long _ _ _ c.requires.waits.calls;
      printed = omega (arith, c.len-opened.ensures, c.requires.text);
    }

opened_as : (c : goal.After-self-2-1) → record (machine_of c.args.self.now) { store = (with_items c.args.self.now.store c.store_cells.new.store).items; within = Some (running c.open.new.self (with_items c.args.self.now.store c.store_cells.new.store).items None) } ≡ one_store (opens c.args.code.now c.args.region c.args.self.now.calls (machine_of c.args.self.now))
opened_as c =
    let code = c.args.code.now in
    let m = machine_of c.args.self.now in
    let o = opened_by c.args.region c.args.self.now.calls c.args.self.now.text.items in
    let new = c.store_cells.new.store in
    let made : List ℤ → RegionState → Machine = λ st z. record m { store = st; within = Some z } in
    let carried = c.deref.ensures.value ∙ ap (λ (g : RegionView). g.carried) (c.behind-code.view_is ∙ sym (the_region code c.args.region c.region_at.result.now c.region_at.ensures)) in
    let store : new ≡ into_cells code.globals (region_of code c.args.region).carried o.words m.store =
    c.store_cells.ensures ∙ same_cells _ _ _ _ _ _ _ _ c.globals-globals.ensures carried c.privates_into.ensures c.deref_mut.ensures.value in
    let same = same_opened c.args.region c.below.result c.calls.result c.len-opened.result c.privates_into.new.words c.args.self.now.calls c.args.self.now.text.items c.below.ensures c.calls.ensures.calls c.privates_into.ensures (omega (arith, c.len-opened.ensures)) in
    let len : length m.store ≡ vec_len c.args.self.now.store = omega (arith, c.deref_mut.ensures.len, ap length c.deref_mut.ensures.value) in
    let long : length new ≡ vec_len c.args.self.now.store = ap length store ∙ length-into code.globals (region_of code c.args.region).carried o.words m.store ∙ len in
    ap (λ st. made st (running c.open.new.self st None)) (with_items_is c.args.self.now.store new long) ∙ ap (made new) (c.open.ensures.same new) ∙ ap (λ o'. made new (region_opening code o' new)) same ∙ ap (λ st. made st (region_opening code o st)) store

pub returns-clause-opened : goal.returns-clause-opened
returns-clause-opened c = opened_as c

pub returns-clause-well : goal.returns-clause-well
returns-clause-well c =
    let code = c.args.code.now in
    let m = machine_of c.args.self.now in
    let o = opened_by c.args.region c.args.self.now.calls c.args.self.now.text.items in
    let carried = (region_of code c.args.region).carried in
    let store = into_cells code.globals carried o.words m.store in
    let long : length store ≡ store_words code = length-into code.globals carried o.words m.store ∙ omega (arith, c.deref_mut.ensures.len, ap length c.deref_mut.ensures.value, c.requires.store) in
    let some = some_calls _ _ _ c.requires.waits.calls in
    let short : length m.text ≤ TEXT_LIMIT = omega (arith, c.len-opened.ensures, c.requires.text) in
    let is : IsOpened code o = record { region = some.1; below = omega (arith, some.0, c.requires.waits.deep); words = waits_long _ _ _ c.requires.waits.calls; printed = short } in
    let runs : RunsWell code (region_opening code o store) = record { opened = is; local = opening_fits code c.known.ensures o is 0; region = refl; store = long; text = omega (arith, short) } in
    let inside : RunsInside code (region_opening code o store) m.local m.text = record { runs = runs; goes = refl; waits = c.requires.waits; printed = refl } in
    let made = one_store (opens code c.args.region m.local m) in
    subst (StandsWell code) (sym (opened_as c)) (record { store = long; text = short; goes = subst (λ e. GoesOn code e (Some (region_opening code o store)) made) (sym c.requires.goes) inside })
