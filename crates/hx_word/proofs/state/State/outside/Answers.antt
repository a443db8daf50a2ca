use Rattle.std.proofs.Common.{arith, rules, ◌≡◌, ap, sym, ◌∙◌, to_z, of_z, w32, refl, Some, None, zero-add}
use Rattle.std.specs.Vec.{with_items}
use Rattle.std.proofs.lemmas.List.{with_items_is}
use Rattle.hx_tree.specs.declared.outcome.End.TheVariants.{Normal, Fault}
use Rattle.hx_code.specs.declared.word.Ask.TheVariants.{Prints, Faults, Enters, Returns}
use Rattle.hx_code.specs.Call.{bytes_of}
use Rattle.hx_code.specs.Fits.{goes_on}
use Rattle.hx_code.specs.Machine.{opens, prints}
use Rattle.hx_word.specs.Plain.{one_store}
use Rattle.hx_word.specs.Running.{running}
use Rattle.hx_word.proofs.Asking.{asked_as, went_as}
use Rattle.hx_word.proofs.Inside.{one_store_none}
use Rattle.hx_word.proofs.MachineSteps.{at_calls, at_store, went_on, asked_on, went_quiet, asked_quiet, asked_opens, out_of, out_is, still_out, prints_within}
use Rattle.hx_word.proofs.state.State.outside.Goals as goal

pub returns-in-Goes-clause-ran : goal.returns-in-Goes-clause-ran
returns-in-Goes-clause-ran c =
    let s = c.args.self.now in
    let x = out_of s in
    let there = out_is s c.requires.outside in
    let after = sym (with_items_is s.store c.stretch_over-done.new.store (omega (arith, c.stretch_over-done.auto.store, c.deref_mut.ensures.len))) in
    let store = (with_items s.store c.stretch_over-done.new.store).items in
    let g = went_as _ _ _ _ _ _ _ _ (c.stretch_over-done.ensures.went c.in-Goes.is) c.deref_mut.ensures.value after in
    ap one_store (rw zero-add at (went_on c.args.code.now 0 c.stretch_over-done.result.words _ x c.stretch_over-done.new.self store there c.requires.goes refl g)) ∙ still_out s.is_inside (at_store x c.stretch_over-done.new.self store) (running s.iterations store None) c.requires.outside

pub returns-in-Goes-clause-told : goal.returns-in-Goes-clause-told
returns-in-Goes-clause-told c =
    let s = c.args.self.now in
    let x = out_of s in
    let there = out_is s c.requires.outside in
    let after = sym (with_items_is s.store c.stretch_over-done.new.store (omega (arith, c.stretch_over-done.auto.store, c.deref_mut.ensures.len))) in
    let store = (with_items s.store c.stretch_over-done.new.store).items in
    let g = went_as _ _ _ _ _ _ _ _ (c.stretch_over-done.ensures.went c.in-Goes.is) c.deref_mut.ensures.value after in
    rw zero-add at (went_quiet c.args.code.now 0 c.stretch_over-done.result.words _ x c.stretch_over-done.new.self store refl there c.requires.goes refl g)

pub returns-in-Prints-clause-ran : goal.returns-in-Prints-clause-ran
returns-in-Prints-clause-ran c =
    let s = c.args.self.now in
    let x = out_of s in
    let there = out_is s c.requires.outside in
    let after = sym (with_items_is s.store c.stretch_over-done.new.store (omega (arith, c.stretch_over-done.auto.store, c.deref_mut.ensures.len))) in
    let store = (with_items s.store c.stretch_over-done.new.store).items in
    let t = asked_as _ _ _ _ _ _ _ _ _ (Prints c.in-Prints.output c.in-Prints.at) _ c.stretch_over-done.ensures.asks c.deref_mut.ensures.value after c.in-Prints.is (λ e. cc) in
    let bytes = bytes_of c.in-Prints.output in
    let l = c.go_on.new.self in
    let printed = c.prints.ensures.printed ∙ ap (prints bytes c.in-Prints.at l) (out_is (record s { calls = l; store = with_items s.store c.stretch_over-done.new.store }) c.requires.outside) in
    let here = goes_on c.stretch_over-done.result.next c.stretch_over-done.new.self in
    let y = at_store x c.stretch_over-done.new.self store in
    ap one_store (rw zero-add at (asked_on c.args.code.now 0 c.stretch_over-done.result.words _ x c.stretch_over-done.new.self store (Prints c.in-Prints.output c.in-Prints.at) c.stretch_over-done.result.next there c.requires.goes refl t)) ∙ one_store_none (prints bytes c.in-Prints.at here y) (prints_within bytes c.in-Prints.at here y) ∙ ap (λ k. prints bytes c.in-Prints.at k y) (sym c.go_on.ensures) ∙ sym printed

pub returns-in-Prints-clause-told : goal.returns-in-Prints-clause-told
returns-in-Prints-clause-told c =
    let s = c.args.self.now in
    let x = out_of s in
    let there = out_is s c.requires.outside in
    let after = sym (with_items_is s.store c.stretch_over-done.new.store (omega (arith, c.stretch_over-done.auto.store, c.deref_mut.ensures.len))) in
    let store = (with_items s.store c.stretch_over-done.new.store).items in
    let t = asked_as _ _ _ _ _ _ _ _ _ (Prints c.in-Prints.output c.in-Prints.at) _ c.stretch_over-done.ensures.asks c.deref_mut.ensures.value after c.in-Prints.is (λ e. cc) in
    rw zero-add at (asked_quiet c.args.code.now 0 c.stretch_over-done.result.words _ x c.stretch_over-done.new.self store (Prints c.in-Prints.output c.in-Prints.at) c.stretch_over-done.result.next refl there c.requires.goes refl t (prints_within (bytes_of c.in-Prints.output) c.in-Prints.at (goes_on c.stretch_over-done.result.next c.stretch_over-done.new.self) (at_store x c.stretch_over-done.new.self store)))

pub returns-in-Enters-clause-ran : goal.returns-in-Enters-clause-ran
returns-in-Enters-clause-ran c =
    let s = c.args.self.now in
    let x = out_of s in
    let there = out_is s c.requires.outside in
    let after = sym (with_items_is s.store c.stretch_over-done.new.store (omega (arith, c.stretch_over-done.auto.store, c.deref_mut.ensures.len))) in
    let store = (with_items s.store c.stretch_over-done.new.store).items in
    let t = asked_as _ _ _ _ _ _ _ _ _ (Enters c.in-Enters.region c.in-Enters.field-1) _ c.stretch_over-done.ensures.asks c.deref_mut.ensures.value after c.in-Enters.is (λ e. cc) in
    ap one_store (rw zero-add at (asked_on c.args.code.now 0 c.stretch_over-done.result.words _ x c.stretch_over-done.new.self store (Enters c.in-Enters.region c.in-Enters.field-1) c.stretch_over-done.result.next there c.requires.goes refl t)) ∙ ap (λ l. one_store (opens c.args.code.now c.in-Enters.region l (record x { store = store }))) (sym c.go_on-in-Enters.ensures) ∙ sym c.open.ensures.opened

pub returns-in-Enters-clause-told : goal.returns-in-Enters-clause-told
returns-in-Enters-clause-told c =
    let s = c.args.self.now in
    let x = out_of s in
    let there = out_is s c.requires.outside in
    let after = sym (with_items_is s.store c.stretch_over-done.new.store (omega (arith, c.stretch_over-done.auto.store, c.deref_mut.ensures.len))) in
    let store = (with_items s.store c.stretch_over-done.new.store).items in
    let t = asked_as _ _ _ _ _ _ _ _ _ (Enters c.in-Enters.region c.in-Enters.field-1) _ c.stretch_over-done.ensures.asks c.deref_mut.ensures.value after c.in-Enters.is (λ e. cc) in
    rw zero-add at (asked_opens c.args.code.now 0 c.stretch_over-done.result.words _ x c.stretch_over-done.new.self store (Enters c.in-Enters.region c.in-Enters.field-1) c.stretch_over-done.result.next _ refl there c.requires.goes refl t refl)

pub returns-in-Returns-clause-ran : goal.returns-in-Returns-clause-ran
returns-in-Returns-clause-ran c =
    let s = c.args.self.now in
    let x = out_of s in
    let there = out_is s c.requires.outside in
    let after = sym (with_items_is s.store c.stretch_over-done.new.store (omega (arith, c.stretch_over-done.auto.store, c.deref_mut.ensures.len))) in
    let store = (with_items s.store c.stretch_over-done.new.store).items in
    let t = asked_as _ _ _ _ _ _ _ _ _ (Returns c.in-Returns.v) _ c.stretch_over-done.ensures.asks c.deref_mut.ensures.value after c.in-Returns.is (λ e. cc) in
    let y = record x { store = store } in
    let w = running s.iterations store None in
    let z = record y { local = c.go_on-in-Returns.new.self } in
    let same : to_z w32 (of_z w32 c.in-Returns.v) ≡ c.in-Returns.v = search rules in
    ap one_store (rw zero-add at (asked_on c.args.code.now 0 c.stretch_over-done.result.words _ x c.stretch_over-done.new.self store (Returns c.in-Returns.v) c.stretch_over-done.result.next there c.requires.goes refl t)) ∙ sym (ap (at_calls (record y { end = Some (Normal c.in-Returns.v) })) c.go_on-in-Returns.ensures) ∙ ap (λ v. record z { end = Some (Normal v) }) (sym same) ∙ still_out s.is_inside (record z { end = Some (Normal (to_z w32 (of_z w32 c.in-Returns.v))) }) w c.requires.outside

pub returns-in-Returns-clause-told : goal.returns-in-Returns-clause-told
returns-in-Returns-clause-told c =
    let s = c.args.self.now in
    let x = out_of s in
    let there = out_is s c.requires.outside in
    let after = sym (with_items_is s.store c.stretch_over-done.new.store (omega (arith, c.stretch_over-done.auto.store, c.deref_mut.ensures.len))) in
    let store = (with_items s.store c.stretch_over-done.new.store).items in
    let t = asked_as _ _ _ _ _ _ _ _ _ (Returns c.in-Returns.v) _ c.stretch_over-done.ensures.asks c.deref_mut.ensures.value after c.in-Returns.is (λ e. cc) in
    rw zero-add at (asked_quiet c.args.code.now 0 c.stretch_over-done.result.words _ x c.stretch_over-done.new.self store (Returns c.in-Returns.v) c.stretch_over-done.result.next refl there c.requires.goes refl t refl)

pub returns-in-Faults-clause-ran : goal.returns-in-Faults-clause-ran
returns-in-Faults-clause-ran c =
    let s = c.args.self.now in
    let x = out_of s in
    let there = out_is s c.requires.outside in
    let after = sym (with_items_is s.store c.stretch_over-done.new.store (omega (arith, c.stretch_over-done.auto.store, c.deref_mut.ensures.len))) in
    let store = (with_items s.store c.stretch_over-done.new.store).items in
    let t = asked_as _ _ _ _ _ _ _ _ _ (Faults c.in-Faults.fault) _ c.stretch_over-done.ensures.asks c.deref_mut.ensures.value after c.in-Faults.is (λ e. cc) in
    let w = running s.iterations store None in
    let z = record x { store = store; end = Some (Fault c.in-Faults.fault) } in
    ap one_store (rw zero-add at (asked_on c.args.code.now 0 c.stretch_over-done.result.words _ x c.stretch_over-done.new.self store (Faults c.in-Faults.fault) c.stretch_over-done.result.next there c.requires.goes refl t)) ∙ sym (ap (at_calls z) c.go_on-in-Faults.ensures) ∙ still_out s.is_inside (at_calls z c.go_on-in-Faults.new.self) w c.requires.outside

pub returns-in-Faults-clause-told : goal.returns-in-Faults-clause-told
returns-in-Faults-clause-told c =
    let s = c.args.self.now in
    let x = out_of s in
    let there = out_is s c.requires.outside in
    let after = sym (with_items_is s.store c.stretch_over-done.new.store (omega (arith, c.stretch_over-done.auto.store, c.deref_mut.ensures.len))) in
    let store = (with_items s.store c.stretch_over-done.new.store).items in
    let t = asked_as _ _ _ _ _ _ _ _ _ (Faults c.in-Faults.fault) _ c.stretch_over-done.ensures.asks c.deref_mut.ensures.value after c.in-Faults.is (λ e. cc) in
    rw zero-add at (asked_quiet c.args.code.now 0 c.stretch_over-done.result.words _ x c.stretch_over-done.new.self store (Faults c.in-Faults.fault) c.stretch_over-done.result.next refl there c.requires.goes refl t refl)
