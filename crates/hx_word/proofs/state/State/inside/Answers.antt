use Rattle.std.proofs.Common.{arith, ◌≡◌, ◌≢◌, ℕ, ℤ, List, suc, length, ap, sym, subst, ◌∙◌, refl, Option, Some, None, true}
use Rattle.std.specs.Prelude.{if◌then◌else◌}
use Rattle.std.specs.Vec.{with_items, vec_len}
use Rattle.std.proofs.lemmas.List.{with_items_is}
use Rattle.hx_code.specs.declared.word.Exit.{Exit}
use Rattle.hx_word.specs.declared.state.State.{State}
use Rattle.hx_word.specs.declared.iterations.Iterations.{Iterations}
use Rattle.hx_code.specs.Code.{CodeView}
use Rattle.hx_code.specs.Region.{Opened, RegionState, region_after, result_of}
use Rattle.hx_code.specs.Machine.{Machine, machine_after, resumed}
use Rattle.hx_word.specs.Opening.{opened_of}
use Rattle.hx_word.specs.Running.{running, RunsWell, IsOpened, BeforeLast}
use Rattle.hx_word.specs.Plain.{machine_of, one_store, Quiet, MayResume}
use Rattle.hx_word.proofs.MachineSteps.{out_of}
use Rattle.hx_word.proofs.Inside.{in_region, in_is, runs_in, stands_in, inside_after, inside_ends, quiet_inside, quiet_next, resumed_none, one_store_none}
use Rattle.hx_word.proofs.state.State.inside.Goals as goal

pub run-done-requires-clause-well : goal.run-done-requires-clause-well
run-done-requires-clause-well c =
    subst (λ st. RunsWell c.args.code.now (running c.args.self.now.iterations st None)) (sym c.deref_mut.ensures.value) (runs_in c.args.code.now c.args.self.now c.requires.inside c.requires.goes c.requires.well).runs

pub returns-in-None-clause-quiet : goal.returns-in-None-clause-quiet
returns-in-None-clause-quiet c =
    let code = c.args.code.now in
    let s = c.args.self.now in
    let ran = subst (λ st. region_after code c.run-done.result.words (running s.iterations st None) ≡ running c.run-done.new.self c.run-done.new.store c.run-done.result.exit) c.deref_mut.ensures.value c.run-done.ensures.ran in
    let none = ap (λ (z : RegionState). z.exit) ran ∙ c.in-None.is in
    subst (Quiet code c.run-done.result.words) (sym (in_is s c.requires.inside)) (quiet_inside code c.run-done.result.words (out_of s) (running s.iterations s.store.items None) c.requires.goes none)

pub returns-in-None-clause-ran : goal.returns-in-None-clause-ran
returns-in-None-clause-ran c =
    let code = c.args.code.now in
    let s = c.args.self.now in
    let m = out_of s in
    let z = running s.iterations s.store.items None in
    let n = c.run-done.result.words in
    let i = c.run-done.new.self in
    let st = c.run-done.new.store in
    let items = (with_items s.store st).items in
    let ran = subst (λ x. region_after code n (running s.iterations x None) ≡ running i st c.run-done.result.exit) c.deref_mut.ensures.value c.run-done.ensures.ran in
    let ran' : region_after code n z ≡ running i st None = ran ∙ ap (running i st) c.in-None.is in
    let none = ap (λ (y : RegionState). y.exit) ran' in
    let long : length st ≡ vec_len s.store = omega (arith, c.run-done.ensures.long, c.deref_mut.ensures.len) in
    let made : List ℤ → Machine = λ x. record m { store = x; within = Some (running i x None) } in
    ap (λ x. one_store (machine_after code n x)) (in_is s c.requires.inside)
    ∙ ap one_store (inside_after code n m z c.requires.goes none)
    ∙ ap (λ y. one_store (in_region m y)) ran'
    ∙ sym (ap made (with_items_is s.store st long))
    ∙ sym (ap (λ b. record (made items) { within = if b then Some (running i items None) else None }) c.requires.inside)

pub returns-in-None-clause-well : goal.returns-in-None-clause-well
returns-in-None-clause-well c =
    let code = c.args.code.now in
    let s = c.args.self.now in
    let i = c.run-done.new.self in
    let st = c.run-done.new.store in
    let was = runs_in code s c.requires.inside c.requires.goes c.requires.well in
    let same : opened_of i.opened ≡ opened_of s.iterations.opened = ap opened_of c.run-done.ensures.opened in
    let long : length st ≡ vec_len s.store = omega (arith, c.run-done.ensures.long, c.deref_mut.ensures.len) in
    let items = sym (with_items_is s.store st long) in
    let runs = subst (λ x. RunsWell code (running i x None)) items (c.run-done.ensures.well c.in-None.is) in
    let waits = subst (λ (o : Opened). MayResume code o.region s.calls) (sym same) was.waits in
    let printed = ap (λ (o : Opened). o.printed) same ∙ was.printed in
    stands_in code (record s { store = with_items s.store st; iterations = i }) c.requires.inside c.requires.goes (record { runs = runs; goes = refl; waits = waits; printed = printed }) runs.store c.requires.well.text

pub close-requires-clause-opened : goal.close-requires-clause-opened
close-requires-clause-opened c =
    let was = runs_in c.args.code.now c.args.self.now c.requires.inside c.requires.goes c.requires.well in
    subst (IsOpened c.args.code.now) (sym (ap opened_of c.run-done.ensures.opened)) was.runs.opened

pub close-requires-clause-waits : goal.close-requires-clause-waits
close-requires-clause-waits c =
    let was = runs_in c.args.code.now c.args.self.now c.requires.inside c.requires.goes c.requires.well in
    subst (λ (o : Opened). MayResume c.args.code.now o.region c.args.self.now.calls) (sym (ap opened_of c.run-done.ensures.opened)) was.waits

pub close-requires-clause-store : goal.close-requires-clause-store
close-requires-clause-store c =
    let s = c.args.self.now in
    let long : length c.run-done.new.store ≡ vec_len s.store = omega (arith, c.run-done.ensures.long, c.deref_mut.ensures.len) in
    ap length (with_items_is s.store c.run-done.new.store long) ∙ c.run-done.ensures.long ∙ ap length c.deref_mut.ensures.value ∙ c.requires.well.store

pub close-requires-clause-text : goal.close-requires-clause-text
close-requires-clause-text c =
    let was = runs_in c.args.code.now c.args.self.now c.requires.inside c.requires.goes c.requires.well in
    let printed = ap (λ (o : Opened). o.printed) (ap opened_of c.run-done.ensures.opened) ∙ was.printed in
    omega (arith, printed, c.run-done.ensures.text)

is_some : (o : Option Exit) (e : Exit) → o ≡ Some e → o ≢ None
is_some o e is = λ none. let no : Some e ≡ None = sym is ∙ none in absurd cc

-- the region went on before the last word, and ended with it
pub ended : (code : CodeView) (s : State) (i : Iterations) (st st0 : List ℤ) (n : ℕ) (o : Option Exit) (e : Exit) → o ≡ Some e → st0 ≡ s.store.items → region_after code n (running s.iterations st0 None) ≡ running i st o → (o ≢ None → BeforeLast code n (running s.iterations st0 None)) → s.is_inside ≡ true → s.end ≡ None → (machine_after code n (machine_of s) ≡ resumed code i.opened.region (result_of code e (running i st (Some e))) (out_of s)) × Quiet code n (machine_of s)
ended code s i st st0 n o e is same ran before inside going =
    let m = out_of s in
    let z = running s.iterations s.store.items None in
    let b = subst (λ x. BeforeLast code n (running s.iterations x None)) same (before (is_some o e is)) in
    let k = b.0 in
    let ran' : region_after code (suc k) z ≡ running i st (Some e) =
    subst (λ j. region_after code j z ≡ running i st (Some e)) b.1 (subst (λ x. region_after code n (running s.iterations x None) ≡ running i st o) same ran ∙ ap (running i st) is) in
    let over = ap (λ (y : RegionState). y.exit) ran' in (
      ap (machine_after code n) (in_is s inside) ∙ ap (λ j. machine_after code j (in_region m z)) b.1 ∙ inside_ends code k m z e going b.2 over ∙ ap (λ (y : RegionState). resumed code y.opened.region (result_of code e y) m) ran',
      subst (Quiet code n) (sym (in_is s inside)) (subst (λ j. Quiet code j (in_region m z)) (sym b.1) (quiet_next code k m z going b.2)),
    )

pub returns-in-Some-clause-ran : goal.returns-in-Some-clause-ran
returns-in-Some-clause-ran c =
    let code = c.args.code.now in
    let s = c.args.self.now in
    let i = c.run-done.new.self in
    let st = c.run-done.new.store in
    let e = c.in-Some.exit in
    let ends = (ended code s i st c.deref_mut.result.now c.run-done.result.words c.run-done.result.exit e c.in-Some.is c.deref_mut.ensures.value c.run-done.ensures.ran c.run-done.ensures.before c.requires.inside c.requires.goes).0 in
    let long : length st ≡ vec_len s.store = omega (arith, c.run-done.ensures.long, c.deref_mut.ensures.len) in
    let behind : List ℤ → Machine = λ x. resumed code i.opened.region (result_of code e (running i x (Some e))) (out_of s) in
    ap one_store ends ∙ one_store_none (behind st) (resumed_none code i.opened.region (result_of code e (running i st (Some e))) (out_of s)) ∙ sym (ap behind (with_items_is s.store st long)) ∙ sym c.close.ensures.resumed

pub returns-in-Some-clause-quiet : goal.returns-in-Some-clause-quiet
returns-in-Some-clause-quiet c =
    (ended c.args.code.now c.args.self.now c.run-done.new.self c.run-done.new.store c.deref_mut.result.now c.run-done.result.words c.run-done.result.exit c.in-Some.exit c.in-Some.is c.deref_mut.ensures.value c.run-done.ensures.ran c.run-done.ensures.before c.requires.inside c.requires.goes).1
