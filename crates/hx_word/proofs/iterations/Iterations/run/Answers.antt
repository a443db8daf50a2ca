use Rattle.std.proofs.Common.{arith, rules, ℕ, ℤ, List, ◌≡◌, ◌≤◌, ◌+◌, length, ap, sym, subst, ◌∙◌, to_z, of_z, w32, refl, true, false, ◌++◌, Some, None, length-append}
use Rattle.std.specs.Prelude.{nat_le}
use Rattle.hx_tree.specs.declared.limits.TheConstants.{TEXT_LIMIT}
use Rattle.hx_code.specs.declared.word.Ask.TheVariants.{Prints, Faults, Leaves, Returns}
use Rattle.std.proofs.lemmas.Bool.Decides.{nat_tests}
use Rattle.hx_tree.specs.declared.outcome.FaultKind.TheVariants.{TextFull}
use Rattle.hx_code.specs.declared.word.Exit.TheVariants.{Left, Faulted, Returned}
use Rattle.hx_code.specs.Region.{RegionState, region_after}
use Rattle.hx_code.specs.Local.{LocalView}
use Rattle.hx_code.specs.Fits.{FitsLocal, goes_on}
use Rattle.hx_exec.specs.Turning.{IsAt, later}
use Rattle.hx_word.specs.Running.{running, BeforeLast}
use Rattle.hx_word.specs.declared.iterations.Iterated.{Iterated}
use Rattle.hx_word.specs.declared.iterations.Iterations.{Iterations}
use Rattle.hx_code.specs.Call.{bytes_of, fault_at}
use Rattle.hx_code.specs.Code.{CodeView}
use Rattle.hx_word.proofs.Asking.{asked_as, isnt_goes}
use Rattle.hx_word.proofs.RegionSteps.{at_local, then_after, asked_next, before_next}
use Rattle.hx_word.proofs.iterations.Iterations.run.Goals as goal

-- a region is where it is
is_at : (i : Iterations) (s : List ℤ) → IsAt (running i s None) i.opened.region i.opened.below i.opened.words i.number i.turns i.local s
is_at i s = record { region = refl; below = refl; words = refl; iteration = refl; turns = refl; local = refl; store = refl; goes = refl }

-- words of a region, and those that `iterate` does behind them
went_on : (code : CodeView) (n k : ℕ) (z : RegionState) (i : Iterations) (s : List ℤ) (j h : ℕ) (l : LocalView) (t : List ℤ) → region_after code n z ≡ running i s None
    → ((x : RegionState) → IsAt x i.opened.region i.opened.below i.opened.words i.number i.turns i.local s → region_after code k x ≡ later x j h l t) → region_after code (n + k) z ≡ later (running i s None) j h l t
went_on code n k z i s j h l t is by = then_after code n k z (running i s None) (later (running i s None) j h l t) is (by (running i s None) (is_at i s))

pub loop-words-preserved-in-Goes : goal.loop-words-preserved-in-Goes
loop-words-preserved-in-Goes c =
    let i = c.loop-words.invariant in
    let e = c.iterate-done.ensures in
    record {
      few = omega (arith, e.words);
      ran = went_on c.args.code.now c.loop-words.words c.iterate-done.result.words (running c.args.self.now c.args.store.now None) c.loop-words.self c.loop-words.store _ _ _ _ i.ran e.went;
      well = record { opened = i.well.opened; local = e.fits; region = e.inside; store = e.long ∙ i.well.store; text = i.well.text };
      opened = i.opened;
      room = i.room;
    }

pub returns-then-not-print-clause-ran : goal.returns-then-not-print-clause-ran
returns-then-not-print-clause-ran c =
    let e = c.iterate-done.ensures in
    let ran = went_on c.args.code.now c.loop-words.words c.iterate-done.result.words (running c.args.self.now c.args.store.now None) c.loop-words.self c.loop-words.store _ _ _ _ c.loop-words.invariant.ran e.went in
    let y = later (running c.loop-words.self c.loop-words.store None) c.iterate-done.result.number c.iterate-done.result.turns c.iterate-done.new.self c.iterate-done.new.store in
    let t = asked_as _ _ _ _ _ _ _ _ _ (Prints c.in-Prints.output c.in-Prints.at) _ e.asks refl refl c.in-Prints.is (λ e. cc) in
    let full : c.print.result ≡ false = search rules in
    let test : nat_le (c.loop-words.self.opened.printed + length c.loop-words.self.text.items + length (bytes_of c.in-Prints.output)) TEXT_LIMIT ≡ false = sym c.print.ensures.told ∙ full in
    let items : c.print.new.text.items ≡ c.loop-words.self.text.items = rw full at c.print.ensures.items in
    let on : c.go_on.new.self ≡ goes_on c.iterate-done.result.next c.iterate-done.new.self = c.go_on.ensures in
    let z = record y { local = c.go_on.new.self; exit = Some (Faulted (fault_at TextFull c.in-Prints.at)) } in
    subst (λ (r : Iterated). region_after c.args.code.now r.words (running c.args.self.now c.args.store.now None) ≡ record z { text = c.print.new.text.items; exit = r.exit }) (sym c.ended.ensures)
    (asked_next c.args.code.now (c.loop-words.words + c.iterate-done.result.words) (running c.args.self.now c.args.store.now None) y _ _ ran refl t ∙ rw test refl ∙ ap (at_local (record z { text = y.text })) (sym on) ∙ ap (λ tx. record z { text = tx }) (sym items))

pub returns-then-not-print-clause-before : goal.returns-then-not-print-clause-before
returns-then-not-print-clause-before c =
    let ran = went_on c.args.code.now c.loop-words.words c.iterate-done.result.words (running c.args.self.now c.args.store.now None) c.loop-words.self c.loop-words.store _ _ _ _ c.loop-words.invariant.ran c.iterate-done.ensures.went in
    λ _. subst (λ (r : Iterated). BeforeLast c.args.code.now r.words (running c.args.self.now c.args.store.now None)) (sym c.ended.ensures) (before_next c.args.code.now (c.loop-words.words + c.iterate-done.result.words) (running c.args.self.now c.args.store.now None) _ ran refl)

pub loop-words-preserved : goal.loop-words-preserved
loop-words-preserved c =
    let i = c.loop-words.invariant in
    let e = c.iterate-done.ensures in
    let ran = went_on c.args.code.now c.loop-words.words c.iterate-done.result.words (running c.args.self.now c.args.store.now None) c.loop-words.self c.loop-words.store _ _ _ _ i.ran e.went in
    let y = later (running c.loop-words.self c.loop-words.store None) c.iterate-done.result.number c.iterate-done.result.turns c.iterate-done.new.self c.iterate-done.new.store in
    let t = asked_as _ _ _ _ _ _ _ _ _ (Prints c.in-Prints.output c.in-Prints.at) _ e.asks refl refl c.in-Prints.is (λ e. cc) in
    let lt = e.room (isnt_goes _ (Prints c.in-Prints.output c.in-Prints.at) c.in-Prints.is (λ e. cc)) in
    let on : c.go_on.new.self ≡ goes_on c.iterate-done.result.next c.iterate-done.new.self = c.go_on.ensures in
    let tx = c.loop-words.self.text.items in
    let bytes = bytes_of c.in-Prints.output in
    let done : c.print.result ≡ true = search rules in
    let test : nat_le (c.loop-words.self.opened.printed + length tx + length bytes) TEXT_LIMIT ≡ true = sym c.print.ensures.told ∙ done in
    let items : c.print.new.text.items ≡ tx ++ bytes = rw done at c.print.ensures.items in
    let le : c.loop-words.self.opened.printed + length tx + length bytes ≤ TEXT_LIMIT = grind (arith, nat_tests, test) in
    record {
      few = omega (arith, lt);
      ran = asked_next c.args.code.now (c.loop-words.words + c.iterate-done.result.words) (running c.args.self.now c.args.store.now None) y _ _ ran refl t ∙ rw test refl ∙ ap (at_local (record y { text = tx ++ bytes })) (sym on) ∙ ap (λ xs. record y { local = c.go_on.new.self; text = xs }) (sym items);
      well = record { opened = i.well.opened; local = subst (FitsLocal c.args.code.now) (sym on) t.well; region = ap (λ (l : LocalView). l.region) on ∙ e.inside; store = e.long ∙ i.well.store; text = subst (λ xs. c.loop-words.self.opened.printed + length xs ≤ TEXT_LIMIT) (sym items) (omega (arith, le, length-append tx bytes)) };
      opened = i.opened;
      room = c.print.ensures.room;
    }

pub returns-in-Leaves-clause-ran : goal.returns-in-Leaves-clause-ran
returns-in-Leaves-clause-ran c =
    let e = c.iterate-done.ensures in
    let ran = went_on c.args.code.now c.loop-words.words c.iterate-done.result.words (running c.args.self.now c.args.store.now None) c.loop-words.self c.loop-words.store _ _ _ _ c.loop-words.invariant.ran e.went in
    let y = later (running c.loop-words.self c.loop-words.store None) c.iterate-done.result.number c.iterate-done.result.turns c.iterate-done.new.self c.iterate-done.new.store in
    let t = asked_as _ _ _ _ _ _ _ _ _ Leaves _ e.asks refl refl c.in-Leaves.is (λ e. cc) in
    let z = record y { local = c.go_on-in-Leaves.new.self } in
    subst (λ (r : Iterated). region_after c.args.code.now r.words (running c.args.self.now c.args.store.now None) ≡ record z { exit = r.exit }) (sym c.ended-in-Leaves.ensures)
    (asked_next c.args.code.now (c.loop-words.words + c.iterate-done.result.words) (running c.args.self.now c.args.store.now None) y _ _ ran refl t ∙ ap (at_local (record z { exit = Some Left })) (sym c.go_on-in-Leaves.ensures))

pub returns-in-Leaves-clause-before : goal.returns-in-Leaves-clause-before
returns-in-Leaves-clause-before c =
    let ran = went_on c.args.code.now c.loop-words.words c.iterate-done.result.words (running c.args.self.now c.args.store.now None) c.loop-words.self c.loop-words.store _ _ _ _ c.loop-words.invariant.ran c.iterate-done.ensures.went in
    λ _. subst (λ (r : Iterated). BeforeLast c.args.code.now r.words (running c.args.self.now c.args.store.now None)) (sym c.ended-in-Leaves.ensures) (before_next c.args.code.now (c.loop-words.words + c.iterate-done.result.words) (running c.args.self.now c.args.store.now None) _ ran refl)

pub returns-in-Returns-clause-ran : goal.returns-in-Returns-clause-ran
returns-in-Returns-clause-ran c =
    let e = c.iterate-done.ensures in
    let ran = went_on c.args.code.now c.loop-words.words c.iterate-done.result.words (running c.args.self.now c.args.store.now None) c.loop-words.self c.loop-words.store _ _ _ _ c.loop-words.invariant.ran e.went in
    let y = later (running c.loop-words.self c.loop-words.store None) c.iterate-done.result.number c.iterate-done.result.turns c.iterate-done.new.self c.iterate-done.new.store in
    let t = asked_as _ _ _ _ _ _ _ _ _ (Returns c.in-Returns.v) _ e.asks refl refl c.in-Returns.is (λ e. cc) in
    let z = record y { local = c.go_on-in-Returns.new.self } in
    let same : to_z w32 (of_z w32 c.in-Returns.v) ≡ c.in-Returns.v = search rules in
    subst (λ (r : Iterated). region_after c.args.code.now r.words (running c.args.self.now c.args.store.now None) ≡ record z { exit = r.exit }) (sym c.ended-in-Returns.ensures)
    (asked_next c.args.code.now (c.loop-words.words + c.iterate-done.result.words) (running c.args.self.now c.args.store.now None) y _ _ ran refl t ∙ ap (at_local (record z { exit = Some (Returned c.in-Returns.v) })) (sym c.go_on-in-Returns.ensures) ∙ ap (λ v. record z { exit = Some (Returned v) }) (sym same))

pub returns-in-Returns-clause-before : goal.returns-in-Returns-clause-before
returns-in-Returns-clause-before c =
    let ran = went_on c.args.code.now c.loop-words.words c.iterate-done.result.words (running c.args.self.now c.args.store.now None) c.loop-words.self c.loop-words.store _ _ _ _ c.loop-words.invariant.ran c.iterate-done.ensures.went in
    λ _. subst (λ (r : Iterated). BeforeLast c.args.code.now r.words (running c.args.self.now c.args.store.now None)) (sym c.ended-in-Returns.ensures) (before_next c.args.code.now (c.loop-words.words + c.iterate-done.result.words) (running c.args.self.now c.args.store.now None) _ ran refl)

pub returns-in-Faults-clause-ran : goal.returns-in-Faults-clause-ran
returns-in-Faults-clause-ran c =
    let e = c.iterate-done.ensures in
    let ran = went_on c.args.code.now c.loop-words.words c.iterate-done.result.words (running c.args.self.now c.args.store.now None) c.loop-words.self c.loop-words.store _ _ _ _ c.loop-words.invariant.ran e.went in
    let y = later (running c.loop-words.self c.loop-words.store None) c.iterate-done.result.number c.iterate-done.result.turns c.iterate-done.new.self c.iterate-done.new.store in
    let t = asked_as _ _ _ _ _ _ _ _ _ (Faults c.in-Faults.fault) _ e.asks refl refl c.in-Faults.is (λ e. cc) in
    let z = record y { local = c.go_on-in-Faults.new.self } in
    subst (λ (r : Iterated). region_after c.args.code.now r.words (running c.args.self.now c.args.store.now None) ≡ record z { exit = r.exit }) (sym c.ended-in-Faults.ensures)
    (asked_next c.args.code.now (c.loop-words.words + c.iterate-done.result.words) (running c.args.self.now c.args.store.now None) y _ _ ran refl t ∙ ap (at_local (record z { exit = Some (Faulted c.in-Faults.fault) })) (sym c.go_on-in-Faults.ensures))

pub returns-in-Faults-clause-before : goal.returns-in-Faults-clause-before
returns-in-Faults-clause-before c =
    let ran = went_on c.args.code.now c.loop-words.words c.iterate-done.result.words (running c.args.self.now c.args.store.now None) c.loop-words.self c.loop-words.store _ _ _ _ c.loop-words.invariant.ran c.iterate-done.ensures.went in
    λ _. subst (λ (r : Iterated). BeforeLast c.args.code.now r.words (running c.args.self.now c.args.store.now None)) (sym c.ended-in-Faults.ensures) (before_next c.args.code.now (c.loop-words.words + c.iterate-done.result.words) (running c.args.self.now c.args.store.now None) _ ran refl)
