use Rattle.std.proofs.Common.{ℕ, rules, to_z, of_z, w32, arith, ◌+◌, ◌-◌, ◌≡◌, ap, sym, subst, ◌∙◌, Some, None}
use Rattle.hx_tree.specs.declared.token.Pos.{Pos}
use Rattle.hx_code.specs.declared.word.Ask.TheVariants.{Loads, Stores, Calls}
use Rattle.hx_code.specs.Local.{loaded}
use Rattle.hx_code.specs.Fits.{FitsLocal, LocalWell, goes_on}
use Rattle.hx_marks.specs.Table.{look}
use Rattle.hx_speculation.specs.Frame.{Need as Needed}
use Rattle.hx_speculation.specs.View.{or_first}
use Rattle.hx_frame.specs.Frame.{WellAsked}
use Rattle.hx_frame.proofs.Stretches.{LeftToDo, RanFor, stretch_as, isnt_goes, left_after, left_known, stopped, unknown_word, write_word, head_word}
use Rattle.hx_frame.proofs.words.run_words.Goals as goal

-- src/words.rt:41:5
pub loop-words-preserved-in-Goes : goal.loop-words-preserved-in-Goes
loop-words-preserved-in-Goes c =
    let i = c.loop-words.invariant in
    let g = c.stretch-done.ensures.went c.in-Goes.is in
    record { few = omega (arith, c.stretch-done.ensures.words, i.few); ran = left_after c.args.code.now _ _ _ _ c.loop-words.words _ _ _ i.ran g.went c.stretch-done.ensures.words; fits = g.fits }

-- src/words.rt:47:25
pub returns-in-None : goal.returns-in-None
returns-in-None c =
    let i = c.loop-words.invariant in
    let other = isnt_goes _ _ c.in-Loads.is (λ e. cc) in
    let t = stretch_as _ _ _ _ (Loads c.in-Loads.word) _ _ c.stretch-done.ensures.asks c.in-Loads.is (λ e. cc) in
    let lt = c.stretch-done.ensures.room other in
    let none : or_first (look c.args.writes.now.entries c.in-Loads.word) (look c.args.marks.now.entries c.in-Loads.word) ≡ None = sym c.known.ensures ∙ c.in-None.is in
    record {
      ran = stopped c.args.code.now _ _ _ _ c.loop-words.words _ _ _ i.ran t.going.went c.stretch-done.ensures.words lt (Needed.ForLoad c.in-Loads.word) (λ f em ew. unknown_word c.args.code.now _ _ f em ew _ _ c.in-Loads.word _ t.asks none);
      fits = t.going.fits;
      tells = record { asks = t.asks; well = t.well; may = t.may };
    }

-- src/words.rt:41:5
pub loop-words-preserved : goal.loop-words-preserved
loop-words-preserved c =
    let i = c.loop-words.invariant in
    let other = isnt_goes _ _ c.in-Loads.is (λ e. cc) in
    let t = stretch_as _ _ _ _ (Loads c.in-Loads.word) _ _ c.stretch-done.ensures.asks c.in-Loads.is (λ e. cc) in
    let lt = c.stretch-done.ensures.room other in
    let some : or_first (look c.args.writes.now.entries c.in-Loads.word) (look c.args.marks.now.entries c.in-Loads.word) ≡ Some c.in-Some.value = sym c.known.ensures ∙ c.in-Some.is in
    let same : to_z w32 (of_z w32 c.in-Some.value) ≡ c.in-Some.value = search rules in
    let there = sym (c.load.ensures ∙ ap (λ v. loaded v (goes_on c.stretch-done.result.next c.stretch-done.new.self)) same) in
    record {
      few = omega (arith, lt, i.few);
      ran = subst (LeftToDo c.args.code.now c.args.marks.now.entries c.args.writes.now.entries c.args.limit c.args.here.now (c.args.limit - (c.loop-words.words + c.stretch-done.result.words + 1))) there (left_known c.args.code.now _ _ _ _ c.loop-words.words _ _ _ i.ran t.going.went c.stretch-done.ensures.words lt _ c.in-Loads.word c.in-Some.value t.asks some);
      fits = subst (FitsLocal c.args.code.now) there (t.well.1 c.in-Some.value);
    }

-- src/words.rt:53:41
pub returns-in-Stores : goal.returns-in-Stores
returns-in-Stores c =
    let i = c.loop-words.invariant in
    let other = isnt_goes _ _ c.in-Stores.is (λ e. cc) in
    let t = stretch_as _ _ _ _ (Stores c.in-Stores.word c.in-Stores.value) _ _ c.stretch-done.ensures.asks c.in-Stores.is (λ e. cc) in
    let lt = c.stretch-done.ensures.room other in
    let same : to_z w32 (of_z w32 c.in-Stores.value) ≡ c.in-Stores.value = search rules in
    record {
      ran = subst (λ v. RanFor c.args.code.now c.args.marks.now.entries c.args.writes.now.entries c.args.limit c.args.here.now c.stretch-done.new.self (Needed.ForStore c.in-Stores.word v)) (sym same) (stopped c.args.code.now _ _ _ _ c.loop-words.words _ _ _ i.ran t.going.went c.stretch-done.ensures.words lt (Needed.ForStore c.in-Stores.word c.in-Stores.value) (λ f em ew. write_word c.args.code.now _ _ c.in-Stores.word c.in-Stores.value _ f t.asks));
      fits = t.going.fits;
      tells = subst (λ v. WellAsked c.args.code.now c.stretch-done.new.self (Stores c.in-Stores.word v) c.stretch-done.result.next) (sym same) (record { asks = t.asks; well = t.well; may = t.may });
    }

-- src/words.rt:54:20
pub returns-in_default : goal.returns-in_default
returns-in_default c =
    let i = c.loop-words.invariant in
    let t = c.stretch-done.ensures.asks c.in_default.not-Goes in
    let lt = c.stretch-done.ensures.room c.in_default.not-Goes in
    let calls : (g : ℕ) (at : Pos) → c.stretch-done.result.ask ≡ Calls g at → ⊥ = (λ g at e. subst (λ k. LocalWell c.args.code.now k (goes_on c.stretch-done.result.next c.stretch-done.new.self)) e t.well) in
    record {
      ran = stopped c.args.code.now _ _ _ _ c.loop-words.words _ _ _ i.ran t.going.went c.stretch-done.ensures.words lt Needed.ForHead (λ f em ew. head_word c.args.code.now _ _ c.stretch-done.result.ask _ f t.asks c.in_default.not-Goes c.in_default.not-Loads c.in_default.not-Stores calls);
      fits = t.going.fits;
      tells = record { asks = t.asks; well = t.well; may = t.may };
    }
