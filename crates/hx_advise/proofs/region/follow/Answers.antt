use Rattle.std.proofs.Common.{◌≡◌, ◌+◌, ◌<◌, ◌≤◌, ◌++◌, ℕ, ℤ, pos, List, rules, to_z, of_z, w32, true, false, length, get_or, arith, refl, ap, sym, subst, ◌∙◌}
use Rattle.std.specs.Prelude.{nat_le, slice_index_or, slice_set}
use Rattle.std.specs.Vec.{with_item}
use Rattle.std.proofs.lemmas.Option.{slice_get_read, get_or_from_slice_get}
use Rattle.std.proofs.lemmas.Bool.Decides.{nat_tests}
use Rattle.hx_tree.specs.declared.limits.TheConstants.{TEXT_LIMIT}
use Rattle.hx_code.specs.declared.word.Ask.TheVariants.{Loads, Stores, Prints, Turns, Leaves, Returns, Faults}
use Rattle.hx_code.specs.Call.{bytes_of}
use Rattle.hx_code.specs.Local.{LocalView, loaded}
use Rattle.hx_code.specs.Fits.{goes_on}
use Rattle.hx_code.specs.Region.{opening}
use Rattle.hx_word.specs.Opening.{opened_of}
use Rattle.hx_frame.proofs.Stretches.{stretch_as, isnt_goes}
use Rattle.hx_advise.specs.declared.region.Course.{Course}
use Rattle.hx_advise.specs.Course.{Keeps}
use Rattle.hx_advise.proofs.Courses.{keeps_goes, keeps_loads, keeps_stores, keeps_prints, keeps_turns, goes_on_still, ended_left, ended_returned, ended_faulted, ended_full}
use Rattle.hx_advise.proofs.region.follow.Goals as goal

pub loop-words-preserved-in-Goes : goal.loop-words-preserved-in-Goes
loop-words-preserved-in-Goes c =
    let i = c.loop-words.invariant in
    let g = c.stretch-done.ensures.went c.in-Goes.is in
    record {
      few = omega (arith, c.stretch-done.ensures.words, i.few);
      keeps = keeps_goes c.args.code.now (opened_of c.args.opened.now) c.args.course.now.store.items c.loop-words.words c.stretch-done.result.words c.loop-words.course c.stretch-done.new.self g i.keeps;
    }

-- an element, whatever stands for one past the end
element : (xs : List ℤ) (k : ℕ) (x : ℤ) → k < length xs → x ≡ get_or xs k x → x ≡ slice_index_or xs k (pos 0)
element xs k x lt e = sym (get_or_from_slice_get xs k x (pos 0) (slice_get_read xs (length xs) k x refl lt e))

pub loop-words-preserved-in-Loads : goal.loop-words-preserved-in-Loads
loop-words-preserved-in-Loads c =
    let i = c.loop-words.invariant in
    let a = c.in-Loads.word in
    let code = c.args.code.now in
    let o = opened_of c.args.opened.now in
    let entry = c.args.course.now.store.items in
    let k = c.loop-words.course in
    let q = c.stretch-done.new.self in
    let next = c.stretch-done.result.next in
    let t = stretch_as code c.stretch-done.result.words k.local c.stretch-done.result.ask (Loads a) next q c.stretch-done.ensures.asks c.in-Loads.is (λ e. cc) in
    let lt = c.stretch-done.ensures.room (isnt_goes c.stretch-done.result.ask (Loads a) c.in-Loads.is (λ e. cc)) in
    let there : a < length k.store.items = omega (arith, t.well.0, i.keeps.store) in
    let value = element k.store.items a c.index-value.result.now there c.index-value.ensures in
    let loads = keeps_loads code o entry c.loop-words.words c.stretch-done.result.words k q next a c.read.new.self t i.keeps c.read.ensures.turn c.read.ensures.words c.read.ensures.tells in
    let same : to_z w32 (of_z w32 c.index-value.result.now) ≡ c.index-value.result.now = search rules in
    let is : c.load.new.self ≡ loaded (slice_index_or k.store.items a (pos 0)) (goes_on next q) = c.load.ensures ∙ ap (λ v. loaded v (goes_on next q)) (same ∙ value) in
    record {
      few = omega (arith, lt, i.few);
      keeps = subst (λ (l : LocalView). Keeps code o entry (c.loop-words.words + c.stretch-done.result.words + 1) (record k { local = l; watch = c.read.new.self })) (sym is) loads;
    }

pub loop-words-preserved-in-Stores : goal.loop-words-preserved-in-Stores
loop-words-preserved-in-Stores c =
    let i = c.loop-words.invariant in
    let a = c.in-Stores.word in
    let v = c.in-Stores.value in
    let code = c.args.code.now in
    let o = opened_of c.args.opened.now in
    let entry = c.args.course.now.store.items in
    let k = c.loop-words.course in
    let q = c.stretch-done.new.self in
    let next = c.stretch-done.result.next in
    let t = stretch_as code c.stretch-done.result.words k.local c.stretch-done.result.ask (Stores a v) next q c.stretch-done.ensures.asks c.in-Stores.is (λ e. cc) in
    let lt = c.stretch-done.ensures.room (isnt_goes c.stretch-done.result.ask (Stores a v) c.in-Stores.is (λ e. cc)) in
    let same : to_z w32 (of_z w32 v) ≡ v = search rules in
    let s = with_item k.store a (to_z w32 (of_z w32 v)) in
    let stores = keeps_stores code o entry c.loop-words.words c.stretch-done.result.words k q next a v s c.write.new.self t i.keeps (ap (λ x. slice_set k.store.items a x) same) c.write.ensures.turn c.write.ensures.words c.write.ensures.tells in
    record {
      few = omega (arith, lt, i.few);
      keeps = subst (λ (l : LocalView). Keeps code o entry (c.loop-words.words + c.stretch-done.result.words + 1) (record k { local = l; store = s; watch = c.write.new.self })) (sym c.go_on.ensures) stores;
    }

pub returns-then-not-print-clause-followed : goal.returns-then-not-print-clause-followed
returns-then-not-print-clause-followed c =
    let i = c.loop-words.invariant in
    let k = c.loop-words.course in
    let q = c.stretch-done.new.self in
    let output = c.in-Prints.output in
    let t = stretch_as c.args.code.now c.stretch-done.result.words k.local c.stretch-done.result.ask (Prints output c.in-Prints.field-1) c.stretch-done.result.next q c.stretch-done.ensures.asks c.in-Prints.is (λ e. cc) in
    let full : c.print.result ≡ false = search rules in
    let test : nat_le (c.args.opened.now.printed + length k.text.items + length (bytes_of output)) TEXT_LIMIT ≡ false = sym c.print.ensures.told ∙ full in
    ended_full c.args.code.now (opened_of c.args.opened.now) c.args.course.now.store.items c.loop-words.words c.stretch-done.result.words k q c.stretch-done.result.next output c.in-Prints.field-1 _ t i.keeps test refl

pub loop-words-preserved-in-Prints : goal.loop-words-preserved-in-Prints
loop-words-preserved-in-Prints c =
    let i = c.loop-words.invariant in
    let code = c.args.code.now in
    let o = opened_of c.args.opened.now in
    let entry = c.args.course.now.store.items in
    let k = c.loop-words.course in
    let q = c.stretch-done.new.self in
    let next = c.stretch-done.result.next in
    let output = c.in-Prints.output in
    let at = c.in-Prints.field-1 in
    let t = stretch_as code c.stretch-done.result.words k.local c.stretch-done.result.ask (Prints output at) next q c.stretch-done.ensures.asks c.in-Prints.is (λ e. cc) in
    let lt = c.stretch-done.ensures.room (isnt_goes c.stretch-done.result.ask (Prints output at) c.in-Prints.is (λ e. cc)) in
    let bytes = bytes_of output in
    let done : c.print.result ≡ true = search rules in
    let test : nat_le (c.args.opened.now.printed + length k.text.items + length bytes) TEXT_LIMIT ≡ true = sym c.print.ensures.told ∙ done in
    let items : c.print.new.text.items ≡ k.text.items ++ bytes = rw done at c.print.ensures.items in
    let le : c.args.opened.now.printed + length k.text.items + length bytes ≤ TEXT_LIMIT = grind (arith, nat_tests, test) in
    let prints = keeps_prints code o entry c.loop-words.words c.stretch-done.result.words k q next output at c.print.new.text t i.keeps items test le c.print.ensures.room in
    record {
      few = omega (arith, lt, i.few);
      keeps = subst (λ (l : LocalView). Keeps code o entry (c.loop-words.words + c.stretch-done.result.words + 1) (record k { local = l; text = c.print.new.text })) (sym c.go_on-in-Prints.ensures) prints;
    }

pub loop-words-preserved : goal.loop-words-preserved
loop-words-preserved c =
    let i = c.loop-words.invariant in
    let code = c.args.code.now in
    let o = opened_of c.args.opened.now in
    let entry = c.args.course.now.store.items in
    let k = c.loop-words.course in
    let q = c.stretch-done.new.self in
    let next = c.stretch-done.result.next in
    let w = c.end_turn.new.self in
    let t = stretch_as code c.stretch-done.result.words k.local c.stretch-done.result.ask Turns next q c.stretch-done.ensures.asks c.in-Turns.is (λ e. cc) in
    let lt = c.stretch-done.ensures.room (isnt_goes c.stretch-done.result.ask Turns c.in-Turns.is (λ e. cc)) in
    let turns = keeps_turns code o entry c.known.ensures c.requires.opened c.loop-words.words c.stretch-done.result.words k q next w t i.keeps c.end_turn.ensures.turn c.end_turn.ensures.words c.end_turn.ensures.tells in
    let is : c.begin.new.course ≡ record k { local = opening code o w.turn; watch = w } = c.begin.ensures ∙ ap {B = Course} (λ (j : ℕ). record k { local = opening code o j; watch = w }) c.turns-j.ensures in
    record {
      few = omega (arith, lt, i.few);
      keeps = subst (Keeps code o entry (c.loop-words.words + c.stretch-done.result.words + 1)) (sym is) turns;
    }

pub returns-in-Leaves-clause-followed : goal.returns-in-Leaves-clause-followed
returns-in-Leaves-clause-followed c =
    let t = stretch_as _ _ _ _ Leaves _ _ c.stretch-done.ensures.asks c.in-Leaves.is (λ e. cc) in
    ended_left c.args.code.now (opened_of c.args.opened.now) c.args.course.now.store.items c.loop-words.words c.stretch-done.result.words c.loop-words.course _ _ _ t c.loop-words.invariant.keeps refl

pub returns-in-Returns-clause-followed : goal.returns-in-Returns-clause-followed
returns-in-Returns-clause-followed c =
    let t = stretch_as _ _ _ _ (Returns c.in-Returns.field-0) _ _ c.stretch-done.ensures.asks c.in-Returns.is (λ e. cc) in
    ended_returned c.args.code.now (opened_of c.args.opened.now) c.args.course.now.store.items c.loop-words.words c.stretch-done.result.words c.loop-words.course _ _ c.in-Returns.field-0 _ t c.loop-words.invariant.keeps refl

pub returns-in-Faults-clause-followed : goal.returns-in-Faults-clause-followed
returns-in-Faults-clause-followed c =
    let t = stretch_as _ _ _ _ (Faults c.in-Faults.field-0) _ _ c.stretch-done.ensures.asks c.in-Faults.is (λ e. cc) in
    ended_faulted c.args.code.now (opened_of c.args.opened.now) c.args.course.now.store.items c.loop-words.words c.stretch-done.result.words c.loop-words.course _ _ c.in-Faults.field-0 _ t c.loop-words.invariant.keeps refl

pub returns-clause-followed : goal.returns-clause-followed
returns-clause-followed c = goes_on_still c.args.code.now (opened_of c.args.opened.now) c.args.course.now.store.items c.loop-words.words c.loop-words.course c.loop-words.invariant.keeps
