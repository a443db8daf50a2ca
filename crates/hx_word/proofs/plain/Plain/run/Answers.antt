use Rattle.std.proofs.Common.{arith, ◌≡◌, ◌+◌, ◌-◌, Some, is_some, take, true, false, ap, sym, subst, ◌∙◌}
use Rattle.hx_code.specs.Code.{CodeView}
use Rattle.hx_code.specs.Machine.{Machine, machine_after, EndsWith, counts_of}
use Rattle.hx_word.specs.Plain.{PlainView, machine_of, one_store}
use Rattle.hx_word.proofs.Advance.{then_ran, stands_for, ended_is, ended_out, end_same}
use Rattle.hx_word.proofs.plain.Plain.run.Goals as goal
use Rattle.hx_word.proofs.plain.Plain.run.Goals.{then-loop-left-test+else-is_none, else-loop-left-test}

pub loop-left-preserved : goal.loop-left-preserved
loop-left-preserved c =
    let i = c.loop-left.invariant in
    let e = c.sweep-left.ensures in
    let code = c.self.inside.code.now in
    let first = machine_of c.self.inside.state in
    let n = c.args.steps - c.loop-left.left in
    let all : n + c.sweep-left.result ≡ c.args.steps - (c.loop-left.left - c.sweep-left.result) = omega (arith, e.words, i.few) in
    record {
      few = omega (arith, i.few);
      ran = subst (λ k. one_store (machine_after code k first) ≡ machine_of c.sweep-left.new.self) all (then_ran code n c.sweep-left.result first (machine_of c.loop-left.state) (machine_of c.sweep-left.new.self) i.ran e.ran);
      well = e.well;
      room = e.room;
    }

pub returns-in-None : goal.returns-in-None
returns-in-None c =
    λ m is.
    let i = c.loop-left.invariant in
    let none : c.loop-left.left ≡ 0 = elim c.loop-left-test.branch [
      | then-loop-left-test+else-is_none w ↦ let no : true ≡ false = sym w.if-is_none.ensures ∙ ap (λ o. is_some o) c.in-None.is in absurd cc
      | else-loop-left-test w ↦ omega arith
    ] in
    let code = c.self.inside.code.now in
    let same : c.self.inside.code.now ≡ c.args.self.code = ap (λ (p : PlainView). p.code) c.self.view_is in
    let first : one_store m ≡ machine_of c.self.inside.state = is ∙ sym (ap (λ (p : PlainView). p.machine) c.self.view_is) in
    let all : c.args.steps - c.loop-left.left ≡ c.args.steps = omega (arith, none) in
    let ran = subst (λ k. one_store (machine_after code k (machine_of c.self.inside.state)) ≡ machine_of c.loop-left.state) all i.ran in
    let there : one_store (machine_after c.args.self.code c.args.steps m) ≡ machine_of c.loop-left.state =
    subst (λ x. one_store (machine_after x c.args.steps m) ≡ machine_of c.loop-left.state) same (stands_for code c.args.steps m (machine_of c.self.inside.state) (machine_of c.loop-left.state) first ran) in
    (same, sym there, sym (end_same (machine_after c.args.self.code c.args.steps m)) ∙ ap (λ (x : Machine). x.end) there ∙ c.in-None.is)

pub returns-in-Some : goal.returns-in-Some
returns-in-Some c =
    λ m is.
    let i = c.loop-left.invariant in
    let code = c.self.inside.code.now in
    let same = c.self.view_is in
    let y = machine_of c.loop-left.state in
    let n = c.args.steps - c.loop-left.left in
    let first : one_store m ≡ machine_of c.self.inside.state = is ∙ sym (ap (λ (p : PlainView). p.machine) same) in
    let there = stands_for code n m (machine_of c.self.inside.state) y first i.ran in
    let outside = ended_out code y c.in-Some.end i.well c.in-Some.is in
    let all : n + c.loop-left.left ≡ c.args.steps = omega (arith, i.few) in
    let at_end : machine_after c.args.self.code c.args.steps m ≡ y =
    ap (λ (x : CodeView). machine_after x c.args.steps m) (sym (ap (λ (p : PlainView). p.code) same)) ∙ ap (λ k. machine_after code k m) (sym all) ∙ ended_is code n c.loop-left.left m y c.in-Some.end there c.in-Some.is outside in
    let e = c.outcome-outcome.ensures in
    let globals = ap (λ (x : CodeView). take x.globals c.loop-left.state.store.items) (ap (λ (p : PlainView). p.code) same) in
    let shown : EndsWith c.args.self.code y c.outcome-outcome.result.0 = record { text = e.text; globals = e.globals ∙ globals; end = c.in-Some.is ∙ ap (λ x. Some x) (sym e.end) } in
    (subst (λ x. EndsWith c.args.self.code x c.outcome-outcome.result.0) (sym at_end) shown, e.counts ∙ ap counts_of (sym at_end))
