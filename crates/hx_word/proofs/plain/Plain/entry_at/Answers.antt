use Rattle.std.proofs.Common.{arith, rules, ◌≡◌, ◌+◌, ◌-◌, ◌<◌, ℕ, suc, Some, None, is_some, IsSome, true, false, refl, ap, sym, subst, ◌∙◌}
use Rattle.std.specs.Bool.{MatchBool}
use Rattle.hx_code.specs.Machine.{Machine, machine_after}
use Rattle.hx_word.specs.Running.{running}
use Rattle.hx_word.specs.Plain.{PlainView, machine_of, one_store, openings, opens_next, Quiet, OpensLast}
use Rattle.hx_word.specs.Ran.{RunsRegion}
use Rattle.hx_word.proofs.Inside.{in_is}
use Rattle.hx_word.proofs.Advance.{then_ran, stands_for, ended_is, ended_out, end_same, none_more, one_more, none_behind, openings_for, opened_after, opens_for, runs_there}
use Rattle.hx_word.proofs.plain.Plain.entry_at.Goals as goal
use Rattle.hx_word.proofs.plain.Plain.entry_at.Goals.{then-loop-left-test+else-is_none, else-loop-left-test}

pub loop-left-preserved-then-done : goal.loop-left-preserved-then-done
loop-left-preserved-then-done c =
    let i = c.loop-left.invariant in
    let e = c.advance-done.ensures in
    let code = c.self.inside.code.now in
    let start = machine_of c.self.inside.state in
    let y = machine_of c.loop-left.state in
    let w = c.advance-done.result.words in
    let n = c.args.steps - c.loop-left.left in
    let all : n + w ≡ c.args.steps - (c.loop-left.left - w) = omega (arith, e.words, i.few) in
    let last = subst (λ b. MatchBool b (OpensLast code w y) (Quiet code w y)) c.if-done.true e.told in
    let more : openings code (c.args.steps - (c.loop-left.left - w)) start ≡ openings code n start + 1 = subst (λ k. openings code k start ≡ openings code n start + 1) all (one_more code n w start y i.ran last) in
    record {
      few = omega (arith, i.few);
      ran = subst (λ k. one_store (machine_after code k start) ≡ machine_of c.advance-done.new.self) all (then_ran code n w start y (machine_of c.advance-done.new.self) i.ran e.ran);
      counted = omega (arith, more, i.counted, c.if-before-eq0.false);
      well = e.well;
      room = e.room;
    }

pub loop-left-preserved : goal.loop-left-preserved
loop-left-preserved c =
    let i = c.loop-left.invariant in
    let e = c.advance-done.ensures in
    let code = c.self.inside.code.now in
    let start = machine_of c.self.inside.state in
    let y = machine_of c.loop-left.state in
    let w = c.advance-done.result.words in
    let n = c.args.steps - c.loop-left.left in
    let all : n + w ≡ c.args.steps - (c.loop-left.left - w) = omega (arith, e.words, i.few) in
    let quiet = subst (λ b. MatchBool b (OpensLast code w y) (Quiet code w y)) c.if-done.false e.told in
    let same : openings code (c.args.steps - (c.loop-left.left - w)) start ≡ openings code n start = subst (λ k. openings code k start ≡ openings code n start) all (none_more code n w start y i.ran quiet) in
    record {
      few = omega (arith, i.few);
      ran = subst (λ k. one_store (machine_after code k start) ≡ machine_of c.advance-done.new.self) all (then_ran code n w start y (machine_of c.advance-done.new.self) i.ran e.ran);
      counted = omega (arith, same, i.counted);
      well = e.well;
      room = e.room;
    }

pub returns-then-before-eq0 : goal.returns-then-before-eq0
returns-then-before-eq0 c =
    λ m is.
    let i = c.loop-left.invariant in
    let e = c.advance-done.ensures in
    let code = c.self.inside.code.now in
    let start = machine_of c.self.inside.state in
    let y = machine_of c.loop-left.state in
    let s = c.advance-done.new.self in
    let z = running s.iterations s.store.items None in
    let w = c.advance-done.result.words in
    let n = c.args.steps - c.loop-left.left in
    let same : code ≡ c.args.self.code = ap (λ (p : PlainView). p.code) c.self.view_is in
    let first : one_store m ≡ start = is ∙ sym (ap (λ (p : PlainView). p.machine) c.self.view_is) in
    let last = subst (λ b. MatchBool b (OpensLast code w y) (Quiet code w y)) c.if-done.true e.told in
    let o = opened_after code n w start y i.ran last in
    let k = o.0 in
    let lt : k < c.args.steps = omega (arith, o.1, e.words, i.few) in
    let number : openings code k m + 1 ≡ c.args.n = omega (arith, openings_for code k m start first, o.2, i.counted, c.if-before-eq0.true) in
    let ran = then_ran code n w start y (machine_of s) i.ran e.ran in
    let there : one_store (machine_after code (suc k) m) ≡ machine_of s = stands_for code (suc k) m start (machine_of s) first (subst (λ j. one_store (machine_after code j start) ≡ machine_of s) o.1 ran) in
    let within = runs_there (machine_after code (suc k) m) (machine_of s) z there (ap (λ (x : Machine). x.within) (in_is s (e.inside c.if-done.true))) in
    let runs : RunsRegion code (machine_after code (suc k) m) s.iterations.opened.region c.in_ok-entry.entry = record { region = z; within = within; number = refl; entry = c.in_ok-entry.ensures.entry; fits = c.in_ok-entry.ensures.fits } in
    subst (λ x. (k : ℕ) × (k < c.args.steps) × (openings x k m + 1 ≡ c.args.n) × (opens_next x (machine_after x k m) ≡ true) × RunsRegion x (machine_after x (suc k) m) s.iterations.opened.region c.in_ok-entry.entry) same
    (k, lt, number, opens_for code k m start first o.3, runs)

pub returns-in-None : goal.returns-in-None
returns-in-None c =
    λ m is.
    let i = c.loop-left.invariant in
    let none : c.loop-left.left ≡ 0 = elim c.loop-left-test.branch [
      | then-loop-left-test+else-is_none w ↦ let no : true ≡ false = sym w.if-is_none.ensures ∙ ap (λ o. is_some o) c.in-None.is in absurd cc
      | else-loop-left-test w ↦ omega arith
    ] in
    let code = c.self.inside.code.now in
    let start = machine_of c.self.inside.state in
    let y = machine_of c.loop-left.state in
    let same : code ≡ c.args.self.code = ap (λ (p : PlainView). p.code) c.self.view_is in
    let first : one_store m ≡ start = is ∙ sym (ap (λ (p : PlainView). p.machine) c.self.view_is) in
    let all : c.args.steps - c.loop-left.left ≡ c.args.steps = omega (arith, none) in
    let ran = subst (λ n. one_store (machine_after code n start) ≡ y) all i.ran in
    let counted = subst (λ n. openings code n start + c.loop-left.before + 1 ≡ c.args.n) all i.counted in
    let few : openings code c.args.steps m < c.args.n = omega (arith, counted, openings_for code c.args.steps m start first) in
    let there = stands_for code c.args.steps m start y first ran in
    let end : (machine_after code c.args.steps m).end ≡ None = sym (end_same (machine_after code c.args.steps m)) ∙ ap (λ (x : Machine). x.end) there ∙ c.in-None.is in
    subst (λ x. (openings x c.args.steps m < c.args.n) × ((machine_after x c.args.steps m).end ≡ None)) same (few, end)

pub returns : goal.returns
returns c =
    λ m is.
    let i = c.loop-left.invariant in
    let code = c.self.inside.code.now in
    let start = machine_of c.self.inside.state in
    let y = machine_of c.loop-left.state in
    let n = c.args.steps - c.loop-left.left in
    let same : code ≡ c.args.self.code = ap (λ (p : PlainView). p.code) c.self.view_is in
    let first : one_store m ≡ start = is ∙ sym (ap (λ (p : PlainView). p.machine) c.self.view_is) in
    let there = stands_for code n m start y first i.ran in
    let outside = ended_out code y c.in-Some.field-0 i.well c.in-Some.is in
    let sum : n + c.loop-left.left ≡ c.args.steps = omega (arith, i.few) in
    let at_end : machine_after code c.args.steps m ≡ y = ap (λ k. machine_after code k m) (sym sum) ∙ ended_is code n c.loop-left.left m y c.in-Some.field-0 there c.in-Some.is outside in
    let behind : openings code c.args.steps m ≡ openings code n m = subst (λ k. openings code k m ≡ openings code n m) sum (none_behind code n c.loop-left.left m y c.in-Some.field-0 there c.in-Some.is outside) in
    let few : openings code c.args.steps m < c.args.n = omega (arith, behind, openings_for code n m start first, i.counted) in
    let over : (machine_after code c.args.steps m).end ≡ Some c.in-Some.field-0 = ap (λ (x : Machine). x.end) at_end ∙ c.in-Some.is in
    let some : IsSome (Some c.in-Some.field-0) = search rules in
    subst (λ x. (openings x c.args.steps m < c.args.n) × IsSome (machine_after x c.args.steps m).end) same (few, subst (λ o. IsSome o) (sym over) some)
