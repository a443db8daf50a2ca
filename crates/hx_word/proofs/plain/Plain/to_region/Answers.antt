use Rattle.std.proofs.Common.{arith, ◌≡◌, ◌+◌, ◌-◌, Some, ap, sym, subst, ◌∙◌}
use Rattle.std.specs.Bool.{MatchBool}
use Rattle.hx_code.specs.Machine.{Machine, machine_after, EndsWith, counts_of}
use Rattle.hx_word.specs.Plain.{PlainView, machine_of, one_store, Quiet, OpensLast}
use Rattle.hx_word.proofs.Inside.{in_is}
use Rattle.hx_word.proofs.Advance.{stands_for, ended_is, ended_out, end_same, paused_at, quiet_for, quiet_to_end}
use Rattle.hx_word.proofs.plain.Plain.to_region.Goals as goal

pub returns-then-done : goal.returns-then-done
returns-then-done c =
    λ m is.
    let e = c.advance-done.ensures in
    let code = c.self.inside.code.now in
    let start = machine_of c.self.inside.state in
    let same : code ≡ c.args.self.code = ap (λ (p : PlainView). p.code) c.self.view_is in
    let first : one_store m ≡ start = is ∙ sym (ap (λ (p : PlainView). p.machine) c.self.view_is) in
    let last = subst (λ b. MatchBool b (OpensLast code c.advance-done.result.words start) (Quiet code c.advance-done.result.words start)) c.if-done.true e.told in
    paused_at code c.args.self.code same m start _ c.advance-done.result.words c.args.steps first last e.words (e.ran ∙ in_is c.advance-done.new.self (e.inside c.if-done.true))

pub returns-in-None : goal.returns-in-None
returns-in-None c =
    λ m is.
    let e = c.advance-done.ensures in
    let code = c.self.inside.code.now in
    let start = machine_of c.self.inside.state in
    let y = machine_of c.advance-done.new.self in
    let same : code ≡ c.args.self.code = ap (λ (p : PlainView). p.code) c.self.view_is in
    let first : one_store m ≡ start = is ∙ sym (ap (λ (p : PlainView). p.machine) c.self.view_is) in
    let quiet = subst (λ b. MatchBool b (OpensLast code c.advance-done.result.words start) (Quiet code c.advance-done.result.words start)) c.if-done.false e.told in
    let all : c.advance-done.result.words ≡ c.args.steps = e.all c.if-done.false c.in-None.is in
    let ran = subst (λ n. one_store (machine_after code n start) ≡ y) all e.ran in
    let none = subst (λ n. Quiet code n start) all quiet in
    let there : one_store (machine_after c.args.self.code c.args.steps m) ≡ y = subst (λ x. one_store (machine_after x c.args.steps m) ≡ y) same (stands_for code c.args.steps m start y first ran) in
    (subst (λ x. Quiet x c.args.steps m) same (quiet_for code c.args.steps m start first none), same, sym there, sym (end_same (machine_after c.args.self.code c.args.steps m)) ∙ ap (λ (x : Machine). x.end) there ∙ c.in-None.is)

pub returns-in-Some : goal.returns-in-Some
returns-in-Some c =
    λ m is.
    let e = c.advance-done.ensures in
    let code = c.self.inside.code.now in
    let start = machine_of c.self.inside.state in
    let y = machine_of c.advance-done.new.self in
    let w = c.advance-done.result.words in
    let same : code ≡ c.args.self.code = ap (λ (p : PlainView). p.code) c.self.view_is in
    let first : one_store m ≡ start = is ∙ sym (ap (λ (p : PlainView). p.machine) c.self.view_is) in
    let quiet = subst (λ b. MatchBool b (OpensLast code w start) (Quiet code w start)) c.if-done.false e.told in
    let there = stands_for code w m start y first e.ran in
    let outside = ended_out code y c.in-Some.end e.well c.in-Some.is in
    let sum : w + (c.args.steps - w) ≡ c.args.steps = omega (arith, e.words) in
    let at_end : machine_after code c.args.steps m ≡ y = ap (λ n. machine_after code n m) (sym sum) ∙ ended_is code w (c.args.steps - w) m y c.in-Some.end there c.in-Some.is outside in
    let none : Quiet code c.args.steps m = subst (λ n. Quiet code n m) sum (quiet_to_end code w (c.args.steps - w) m y c.in-Some.end (quiet_for code w m start first quiet) there c.in-Some.is outside) in
    let o = c.outcome-outcome.ensures in
    let shown : EndsWith code y c.outcome-outcome.result.0 = record { text = o.text; globals = o.globals; end = c.in-Some.is ∙ ap (λ x. Some x) (sym o.end) } in
    subst (λ x. Quiet x c.args.steps m × EndsWith x (machine_after x c.args.steps m) c.outcome-outcome.result.0 × (c.outcome-outcome.result.1 ≡ counts_of (machine_after x c.args.steps m))) same
    (none, subst (λ x. EndsWith code x c.outcome-outcome.result.0) (sym at_end) shown, o.counts ∙ ap counts_of (sym at_end))
