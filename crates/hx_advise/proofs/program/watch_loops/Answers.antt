use Rattle.std.proofs.Common.{◌≡◌, ◌-◌, ◌≤◌, List, Some, None, length, refl, ap, sym, subst, ◌∙◌, arith}
use Rattle.std.proofs.lemmas.List.{with_items_is}
use Rattle.hx_code.specs.Code.{CodeView}
use Rattle.hx_code.specs.Machine.{machine_after}
use Rattle.hx_word.specs.declared.plain.Paused.TheVariants.{At, Ended, More}
use Rattle.hx_word.specs.Ran.{PausedFrom}
use Rattle.hx_advise.specs.declared.program.Seen.{Seen}
use Rattle.hx_advise.specs.Runs.{Stands, OpensAs, Passed}
use Rattle.hx_advise.proofs.Runs.{more_stands, passed_stands, stopped_advice, ended_advice}
use Rattle.hx_advise.proofs.program.watch_loops.Goals as goal

pub returns-in-Ended : goal.returns-in-Ended
returns-in-Ended c =
    let code = c.args.code.now in
    let m = c.args.plain.machine in
    let s = c.loop-left.invariant in
    let n = c.min-some.result in
    let now = machine_after code s.words m in
    let le : n ≤ c.loop-left.left = omega (arith, c.min-some.ensures) in
    let e = subst (λ (k : CodeView). PausedFrom k now n (Ended c.in-Ended.field-0 c.in-Ended.field-1)) s.same (c.in-Ended.ensures now s.is) in
    ended_advice code m c.args.steps c.loop-left.left c.loop-left.plain c.loop-left.loops.items s n _ c.in-Ended.field-0.end le e.0 e.1.end refl refl

pub loop-left-preserved-in-More : goal.loop-left-preserved-in-More
loop-left-preserved-in-More c =
    let code = c.args.code.now in
    let m = c.args.plain.machine in
    let s = c.loop-left.invariant in
    let n = c.min-some.result in
    let now = machine_after code s.words m in
    let le : n ≤ c.loop-left.left = omega (arith, c.min-some.ensures) in
    let e = subst (λ (k : CodeView). PausedFrom k now n (More c.in-More.more)) s.same (c.in-More.ensures now s.is) in
    more_stands code m c.args.steps c.loop-left.left c.loop-left.plain c.loop-left.loops.items s n c.in-More.more le e.0 e.1 e.2

pub returns-in-None : goal.returns-in-None
returns-in-None c =
    let code = c.args.code.now in
    let m = c.args.plain.machine in
    let s = c.loop-left.invariant in
    let n = c.min-some.result in
    let o = c.in-At.open in
    let now = machine_after code s.words m in
    let items = c.loop-left.loops.items in
    let new = c.pass.new.loops in
    let le : n ≤ c.loop-left.left = omega (arith, c.min-some.ensures) in
    let block : n ≤ 256 = omega (arith, c.min-some.ensures) in
    let e = subst (λ (k : CodeView). PausedFrom k now n (At o)) s.same (c.in-At.ensures now s.is) in
    let opens : OpensAs code (machine_after code e.0 now) o = record { opens = e.3; here = e.5 } in
    let passed = subst (λ r. Passed code o (c.loop-left.left - n) c.deref_mut.result.now new r) c.in-None.is c.in_ok-pass-in-At.ensures.passed in
    let p = (subst (λ (xs : List Seen). Passed code o (c.loop-left.left - n) xs new None) c.deref_mut.ensures.value passed) (machine_after code e.0 now) opens in
    let long : length new ≡ length items = c.pass.ensures.long ∙ ap length c.deref_mut.ensures.value in
    let len : length new ≡ c.loop-left.loops.len = omega (arith, c.pass.ensures.long, c.deref_mut.ensures.len) in
    stopped_advice code m c.args.steps c.loop-left.left c.loop-left.plain items s e.0 (c.loop-left.left - n) o new e.2 opens p.0 n _ le block e.1 refl long p.1 refl (with_items_is c.loop-left.loops new len)

pub loop-left-preserved : goal.loop-left-preserved
loop-left-preserved c =
    let code = c.args.code.now in
    let m = c.args.plain.machine in
    let s = c.loop-left.invariant in
    let n = c.min-some.result in
    let o = c.in-At.open in
    let now = machine_after code s.words m in
    let items = c.loop-left.loops.items in
    let new = c.pass.new.loops in
    let le : n ≤ c.loop-left.left = omega (arith, c.min-some.ensures) in
    let block : n ≤ 256 = omega (arith, c.min-some.ensures) in
    let e = subst (λ (k : CodeView). PausedFrom k now n (At o)) s.same (c.in-At.ensures now s.is) in
    let opens : OpensAs code (machine_after code e.0 now) o = record { opens = e.3; here = e.5 } in
    let passed = subst (λ r. Passed code o (c.loop-left.left - n) c.deref_mut.result.now new r) c.in-Some.is c.in_ok-pass-in-At.ensures.passed in
    let p = subst (λ (xs : List Seen). Passed code o (c.loop-left.left - n) xs new (Some (c.in-Some.behind, c.in-Some.words))) c.deref_mut.ensures.value passed in
    let g = p.1 (machine_after code e.0 now) opens in
    let long : length new ≡ length items = c.pass.ensures.long ∙ ap length c.deref_mut.ensures.value in
    let len : length new ≡ c.loop-left.loops.len = omega (arith, c.pass.ensures.long, c.deref_mut.ensures.len) in
    subst (λ (xs : List Seen). Stands code m c.args.steps (c.loop-left.left - n - c.in-Some.words) c.in-Some.behind xs) (sym (with_items_is c.loop-left.loops new len))
    (passed_stands code m c.args.steps c.loop-left.left c.loop-left.plain items s e.0 c.in-Some.words o new e.2 opens g.0 n c.in-Some.behind le block e.1 p.0 long g.1)
