use Rattle.std.proofs.Common.{arith, rules, ◌≡◌, length, None, Some, is_some, true, false, ap, sym, subst, ◌∙◌}
use Rattle.std.specs.Vec.{vec_len}
use Rattle.std.proofs.lemmas.List.{with_items_is}
use Rattle.hx_code.specs.Code.{CodeView}
use Rattle.hx_code.specs.Region.{RegionState, region_after}
use Rattle.hx_word.specs.Running.{RunView, running}
use Rattle.hx_word.proofs.RegionSteps.{region_stays}
use Rattle.hx_word.proofs.Entries.{held_by, none_there, region_reaches}
use Rattle.hx_word.proofs.region_run.RegionRun.run.Goals as goal

pub returns-then-is_some-clause-ran : goal.returns-then-is_some-clause-ran
returns-then-is_some-clause-ran c =
    let some : is_some c.self.inside.exit ≡ true = search rules in
    let held = held_by c.self.inside.exit some in
    let over : c.args.self.now.state.exit ≡ Some held.0 = sym (ap (λ (r : RunView). r.state.exit) c.self.view_is) ∙ held.1 in
    ap (λ z. record c.args.self.now { state = z }) (sym (region_stays c.args.self.now.code c.args.steps c.args.self.now.state held.0 over))

pub returns-clause-ran : goal.returns-clause-ran
returns-clause-ran c =
    let no : is_some c.self.inside.exit ≡ false = search rules in
    let none = none_there c.self.inside.exit no in
    let code = c.self.inside.code.now in
    let i = c.self.inside.iterations in
    let items = c.self.inside.store.items in
    let i' = c.run-done.new.self in
    let st' = c.run-done.new.store in
    let exit' = c.run-done.result.exit in
    let ran = subst (λ x. region_after code c.run-done.result.words (running i x None) ≡ running i' st' exit') c.deref_mut.ensures.value c.run-done.ensures.ran in
    let all = region_reaches code c.run-done.result.words c.args.steps (running i items None) (running i' st' exit') ran c.run-done.ensures.words c.run-done.ensures.all in
    let long : length st' ≡ vec_len c.self.inside.store = omega (arith, c.run-done.ensures.long, c.deref_mut.ensures.len) in
    let view : CodeView → RegionState → RunView = λ x z. record { code = x; state = z; locals = length c.self.inside.locals.items } in
    let first : view code (running i items None) ≡ c.args.self.now = ap (λ e. view code (running i items e)) (sym none) ∙ c.self.view_is in
    ap (λ x. view code (running i' x exit')) (with_items_is c.self.inside.store st' long) ∙ ap (view code) (sym all) ∙ ap (λ (r : RunView). record r { state = region_after r.code c.args.steps r.state }) first
