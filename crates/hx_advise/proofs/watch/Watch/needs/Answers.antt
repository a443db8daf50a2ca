use Rattle.std.proofs.Common.{◌≡◌, sym, subst, List}
use Rattle.hx_advise.specs.declared.watch.Need.{Need}
use Rattle.hx_advise.specs.Watch.{WatchView, IsNeed, need_at, Tells}
use Rattle.hx_advise.proofs.watch.Watch.needs.Goals as goal

pub returns-clause-told : goal.returns-clause-told
returns-clause-told c = λ es t a.
    let now = subst (λ (w : WatchView). Tells w es) (sym c.self.view_is) t in
    subst (λ (ns : List Need). IsNeed es (λ b. b ≡ a) (need_at ns a)) (sym c.deref.ensures.value) (now.needs a).need
