use Rattle.std.proofs.Common.{refl, sym, subst}
use Rattle.hx_advise.specs.Watch.{WatchView, Tells}
use Rattle.hx_advise.proofs.Watches.{tells_end}
use Rattle.hx_advise.proofs.watch.Watch.end_turn.Goals as goal

pub returns-clause-tells : goal.returns-clause-tells
returns-clause-tells c = λ es t.
    let before = subst (λ (w : WatchView). Tells w es) (sym c.self.view_is) t in
    tells_end _ _ es refl refl refl refl refl refl refl before
