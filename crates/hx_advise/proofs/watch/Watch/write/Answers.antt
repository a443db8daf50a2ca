use Rattle.std.proofs.Common.{◌<◌, length, refl, sym, subst}
use Rattle.hx_advise.specs.Watch.{WatchView, Tells}
use Rattle.hx_advise.proofs.Watches.{tells_write}
use Rattle.hx_advise.proofs.watch.Watch.write.Goals as goal

pub returns-clause-tells : goal.returns-clause-tells
returns-clause-tells c = λ es t.
    let lt = subst (λ (w : WatchView). c.args.word < length w.writers) (sym c.self.view_is) c.requires in
    let before = subst (λ (w : WatchView). Tells w es) (sym c.self.view_is) t in
    tells_write _ _ es c.args.word lt refl refl refl c.saturating_add-self-inside.ensures refl refl refl before
