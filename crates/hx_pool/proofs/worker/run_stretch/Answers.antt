use Rattle.std.proofs.Common.{◌≡◌, sym, subst, ap, ◌∙◌}
use Rattle.hx_code.specs.Valid.{IsValid}
use Rattle.hx_pool.specs.Setups.{StopFits}
use Rattle.hx_pool.proofs.Asked.{stop_fits}
use Rattle.hx_frame.specs.Frame.{FrameView}
use Rattle.hx_pool.proofs.worker.run_stretch.Goals as goal

pub returns-clause-fits : goal.returns-clause-fits
returns-clause-fits c =
    let f : FrameView = c.run-stop.new.self in
    let same : f.code ≡ c.args.frame.now.code = ap (λ (x : FrameView). x.code) c.run-stop.ensures.ran in
    let valid : IsValid f.code = subst IsValid (c.code.ensures ∙ sym same) c.known.ensures in
    let fits = stop_fits f valid c.known-2.ensures.here c.known-2.ensures.truth.needed in
    subst (λ k. StopFits k c.run-stop.result) same (subst (StopFits f.code) (sym c.run-stop.ensures.stop) fits)
