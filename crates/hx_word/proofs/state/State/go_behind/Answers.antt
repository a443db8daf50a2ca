use Rattle.std.proofs.Common.{◌≡◌, ap, sym, subst, ◌∙◌}
use Rattle.hx_code.specs.Code.{RegionView, region_of}
use Rattle.hx_code.specs.Local.{with_calls}
use Rattle.hx_code.specs.Machine.{goes_behind, left_to}
use Rattle.hx_code.proofs.Regions.{the_region}
use Rattle.hx_word.proofs.MachineSteps.{out_of}
use Rattle.hx_word.proofs.Behind.{some_waits, region_known, has_caller}
use Rattle.hx_word.proofs.state.State.go_behind.Goals as goal

pub region_at-region-requires : goal.region_at-region-requires
region_at-region-requires c = region_known _ _ _ c.requires.waits.calls

pub leave_to-requires : goal.leave_to-requires
leave_to-requires c = some_waits _ _ _ c.requires.waits.calls

pub close-requires : goal.close-requires
close-requires c = has_caller _ c.known.ensures _ _ (λ one. c.if-calls-eq1.false (c.calls.ensures.calls ∙ one)) c.requires.waits.calls

pub returns-in-Left-clause-behind : goal.returns-in-Left-clause-behind
returns-in-Left-clause-behind c =
    let code = c.args.code.now in
    let l = c.args.self.now.calls in
    let m = out_of c.args.self.now in
    let r = c.args.self.now.iterations.opened.region in
    let words = c.args.self.now.iterations.opened.words in
    let g = c.region_at-region.result.now in
    let exit : c.region.inside.exit ≡ (region_of code r).exit = ap (λ (x : RegionView). x.exit) (c.region.view_is ∙ sym (the_region code r g c.region_at-region.ensures)) in
    let same : c.leave_to.new.self ≡ with_calls l (left_to (region_of code r).exit words l.calls) = c.leave_to.ensures ∙ ap (λ p. with_calls l (left_to p words l.calls)) exit in
    subst (λ e. record m { local = c.leave_to.new.self } ≡ goes_behind code r e words m) (sym c.in-Left.is) (ap (λ x. record m { local = x }) same)
