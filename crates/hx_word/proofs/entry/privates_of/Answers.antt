use Rattle.std.proofs.Common.{arith, ◌<◌, length, Some, ap, sym, subst, ◌∙◌}
use Rattle.std.specs.Prelude.{slice_get}
use Rattle.std.proofs.lemmas.Option.{slice_get_within}
use Rattle.hx_code.specs.Code.{FuncView, RegionView}
use Rattle.hx_code.specs.Valid.{IsSpot, IsSmallFunction, privates_of as count_of}
use Rattle.hx_code.proofs.Rooms.{all_at}
use Rattle.hx_code.proofs.Regions.{the_region}
use Rattle.hx_word.specs.Entry.{function_in}
use Rattle.hx_word.proofs.entry.privates_of.Goals as goal

pub spot_at-spot-requires : goal.spot_at-spot-requires
spot_at-spot-requires c =
    let begins = c.known.ensures.regions c.args.region c.region_at.result.now c.region_at.ensures in
    subst (λ p. p < length c.args.code.now.spots) (sym (ap (λ (g : RegionView). g.start) c.behind-code.view_is)) (slice_get_within c.args.code.now.spots c.region_at.result.now.start (record { function = begins.spot.function; region = Some c.args.region; height = 0 }) begins.start)

pub function_at-requires : goal.function_at-requires
function_at-requires c =
    (all_at (IsSpot c.args.code.now) c.args.code.now.spots c.behind-code.inside.start c.spot_at-spot.result c.known.ensures.spots.known c.spot_at-spot.ensures).0

pub returns-clause-same : goal.returns-clause-same
returns-clause-same c =
    let code = c.args.code.now in
    let start = ap (λ (g : RegionView). g.start) (c.behind-code.view_is ∙ sym (the_region code c.args.region c.region_at.result.now c.region_at.ensures)) in
    let spot = ap (slice_get code.spots) (sym start) ∙ c.spot_at-spot.ensures in
    let function = ap (slice_get code.functions) (ap function_in spot) ∙ c.function_at.ensures in
    ap (λ (f : FuncView). f.privates) c.behind-code-2.view_is ∙ sym (ap count_of function)

pub returns-clause-few : goal.returns-clause-few
returns-clause-few c =
    let small = all_at IsSmallFunction c.args.code.now.functions c.spot_at-spot.result.function c.function_at.result.now c.known.ensures.limits.small c.function_at.ensures in
    let most = small.2 in
    omega (arith, most, ap (λ (f : FuncView). f.privates) c.behind-code-2.view_is)
