use Rattle.std.proofs.Common.{refl, arith}
use Rattle.std.proofs.lemmas.Option.{slice_get_within}
use Rattle.hx_code.specs.Valid.{CarriesWell}
use Rattle.hx_code.specs.Validation.{tables_of}
use Rattle.hx_code.proofs.Validation.{one_more}
use Rattle.hx_code.proofs.validate.regions_carry_well.Goals as goal

pub loop-index-preserved : goal.loop-index-preserved
loop-index-preserved c =
    let at = rw c.deref.ensures.value at c.region_in.ensures in
    one_more c.args.tables.now.regions.items (λ r g. CarriesWell (tables_of c.args.tables.now) g) c.loop-index.index c.region_in.result.now at (c.if-not-carries_well.ensures.0 refl) c.loop-index.invariant

pub returns : goal.returns
returns c = (λ _ r g at. let lt = slice_get_within c.args.tables.now.regions.items r g at in c.loop-index.invariant r g (omega (arith, lt, c.loop-index-test.false)) at, λ _. refl)
