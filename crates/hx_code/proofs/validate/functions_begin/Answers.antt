use Rattle.std.proofs.Common.{None, arith, ap, refl}
use Rattle.std.proofs.lemmas.Option.{slice_get_within}
use Rattle.hx_code.specs.Code.{FuncView}
use Rattle.hx_code.specs.Valid.{IsSpotAt}
use Rattle.hx_code.specs.Validation.{tables_of}
use Rattle.hx_code.proofs.Validation.{one_more}
use Rattle.hx_code.proofs.validate.functions_begin.Goals as goal

pub loop-index-preserved : goal.loop-index-preserved
loop-index-preserved c =
    let at = rw c.deref.ensures.value at c.function_in-function.ensures in
    let spot = rw (c.deref-in-loop-index.ensures.value, ap (λ (f : FuncView). f.entry) c.function.view_is) at (c.if-not-is_spot_at.ensures.0 refl) in
    one_more c.args.tables.now.functions.items (λ f g. IsSpotAt (tables_of c.args.tables.now) g.entry f None) c.loop-index.index c.function_in-function.result.now at spot c.loop-index.invariant

pub returns-then-not-is_spot_at : goal.returns-then-not-is_spot_at
returns-then-not-is_spot_at c = (
  λ e. absurd cc,
  λ all.
      let at = rw c.deref.ensures.value at c.function_in-function.ensures in
      let spot = all c.loop-index.index c.function_in-function.result.now at in
      c.if-not-is_spot_at.ensures.1 (rw (c.deref-in-loop-index.ensures.value, ap (λ (f : FuncView). f.entry) c.function.view_is) spot),
)

pub returns : goal.returns
returns c = (λ _ f g at. let lt = slice_get_within c.args.tables.now.functions.items f g at in c.loop-index.invariant f g (omega (arith, lt)) at, λ _. refl)
