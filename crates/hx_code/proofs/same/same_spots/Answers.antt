use Rattle.std.proofs.Common.{rules, ◌≡◌, Decides}
use Rattle.std.proofs.lemmas.Slice.Eq.{slice_eq-Decides}
use Rattle.hx_code.specs.declared.table.Spot.{Spot}
use Rattle.hx_code.specs.contracts.table.SpotPartialEq.TheImpl.{eq-value}
use Rattle.hx_code.proofs.same.same_spots.Goals as goal

item_Decides : (a b : Spot) → Decides (eq-value.it a b) (a ≡ b)
item_Decides a b = search rules

pub returns : goal.returns
returns c = slice_eq-Decides {A = Spot} {E = eq-value.it} item_Decides _ _ _ c.eq.ensures
