use Rattle.std.proofs.Common.{rules, ◌≡◌, Decides}
use Rattle.std.proofs.lemmas.Slice.Eq.{slice_eq-Decides}
use Rattle.hx_code.specs.declared.table.Carried.{Carried}
use Rattle.hx_code.specs.contracts.table.CarriedPartialEq.TheImpl.{eq-value}
use Rattle.hx_code.proofs.same.same_carried.Goals as goal

item_Decides : (a b : Carried) → Decides (eq-value.it a b) (a ≡ b)
item_Decides a b = search rules

pub returns : goal.returns
returns c = slice_eq-Decides {A = Carried} {E = eq-value.it} item_Decides _ _ _ c.eq.ensures
