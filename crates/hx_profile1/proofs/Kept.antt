-- What holds of the tree of today holds of the one that is made, where its items are the same.
use Rattle.std.proofs.Common.{◌≡◌, List, map, sym, subst}
use Rattle.hx_tree.specs.Tree as tree
use Rattle.hx_profile1.specs.Tree as old
use Rattle.hx_profile1.specs.Lifted.{lift_item, lifted}

pub made_so : (p : old.Program) (P : tree.Program → Type 0) (items : List tree.Item) → items ≡ map lift_item p.items → P (lifted p) → P (record { items = items })
made_so p P items e h = subst (λ is. P (record { items = is })) (sym e) h
