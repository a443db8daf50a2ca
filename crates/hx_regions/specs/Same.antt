-- When two local states are the same.
use Rattle.std.specs.Prelude.{ℕ, List, [], ◌∷◌, Option, Some, None, Bool, true, false, ◌&&◌, ◌==◌}
use Rattle.hx_code.specs.Call.{CallView}
use Rattle.hx_code.specs.Local.{LocalView}
use Rattle.hx_speculation.specs.Board.{same_value}

-- as long, and the same at each place
abbrev pub same_list : {A : Type 0} → (A → A → Bool) → List A → List A → Bool
same_list same [] [] = true
same_list same (x ∷ xs) (y ∷ ys) = same x y && same_list same xs ys
same_list same _ _ = false

abbrev pub same_call : CallView → CallView → Bool
same_call c d = (c.place == d.place) && (same_list same_value c.privates d.privates && same_list same_value c.operands d.operands)

abbrev pub same_region : Option ℕ → Option ℕ → Bool
same_region None None = true
same_region (Some r) (Some s) = r == s
same_region _ _ = false

abbrev pub same_local : LocalView → LocalView → Bool
same_local p q = (p.below == q.below) && (same_region p.region q.region && same_list same_call p.calls q.calls)
