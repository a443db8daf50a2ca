-- A store with a table laid over it.
use Rattle.std.specs.Prelude.{ℕ, suc, ℤ, List, [], ◌∷◌, Option, Some, None}
use Rattle.hx_marks.specs.Table.{Table, look}

abbrev pub or_else : Option ℤ → ℤ → ℤ
or_else (Some v) x = v
or_else None x = x

-- words from n on, each with the table's value where it has one
abbrev pub overlay_from : ℕ → Table → List ℤ → List ℤ
overlay_from n t [] = []
overlay_from n t (x ∷ xs) = or_else (look t n) x ∷ overlay_from (suc n) t xs

-- each word of the store has the table's value, if there is one, and else its own
abbrev pub overlay : Table → List ℤ → List ℤ
overlay t store = overlay_from 0 t store
