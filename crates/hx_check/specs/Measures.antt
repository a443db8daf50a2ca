-- Measures of the initialisers of a declaration.
use Rattle.std.specs.Prelude.{ℕ, List}
use Rattle.hx_tree.specs.Tree.{LocalDecl}
use Rattle.hx_tree.specs.Height.{greatest, if_there, height}

abbrev pub greatest_value : List LocalDecl → ℕ
greatest_value ds = greatest (λ d. if_there height d.init) ds
