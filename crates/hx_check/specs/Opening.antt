-- Items of which all constants and lengths are in range.
use Rattle.std.specs.Prelude.{All}
use Rattle.hx_tree.specs.declared.tree.Item.{Item}
use Rattle.hx_tree.specs.declared.tree.Item.TheVariants as item
use Rattle.hx_tree.specs.View.{shape_of}
use Rattle.hx_tree.specs.Accepted.{AcceptsShape}

abbrev pub GlobalsFit : Item → Type 0
GlobalsFit (item.Globals gs) = All (λ g. AcceptsShape (shape_of g.shape)) gs.items
GlobalsFit (item.Function f) = Unit {0}
