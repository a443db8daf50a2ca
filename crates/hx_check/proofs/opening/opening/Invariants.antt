use Rattle.std.proofs.Common.{◌≡◌, take, map}
use Rattle.std.specs.Prelude.{flat_map}
use Rattle.hx_tree.specs.View.{item_of}
use Rattle.hx_tree.specs.Meaning.{opening_words, item_globals}
use Rattle.hx_check.proofs.opening.opening.Given as goal

abbrev pub invariant-loop-item : goal.invariant-loop-item
invariant-loop-item l =
    l.all.items ≡ flat_map (λ g. opening_words g.shape) (flat_map item_globals (map item_of (take l.item-index l.items)))
