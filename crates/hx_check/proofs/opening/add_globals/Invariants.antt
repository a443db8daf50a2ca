use Rattle.std.proofs.Common.{◌≡◌, ◌++◌, take, map}
use Rattle.std.specs.Prelude.{flat_map}
use Rattle.hx_tree.specs.View.{global_of}
use Rattle.hx_tree.specs.Meaning.{opening_words}
use Rattle.hx_check.proofs.opening.add_globals.Given as goal

abbrev pub invariant-loop-g : goal.invariant-loop-g
invariant-loop-g l =
    l.out.items ≡ l.initial.out.items ++ flat_map (λ g. opening_words g.shape) (map global_of (take l.g-index l.globals))
