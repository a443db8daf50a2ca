use Rattle.std.proofs.Common.{◌≡◌, ◌++◌, take, map}
use Rattle.hx_tree.specs.Meaning.{constant_value}
use Rattle.hx_check.proofs.opening.add_constants.Given as goal

abbrev pub invariant-loop-c : goal.invariant-loop-c
invariant-loop-c l = l.out.items ≡ l.initial.out.items ++ map constant_value (take l.c-index l.constants)
