use Rattle.std.proofs.Common.{◌≡◌, drop}
use Rattle.hx_check.specs.Reading.{constants_fit}
use Rattle.hx_check.proofs.declare.constants_fit.Given as goal

abbrev pub invariant-loop-constant : goal.invariant-loop-constant
invariant-loop-constant l = constants_fit l.constants ≡ constants_fit (drop l.constant-index l.constants)
