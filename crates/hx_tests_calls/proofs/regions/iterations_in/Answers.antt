use Rattle.std.proofs.Common.{ap, refl}
use Rattle.hx_code.specs.Local.{LocalView}
use Rattle.hx_tests_calls.proofs.regions.iterations_in.Goals as goal

pub iterate-done-requires-clause-inside : goal.iterate-done-requires-clause-inside
iterate-done-requires-clause-inside c = ap (λ (l : LocalView). l.region) (c.begin.ensures.begun (record { region = 0; below = 0; words = _; printed = 0 }) refl refl refl)
