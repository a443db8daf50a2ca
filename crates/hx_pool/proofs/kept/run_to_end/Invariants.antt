use Rattle.std.proofs.Common.{◌≡◌, ℕ}
use Rattle.hx_code.specs.Region.{region_after}
use Rattle.hx_pool.proofs.kept.run_to_end.Given as goal

abbrev pub invariant-loop : goal.invariant-loop
invariant-loop g l =
    (goal.iterator-loop g).can_next l.iterator' × (goal.iterator-loop g).is_finite l.iterator'
    × (l.run.code ≡ l.fn.run.code)
    × (l.run.locals ≡ l.fn.run.locals)
    × ((n : ℕ) × (l.run.state ≡ region_after l.fn.run.code n l.fn.run.state))
