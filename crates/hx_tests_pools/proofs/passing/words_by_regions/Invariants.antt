-- The machine at hand has the code that the first was made of, and is what is kept of one.
use Rattle.std.proofs.Common.{◌≡◌}
use Rattle.hx_code.specs.Machine.{Machine}
use Rattle.hx_word.specs.Plain.{one_store}
use Rattle.hx_tests_pools.proofs.passing.words_by_regions.Given as goal

abbrev pub invariant-loop : goal.invariant-loop
invariant-loop g l = (l.plain.code ≡ l.code) × (m : Machine) × (one_store m ≡ l.plain.machine)
