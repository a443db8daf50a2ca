use Rattle.std.proofs.lemmas.Grind.{common_steps}
use Rattle.std.proofs.Common.{arith}
use Rattle.hx_check.specs.Views.{declared_of}
use Rattle.hx_check.proofs.Programs.{globals_fit}
use Rattle.hx_check.proofs.check.resolved.Goals as goal

pub opening-requires : goal.opening-requires
opening-requires c =
    rw c.deref-3.ensures.value (globals_fit c.args.program.now.items.items (declared_of c.in_ok-symbols.symbols) (rw c.deref.ensures.value at c.in_ok-symbols.ensures))

pub overflow_cast-program_fits : goal.overflow_cast-program_fits
overflow_cast-program_fits c = grind (arith, common_steps)

pub returns-then-not-program_fits : goal.returns-then-not-program_fits
returns-then-not-program_fits c = grind (arith, common_steps)

pub returns-in_err-symbols : goal.returns-in_err-symbols
returns-in_err-symbols c = grind (arith, common_steps)

pub returns-in_err-main : goal.returns-in_err-main
returns-in_err-main c = grind (arith, common_steps)

pub returns-in_err-functions : goal.returns-in_err-functions
returns-in_err-functions c = grind (arith, common_steps)

pub returns-in_err-opening : goal.returns-in_err-opening
returns-in_err-opening c = grind (arith, common_steps)

pub returns : goal.returns
returns c = grind (arith, common_steps)
