use Rattle.std.proofs.Common.{rules}
use Rattle.hx_tree.specs.View.{program_of}
use Rattle.hx_lowering.specs.Correct.{Behaves}
use Rattle.hx_run.proofs.Sources.{checker_refuses}
use Rattle.hx_run.proofs.Headline.{compiled}
use Rattle.hx_run.proofs.source.compile.Goals as goal

pub returns-in_err-checked-clause-refused : goal.returns-in_err-checked-clause-refused
returns-in_err-checked-clause-refused c =
    let refuses = checker_refuses c.args.source.now (program_of c.in_ok-program.program) c.in_err-checked.field-0.0 c.in_ok-program.ensures.spelled c.in_err-checked.ensures.refused in
    search rules

pub returns-clause-code : goal.returns-clause-code
returns-clause-code c =
    let behaves : Behaves (program_of c.in_ok-program.program) c.in_ok-lower.field-0 = search rules in
    compiled c.args.source.now (program_of c.in_ok-program.program) c.in_ok-lower.field-0 c.in_ok-program.ensures.spelled c.in_ok-checked.ensures.accepted behaves
