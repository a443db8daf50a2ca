use Rattle.std.proofs.lemmas.Result.{err_from_is_err_and}
use Rattle.hx_tree.specs.View.{program_of}
use Rattle.hx_resolved.specs.Views.{resolved_of}
use Rattle.hx_resolved.specs.Resolve.{resolve}
use Rattle.hx_check.specs.Reading.{check_program}
use Rattle.hx_check.proofs.Steps.{same_ok}
use Rattle.hx_check.proofs.Programs.{complete_program, sound_program, refuses_program}
use Rattle.hx_check.proofs.check.check.Goals as goal

pub returns-clause-accepted : goal.returns-clause-accepted
returns-clause-accepted c = sound_program (program_of c.args.program) (resolved_of c.in_ok-resolved.resolved) c.in_ok-resolved.ensures

pub invariant_of-result : goal.invariant_of-result
invariant_of-result c =
    let p = program_of c.args.program in
    let accepted = sound_program p (resolved_of c.in_ok-resolved.resolved) c.in_ok-resolved.ensures in
    (accepted, same_ok (check_program p) (resolved_of c.in_ok-resolved.resolved) (resolve p) c.in_ok-resolved.ensures (complete_program p accepted))

pub returns-in_err-resolved-clause-refused : goal.returns-in_err-resolved-clause-refused
returns-in_err-resolved-clause-refused c =
    let p = err_from_is_err_and c.from_residual.result c.from_residual.ensures.1 in
    rw (p.1, p.2) (refuses_program (program_of c.args.program) c.in_err-resolved.field-0.0 c.in_err-resolved.ensures)
