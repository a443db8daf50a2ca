use Rattle.std.proofs.Common.{◌≡◌, ◌∙◌, true, false}
use Rattle.hx_tree.specs.View.{program_of}
use Rattle.hx_resolved.specs.Views.{resolved_of}
use Rattle.hx_lower.proofs.Codes.{is_valid, does}
use Rattle.hx_lower.proofs.lowering.lower.Goals as goal

-- valid code isn't refused
pub unreachable-requires : goal.unreachable-requires
unreachable-requires c =
    let refused : false ≡ true = c.in-None.ensures.valid.1
    (is_valid c.lowered_code_is_valid.ensures (program_of c.args.checked.now) (resolved_of c.program-program.result.now) _
    c.program-program.ensures.accepted c.program-program.ensures.resolved c.in_ok-words.ensures.code c.in_ok-words.ensures.few) in
    cc

pub returns-clause-behaves : goal.returns-clause-behaves
returns-clause-behaves c =
    does c.code_behaves.ensures (program_of c.args.checked.now) (resolved_of c.program-program.result.now) c.in-Some.code
    c.program-program.ensures.accepted c.program-program.ensures.resolved (c.in-Some.ensures.code ∙ c.in_ok-words.ensures.code)
