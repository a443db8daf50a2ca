use Rattle.std.proofs.Common.{◌≡◌, ◌∙◌, ap, sym}
use Rattle.std.proofs.lemmas.Result.{IfOk-weaker}
use Rattle.hx_tree.specs.View.{program_of}
use Rattle.hx_tree.specs.Grammar.{Spells}
use Rattle.hx_tree.specs.Tree.{Program}
use Rattle.hx_case.specs.Input.{input_case}
use Rattle.hx_case.specs.Names.{input_room}
use Rattle.hx_case.proofs.Said.{is_source, spells, alone}
use Rattle.hx_case.proofs.input.case_of_input.Goals as goal

pub returns-clause-spelled : goal.returns-clause-spelled
returns-clause-spelled c =
    let source = c.args.source.now in
    let p = program_of c.in-Ok-parse.program in
    let t = c.in-Ok.ensures in
    let s = c.in-Ok-parse.ensures in
    let is = is_source source c.in-Ok.all.items c.as_slice.result.now p c.as_slice.ensures.value t.short t.found t.only s.spelled s.only in
    let said = input_case c.args.count c.input_room.result in
    IfOk-weaker c.said_of_input.result (λ v. v.items ≡ said) (λ v. (q : Program) × Spells source q) (λ v e. (p, spells source _ p is)) c.said_of_input.ensures

pub returns-clause-told : goal.returns-clause-told
returns-clause-told c =
    let source = c.args.source.now in
    let p = program_of c.in-Ok-parse.program in
    let t = c.in-Ok.ensures in
    let s = c.in-Ok-parse.ensures in
    let is = is_source source c.in-Ok.all.items c.as_slice.result.now p c.as_slice.ensures.value t.short t.found t.only s.spelled s.only in
    let said = input_case c.args.count c.input_room.result in
    IfOk-weaker c.said_of_input.result (λ v. v.items ≡ said) (λ v. (q : Program) → Spells source q → v.items ≡ input_case c.args.count (input_room q))
    (λ v e q h. e ∙ ap (input_case c.args.count) (c.input_room.ensures ∙ ap input_room (sym (alone source _ p is q h)))) c.said_of_input.ensures
