use Rattle.std.proofs.Common.{refl}
use Rattle.hx_resolved.specs.Views.{resolved_of}
use Rattle.hx_lowering.specs.Draft.{draft_of}
use Rattle.hx_lower.proofs.Codes.{assembled}
use Rattle.hx_lower.proofs.program.words_and_tables.Goals as goal

pub returns-clause-code : goal.returns-clause-code
returns-clause-code c =
    let p = resolved_of c.args.program.now in
    assembled c.in_ok-draft.draft (draft_of p) p.opening p.main p.input p.input_length _ c.in_ok-draft.ensures c.in_ok-words.ensures.words
    c.in_ok-spots.ensures c.into_tables-functions.ensures.functions c.into_tables-functions.ensures.regions c.in_ok-globals.ensures.1
    c.in_ok-opening.ensures refl c.input_of.ensures refl
