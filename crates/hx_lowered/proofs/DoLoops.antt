-- The words of a `do` keep the rules, where its body's words do.
use Rattle.std.proofs.Common.{ℕ, length, refl, arith}
use Rattle.hx_resolved.specs.Resolved.{Expr}
use Rattle.hx_code.specs.declared.word.Word.TheVariants.{JumpTrue}
use Rattle.hx_code.specs.Code.{CodeView}
use Rattle.hx_lowering.specs.Lines.{Version, expr_lines}
use Rattle.hx_lowering.specs.Draft.{Draft, Targets, do_targets, do_draft}
use Rattle.hx_lowering.proofs.Stand.{has_before, spot_stands, length-put, length-expr}
use Rattle.hx_lowered.proofs.WellFormed.{Context, FitsExpr}
use Rattle.hx_lowered.proofs.Fine.{Sits, Knows, part_and, sits_at, word_part, next_sits}
use Rattle.hx_lowered.proofs.Drafts.{Holds, Grows, grows_branch}
use Rattle.hx_lowered.proofs.Expressions.{expr_part}
use Rattle.hx_lowered.proofs.Loops.{DraftPart, LoopBody}

module _ (code : CodeView) (x : Context) (test : Expr) (size : ℕ) (v : Version) (knows : Knows code x v) where
  pub do_part : (body : Targets → Draft → Draft) (d : Draft) → ((to : Targets) (d' : Draft) → Grows code d' size (body to d')) → FitsExpr x 0 test
      → Holds code (do_draft test size body v d) → Sits code v (length (do_draft test size body v d).lines) 0 → LoopBody code v body
      → DraftPart code v d (do_draft test size body v d)
  do_part body d grows fits holds end h =
      let start = length d.lines in
      let to = do_targets test size start in
      let done = body to d in
      let tested = expr_lines test v 0 done.lines in
      let r = length d.regions in
      let r' = length done.regions in
      let at_test = (grows to d).long in
      let at_jump = length-expr test v 0 done.lines in
      let at_end = length-put v 1 (JumpTrue start) tested in
      let has_tested = has_before code v 1 (JumpTrue start) tested holds.lines in
      let holds_done = (grows_branch code test v (JumpTrue start) done).holds holds in
      let middle = expr_part code x v knows test 0 done.lines r' fits has_tested (spot_stands code v 1 (JumpTrue start) tested holds.lines) in
      let out = sits_at code v _ to.break_to 0 0 (omega (arith, at_test, at_jump, at_end)) refl end in
      let again = sits_at code v _ to.continue_to 0 0 (omega (arith, at_test)) refl middle.begins in
      let first = h to d out again holds_done middle.begins in
      let last = word_part code x v knows 1 0 (JumpTrue start) tested r' holds.lines tt (omega arith) tt tt (omega arith) (omega arith)
      (first.begins, (next_sits code x v knows 1 0 (JumpTrue start) tested end, tt)) in
      part_and code v d.lines 0 done.lines 0 _ r r' r' first (part_and code v done.lines 0 tested 1 _ r' r' r' middle last)
