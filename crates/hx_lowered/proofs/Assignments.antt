-- The words of assignments, declarations, tests and steps keep the rules.
use Rattle.std.proofs.Common.{ℕ, List, [], ◌∷◌, length, Option, Some, None, refl, arith}
use Rattle.hx_resolved.specs.Resolved as resolved
use Rattle.hx_resolved.specs.Resolved.{Expr, Assignment, Simple}
use Rattle.hx_code.specs.declared.word.Word.TheVariants.{SetGlob, Glob, Elem, SetElem, Dup, Binary, JumpFalse}
use Rattle.hx_code.specs.Code.{CodeView}
use Rattle.hx_lowering.specs.declared.line.Line.{Line}
use Rattle.hx_lowering.specs.Lines.{Version, put, get_private, array_of, expr_lines, assignment_lines, simple_lines, simples_lines, test_lines, step_lines}
use Rattle.hx_lowering.proofs.Stand.{Has, has_before, has_expr}
use Rattle.hx_lowered.proofs.WellFormed.{Context, FitsExpr, FitsAssignment, FitsSimple, FitsSimples, FitsTest, FitsStep}
use Rattle.hx_lowered.proofs.Fine.{Sits, fine_none, Knows, Part, part_and, word_part, next_sits}
use Rattle.hx_lowered.proofs.Behind.{behind_simples}
use Rattle.hx_lowered.proofs.Expressions.{get_part, set_part, next_part, array_known, word_known, expr_part}

module _ (code : CodeView) (c : Context) (v : Version) (knows : Knows code c v) where
  pub assignment_part : (a : Assignment) (lines : List Line) (r : ℕ) → FitsAssignment c a → Has code (assignment_lines a v lines)
      → Sits code v (length (assignment_lines a v lines)) 0 → Part code v lines 0 (assignment_lines a v lines) r r
  assignment_part (resolved.Set (resolved.ToPrivate k) e) lines r f has end =
      let a = expr_lines e v 0 lines in
      let p = set_part code c v knows k a r has f.0 end in
      part_and code v lines 0 a 1 _ r r r (expr_part code c v knows e 0 lines r f.1 (has_before code v 1 _ a has) p.begins) p
  assignment_part (resolved.Set (resolved.ToWord w) e) lines r f has end =
      let a = expr_lines e v 0 lines in
      let p = next_part code c v knows 1 0 (SetGlob w) a r has tt (omega arith) (word_known code c v knows w f.0) tt (omega arith) (omega arith) refl end in
      part_and code v lines 0 a 1 _ r r r (expr_part code c v knows e 0 lines r f.1 (has_before code v 1 _ a has) p.begins) p
  assignment_part (resolved.Set (resolved.ToElement words at i) e) lines r f has end =
      let a = expr_lines i v 0 lines in
      let b = expr_lines e v 1 a in
      let p = next_part code c v knows 2 0 (SetElem (array_of words) at) b r has tt (omega arith) (array_known code c v knows words f.0) tt (omega arith) (omega arith) refl end in
      let has_b = has_before code v 2 _ b has in
      let q = expr_part code c v knows e 1 a r f.2 has_b p.begins in
      let o = expr_part code c v knows i 0 lines r f.1 (has_expr code e v 1 a has_b) q.begins in
      part_and code v lines 0 a 1 _ r r r o (part_and code v a 1 b 2 _ r r r q p)
  assignment_part (resolved.Update (resolved.ToPrivate k) op at e) lines r f has end =
      let a = put v 0 (get_private v k) lines in
      let b = expr_lines e v 1 a in
      let d = put v 2 (Binary op at) b in
      let has_d = has_before code v 1 _ d has in
      let has_b = has_before code v 2 _ b has_d in
      let has_a = has_expr code e v 1 a has_b in
      let part_d = set_part code c v knows k d r has f.0 end in
      let part_b = next_part code c v knows 2 1 (Binary op at) b r has_d tt (omega arith) tt tt (omega arith) (omega arith) refl part_d.begins in
      let part_a = expr_part code c v knows e 1 a r f.1 has_b part_b.begins in
      let part = get_part code c v knows 0 k lines r has_a (omega arith) f.0 part_a.begins in
      part_and code v lines 0 a 1 _ r r r part (part_and code v a 1 b 2 _ r r r part_a (part_and code v b 2 d 1 _ r r r part_b part_d))
  assignment_part (resolved.Update (resolved.ToWord w) op at e) lines r f has end =
      let a = put v 0 (Glob w) lines in
      let b = expr_lines e v 1 a in
      let d = put v 2 (Binary op at) b in
      let has_d = has_before code v 1 _ d has in
      let has_b = has_before code v 2 _ b has_d in
      let has_a = has_expr code e v 1 a has_b in
      let part_d = next_part code c v knows 1 0 (SetGlob w) d r has tt (omega arith) (word_known code c v knows w f.0) tt (omega arith) (omega arith) refl end in
      let part_b = next_part code c v knows 2 1 (Binary op at) b r has_d tt (omega arith) tt tt (omega arith) (omega arith) refl part_d.begins in
      let part_a = expr_part code c v knows e 1 a r f.1 has_b part_b.begins in
      let part = next_part code c v knows 0 1 (Glob w) lines r has_a tt (omega arith) (word_known code c v knows w f.0) tt (omega arith) (omega arith) refl part_a.begins in
      part_and code v lines 0 a 1 _ r r r part (part_and code v a 1 b 2 _ r r r part_a (part_and code v b 2 d 1 _ r r r part_b part_d))
  assignment_part (resolved.Update (resolved.ToElement words place i) op at e) lines r f has end =
      let a = expr_lines i v 0 lines in
      let b = put v 1 Dup a in
      let d = put v 2 (Elem (array_of words) place) b in
      let g = expr_lines e v 2 d in
      let j = put v 3 (Binary op at) g in
      let has_j = has_before code v 2 _ j has in
      let has_g = has_before code v 3 _ g has_j in
      let has_d = has_expr code e v 2 d has_g in
      let has_b = has_before code v 2 _ b has_d in
      let has_a = has_before code v 1 _ a has_b in
      let known = array_known code c v knows words f.0 in
      let part_j = next_part code c v knows 2 0 (SetElem (array_of words) place) j r has tt (omega arith) known tt (omega arith) (omega arith) refl end in
      let part_g = next_part code c v knows 3 2 (Binary op at) g r has_j tt (omega arith) tt tt (omega arith) (omega arith) refl part_j.begins in
      let part_d = expr_part code c v knows e 2 d r f.2 has_g part_g.begins in
      let part_b = next_part code c v knows 2 2 (Elem (array_of words) place) b r has_d tt (omega arith) known tt (omega arith) (omega arith) refl part_d.begins in
      let part_a = next_part code c v knows 1 2 Dup a r has_b tt (omega arith) tt tt (omega arith) (omega arith) refl part_b.begins in
      let part = expr_part code c v knows i 0 lines r f.1 has_a part_a.begins in
      part_and code v lines 0 a 1 _ r r r part (part_and code v a 1 b 2 _ r r r part_a (part_and code v b 2 d 2 _ r r r part_b
      (part_and code v d 2 g 3 _ r r r part_d (part_and code v g 3 j 2 _ r r r part_g part_j))))

  pub simple_part : (s : Simple) (lines : List Line) (r : ℕ) → FitsSimple c s → Has code (simple_lines s v lines)
      → Sits code v (length (simple_lines s v lines)) 0 → Part code v lines 0 (simple_lines s v lines) r r
  simple_part (resolved.Declare k e) lines r f has end =
      let a = expr_lines e v 0 lines in
      let p = set_part code c v knows k a r has f.0 end in
      part_and code v lines 0 a 1 _ r r r (expr_part code c v knows e 0 lines r f.1 (has_before code v 1 _ a has) p.begins) p
  simple_part (resolved.Assign a) lines r f has end = assignment_part a lines r f has end

  pub simples_part : (ss : List Simple) (lines : List Line) (r : ℕ) → FitsSimples c ss → Has code (simples_lines ss v lines)
      → Sits code v (length (simples_lines ss v lines)) 0 → Part code v lines 0 (simples_lines ss v lines) r r
  simples_part [] lines r f has end = record { fine = fine_none code (length lines) r; begins = end }
  simples_part (s ∷ ss) lines r f has end =
      let a = simple_lines s v lines in
      let p = simples_part ss a r f.1 has end in
      part_and code v lines 0 a 0 _ r r r (simple_part s lines r f.0 ((behind_simples code ss v a).has has) p.begins) p

  -- an expression, and a jump where it is 0
  pub branch_part : (e : Expr) (exit : ℕ) (lines : List Line) (r : ℕ) → FitsExpr c 0 e → Has code (put v 1 (JumpFalse exit) (expr_lines e v 0 lines))
      → Sits code v exit 0 → Sits code v (length (put v 1 (JumpFalse exit) (expr_lines e v 0 lines))) 0 → Part code v lines 0 (put v 1 (JumpFalse exit) (expr_lines e v 0 lines)) r r
  branch_part e exit lines r f has out end =
      let a = expr_lines e v 0 lines in
      let p = word_part code c v knows 1 0 (JumpFalse exit) a r has tt (omega arith) tt tt (omega arith) (omega arith) (out, (next_sits code c v knows 1 0 (JumpFalse exit) a end, tt)) in
      part_and code v lines 0 a 1 _ r r r (expr_part code c v knows e 0 lines r f (has_before code v 1 _ a has) p.begins) p

  pub test_part : (t : Option Expr) (exit : ℕ) (lines : List Line) (r : ℕ) → FitsTest c t → Has code (test_lines t exit v lines)
      → Sits code v exit 0 → Sits code v (length (test_lines t exit v lines)) 0 → Part code v lines 0 (test_lines t exit v lines) r r
  test_part None exit lines r f has out end = record { fine = fine_none code (length lines) r; begins = end }
  test_part (Some e) exit lines r f has out end = branch_part e exit lines r f has out end

  pub step_part : (s : Option Assignment) (lines : List Line) (r : ℕ) → FitsStep c s → Has code (step_lines s v lines)
      → Sits code v (length (step_lines s v lines)) 0 → Part code v lines 0 (step_lines s v lines) r r
  step_part None lines r f has end = record { fine = fine_none code (length lines) r; begins = end }
  step_part (Some a) lines r f has end = assignment_part a lines r f has end
