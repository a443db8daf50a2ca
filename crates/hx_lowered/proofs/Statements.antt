-- The words of statements keep the rules.
use Rattle.std.proofs.Common.{◌≡◌, ℕ, ◌+◌, Bool, true, [], ◌∷◌, length, None, refl, arith}
use Rattle.std.specs.Prelude.{IsTrue, IsFalse}
use Rattle.hx_resolved.specs.Resolved as resolved
use Rattle.hx_resolved.specs.Resolved.{Expr, Clauses, LoopKind, Stmt, Stmts}
use Rattle.hx_code.specs.declared.word.Word.{Word}
use Rattle.hx_code.specs.declared.word.Word.TheVariants.{Drop, Jump, JumpFalse, Call, Ret, Print, Emit}
use Rattle.hx_code.specs.Code.{CodeView}
use Rattle.hx_code.specs.Valid.{NamesKnown, StandsRight, pops, pushes, successors}
use Rattle.hx_lowering.specs.Size.{expr_size, stmt_size}
use Rattle.hx_lowering.specs.Lines.{Version, put, count, expr_lines, exprs_lines, simples_lines}
use Rattle.hx_lowering.specs.Draft.{Draft, with_lines, Targets, put_word, loop_draft, stmt_draft, stmts_draft}
use Rattle.hx_lowering.proofs.Stand.{has_before}
use Rattle.hx_lowered.proofs.WellFormed.{Context, FitsExpr, FitsClauses, FitsKind, FitsStmt, FitsStmts, marked_in}
use Rattle.hx_lowered.proofs.Fine.{spot_of, Sits, OpensNone, fine_none, Knows, part_and, sits_at, word_part}
use Rattle.hx_lowered.proofs.Expressions.{room_exprs, next_part, called, expr_part, exprs_part}
use Rattle.hx_lowered.proofs.Assignments.{simple_part, simples_part, branch_part}
use Rattle.hx_lowered.proofs.Drafts.{Holds, grows_branch, grows_word, loop_grows, stmt_grows, stmts_grows, stmt_keeps}
use Rattle.hx_lowered.proofs.Loops.{DraftPart, LoopBody, plain_part}
use Rattle.hx_lowered.proofs.DoLoops.{do_part}
use Rattle.hx_lowered.proofs.Regions.{region_part}

module _ (code : CodeView) (x : Context) where
  loop_part : (kind : LoopKind) (m : Bool) (c : Clauses) (s : Stmt) (v : Version) (d : Draft) → Knows code x v → (IsFalse m → v.region ≡ None)
      → FitsClauses x c → FitsKind x m kind → FitsStmt x true (marked_in m kind) s
      → Holds code (loop_draft kind c (stmt_size s) (λ v' to' d'. stmt_draft s v' to' d') v d)
      → Sits code v (length (loop_draft kind c (stmt_size s) (λ v' to' d'. stmt_draft s v' to' d') v d).lines) 0
      → ((v' : Version) → Knows code x v' → (IsFalse (marked_in m kind) → v'.region ≡ None) → LoopBody code v' (λ to' d'. stmt_draft s v' to' d'))
      → DraftPart code v d (loop_draft kind c (stmt_size s) (λ v' to' d'. stmt_draft s v' to' d') v d)
  loop_part resolved.Plain m c s v d knows outside fc fk fs holds end h =
      plain_part code x c (stmt_size s) v knows (λ to' d'. stmt_draft s v to' d') d (λ to' d'. stmt_grows code s v to' d') fc.1 fc.2 holds end (h v knows outside)
  loop_part (resolved.IsRegion r) m c s v d knows outside fc fk fs holds end h =
      region_part code x c (stmt_size s) v knows r (λ v' to' d'. stmt_draft s v' to' d') d
      (λ v' to' d'. stmt_grows code s v' to' d') (λ v' to' d'. stmt_keeps x true s v' to' d' fs) fc.1 fc.2 fk.1 (outside fk.0) holds end
      (λ v' k. h v' k (λ e. absurd cc))

  -- an expression, and a word that takes its value and leads on
  output_part : (e : Expr) (w : Word) (v : Version) (d : Draft) → Knows code x v → FitsExpr x 0 e → OpensNone w → NamesKnown code w (spot_of v 1) → StandsRight w (spot_of v 1)
      → pops code w ≡ 1 → pushes w ≡ 0 → ((p : ℕ) → successors p w ≡ (p + 1) ∷ []) → Holds code (with_lines d (put v 1 w (expr_lines e v 0 d.lines)))
      → Sits code v (length (put v 1 w (expr_lines e v 0 d.lines))) 0 → DraftPart code v d (with_lines d (put v 1 w (expr_lines e v 0 d.lines)))
  output_part e w v d knows f plain names stands takes gives leads holds end =
      let r = length d.regions in
      let a = expr_lines e v 0 d.lines in
      let p = next_part code x v knows 1 0 w a r holds.lines plain (omega arith) names stands (omega (arith, takes)) (omega (arith, takes, gives)) (leads (length a)) end in
      part_and code v d.lines 0 a 1 _ r r r (expr_part code x v knows e 0 d.lines r f (has_before code v 1 w a holds.lines) p.begins) p

  mutual
    pub stmt_part : (s : Stmt) (l m : Bool) (v : Version) (to : Targets) (d : Draft) → FitsStmt x l m s → Knows code x v → (IsFalse m → v.region ≡ None)
        → (IsTrue l → Sits code v to.break_to 0 × Sits code v to.continue_to 0)
        → Holds code (stmt_draft s v to d) → Sits code v (length (stmt_draft s v to d).lines) 0 → DraftPart code v d (stmt_draft s v to d)
    stmt_part (resolved.Block ss) l m v to d f knows outside jumps holds end = stmts_part ss l m v to d f knows outside jumps holds end
    stmt_part (resolved.Do s) l m v to d f knows outside jumps holds end = simple_part code x v knows s d.lines (length d.regions) f holds.lines end
    stmt_part (resolved.CallStatement g at es) l m v to d f knows outside jumps holds end =
        let r = length d.regions in
        let a = exprs_lines es v 0 d.lines in
        let b = put v (count es) (Call g at) a in
        let has_b = has_before code v 1 Drop b holds.lines in
        let has_a = has_before code v (count es) (Call g at) a has_b in
        let found = called code x v knows g (count es) f.0 in
        let room = room_exprs x 0 es (omega arith) f.1 in
        let part_b = next_part code x v knows 1 0 Drop b r holds.lines tt (omega arith) tt tt (omega arith) (omega arith) refl end in
        let part_a = next_part code x v knows (count es) 1 (Call g at) a r has_b tt (omega (arith, room)) found.0 tt (omega (arith, found.1)) (omega (arith, found.1)) refl part_b.begins in
        let part = exprs_part code x v knows es 0 d.lines r f.1 has_a (sits_at code v _ _ (count es) (0 + count es) refl (omega arith) part_a.begins) in
        part_and code v d.lines 0 a (count es) _ r r r part (part_and code v a (count es) b 1 _ r r r part_a part_b)
    stmt_part (resolved.Print at e) l m v to d f knows outside jumps holds end = output_part e (Print at) v d knows f tt tt tt refl refl (λ p. refl) holds end
    stmt_part (resolved.Emit at e) l m v to d f knows outside jumps holds end = output_part e (Emit at) v d knows f tt tt tt refl refl (λ p. refl) holds end
    stmt_part (resolved.If test s) l m v to d f knows outside jumps holds end =
        let behind = length d.lines + expr_size test + 1 + stmt_size s in
        let a = with_lines d (put v 1 (JumpFalse behind) (expr_lines test v 0 d.lines)) in
        let grows = stmt_grows code s v to a in
        let tested = (grows_branch code test v (JumpFalse behind) d).long in
        let out = sits_at code v _ behind 0 0 (omega (arith, grows.long, tested)) refl end in
        let p = stmt_part s l m v to a f.1 knows outside jumps holds end in
        let q = branch_part code x v knows test behind d.lines (length d.regions) f.0 (grows.holds holds).lines out p.begins in
        part_and code v d.lines 0 a.lines 0 _ (length d.regions) (length d.regions) _ q p
    stmt_part (resolved.IfElse test s other) l m v to d f knows outside jumps holds end =
        let other_at = length d.lines + expr_size test + 1 + stmt_size s + 1 in
        let a = with_lines d (put v 1 (JumpFalse other_at) (expr_lines test v 0 d.lines)) in
        let b = stmt_draft s v to a in
        let c = put_word v 0 (Jump (other_at + stmt_size other)) b in
        let grows_other = stmt_grows code other v to c in
        let grows_s = stmt_grows code s v to a in
        let grows_jump = grows_word code v 0 (Jump (other_at + stmt_size other)) b in
        let holds_c = grows_other.holds holds in
        let holds_b = grows_jump.holds holds_c in
        let holds_a = grows_s.holds holds_b in
        let tested = (grows_branch code test v (JumpFalse other_at) d).long in
        let out = sits_at code v _ (other_at + stmt_size other) 0 0 (omega (arith, grows_other.long, grows_jump.long, grows_s.long, tested)) refl end in
        let part_c = stmt_part other l m v to c f.2 knows outside jumps holds end in
        let other_sits = sits_at code v _ other_at 0 0 (omega (arith, grows_jump.long, grows_s.long, tested)) refl part_c.begins in
        let part_b = word_part code x v knows 0 0 (Jump (other_at + stmt_size other)) b.lines (length b.regions) holds_c.lines tt (omega arith) tt tt (omega arith) (omega arith) (out, tt) in
        let part_a = stmt_part s l m v to a f.1 knows outside jumps holds_b part_b.begins in
        let part = branch_part code x v knows test other_at d.lines (length d.regions) f.0 holds_a.lines other_sits part_a.begins in
        part_and code v d.lines 0 a.lines 0 _ (length d.regions) (length d.regions) _ part
        (part_and code v a.lines 0 b.lines 0 _ (length d.regions) (length b.regions) _ part_a (part_and code v b.lines 0 c.lines 0 _ (length b.regions) (length b.regions) _ part_b part_c))
    stmt_part (resolved.Loop kind c s) l m v to d f knows outside jumps holds end =
        let a = with_lines d (simples_lines c.init v d.lines) in
        let grows = loop_grows code c (stmt_size s) kind (λ v' to' d'. stmt_draft s v' to' d') v a (λ v' to' d'. stmt_grows code s v' to' d') in
        let p = loop_part kind m c s v a knows outside f.0 f.1 f.2 holds end
        (λ v' k o to' d' b' c' h' e'. stmt_part s true (marked_in m kind) v' to' d' f.2 k o (λ t. (b', c')) h' e') in
        let q = simples_part code x v knows c.init d.lines (length d.regions) f.0.0 (grows.holds holds).lines p.begins in
        part_and code v d.lines 0 a.lines 0 _ (length d.regions) (length d.regions) _ q p
    stmt_part (resolved.DoWhile s test) l m v to d f knows outside jumps holds end =
        do_part code x test (stmt_size s) v knows (λ to' d'. stmt_draft s v to' d') d (λ to' d'. stmt_grows code s v to' d') f.1 holds end
        (λ to' d' b' c' h' e'. stmt_part s true m v to' d' f.0 knows outside (λ t. (b', c')) h' e')
    stmt_part resolved.Break l m v to d f knows outside jumps holds end =
        word_part code x v knows 0 0 (Jump to.break_to) d.lines (length d.regions) holds.lines tt (omega arith) tt tt (omega arith) (omega arith) ((jumps f).0, tt)
    stmt_part resolved.Continue l m v to d f knows outside jumps holds end =
        word_part code x v knows 0 0 (Jump to.continue_to) d.lines (length d.regions) holds.lines tt (omega arith) tt tt (omega arith) (omega arith) ((jumps f).1, tt)
    stmt_part (resolved.Return e) l m v to d f knows outside jumps holds end =
        let r = length d.regions in
        let a = expr_lines e v 0 d.lines in
        let p = word_part code x v knows 1 0 Ret a r holds.lines tt (omega arith) tt tt (omega arith) (omega arith) tt in
        part_and code v d.lines 0 a 1 _ r r r (expr_part code x v knows e 0 d.lines r f (has_before code v 1 Ret a holds.lines) p.begins) p

    pub stmts_part : (ss : Stmts) (l m : Bool) (v : Version) (to : Targets) (d : Draft) → FitsStmts x l m ss → Knows code x v → (IsFalse m → v.region ≡ None)
        → (IsTrue l → Sits code v to.break_to 0 × Sits code v to.continue_to 0)
        → Holds code (stmts_draft ss v to d) → Sits code v (length (stmts_draft ss v to d).lines) 0 → DraftPart code v d (stmts_draft ss v to d)
    stmts_part resolved.no_stmts l m v to d f knows outside jumps holds end = record { fine = fine_none code (length d.lines) (length d.regions); begins = end }
    stmts_part (resolved.stmt_and s ss) l m v to d f knows outside jumps holds end =
        let a = stmt_draft s v to d in
        let p = stmts_part ss l m v to a f.1 knows outside jumps holds end in
        let q = stmt_part s l m v to d f.0 knows outside jumps ((stmts_grows code ss v to a).holds holds) p.begins in
        part_and code v d.lines 0 a.lines 0 _ (length d.regions) (length a.regions) _ q p
