-- How many words statements put behind the others, which stay, and that only marked loops open regions.
use Rattle.std.proofs.Common.{◌≡◌, ℕ, ◌+◌, ◌≤◌, Bool, true, false, List, [], ◌∷◌, ◌++◌, length, refl, ◌∙◌, arith, append_assoc, length-append}
use Rattle.hx_resolved.specs.Resolved as resolved
use Rattle.hx_resolved.specs.Resolved.{Expr, Clauses, LoopKind, Stmt, Stmts}
use Rattle.hx_code.specs.declared.word.Word.{Word}
use Rattle.hx_code.specs.declared.word.Word.TheVariants.{Drop, Jump, JumpFalse, JumpTrue, Call, Ret, Print, Emit, Enter, Turn, Leave}
use Rattle.hx_code.specs.Code.{RegionView, CodeView}
use Rattle.hx_lowering.specs.declared.line.Line.{Line}
use Rattle.hx_lowering.specs.Size.{expr_size, exprs_size, simples_size, test_size, step_size, turn_size, loop_size, stmt_size, stmts_size}
use Rattle.hx_lowering.specs.Lines.{Version, put, count, expr_lines, simples_lines, test_lines}
use Rattle.hx_lowering.specs.Draft.{Draft, with_lines, Targets, inside, put_word, turn_draft, targets, do_targets, plain_draft, turns_draft, region_at, region_draft, loop_draft, stmt_draft, stmts_draft}
use Rattle.hx_lowering.proofs.Stand.{Has, has_exprs, length-exprs}
use Rattle.hx_lowered.proofs.WellFormed.{Context, FitsStmt, FitsStmts}
use Rattle.hx_lowered.proofs.Behind.{Behind, behind_and, behind_put, behind_expr, behind_simple, behind_simples, behind_test, behind_step}

-- the code begins with the words of a draft, and its regions are in the table
pub record Holds (code : CodeView) (d : Draft) : Type 0 where
  pub lines : Has code d.lines
  pub behind : List RegionView
  pub regions : code.regions ≡ d.regions ++ behind

-- a draft with so many more words
pub record Grows (code : CodeView) (a : Draft) (n : ℕ) (b : Draft) : Type 0 where
  pub long : length b.lines ≡ length a.lines + n
  pub holds : Holds code b → Holds code a
  pub rises : length a.regions ≤ length b.regions
  pub functions : b.functions ≡ a.functions

module _ (code : CodeView) where
  pub grows_none : (d : Draft) → Grows code d 0 d
  grows_none d = record { long = omega arith; holds = λ h. h; rises = omega arith; functions = refl }

  pub grows_and : (a b c : Draft) (n m k : ℕ) → n + m ≡ k → Grows code a n b → Grows code b m c → Grows code a k c
  grows_and a b c n m k e f g = record {
    long = omega (arith, f.long, g.long);
    holds = λ h. f.holds (g.holds h);
    rises = omega (arith, f.rises, g.rises);
    functions = g.functions ∙ f.functions;
  }

  -- more lines alone
  pub grows_lines : (d : Draft) (lines : List Line) (n : ℕ) → Behind code d.lines n lines → Grows code d n (with_lines d lines)
  grows_lines d lines n f = record {
    long = f.long;
    holds = λ h. record { lines = f.has h.lines; behind = h.behind; regions = h.regions };
    rises = omega arith;
    functions = refl;
  }

  pub grows_word : (v : Version) (h : ℕ) (w : Word) (d : Draft) → Grows code d 1 (put_word v h w d)
  grows_word v h w d = grows_lines d _ 1 (behind_put code v h w d.lines)

  pub grows_branch : (e : Expr) (v : Version) (w : Word) (d : Draft) → Grows code d (expr_size e + 1) (with_lines d (put v 1 w (expr_lines e v 0 d.lines)))
  grows_branch e v w d = grows_lines d _ _ (behind_and code _ _ _ _ _ _ refl (behind_expr code e v 0 d.lines) (behind_put code v 1 w _))

  -- ---- loops

  module _ (c : Clauses) (size : ℕ) where
    pub turn_grows : (exit : ℕ) (v : Version) (body : Draft → Draft) (d : Draft) → ((d' : Draft) → Grows code d' size (body d')) → Grows code d (turn_size c size) (turn_draft c exit v body d)
    turn_grows exit v body d h =
        let tested = with_lines d (test_lines c.test exit v d.lines) in
        let done = body tested in
        grows_and _ done _ (test_size c.test + size) (step_size c.step) _ refl
        (grows_and _ tested _ _ _ _ refl (grows_lines d _ _ (behind_test code c.test exit v d.lines)) (h tested))
        (grows_lines done _ _ (behind_step code c.step v done.lines))

    pub plain_grows : (body : Targets → Draft → Draft) (v : Version) (d : Draft) → ((to : Targets) (d' : Draft) → Grows code d' size (body to d')) → Grows code d (turn_size c size + 1) (plain_draft c size body v d)
    plain_grows body v d h =
        let start = length d.lines in
        let turn = turn_draft c (start + turn_size c size + 1) v (body (targets c size start)) d in
        grows_and _ turn _ _ _ _ refl (turn_grows _ v _ d (λ d'. h (targets c size start) d')) (grows_word v 0 (Jump start) turn)

    pub turns_grows : (body : Targets → Draft → Draft) (v : Version) (d : Draft) → ((to : Targets) (d' : Draft) → Grows code d' size (body to d')) → Grows code d (turn_size c size + 2) (turns_draft c size body v d)
    turns_grows body v d h =
        let start = length d.lines in
        let turn = turn_draft c (start + turn_size c size + 1) v (body (targets c size start)) d in
        grows_and _ turn _ _ _ _ refl (turn_grows _ v _ d (λ d'. h (targets c size start) d'))
        (grows_and _ _ _ 1 1 2 refl (grows_word v 0 Turn turn) (grows_word v 0 Leave _))

    with_region : (d : Draft) (g : RegionView) → Grows code d 0 (record d { regions = d.regions ++ g ∷ [] })
    with_region d g = record {
      long = omega arith;
      holds = λ h. record { lines = h.lines; behind = g ∷ h.behind; regions = h.regions ∙ append_assoc d.regions (g ∷ []) h.behind };
      rises = omega (arith, length-append d.regions (g ∷ []));
      functions = refl;
    }

    pub region_grows : (r : resolved.Region) (body : Version → Targets → Draft → Draft) (v : Version) (d : Draft)
        → ((v' : Version) (to : Targets) (d' : Draft) → Grows code d' size (body v' to d')) → Grows code d (1 + (turn_size c size + 2) + (turn_size c size + 1)) (region_draft r c size body v d)
    region_grows r body v d h =
        let number = length d.regions in
        let place = length d.lines in
        let within = inside number r v in
        let opened = put_word v 0 (Enter number (place + 1 + (turn_size c size + 2))) d in
        let turns = turns_draft c size (body within) within opened in
        let plain = plain_draft c size (body v) v turns in
        grows_and _ plain _ (1 + (turn_size c size + 2) + (turn_size c size + 1)) 0 _ (omega arith)
        (grows_and _ turns _ (1 + (turn_size c size + 2)) _ _ refl (grows_and _ opened _ 1 _ _ refl (grows_word v 0 _ d) (turns_grows (body within) within opened (h within))) (plain_grows (body v) v turns (h v)))
        (with_region plain (region_at r c size place))

    pub loop_grows : (kind : LoopKind) (body : Version → Targets → Draft → Draft) (v : Version) (d : Draft)
        → ((v' : Version) (to : Targets) (d' : Draft) → Grows code d' size (body v' to d')) → Grows code d (loop_size kind (turn_size c size)) (loop_draft kind c size body v d)
    loop_grows resolved.Plain body v d h = plain_grows (body v) v d (h v)
    loop_grows (resolved.IsRegion r) body v d h = region_grows r body v d h

  -- ---- statements

  mutual
    pub stmt_grows : (s : Stmt) (v : Version) (to : Targets) (d : Draft) → Grows code d (stmt_size s) (stmt_draft s v to d)
    stmt_grows (resolved.Block ss) v to d = stmts_grows ss v to d
    stmt_grows (resolved.Do s) v to d = grows_lines d _ _ (behind_simple code s v d.lines)
    stmt_grows (resolved.CallStatement f at es) v to d =
        grows_lines d _ _ (behind_and code _ _ _ (exprs_size es) 2 _ refl
        (record { long = length-exprs es v 0 d.lines; has = has_exprs code es v 0 d.lines })
        (behind_and code _ _ _ 1 1 2 refl (behind_put code v (count es) (Call f at) _) (behind_put code v 1 Drop _)))
    stmt_grows (resolved.Print at e) v to d = grows_branch e v (Print at) d
    stmt_grows (resolved.Emit at e) v to d = grows_branch e v (Emit at) d
    stmt_grows (resolved.If test s) v to d =
        let behind = length d.lines + expr_size test + 1 + stmt_size s in
        grows_and _ _ _ (expr_size test + 1) (stmt_size s) _ refl (grows_branch test v (JumpFalse behind) d) (stmt_grows s v to _)
    stmt_grows (resolved.IfElse test s other) v to d =
        let other_at = length d.lines + expr_size test + 1 + stmt_size s + 1 in
        grows_and _ _ _ (expr_size test + 1 + stmt_size s + 1) (stmt_size other) _ refl
        (grows_and _ _ _ (expr_size test + 1 + stmt_size s) 1 _ refl
        (grows_and _ _ _ (expr_size test + 1) (stmt_size s) _ refl (grows_branch test v (JumpFalse other_at) d) (stmt_grows s v to _))
        (grows_word v 0 (Jump (other_at + stmt_size other)) _))
        (stmt_grows other v to _)
    stmt_grows (resolved.Loop kind c s) v to d =
        grows_and _ _ _ (simples_size c.init) (loop_size kind (turn_size c (stmt_size s))) _ refl
        (grows_lines d _ _ (behind_simples code c.init v d.lines))
        (loop_grows c (stmt_size s) kind (λ v' to' d'. stmt_draft s v' to' d') v _ (λ v' to' d'. stmt_grows s v' to' d'))
    stmt_grows (resolved.DoWhile s test) v to d =
        let body = do_targets test (stmt_size s) (length d.lines) in
        grows_and _ (stmt_draft s v body d) _ (stmt_size s) (expr_size test + 1) _ (omega arith) (stmt_grows s v body d) (grows_branch test v (JumpTrue (length d.lines)) (stmt_draft s v body d))
    stmt_grows resolved.Break v to d = grows_word v 0 (Jump to.break_to) d
    stmt_grows resolved.Continue v to d = grows_word v 0 (Jump to.continue_to) d
    stmt_grows (resolved.Return e) v to d = grows_branch e v Ret d

    pub stmts_grows : (ss : Stmts) (v : Version) (to : Targets) (d : Draft) → Grows code d (stmts_size ss) (stmts_draft ss v to d)
    stmts_grows resolved.no_stmts v to d = grows_none d
    stmts_grows (resolved.stmt_and s ss) v to d = grows_and _ _ _ (stmt_size s) (stmts_size ss) _ refl (stmt_grows s v to d) (stmts_grows ss v to _)

-- ---- in a region no region opens

pub turn_keeps : (c : Clauses) (exit : ℕ) (v : Version) (body : Draft → Draft) (d : Draft) → ((d' : Draft) → (body d').regions ≡ d'.regions) → (turn_draft c exit v body d).regions ≡ d.regions
turn_keeps c exit v body d h = h (with_lines d (test_lines c.test exit v d.lines))

mutual
  pub stmt_keeps : (x : Context) (l : Bool) (s : Stmt) (v : Version) (to : Targets) (d : Draft) → FitsStmt x l true s → (stmt_draft s v to d).regions ≡ d.regions
  stmt_keeps x l (resolved.Block ss) v to d f = stmts_keeps x l ss v to d f
  stmt_keeps x l (resolved.Do s) v to d f = refl
  stmt_keeps x l (resolved.CallStatement g at es) v to d f = refl
  stmt_keeps x l (resolved.Print at e) v to d f = refl
  stmt_keeps x l (resolved.Emit at e) v to d f = refl
  stmt_keeps x l (resolved.If test s) v to d f = stmt_keeps x l s v to _ f.1
  stmt_keeps x l (resolved.IfElse test s other) v to d f = stmt_keeps x l other v to _ f.2 ∙ stmt_keeps x l s v to _ f.1
  stmt_keeps x l (resolved.Loop resolved.Plain c s) v to d f =
      turn_keeps c _ v (λ d'. stmt_draft s v (targets c (stmt_size s) (length (simples_lines c.init v d.lines))) d') (with_lines d (simples_lines c.init v d.lines)) (λ d'. stmt_keeps x true s v _ d' f.2)
  stmt_keeps x l (resolved.Loop (resolved.IsRegion r) c s) v to d f = let e : true ≡ false = f.1.0 in absurd cc
  stmt_keeps x l (resolved.DoWhile s test) v to d f = stmt_keeps x true s v _ d f.0
  stmt_keeps x l resolved.Break v to d f = refl
  stmt_keeps x l resolved.Continue v to d f = refl
  stmt_keeps x l (resolved.Return e) v to d f = refl

  pub stmts_keeps : (x : Context) (l : Bool) (ss : Stmts) (v : Version) (to : Targets) (d : Draft) → FitsStmts x l true ss → (stmts_draft ss v to d).regions ≡ d.regions
  stmts_keeps x l resolved.no_stmts v to d f = refl
  stmts_keeps x l (resolved.stmt_and s ss) v to d f = stmts_keeps x l ss v to _ f.1 ∙ stmt_keeps x l s v to d f.0
