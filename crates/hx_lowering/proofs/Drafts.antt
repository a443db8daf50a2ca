-- Drafts that stand in code, and how long they are.
use Rattle.std.proofs.Common.{◌≡◌, ℕ, ◌+◌, List, [], ◌∷◌, ◌++◌, length, Option, Some, None, ◌∙◌, arith, append_assoc}
use Rattle.hx_resolved.specs.Resolved as resolved
use Rattle.hx_resolved.specs.Resolved.{Expr, Exprs, Assignment, Simple, Clauses, LoopKind, Stmt, Stmts}
use Rattle.hx_code.specs.declared.word.Word.{Word}
use Rattle.hx_code.specs.declared.word.Word.TheVariants.{Glob, SetGlob, Elem, SetElem, Dup, Drop, Binary, Jump, JumpFalse, JumpTrue, Call, Ret, Print, Emit, Enter, Turn, Leave}
use Rattle.hx_code.specs.Code.{CodeView, RegionView}
use Rattle.hx_lowering.specs.declared.line.Line.{Line}
use Rattle.hx_lowering.specs.Size.{expr_size, assignment_size, simple_size, simples_size, test_size, step_size, turn_size, loop_size, stmt_size, stmts_size}
use Rattle.hx_lowering.specs.Lines.{Version, put, get_private, set_private, array_of, count, expr_lines, exprs_lines, assignment_lines, simple_lines, simples_lines, test_lines, step_lines}
use Rattle.hx_lowering.specs.Draft.{Draft, Targets, with_lines, put_word, inside, targets, do_targets, turn_draft, plain_draft, turns_draft, region_draft, loop_draft, stmt_draft, stmts_draft}
use Rattle.hx_lowering.proofs.Stand.{Has, has_before, has_expr, has_exprs, length-put, length-expr, length-exprs}

-- the code begins with this draft's lines and regions
pub record HasDraft (code : CodeView) (d : Draft) : Type 0 where
  pub lines : Has code d.lines
  pub regions_behind : List RegionView
  pub regions : code.regions ≡ d.regions ++ regions_behind

module _ (code : CodeView) where
  pub has_assignment : (a : Assignment) (v : Version) (lines : List Line) → Has code (assignment_lines a v lines) → Has code lines
  has_assignment (resolved.Set (resolved.ToPrivate k) e) v lines has = has_expr code e v 0 lines (has_before code v 1 _ _ has)
  has_assignment (resolved.Set (resolved.ToWord a) e) v lines has = has_expr code e v 0 lines (has_before code v 1 _ _ has)
  has_assignment (resolved.Set (resolved.ToElement ws at i) e) v lines has = has_expr code i v 0 lines (has_expr code e v 1 _ (has_before code v 2 _ _ has))
  has_assignment (resolved.Update (resolved.ToPrivate k) op at e) v lines has =
      has_before code v 0 _ lines (has_expr code e v 1 _ (has_before code v 2 _ _ (has_before code v 1 _ _ has)))
  has_assignment (resolved.Update (resolved.ToWord a) op at e) v lines has =
      has_before code v 0 _ lines (has_expr code e v 1 _ (has_before code v 2 _ _ (has_before code v 1 _ _ has)))
  has_assignment (resolved.Update (resolved.ToElement ws place i) op at e) v lines has =
      has_expr code i v 0 lines (has_before code v 1 _ _ (has_before code v 2 _ _ (has_expr code e v 2 _ (has_before code v 3 _ _ (has_before code v 2 _ _ has)))))

  pub has_simple : (s : Simple) (v : Version) (lines : List Line) → Has code (simple_lines s v lines) → Has code lines
  has_simple (resolved.Declare k e) v lines has = has_expr code e v 0 lines (has_before code v 1 _ _ has)
  has_simple (resolved.Assign a) v lines has = has_assignment a v lines has

  pub has_simples : (ss : List Simple) (v : Version) (lines : List Line) → Has code (simples_lines ss v lines) → Has code lines
  has_simples [] v lines has = has
  has_simples (s ∷ ss) v lines has = has_simple s v lines (has_simples ss v _ has)

  pub has_test : (e : Option Expr) (exit : ℕ) (v : Version) (lines : List Line) → Has code (test_lines e exit v lines) → Has code lines
  has_test None exit v lines has = has
  has_test (Some e) exit v lines has = has_expr code e v 0 lines (has_before code v 1 _ _ has)

  pub has_step : (a : Option Assignment) (v : Version) (lines : List Line) → Has code (step_lines a v lines) → Has code lines
  has_step None v lines has = has
  has_step (Some a) v lines has = has_assignment a v lines has

  pub has_lines : (d : Draft) (lines : List Line) → HasDraft code (with_lines d lines) → (Has code lines → Has code d.lines) → HasDraft code d
  has_lines d lines has back = record { lines = back has.lines; regions_behind = has.regions_behind; regions = has.regions }

  pub has_word : (v : Version) (h : ℕ) (w : Word) (d : Draft) → HasDraft code (put_word v h w d) → HasDraft code d
  has_word v h w d has = has_lines d _ has (has_before code v h w d.lines)

  -- a body that only adds
  abbrev pub Adds : (Draft → Draft) → Type 0
  Adds body = (d : Draft) → HasDraft code (body d) → HasDraft code d

  pub has_turn : (c : Clauses) (exit : ℕ) (v : Version) (body : Draft → Draft) → Adds body → Adds (turn_draft c exit v body)
  has_turn c exit v body adds d has =
      has_lines d _ (adds (with_lines d (test_lines c.test exit v d.lines)) (has_lines (body (with_lines d (test_lines c.test exit v d.lines))) _ has (has_step c.step v _))) (has_test c.test exit v d.lines)

  pub has_plain : (c : Clauses) (size : ℕ) (body : Targets → Draft → Draft) (v : Version) → ((to : Targets) → Adds (body to)) → Adds (plain_draft c size body v)
  has_plain c size body v adds d has = has_turn c _ v (body (targets c size (length d.lines))) (adds _) d (has_word v 0 _ _ has)

  pub has_turns : (c : Clauses) (size : ℕ) (body : Targets → Draft → Draft) (v : Version) → ((to : Targets) → Adds (body to)) → Adds (turns_draft c size body v)
  has_turns c size body v adds d has = has_turn c _ v (body (targets c size (length d.lines))) (adds _) d (has_word v 0 _ _ (has_word v 0 _ _ has))

  -- a region behind the others
  pub has_region : (d : Draft) (r : RegionView) → HasDraft code (record d { regions = d.regions ++ r ∷ [] }) → HasDraft code d
  has_region d r has = record { lines = has.lines; regions_behind = r ∷ has.regions_behind; regions = has.regions ∙ append_assoc d.regions (r ∷ []) has.regions_behind }

  pub has_region_draft : (r : resolved.Region) (c : Clauses) (size : ℕ) (body : Version → Targets → Draft → Draft) (v : Version) → ((v' : Version) (to : Targets) → Adds (body v' to)) → Adds (region_draft r c size body v)
  has_region_draft r c size body v adds d has =
      has_word v 0 _ d (has_turns c size _ (inside (length d.regions) r v) (adds (inside (length d.regions) r v)) _ (has_plain c size (body v) v (adds v) _ (has_region _ _ has)))

  pub has_loop : (kind : LoopKind) (c : Clauses) (size : ℕ) (body : Version → Targets → Draft → Draft) (v : Version) → ((v' : Version) (to : Targets) → Adds (body v' to)) → Adds (loop_draft kind c size body v)
  has_loop resolved.Plain c size body v adds d has = has_plain c size (body v) v (adds v) d has
  has_loop (resolved.IsRegion r) c size body v adds d has = has_region_draft r c size body v adds d has

  mutual
    pub has_stmt : (s : Stmt) (v : Version) (to : Targets) (d : Draft) → HasDraft code (stmt_draft s v to d) → HasDraft code d
    has_stmt (resolved.Block ss) v to d has = has_stmts ss v to d has
    has_stmt (resolved.Do s) v to d has = has_lines d _ has (has_simple s v d.lines)
    has_stmt (resolved.CallStatement f at es) v to d has = has_lines d _ has (λ h. has_exprs code es v 0 d.lines (has_before code v (count es) _ _ (has_before code v 1 _ _ h)))
    has_stmt (resolved.Print at e) v to d has = has_lines d _ has (λ h. has_expr code e v 0 d.lines (has_before code v 1 _ _ h))
    has_stmt (resolved.Emit at e) v to d has = has_lines d _ has (λ h. has_expr code e v 0 d.lines (has_before code v 1 _ _ h))
    has_stmt (resolved.If test s) v to d has = has_lines d _ (has_stmt s v to _ has) (λ h. has_expr code test v 0 d.lines (has_before code v 1 _ _ h))
    has_stmt (resolved.IfElse test s other) v to d has =
        has_lines d _ (has_stmt s v to _ (has_word v 0 _ _ (has_stmt other v to _ has))) (λ h. has_expr code test v 0 d.lines (has_before code v 1 _ _ h))
    has_stmt (resolved.Loop kind c s) v to d has =
        has_lines d _ (has_loop kind c (stmt_size s) _ v (λ v' to' d'. has_stmt s v' to' d') _ has) (has_simples c.init v d.lines)
    has_stmt (resolved.DoWhile s test) v to d has =
        has_stmt s v (do_targets test (stmt_size s) (length d.lines)) d
        (has_lines (stmt_draft s v (do_targets test (stmt_size s) (length d.lines)) d) _ has (λ h. has_expr code test v 0 _ (has_before code v 1 _ _ h)))
    has_stmt resolved.Break v to d has = has_word v 0 _ d has
    has_stmt resolved.Continue v to d has = has_word v 0 _ d has
    has_stmt (resolved.Return e) v to d has = has_lines d _ has (λ h. has_expr code e v 0 d.lines (has_before code v 1 _ _ h))

    pub has_stmts : (ss : Stmts) (v : Version) (to : Targets) (d : Draft) → HasDraft code (stmts_draft ss v to d) → HasDraft code d
    has_stmts resolved.no_stmts v to d has = has
    has_stmts (resolved.stmt_and s ss) v to d has = has_stmt s v to d (has_stmts ss v to _ has)

-- ---- lengths

pub length-assignment : (a : Assignment) (v : Version) (lines : List Line) → length (assignment_lines a v lines) ≡ length lines + assignment_size a
length-assignment (resolved.Set (resolved.ToPrivate k) e) v lines = omega (arith, length-put v 1 (set_private v k) (expr_lines e v 0 lines), length-expr e v 0 lines)
length-assignment (resolved.Set (resolved.ToWord a) e) v lines = omega (arith, length-put v 1 (SetGlob a) (expr_lines e v 0 lines), length-expr e v 0 lines)
length-assignment (resolved.Set (resolved.ToElement ws at i) e) v lines =
    let is = expr_lines i v 0 lines in let es = expr_lines e v 1 is in
    omega (arith, length-put v 2 (SetElem (array_of ws) at) es, length-expr e v 1 is, length-expr i v 0 lines)
length-assignment (resolved.Update (resolved.ToPrivate k) op at e) v lines =
    let a = put v 0 (get_private v k) lines in let b = expr_lines e v 1 a in let c = put v 2 (Binary op at) b in
    omega (arith, length-put v 0 (get_private v k) lines, length-expr e v 1 a, length-put v 2 (Binary op at) b, length-put v 1 (set_private v k) c)
length-assignment (resolved.Update (resolved.ToWord g) op at e) v lines =
    let a = put v 0 (Glob g) lines in let b = expr_lines e v 1 a in let c = put v 2 (Binary op at) b in
    omega (arith, length-put v 0 (Glob g) lines, length-expr e v 1 a, length-put v 2 (Binary op at) b, length-put v 1 (SetGlob g) c)
length-assignment (resolved.Update (resolved.ToElement ws place i) op at e) v lines =
    let a = expr_lines i v 0 lines in let b = put v 1 Dup a in let c = put v 2 (Elem (array_of ws) place) b in let d = expr_lines e v 2 c in let f = put v 3 (Binary op at) d in
    omega (arith, length-expr i v 0 lines, length-put v 1 Dup a, length-put v 2 (Elem (array_of ws) place) b, length-expr e v 2 c, length-put v 3 (Binary op at) d, length-put v 2 (SetElem (array_of ws) place) f)

pub length-simple : (s : Simple) (v : Version) (lines : List Line) → length (simple_lines s v lines) ≡ length lines + simple_size s
length-simple (resolved.Declare k e) v lines = omega (arith, length-put v 1 (set_private v k) (expr_lines e v 0 lines), length-expr e v 0 lines)
length-simple (resolved.Assign a) v lines = length-assignment a v lines

pub length-simples : (ss : List Simple) (v : Version) (lines : List Line) → length (simples_lines ss v lines) ≡ length lines + simples_size ss
length-simples [] v lines = omega arith
length-simples (s ∷ ss) v lines = omega (arith, length-simples ss v (simple_lines s v lines), length-simple s v lines)

pub length-test : (e : Option Expr) (exit : ℕ) (v : Version) (lines : List Line) → length (test_lines e exit v lines) ≡ length lines + test_size e
length-test None exit v lines = omega arith
length-test (Some e) exit v lines = omega (arith, length-put v 1 (JumpFalse exit) (expr_lines e v 0 lines), length-expr e v 0 lines)

pub length-step : (a : Option Assignment) (v : Version) (lines : List Line) → length (step_lines a v lines) ≡ length lines + step_size a
length-step None v lines = omega arith
length-step (Some a) v lines = length-assignment a v lines

-- how many words a draft adds
abbrev pub Grows : (Draft → Draft) → ℕ → Type 0
Grows f n = (d : Draft) → length (f d).lines ≡ length d.lines + n

pub length-turn : (c : Clauses) (exit size : ℕ) (v : Version) (body : Draft → Draft) → Grows body size → Grows (turn_draft c exit v body) (turn_size c size)
length-turn c exit size v body grows d =
    let d' = with_lines d (test_lines c.test exit v d.lines) in
    omega (arith, length-step c.step v (body d').lines, grows d', length-test c.test exit v d.lines)

pub length-plain : (c : Clauses) (size : ℕ) (body : Targets → Draft → Draft) (v : Version) → ((to : Targets) → Grows (body to) size) → Grows (plain_draft c size body v) (turn_size c size + 1)
length-plain c size body v grows d =
    let start = length d.lines in
    let exit = start + turn_size c size + 1 in
    let t = turn_draft c exit v (body (targets c size start)) d in
    omega (arith, length-put v 0 (Jump start) t.lines, length-turn c exit size v (body (targets c size start)) (grows (targets c size start)) d)

pub length-turns : (c : Clauses) (size : ℕ) (body : Targets → Draft → Draft) (v : Version) → ((to : Targets) → Grows (body to) size) → Grows (turns_draft c size body v) (turn_size c size + 2)
length-turns c size body v grows d =
    let start = length d.lines in
    let exit = start + turn_size c size + 1 in
    let t = turn_draft c exit v (body (targets c size start)) d in
    omega (arith, length-put v 0 Leave (put v 0 Turn t.lines), length-put v 0 Turn t.lines, length-turn c exit size v (body (targets c size start)) (grows (targets c size start)) d)

pub length-loop : (kind : LoopKind) (c : Clauses) (size : ℕ) (body : Version → Targets → Draft → Draft) (v : Version) → ((v' : Version) (to : Targets) → Grows (body v' to) size) → Grows (loop_draft kind c size body v) (loop_size kind (turn_size c size))
length-loop resolved.Plain c size body v grows d = length-plain c size (body v) v (grows v) d
length-loop (resolved.IsRegion r) c size body v grows d =
    let number = length d.regions in
    let place = length d.lines in
    let within = inside number r v in
    let entered = put_word v 0 (Enter number (place + 1 + (turn_size c size + 2))) d in
    let turns = turns_draft c size (body within) within entered in
    omega (arith, length-put v 0 (Enter number (place + 1 + (turn_size c size + 2))) d.lines, length-turns c size (body within) within (grows within) entered, length-plain c size (body v) v (grows v) turns)

mutual
  pub length-stmt : (s : Stmt) (v : Version) (to : Targets) (d : Draft) → length (stmt_draft s v to d).lines ≡ length d.lines + stmt_size s
  length-stmt (resolved.Block ss) v to d = length-stmts ss v to d
  length-stmt (resolved.Do s) v to d = length-simple s v d.lines
  length-stmt (resolved.CallStatement f at es) v to d =
      let a = exprs_lines es v 0 d.lines in let b = put v (count es) (Call f at) a in
      omega (arith, length-exprs es v 0 d.lines, length-put v (count es) (Call f at) a, length-put v 1 Drop b)
  length-stmt (resolved.Print at e) v to d = omega (arith, length-put v 1 (Print at) (expr_lines e v 0 d.lines), length-expr e v 0 d.lines)
  length-stmt (resolved.Emit at e) v to d = omega (arith, length-put v 1 (Emit at) (expr_lines e v 0 d.lines), length-expr e v 0 d.lines)
  length-stmt (resolved.If test s) v to d =
      let behind = length d.lines + expr_size test + 1 + stmt_size s in
      let a = expr_lines test v 0 d.lines in let b = put v 1 (JumpFalse behind) a in
      omega (arith, length-expr test v 0 d.lines, length-put v 1 (JumpFalse behind) a, length-stmt s v to (with_lines d b))
  length-stmt (resolved.IfElse test s other) v to d =
      let other_at = length d.lines + expr_size test + 1 + stmt_size s + 1 in
      let a = expr_lines test v 0 d.lines in let b = put v 1 (JumpFalse other_at) a in
      let c = stmt_draft s v to (with_lines d b) in
      omega (arith, length-expr test v 0 d.lines, length-put v 1 (JumpFalse other_at) a, length-stmt s v to (with_lines d b), length-put v 0 (Jump (other_at + stmt_size other)) c.lines, length-stmt other v to (put_word v 0 (Jump (other_at + stmt_size other)) c))
  length-stmt (resolved.Loop kind c s) v to d =
      let d' = with_lines d (simples_lines c.init v d.lines) in
      omega (arith, length-simples c.init v d.lines, length-loop kind c (stmt_size s) (λ v' to' d''. stmt_draft s v' to' d'') v (λ v' to' d''. length-stmt s v' to' d'') d')
  length-stmt (resolved.DoWhile s test) v to d =
      let T = do_targets test (stmt_size s) (length d.lines) in
      let b = stmt_draft s v T d in
      omega (arith, length-stmt s v T d, length-expr test v 0 b.lines, length-put v 1 (JumpTrue (length d.lines)) (expr_lines test v 0 b.lines))
  length-stmt resolved.Break v to d = length-put v 0 _ d.lines
  length-stmt resolved.Continue v to d = length-put v 0 _ d.lines
  length-stmt (resolved.Return e) v to d = omega (arith, length-put v 1 Ret (expr_lines e v 0 d.lines), length-expr e v 0 d.lines)

  pub length-stmts : (ss : Stmts) (v : Version) (to : Targets) (d : Draft) → length (stmts_draft ss v to d).lines ≡ length d.lines + stmts_size ss
  length-stmts resolved.no_stmts v to d = omega arith
  length-stmts (resolved.stmt_and s ss) v to d = omega (arith, length-stmts ss v to (stmt_draft s v to d), length-stmt s v to d)
