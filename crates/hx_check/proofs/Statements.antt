-- The checks of statements are right exactly where they are accepted, give them resolved, and leave the scopes as they were.
use Rattle.std.proofs.Common.{◌≡◌, ℕ, ◌+◌, ◌≤◌, false, List, [], ◌∷◌, ◌++◌, drop, map, refl, ap, sym, ◌∙◌, subst, append_assoc, append-nil, add-zero, add_assoc, arith}
use Rattle.std.specs.Prelude.{Ok}
use Rattle.hx_tree.specs.declared.limits.TheConstants.{PRIVATE_LIMIT}
use Rattle.hx_tree.specs.Tree as tree
use Rattle.hx_tree.specs.World.{Map, look_up}
use Rattle.hx_tree.specs.Accepted.{Surroundings, AcceptsExpr, AcceptsAssignment, AcceptsStmt, AcceptsPart, AcceptsParts, IfThere, count, after_init, after_part, inside_loop, init_locals, stmt_locals, part_locals, parts_locals}
use Rattle.hx_check.specs.declared.here.Here.{Here}
use Rattle.hx_resolved.specs.declared.symbol.Symbol.{Symbol}
use Rattle.hx_resolved.specs.Resolved.{Simple, Assign, Stmt, Block, Do, CallStatement, Print, Emit, IfElse, Break, Continue, Return, Stmts, no_stmts, stmt_and, stmts}
use Rattle.hx_resolved.specs.Symbols.{Known, Scopes, private_word, with_word, with_words, words_after_init}
use Rattle.hx_resolved.specs.Resolve.{Around, resolve_expr, resolve_exprs, resolve_assignment, resolve_locals, resolve_stmt, resolve_part_then, resolve_parts, simples_then, words_after_part, function_at, expr_or_zero}
use Rattle.hx_check.specs.Reading as reading
use Rattle.hx_check.specs.Reading.{Checks, ◌>>=◌, unless, check_expr, check_exprs, check_assignment, check_test, check_step, check_callee, check_locals, check_init, check_return, check_stmt, check_part, check_parts, in_scope, out_of_scope, make_loop}
use Rattle.hx_check.specs.declared.error.CheckError.TheVariants.{OutsideLoop}
use Rattle.hx_check.proofs.Steps.{bind_ok, bind_at, same_ok}
use Rattle.hx_check.proofs.WhatIsNamed.{surroundings, kind_is, call_at, call_known}
use Rattle.hx_check.proofs.Expressions.{complete, complete_all, sound, sound_all, exprs-list}
use Rattle.hx_check.proofs.Assignments.{at, complete_assignment, sound_assignment, complete_test, sound_test, complete_step, sound_step, complete_return, sound_return, unless_at, unless_ok, with_locals_is, after_init_is, complete_locals, sound_locals, complete_init, sound_init}

-- where a resolved statement stands
abbrev pub around : Map Symbol → Here → Around
around symbols here = record { symbols = symbols; privates = here.privates; is_marked = here.is_marked }

-- ---- statements as a list

abbrev pub list_of_stmts : Stmts → List Stmt
list_of_stmts no_stmts = []
list_of_stmts (stmt_and s ss) = s ∷ list_of_stmts ss

pub stmts-list : (ss : Stmts) → stmts (list_of_stmts ss) ≡ ss
stmts-list no_stmts = refl
stmts-list (stmt_and s ss) = ap (λ ss'. stmt_and s ss') (stmts-list ss)

abbrev part_list : tree.Part → Around → Scopes → ℕ → List Stmt
part_list (tree.Locals ds) around scopes k = map Do (resolve_locals ds around.symbols scopes k)
part_list (tree.Statement s) around scopes k = resolve_stmt s around scopes k ∷ []

simples-list : (ss : List Simple) (rest : Stmts) → map Do ss ++ list_of_stmts rest ≡ list_of_stmts (simples_then ss rest)
simples-list [] rest = refl
simples-list (s ∷ ss) rest = ap (λ l. Do s ∷ l) (simples-list ss rest)

part-list : (p : tree.Part) (a : Around) (scopes : Scopes) (k : ℕ) (rest : Stmts) → part_list p a scopes k ++ list_of_stmts rest ≡ list_of_stmts (resolve_part_then p a scopes k rest)
part-list (tree.Locals ds) a scopes k rest = simples-list (resolve_locals ds a.symbols scopes k) rest
part-list (tree.Statement s) a scopes k rest = refl

-- ---- the scopes after parts

abbrev pub words_after : tree.Parts → Scopes → ℕ → Scopes
words_after tree.no_parts scopes k = scopes
words_after (tree.part_and p ps) scopes k = words_after ps (words_after_part p scopes k) (k + part_locals p)

outer_with_word : (scopes : Scopes) (x : List ℕ) (k : ℕ) → drop 1 (with_word scopes x k) ≡ drop 1 scopes
outer_with_word [] x k = refl
outer_with_word (scope ∷ outer) x k = refl

outer_with_words : (ds : List tree.LocalDecl) (scopes : Scopes) (k : ℕ) → drop 1 (with_words ds scopes k) ≡ drop 1 scopes
outer_with_words [] scopes k = refl
outer_with_words (d ∷ ds) scopes k = outer_with_words ds (with_word scopes d.name.text k) (k + 1) ∙ outer_with_word scopes d.name.text k

outer_after_init : (i : tree.Init) (scopes : Scopes) (k : ℕ) → drop 1 (words_after_init i scopes k) ≡ drop 1 scopes
outer_after_init tree.NoInit scopes k = refl
outer_after_init (tree.InitLocals ds) scopes k = outer_with_words ds scopes k
outer_after_init (tree.InitAssign a) scopes k = refl

outer_after_part : (p : tree.Part) (scopes : Scopes) (k : ℕ) → drop 1 (words_after_part p scopes k) ≡ drop 1 scopes
outer_after_part (tree.Locals ds) scopes k = outer_with_words ds scopes k
outer_after_part (tree.Statement s) scopes k = refl

pub outer_after : (ps : tree.Parts) (scopes : Scopes) (k : ℕ) → drop 1 (words_after ps scopes k) ≡ drop 1 scopes
outer_after tree.no_parts scopes k = refl
outer_after (tree.part_and p ps) scopes k = outer_after ps (words_after_part p scopes k) (k + part_locals p) ∙ outer_after_part p scopes k

after_part_is : (p : tree.Part) (symbols : Map Symbol) (here : Here) (scopes : Scopes) (k : ℕ) → after_part p (surroundings symbols here scopes) ≡ surroundings symbols here (words_after_part p scopes k)
after_part_is (tree.Locals ds) symbols here scopes k = with_locals_is ds symbols here scopes k
after_part_is (tree.Statement s) symbols here scopes k = refl

-- ---- what is accepted is right

mutual
  pub complete_stmt : (s : tree.Stmt) (symbols : Map Symbol) (here : Here) (scopes : Scopes) (k : ℕ) → k + stmt_locals s ≤ PRIVATE_LIMIT → AcceptsStmt s (surroundings symbols here scopes) → check_stmt s symbols here (at scopes k) ≡ Ok (resolve_stmt s (around symbols here) scopes k, at scopes (k + stmt_locals s))
  complete_stmt (tree.Block ps) symbols here scopes k room h =
      let r = resolve_parts ps (around symbols here) ([] ∷ scopes) k in
      bind_at _ _ _ _ (complete_parts ps symbols here ([] ∷ scopes) k [] room h)
      (ap (λ ss. Ok (Block ss, at (drop 1 (words_after ps ([] ∷ scopes) k)) (k + parts_locals ps))) (stmts-list r)
      ∙ ap (λ sc. Ok (Block r, at sc (k + parts_locals ps))) (outer_after ps ([] ∷ scopes) k))
  complete_stmt tree.Empty symbols here scopes k room h = ap (λ n. Ok (Block no_stmts, at scopes n)) (sym (add-zero k))
  complete_stmt (tree.Assign a) symbols here scopes k room h =
      bind_at _ _ _ _ (complete_assignment a symbols here scopes h)
      (ap (λ n. Ok (Do (Assign (resolve_assignment a symbols scopes)), at scopes n)) (sym (add-zero k)))
  complete_stmt (tree.CallStatement f es) symbols here scopes k room h =
      bind_at _ _ _ _ (call_at f (count es) h.0.0 (private_word scopes f.text) (look_up symbols f.text) (sym (kind_is f symbols here scopes) ∙ h.0.1))
      (bind_at _ _ _ _ (complete_all es symbols here scopes [] h.1)
      (ap (λ es'. Ok (CallStatement (function_at f symbols) f.pos es', at scopes k)) (exprs-list (resolve_exprs es symbols scopes))
      ∙ ap (λ n. Ok (CallStatement (function_at f symbols) f.pos (resolve_exprs es symbols scopes), at scopes n)) (sym (add-zero k))))
  complete_stmt (tree.Print pos e) symbols here scopes k room h =
      bind_at _ _ _ _ (complete e symbols here scopes h) (ap (λ n. Ok (Print pos (resolve_expr e symbols scopes), at scopes n)) (sym (add-zero k)))
  complete_stmt (tree.Emit pos e) symbols here scopes k room h =
      bind_at _ _ _ _ (complete e symbols here scopes h) (ap (λ n. Ok (Emit pos (resolve_expr e symbols scopes), at scopes n)) (sym (add-zero k)))
  complete_stmt (tree.If test s) symbols here scopes k room h =
      bind_at _ _ _ _ (complete test symbols here scopes h.0) (bind_at _ _ _ _ (complete_stmt s symbols here scopes k room h.1) refl)
  complete_stmt (tree.IfElse test s other) symbols here scopes k room h =
      let a = around symbols here in
      bind_at _ _ _ _ (complete test symbols here scopes h.0)
      (bind_at _ _ _ _ (complete_stmt s symbols here scopes k (omega arith) h.1)
      (bind_at _ _ _ _ (complete_stmt other symbols here scopes (k + stmt_locals s) (omega arith) h.2)
      (ap (λ n. Ok (IfElse (resolve_expr test symbols scopes) (resolve_stmt s a scopes k) (resolve_stmt other a scopes (k + stmt_locals s)), at scopes n))
      (add_assoc k (stmt_locals s) (stmt_locals other)))))
  complete_stmt (tree.While marked test s) symbols here scopes k room h =
      bind_at _ _ _ _ (complete test symbols here scopes h.0)
      (bind_at _ _ _ _ (complete_stmt s symbols (reading.inside marked here) scopes k room h.1) refl)
  complete_stmt (tree.DoWhile s test) symbols here scopes k room h =
      bind_at _ _ _ _ (complete_stmt s symbols (reading.within_loop here) scopes k room h.0) (bind_at _ _ _ _ (complete test symbols here scopes h.1) refl)
  complete_stmt (tree.For marked f s) symbols here scopes k room h =
      let a = around symbols here in
      let inner : Scopes = words_after_init f.init ([] ∷ scopes) k in
      let Rest : Surroundings → Type 0 = λ su. IfThere AcceptsExpr f.test su × IfThere AcceptsAssignment f.step su × AcceptsStmt s (inside_loop su) in
      let rest : Rest (surroundings symbols here inner) = subst Rest (after_init_is f.init symbols here ([] ∷ scopes) k) (h.1, h.2, h.3) in
      let r = resolve_stmt (tree.For marked f s) a scopes k in
      bind_at _ _ _ _ (complete_init f.init symbols here ([] ∷ scopes) k (omega arith) h.0)
      (bind_at _ _ _ _ (complete_test f.test symbols here inner rest.0)
      (bind_at _ _ _ _ (complete_step f.step symbols here inner rest.1)
      (bind_at _ _ _ _ (complete_stmt s symbols (reading.inside marked here) inner (k + init_locals f.init) (omega arith) rest.2)
      (ap (λ sc. Ok (r, at sc ((k + init_locals f.init) + stmt_locals s))) (outer_after_init f.init ([] ∷ scopes) k)
      ∙ ap (λ n. Ok (r, at scopes n)) (add_assoc k (init_locals f.init) (stmt_locals s))))))
  complete_stmt (tree.Break pos) symbols here scopes k room h =
      bind_at _ _ _ _ (unless_at here.in_loop (OutsideLoop pos) h) (ap (λ n. Ok (Break, at scopes n)) (sym (add-zero k)))
  complete_stmt (tree.Continue pos) symbols here scopes k room h =
      bind_at _ _ _ _ (unless_at here.in_loop (OutsideLoop pos) h) (ap (λ n. Ok (Continue, at scopes n)) (sym (add-zero k)))
  complete_stmt (tree.Return pos e) symbols here scopes k room h =
      bind_at _ _ _ _ (complete_return pos here.returns e symbols here scopes h)
      (ap (λ n. Ok (Return (expr_or_zero e symbols scopes), at scopes n)) (sym (add-zero k)))

  pub complete_part : (p : tree.Part) (symbols : Map Symbol) (here : Here) (scopes : Scopes) (k : ℕ) (done : List Stmt) → k + part_locals p ≤ PRIVATE_LIMIT → AcceptsPart p (surroundings symbols here scopes) → check_part p symbols here (at scopes k) done ≡ Ok (done ++ part_list p (around symbols here) scopes k, at (words_after_part p scopes k) (k + part_locals p))
  complete_part (tree.Locals ds) symbols here scopes k done room h = bind_at _ _ _ _ (complete_locals ds symbols here scopes k [] room h) refl
  complete_part (tree.Statement s) symbols here scopes k done room h = bind_at _ _ _ _ (complete_stmt s symbols here scopes k room h) refl

  pub complete_parts : (ps : tree.Parts) (symbols : Map Symbol) (here : Here) (scopes : Scopes) (k : ℕ) (done : List Stmt) → k + parts_locals ps ≤ PRIVATE_LIMIT → AcceptsParts ps (surroundings symbols here scopes) → check_parts ps symbols here (at scopes k) done ≡ Ok (done ++ list_of_stmts (resolve_parts ps (around symbols here) scopes k), at (words_after ps scopes k) (k + parts_locals ps))
  complete_parts tree.no_parts symbols here scopes k done room h =
      ap (λ l. Ok (l, at scopes k)) (sym (append-nil done)) ∙ ap (λ n. Ok (done ++ [], at scopes n)) (sym (add-zero k))
  complete_parts (tree.part_and p ps) symbols here scopes k done room h =
      let a = around symbols here in
      let inner : Scopes = words_after_part p scopes k in
      let n = k + part_locals p in
      let rest = resolve_parts ps a inner n in
      let accepted = subst (λ (su : Surroundings). AcceptsParts ps su) (after_part_is p symbols here scopes k) h.1 in
      bind_at _ _ _ _ (complete_part p symbols here scopes k done (omega arith) h.0)
      (complete_parts ps symbols here inner n (done ++ part_list p a scopes k) (omega arith) accepted
      ∙ ap (λ l. Ok (l, at (words_after ps inner n) (n + parts_locals ps)))
      (append_assoc done (part_list p a scopes k) (list_of_stmts rest) ∙ ap (λ l. done ++ l) (part-list p a scopes k rest))
      ∙ ap (λ m. Ok (done ++ list_of_stmts (resolve_part_then p a scopes k rest), at (words_after ps inner n) m)) (add_assoc k (part_locals p) (parts_locals ps)))

-- ---- what is right is accepted

mutual
  pub sound_stmt : (s : tree.Stmt) (symbols : Map Symbol) (here : Here) (scopes : Scopes) (k : ℕ) (r : Stmt × Known) → k + stmt_locals s ≤ PRIVATE_LIMIT → check_stmt s symbols here (at scopes k) ≡ Ok r → AcceptsStmt s (surroundings symbols here scopes)
  sound_stmt (tree.Block ps) symbols here scopes k r room h =
      let a = bind_ok (check_parts ps symbols here (at ([] ∷ scopes) k) []) _ r h in
      sound_parts ps symbols here ([] ∷ scopes) k [] a.0 room a.1
  sound_stmt tree.Empty symbols here scopes k r room h = tt
  sound_stmt (tree.Assign a) symbols here scopes k r room h =
      let b = bind_ok (check_assignment a symbols scopes) _ r h in sound_assignment a symbols here scopes b.0 b.1
  sound_stmt (tree.CallStatement f es) symbols here scopes k r room h =
      let a = bind_ok (check_callee false f (count es) symbols scopes) _ r h in
      let b = bind_ok (check_exprs es symbols scopes []) _ r a.2 in
      let known = call_known f (count es) (private_word scopes f.text) (look_up symbols f.text) a.0 a.1 in
      ((known.0, kind_is f symbols here scopes ∙ known.1), sound_all es symbols here scopes [] b.0 b.1)
  sound_stmt (tree.Print pos e) symbols here scopes k r room h = let a = bind_ok (check_expr e symbols scopes) _ r h in sound e symbols here scopes a.0 a.1
  sound_stmt (tree.Emit pos e) symbols here scopes k r room h = let a = bind_ok (check_expr e symbols scopes) _ r h in sound e symbols here scopes a.0 a.1
  sound_stmt (tree.If test s) symbols here scopes k r room h =
      let a = bind_ok (check_expr test symbols scopes) _ r h in
      let b = bind_ok (check_stmt s symbols here (at scopes k)) _ r a.2 in
      (sound test symbols here scopes a.0 a.1, sound_stmt s symbols here scopes k b.0 room b.1)
  sound_stmt (tree.IfElse test s other) symbols here scopes k r room h =
      let a = bind_ok (check_expr test symbols scopes) _ r h in
      let b = bind_ok (check_stmt s symbols here (at scopes k)) _ r a.2 in
      let first = sound_stmt s symbols here scopes k b.0 (omega arith) b.1 in
      let same : b.0.1 ≡ at scopes (k + stmt_locals s) = ap (λ p. p.1) (same_ok _ _ _ b.1 (complete_stmt s symbols here scopes k (omega arith) first)) in
      let c = bind_ok (check_stmt other symbols here b.0.1) _ r b.2 in
      let second = subst (λ (known : Known). check_stmt other symbols here known ≡ Ok c.0) same c.1 in
      (sound test symbols here scopes a.0 a.1, first, sound_stmt other symbols here scopes (k + stmt_locals s) c.0 (omega arith) second)
  sound_stmt (tree.While marked test s) symbols here scopes k r room h =
      let a = bind_ok (check_expr test symbols scopes) _ r h in
      let b = bind_ok (check_stmt s symbols (reading.inside marked here) (at scopes k)) _ r a.2 in
      (sound test symbols here scopes a.0 a.1, sound_stmt s symbols (reading.inside marked here) scopes k b.0 room b.1)
  sound_stmt (tree.DoWhile s test) symbols here scopes k r room h =
      let inner = reading.within_loop here in
      let a = bind_ok (check_stmt s symbols inner (at scopes k)) _ r h in
      let first = sound_stmt s symbols inner scopes k a.0 room a.1 in
      let same : a.0.1 ≡ at scopes (k + stmt_locals s) = ap (λ p. p.1) (same_ok _ _ _ a.1 (complete_stmt s symbols inner scopes k room first)) in
      let b = bind_ok (check_expr test symbols a.0.1.scopes) _ r a.2 in
      let second = subst (λ (known : Known). check_expr test symbols known.scopes ≡ Ok b.0) same b.1 in
      (first, sound test symbols here scopes b.0 second)
  sound_stmt (tree.For marked f s) symbols here scopes k r room h =
      let inner : Scopes = words_after_init f.init ([] ∷ scopes) k in
      let n = k + init_locals f.init in
      let a = bind_ok (check_init f.init symbols (at ([] ∷ scopes) k)) _ r h in
      let first = sound_init f.init symbols here ([] ∷ scopes) k a.0 (omega arith) a.1 in
      let same : a.0.1 ≡ at inner n = ap (λ p. p.1) (same_ok _ _ _ a.1 (complete_init f.init symbols here ([] ∷ scopes) k (omega arith) first)) in
      let b = bind_ok (check_test f.test symbols a.0.1.scopes) _ r a.2 in
      let c = bind_ok (check_step f.step symbols a.0.1.scopes) _ r b.2 in
      let d = bind_ok (check_stmt s symbols (reading.inside marked here) a.0.1) _ r c.2 in
      let test = subst (λ (known : Known). check_test f.test symbols known.scopes ≡ Ok b.0) same b.1 in
      let step = subst (λ (known : Known). check_step f.step symbols known.scopes ≡ Ok c.0) same c.1 in
      let body = subst (λ (known : Known). check_stmt s symbols (reading.inside marked here) known ≡ Ok d.0) same d.1 in
      let Rest : Surroundings → Type 0 = λ su. IfThere AcceptsExpr f.test su × IfThere AcceptsAssignment f.step su × AcceptsStmt s (inside_loop su) in
      let inside : Rest (surroundings symbols here inner) =
      (sound_test f.test symbols here inner b.0 test, sound_step f.step symbols here inner c.0 step, sound_stmt s symbols (reading.inside marked here) inner n d.0 (omega arith) body) in
      let rest : Rest (after_init f.init (surroundings symbols here ([] ∷ scopes))) = subst Rest (sym (after_init_is f.init symbols here ([] ∷ scopes) k)) inside in
      (first, rest.0, rest.1, rest.2)
  sound_stmt (tree.Break pos) symbols here scopes k r room h =
      let a = bind_ok (unless here.in_loop (OutsideLoop pos)) _ r h in unless_ok here.in_loop (OutsideLoop pos) a.0 a.1
  sound_stmt (tree.Continue pos) symbols here scopes k r room h =
      let a = bind_ok (unless here.in_loop (OutsideLoop pos)) _ r h in unless_ok here.in_loop (OutsideLoop pos) a.0 a.1
  sound_stmt (tree.Return pos e) symbols here scopes k r room h =
      let a = bind_ok (check_return pos here.returns e symbols scopes) _ r h in sound_return pos here.returns e symbols here scopes a.0 a.1

  pub sound_part : (p : tree.Part) (symbols : Map Symbol) (here : Here) (scopes : Scopes) (k : ℕ) (done : List Stmt) (r : List Stmt × Known) → k + part_locals p ≤ PRIVATE_LIMIT → check_part p symbols here (at scopes k) done ≡ Ok r → AcceptsPart p (surroundings symbols here scopes)
  sound_part (tree.Locals ds) symbols here scopes k done r room h =
      let a = bind_ok (check_locals ds symbols (at scopes k) []) _ r h in sound_locals ds symbols here scopes k [] a.0 room a.1
  sound_part (tree.Statement s) symbols here scopes k done r room h =
      let a = bind_ok (check_stmt s symbols here (at scopes k)) _ r h in sound_stmt s symbols here scopes k a.0 room a.1

  pub sound_parts : (ps : tree.Parts) (symbols : Map Symbol) (here : Here) (scopes : Scopes) (k : ℕ) (done : List Stmt) (r : List Stmt × Known) → k + parts_locals ps ≤ PRIVATE_LIMIT → check_parts ps symbols here (at scopes k) done ≡ Ok r → AcceptsParts ps (surroundings symbols here scopes)
  sound_parts tree.no_parts symbols here scopes k done r room h = tt
  sound_parts (tree.part_and p ps) symbols here scopes k done r room h =
      let inner : Scopes = words_after_part p scopes k in
      let n = k + part_locals p in
      let a = bind_ok (check_part p symbols here (at scopes k) done) _ r h in
      let first = sound_part p symbols here scopes k done a.0 (omega arith) a.1 in
      let same : a.0.1 ≡ at inner n = ap (λ q. q.1) (same_ok _ _ _ a.1 (complete_part p symbols here scopes k done (omega arith) first)) in
      let go = subst (λ (known : Known). check_parts ps symbols here known a.0.0 ≡ Ok r) same a.2 in
      let rest = sound_parts ps symbols here inner n a.0.0 r (omega arith) go in
      (first, subst (λ (su : Surroundings). AcceptsParts ps su) (sym (after_part_is p symbols here scopes k)) rest)
