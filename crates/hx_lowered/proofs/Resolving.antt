-- What an accepted tree resolves to is well-formed: statements and whole programs.
use Rattle.std.proofs.Common.{◌≡◌, ℕ, ◌+◌, ◌≤◌, Bool, true, false, List, [], ◌∷◌, length, map, Option, Some, None, refl, sym, ap, subst, ◌∙◌, arith}
use Rattle.std.specs.Prelude.{slice_get, ◌||◌, flat_map, sum_by, codes}
use Rattle.std.specs.List.{AllByRecursion}
use Rattle.std.proofs.lemmas.List.{length-map}
use Rattle.std.proofs.lemmas.List.Elements.{recursion_from_All}
use Rattle.hx_tree.specs.declared.limits.TheConstants.{OPERAND_LIMIT, CELL_LIMIT}
use Rattle.hx_tree.specs.declared.tree.Returns.{Returns}
use Rattle.hx_tree.specs.declared.tree.Returns.TheVariants as returns
use Rattle.hx_tree.specs.Tree as tree
use Rattle.hx_tree.specs.World.{Map, look_up}
use Rattle.hx_tree.specs.Meaning.{functions_of, item_functions}
use Rattle.hx_tree.specs.Height.{if_there}
use Rattle.hx_tree.specs.Need.{need, stmt_need, part_need, parts_need}
use Rattle.hx_tree.specs.Accepted.{Kind, IntKind, ArrayKind, FunctionKind, Surroundings, kinds_of, in_scope, inside_loop, after_init, after_part, at_start, AcceptsReturn, AcceptsStmt, AcceptsPart, AcceptsParts, AcceptsFunction, AcceptsItem, IsAccepted, init_locals, stmt_locals, part_locals, parts_locals, private_words, item_words}
use Rattle.hx_resolved.specs.declared.symbol.Symbol.{Symbol}
use Rattle.hx_resolved.specs.Resolved as resolved
use Rattle.hx_resolved.specs.Symbols.{Scopes, words_after_init, numbered, symbols_of}
use Rattle.hx_resolved.specs.Resolve as to
use Rattle.hx_resolved.specs.Resolve.{int_word, array_words, function_number, or_else, loop_in, while_clauses, resolve_clauses, simples_then, words_after_part, resolve_stmt, resolve_part_then, resolve_parts, resolve_function, resolve, expr_or_zero}
use Rattle.hx_lowered.proofs.WellFormed.{Context, FitsExpr, FitsSimples, FitsClauses, FitsStmt, FitsStmts, FitsFunction, FitsInput, FitsInputLength, IsWellFormed, parameters_of}
use Rattle.hx_lowered.proofs.Symbols.{Agree, agrees, items_length, param_counts}
use Rattle.hx_lowered.proofs.Scopes.{here_scope, here_locals, here_init, here_parameters, same_globals, globals_after, same_loop}
use Rattle.hx_lowered.proofs.Carrying.{region_fits}
use Rattle.hx_lowered.proofs.Accepted.{Around, expr_fits, exprs_fit, same_count, function_is, assignment_fits, value_fits, test_fits, step_fits, locals_fit, init_fits}

simples_fit : (c : Context) (l m : Bool) (ss : List resolved.Simple) (rest : resolved.Stmts) → FitsSimples c ss → FitsStmts c l m rest → FitsStmts c l m (simples_then ss rest)
simples_fit c l m [] rest f g = g
simples_fit c l m (s ∷ ss) rest f g = (f.0, simples_fit c l m ss rest f.1 g)

module _ (c : Context) (kinds : Map Kind) (symbols : Map Symbol) (agree : (x : List ℕ) → Agree c.globals c.parameters (look_up kinds x) (look_up symbols x)) (few : c.privates ≤ CELL_LIMIT) where
  -- where a statement stands
  abbrev setting : Bool → to.Around
  setting m = record { symbols = symbols; privates = c.privates; is_marked = m }

  loop_fits : (marked m l : Bool) (h : resolved.Clauses) (body : resolved.Stmt) → FitsClauses c h → FitsStmt c true (m || marked) body → FitsStmt c l m (loop_in marked (setting m) h body)
  loop_fits true true l h body f g = (f, tt, g)
  loop_fits true false l h body f g = (f, (refl, region_fits c h body few f.0), g)
  loop_fits false true l h body f g = (f, tt, g)
  loop_fits false false l h body f g = (f, tt, g)

  around_scope : (here : Surroundings) (scopes : Scopes) → Around c kinds symbols agree here.globals here.locals scopes → Around c kinds symbols agree here.globals ([] ∷ here.locals) ([] ∷ scopes)
  around_scope here scopes a = record { known = a.known; here = here_scope c.privates here.locals scopes a.here }

  around_init : (i : tree.Init) (here : Surroundings) (scopes : Scopes) (k : ℕ) → Around c kinds symbols agree here.globals here.locals scopes → k + init_locals i ≤ c.privates
      → Around c kinds symbols agree (after_init i here).globals (after_init i here).locals (words_after_init i scopes k)
  around_init i here scopes k a le = record { known = globals_after i here ∙ a.known; here = here_init c.privates i here scopes k a.here le }

  around_part : (p : tree.Part) (here : Surroundings) (scopes : Scopes) (k : ℕ) → Around c kinds symbols agree here.globals here.locals scopes → k + part_locals p ≤ c.privates
      → Around c kinds symbols agree (after_part p here).globals (after_part p here).locals (words_after_part p scopes k)
  around_part (tree.Locals ds) here scopes k a le = record { known = same_globals ds here ∙ a.known; here = here_locals c.privates ds here scopes k a.here le }
  around_part (tree.Statement s) here scopes k a le = a

  loop_after : (p : tree.Part) (here : Surroundings) → (after_part p here).in_loop ≡ here.in_loop
  loop_after (tree.Locals ds) here = same_loop ds here
  loop_after (tree.Statement s) here = refl

  return_fits : (r : Returns) (e : Option tree.Expr) (here : Surroundings) (scopes : Scopes) → Around c kinds symbols agree here.globals here.locals scopes → AcceptsReturn r e here
      → if_there need e ≤ OPERAND_LIMIT → FitsExpr c 0 (expr_or_zero e symbols scopes)
  return_fits returns.Int None here scopes a ok le = absurd ok
  return_fits returns.Int (Some e) here scopes a ok le = value_fits c kinds symbols agree (Some e) here scopes a ok le
  return_fits returns.Void None here scopes a ok le = value_fits c kinds symbols agree None here scopes a tt le
  return_fits returns.Void (Some e) here scopes a ok le = absurd ok

  mutual
    pub stmt_fits : (s : tree.Stmt) (here : Surroundings) (scopes : Scopes) (m : Bool) (k : ℕ) → Around c kinds symbols agree here.globals here.locals scopes → AcceptsStmt s here
        → k + stmt_locals s ≤ c.privates → stmt_need s ≤ OPERAND_LIMIT → FitsStmt c here.in_loop m (resolve_stmt s (setting m) scopes k)
    stmt_fits (tree.Block ps) here scopes m k a ok room le = parts_fit ps (in_scope here) ([] ∷ scopes) m k (around_scope here scopes a) ok room le
    stmt_fits tree.Empty here scopes m k a ok room le = tt
    stmt_fits (tree.Assign s) here scopes m k a ok room le = assignment_fits c kinds symbols agree s here scopes a ok le
    stmt_fits (tree.CallStatement f es) here scopes m k a ok room le =
        (function_is c kinds symbols agree here scopes f ok.0.0 _ a ok.0.1 ∙ ap Some (same_count es symbols scopes), exprs_fit c kinds symbols agree es here scopes 0 0 0 refl a ok.1 (omega arith))
    stmt_fits (tree.Print at e) here scopes m k a ok room le = expr_fits c kinds symbols agree e here scopes 0 a ok (omega arith)
    stmt_fits (tree.Emit at e) here scopes m k a ok room le = expr_fits c kinds symbols agree e here scopes 0 a ok (omega arith)
    stmt_fits (tree.If test s) here scopes m k a ok room le = (expr_fits c kinds symbols agree test here scopes 0 a ok.0 (omega arith), stmt_fits s here scopes m k a ok.1 room (omega arith))
    stmt_fits (tree.IfElse test s other) here scopes m k a ok room le = (
      expr_fits c kinds symbols agree test here scopes 0 a ok.0 (omega arith),
      stmt_fits s here scopes m k a ok.1 (omega arith) (omega arith),
      stmt_fits other here scopes m (k + stmt_locals s) a ok.2 (omega arith) (omega arith),
    )
    stmt_fits (tree.While marked test s) here scopes m k a ok room le =
        loop_fits marked m here.in_loop _ _ (tt, expr_fits c kinds symbols agree test here scopes 0 a ok.0 (omega arith), tt)
        (stmt_fits s (inside_loop here) scopes (m || marked) k (record { known = a.known; here = a.here }) ok.1 room (omega arith))
    stmt_fits (tree.DoWhile s test) here scopes m k a ok room le =
        (stmt_fits s (inside_loop here) scopes m k (record { known = a.known; here = a.here }) ok.0 room (omega arith), expr_fits c kinds symbols agree test here scopes 0 a ok.1 (omega arith))
    stmt_fits (tree.For marked h s) here scopes m k a ok room le =
        let first = around_scope here scopes a in
        let behind = around_init h.init (in_scope here) ([] ∷ scopes) k first (omega arith) in
        let after = after_init h.init (in_scope here) in
        let known = words_after_init h.init ([] ∷ scopes) k in
        loop_fits marked m here.in_loop _ _ (
          init_fits c kinds symbols agree h.init (in_scope here) ([] ∷ scopes) k first ok.0 (omega arith) (omega arith),
          test_fits c kinds symbols agree h.test after known behind ok.1 (omega arith),
          step_fits c kinds symbols agree h.step after known behind ok.2 (omega arith),
        )
        (stmt_fits s (inside_loop after) known (m || marked) (k + init_locals h.init) (record { known = behind.known; here = behind.here }) ok.3 (omega arith) (omega arith))
    stmt_fits (tree.Break at) here scopes m k a ok room le = ok
    stmt_fits (tree.Continue at) here scopes m k a ok room le = ok
    stmt_fits (tree.Return at e) here scopes m k a ok room le = return_fits here.returns e here scopes a ok le

    pub part_fits : (p : tree.Part) (here : Surroundings) (scopes : Scopes) (m : Bool) (k : ℕ) (rest : resolved.Stmts) → Around c kinds symbols agree here.globals here.locals scopes → AcceptsPart p here
        → k + part_locals p ≤ c.privates → part_need p ≤ OPERAND_LIMIT → FitsStmts c here.in_loop m rest → FitsStmts c here.in_loop m (resolve_part_then p (setting m) scopes k rest)
    part_fits (tree.Locals ds) here scopes m k rest a ok room le g = simples_fit c here.in_loop m _ rest (locals_fit c kinds symbols agree ds here scopes k a ok room le) g
    part_fits (tree.Statement s) here scopes m k rest a ok room le g = (stmt_fits s here scopes m k a ok room le, g)

    pub parts_fit : (ps : tree.Parts) (here : Surroundings) (scopes : Scopes) (m : Bool) (k : ℕ) → Around c kinds symbols agree here.globals here.locals scopes → AcceptsParts ps here
        → k + parts_locals ps ≤ c.privates → parts_need ps ≤ OPERAND_LIMIT → FitsStmts c here.in_loop m (resolve_parts ps (setting m) scopes k)
    parts_fit tree.no_parts here scopes m k a ok room le = tt
    parts_fit (tree.part_and p ps) here scopes m k a ok room le =
        let rest = resolve_parts ps (setting m) (words_after_part p scopes k) (k + part_locals p) in
        part_fits p here scopes m k rest a ok.0 (omega arith) (omega arith)
        (subst (λ l. FitsStmts c l m rest) (loop_after p here)
        (parts_fit ps (after_part p here) (words_after_part p scopes k) m (k + part_locals p) (around_part p here scopes k a (omega arith)) ok.1 (omega arith) (omega arith)))

-- ---- whole programs

module _ (p : tree.Program) (ok : IsAccepted p) where
  items : AllByRecursion (AcceptsItem (kinds_of p)) p.items
  items = recursion_from_All _ p.items ok.items

  words_are : length (resolve p).opening ≡ sum_by item_words p.items
  words_are = items_length (kinds_of p) p.items items

  counts_are : (fs : List tree.Func) → param_counts fs ≡ parameters_of (map (resolve_function (symbols_of p)) fs)
  counts_are [] = refl
  counts_are (f ∷ fs) = ap (λ rest. length (tree.param_names f.params) ∷ rest) (counts_are fs)

  agree : (x : List ℕ) → Agree (length (resolve p).opening) (parameters_of (resolve p).functions) (look_up (kinds_of p) x) (look_up (symbols_of p) x)
  agree x = subst (λ ps. Agree (length (resolve p).opening) ps (look_up (kinds_of p) x) (look_up (symbols_of p) x)) (counts_are (functions_of p)) (agrees p x (length (resolve p).opening) items (omega (arith, words_are)))

  function_fits : (f : tree.Func) → AcceptsFunction (kinds_of p) f → FitsFunction (length (resolve p).opening) (parameters_of (resolve p).functions) (resolve_function (symbols_of p) f)
  function_fits f a = record {
    few_parameters = a.few_params;
    are_private = omega arith;
    few_privates = a.few_private;
    body = parts_fit (record { privates = private_words f; globals = length (resolve p).opening; parameters = parameters_of (resolve p).functions }) (kinds_of p) (symbols_of p) agree
        (omega (arith, a.few_private)) f.body (at_start (kinds_of p) f) (numbered (tree.param_names f.params) 0 ∷ []) false (length (tree.param_names f.params))
        (record { known = refl; here = here_parameters (tree.param_names f.params) (private_words f) (omega arith) }) a.body (omega arith) (omega (arith, a.few_operands));
  }

  functions_fit : (is : List tree.Item) → AllByRecursion (AcceptsItem (kinds_of p)) is
      → AllByRecursion (FitsFunction (length (resolve p).opening) (parameters_of (resolve p).functions)) (map (resolve_function (symbols_of p)) (flat_map item_functions is))
  functions_fit [] h = tt
  functions_fit (tree.Globals gs ∷ is) h = functions_fit is h.1
  functions_fit (tree.Function f ∷ is) h = (function_fits f h.0, functions_fit is h.1)

  main_fits : slice_get (parameters_of (resolve p).functions) (resolve p).main ≡ Some 0
  main_fits =
      let found = subst (λ o. Agree (length (resolve p).opening) (parameters_of (resolve p).functions) o (look_up (symbols_of p) (codes "main"))) ok.has_main (agree (codes "main")) in
      let is : (resolve p).main ≡ found.0 = ap (λ s. or_else (function_number s) 0) found.1 in
      ap (λ i. slice_get (parameters_of (resolve p).functions) i) is ∙ found.2

  -- the words of any global are within the globals
  array_fits : (x : List ℕ) → FitsInput (length (resolve p).opening) (array_words (look_up (symbols_of p) x))
  array_fits x = go (look_up (kinds_of p) x) (agree x)
    where
      go : (o : Option Kind) → Agree (length (resolve p).opening) (parameters_of (resolve p).functions) o (look_up (symbols_of p) x) → FitsInput (length (resolve p).opening) (array_words (look_up (symbols_of p) x))
      go None a = subst (λ s. FitsInput (length (resolve p).opening) (array_words s)) (sym a) tt
      go (Some IntKind) a = subst (λ s. FitsInput (length (resolve p).opening) (array_words s)) (sym a.1) tt
      go (Some ArrayKind) a = subst (λ s. FitsInput (length (resolve p).opening) (array_words s)) (sym a.2) a.4
      go (Some (FunctionKind r k)) a = subst (λ s. FitsInput (length (resolve p).opening) (array_words s)) (sym a.1) tt

  int_fits : (x : List ℕ) → FitsInputLength (length (resolve p).opening) (int_word (look_up (symbols_of p) x))
  int_fits x = go (look_up (kinds_of p) x) (agree x)
    where
      go : (o : Option Kind) → Agree (length (resolve p).opening) (parameters_of (resolve p).functions) o (look_up (symbols_of p) x) → FitsInputLength (length (resolve p).opening) (int_word (look_up (symbols_of p) x))
      go None a = subst (λ s. FitsInputLength (length (resolve p).opening) (int_word s)) (sym a) tt
      go (Some IntKind) a = subst (λ s. FitsInputLength (length (resolve p).opening) (int_word s)) (sym a.1) a.2
      go (Some ArrayKind) a = subst (λ s. FitsInputLength (length (resolve p).opening) (int_word s)) (sym a.2) tt
      go (Some (FunctionKind r k)) a = subst (λ s. FitsInputLength (length (resolve p).opening) (int_word s)) (sym a.1) tt

  -- what an accepted program resolves to is well-formed
  pub resolved_well : IsWellFormed (resolve p)
  resolved_well = record {
    few_functions = omega (arith, length-map (functions_of p) (resolve_function (symbols_of p)), ok.few_functions);
    functions = functions_fit p.items items;
    few_words = omega (arith, words_are, ok.few_words);
    main = main_fits;
    input = array_fits (codes "in");
    input_length = int_fits (codes "n_in");
  }
