-- What an accepted tree resolves to is well-formed: expressions and assignments.
use Rattle.std.proofs.Common.{◌≡◌, ℕ, suc, ◌+◌, ◌≤◌, ◌<◌, List, [], ◌∷◌, length, Option, Some, None, refl, sym, ap, subst, ◌∙◌, arith}
use Rattle.std.specs.Prelude.{slice_get, option_map}
use Rattle.hx_tree.specs.declared.limits.TheConstants.{OPERAND_LIMIT}
use Rattle.hx_tree.specs.declared.tree.BinaryOp.TheVariants.{Strict, And, Or}
use Rattle.hx_tree.specs.declared.tree.Returns.{Returns}
use Rattle.hx_tree.specs.declared.token.Pos.{Pos}
use Rattle.hx_tree.specs.declared.tree.Operator.{Operator}
use Rattle.hx_tree.specs.Tree as tree
use Rattle.hx_tree.specs.World.{Map, look_up}
use Rattle.hx_tree.specs.Height.{if_there}
use Rattle.hx_tree.specs.Need.{need, needs, set_need, update_need, assignment_need, locals_need, init_need}
use Rattle.hx_tree.specs.Accepted.{Kind, IntKind, ArrayKind, FunctionKind, Surroundings, kind_of, count, IsInt, IsArray, AcceptsExpr, AcceptsExprs, IfThere, AcceptsPlace, AcceptsAssignment, AcceptsLocals, AcceptsInit, with_local, init_locals}
use Rattle.hx_resolved.specs.declared.symbol.Symbol.{Symbol}
use Rattle.hx_resolved.specs.Resolved as resolved
use Rattle.hx_resolved.specs.Symbols.{Scopes, private_word, with_word}
use Rattle.hx_resolved.specs.Resolve.{int_word, array_words, function_number, or_else, no_words, words_named, function_at, word_named, variable, to_variable, resolve_expr, resolve_exprs, resolve_place, resolve_assignment, expr_or_zero, resolve_locals, resolve_init}
use Rattle.hx_lowering.specs.Lines as lines
use Rattle.hx_lowered.proofs.WellFormed.{Context, FitsWords, FitsExpr, FitsExprs, FitsAssignment, FitsSimples, FitsTest, FitsStep}
use Rattle.hx_lowered.proofs.Symbols.{Agree}
use Rattle.hx_lowered.proofs.Scopes.{Here, here_with, global_kind, other_kind}

-- an expression needs an operand
need_some : (e : tree.Expr) → 1 ≤ need e
need_some (tree.Number n) = omega arith
need_some (tree.Variable x) = omega arith
need_some (tree.Element x e) = need_some e
need_some (tree.Call f es) = omega arith
need_some (tree.Paren e) = need_some e
need_some (tree.Unary o e) = need_some e
need_some (tree.Binary (Strict o) at l r) = omega (arith, need_some l)
need_some (tree.Binary And at l r) = omega arith
need_some (tree.Binary Or at l r) = omega arith
need_some (tree.Conditional c a b) = omega (arith, need_some c)

pub same_count : (es : tree.Exprs) (symbols : Map Symbol) (scopes : Scopes) → count es ≡ lines.count (resolve_exprs es symbols scopes)
same_count tree.no_exprs symbols scopes = refl
same_count (tree.expr_and e es) symbols scopes = next (same_count es symbols scopes)
  where
    next : {a b : ℕ} → a ≡ b → 1 + a ≡ b + 1
    next e = omega arith

-- a local of the function, or a word of the globals
abbrev pub IsVariable : Context → Option ℕ → ℕ → Type 0
IsVariable c (Some k) word = k < c.privates
IsVariable c None word = word < c.globals

module _ (c : Context) (kinds : Map Kind) (symbols : Map Symbol) (agree : (x : List ℕ) → Agree c.globals c.parameters (look_up kinds x) (look_up symbols x)) where
  pub record Around (globals : Map Kind) (locals : List (List (List ℕ))) (scopes : Scopes) : Type 0 where
    pub known : globals ≡ kinds
    pub here : Here c.privates locals scopes

  kind_there : (here : Surroundings) (scopes : Scopes) (x : tree.Name) (kind : Kind) → Around here.globals here.locals scopes → look_up here.globals x.text ≡ Some kind
      → Agree c.globals c.parameters (Some kind) (look_up symbols x.text)
  kind_there here scopes x kind a e = subst (λ o. Agree c.globals c.parameters o (look_up symbols x.text)) (ap (λ ks. look_up ks x.text) (sym a.known) ∙ e) (agree x.text)

  variable_is : (here : Surroundings) (scopes : Scopes) (x : tree.Name) → Around here.globals here.locals scopes → IsInt x here → IsVariable c (private_word scopes x.text) (word_named x symbols)
  variable_is here scopes x a int = go (private_word scopes x.text) refl
    where
      go : (o : Option ℕ) → private_word scopes x.text ≡ o → IsVariable c o (word_named x symbols)
      go (Some k) e = a.here.below x.text k e
      go None e =
          let found = kind_there here scopes x IntKind a (sym (global_kind c.privates here scopes x a.here e) ∙ int) in
          let is : word_named x symbols ≡ found.0 = ap (λ s. or_else (int_word s) 0) found.1 in
          omega (arith, found.2)

  array_is : (here : Surroundings) (scopes : Scopes) (x : tree.Name) → Around here.globals here.locals scopes → IsArray x here → FitsWords c (words_named x symbols)
  array_is here scopes x a array =
      let found = kind_there here scopes x ArrayKind a (other_kind c.privates here scopes x ArrayKind a.here array (λ e. cc)) in
      let is : words_named x symbols ≡ record { base = found.0; length = found.1 } = ap (λ s. or_else (array_words s) no_words) found.2 in
      subst (FitsWords c) (sym is) (found.3, found.4)

  pub function_is : (here : Surroundings) (scopes : Scopes) (f : tree.Name) (r : Returns) (n : ℕ) → Around here.globals here.locals scopes → kind_of f here ≡ Some (FunctionKind r n)
      → slice_get c.parameters (function_at f symbols) ≡ Some n
  function_is here scopes f r n a e =
      let found = kind_there here scopes f (FunctionKind r n) a (other_kind c.privates here scopes f (FunctionKind r n) a.here e (λ h. cc)) in
      let is : function_at f symbols ≡ found.0 = ap (λ s. or_else (function_number s) 0) found.1 in
      ap (λ i. slice_get c.parameters i) is ∙ found.2

  variable_fits : (h word : ℕ) (o : Option ℕ) → h < OPERAND_LIMIT → IsVariable c o word → FitsExpr c h (variable o word)
  variable_fits h word (Some k) low is = (low, is)
  variable_fits h word None low is = (low, is)

  mutual
    pub expr_fits : (e : tree.Expr) (here : Surroundings) (scopes : Scopes) (h : ℕ) → Around here.globals here.locals scopes → AcceptsExpr e here → h + need e ≤ OPERAND_LIMIT
        → FitsExpr c h (resolve_expr e symbols scopes)
    expr_fits (tree.Number n) here scopes h a ok le = omega arith
    expr_fits (tree.Variable x) here scopes h a ok le = variable_fits h _ _ (omega arith) (variable_is here scopes x a ok)
    expr_fits (tree.Element x e) here scopes h a ok le = (array_is here scopes x a ok.0, expr_fits e here scopes h a ok.1 le)
    expr_fits (tree.Call f es) here scopes h a ok le =
        let low : h < OPERAND_LIMIT = omega arith in
        (low, function_is here scopes f _ (count es) a ok.0 ∙ ap Some (same_count es symbols scopes), exprs_fit es here scopes h 0 h (omega arith) a ok.1 (omega arith))
    expr_fits (tree.Paren e) here scopes h a ok le = expr_fits e here scopes h a ok le
    expr_fits (tree.Unary op e) here scopes h a ok le = expr_fits e here scopes h a ok le
    expr_fits (tree.Binary (Strict op) at l r) here scopes h a ok le = (expr_fits l here scopes h a ok.0 (omega arith), expr_fits r here scopes (h + 1) a ok.1 (omega arith))
    expr_fits (tree.Binary And at l r) here scopes h a ok le = (expr_fits l here scopes h a ok.0 (omega arith), expr_fits r here scopes h a ok.1 (omega arith))
    expr_fits (tree.Binary Or at l r) here scopes h a ok le = (expr_fits l here scopes h a ok.0 (omega arith), expr_fits r here scopes h a ok.1 (omega arith))
    expr_fits (tree.Conditional test chosen other) here scopes h a ok le =
        (expr_fits test here scopes h a ok.0 (omega arith), expr_fits chosen here scopes h a ok.1 (omega arith), expr_fits other here scopes h a ok.2 (omega arith))

    -- arguments, where so many of them stand before
    pub exprs_fit : (es : tree.Exprs) (here : Surroundings) (scopes : Scopes) (h before at : ℕ) → at ≡ h + before → Around here.globals here.locals scopes → AcceptsExprs es here
        → h + needs es before ≤ OPERAND_LIMIT → FitsExprs c at (resolve_exprs es symbols scopes)
    exprs_fit tree.no_exprs here scopes h before at is a ok le = tt
    exprs_fit (tree.expr_and e es) here scopes h before at is a ok le =
        (expr_fits e here scopes at a ok.0 (omega arith), exprs_fit es here scopes h (before + 1) (at + 1) (omega arith) a ok.1 (omega arith))

  room : (h : ℕ) (e : tree.Expr) → h + need e ≤ OPERAND_LIMIT → h < OPERAND_LIMIT
  room h e le = omega (arith, need_some e)

  -- ---- assignments

  set_fits : (p : tree.Place) (e : resolved.Expr) (right : ℕ) (here : Surroundings) (scopes : Scopes) → Around here.globals here.locals scopes → AcceptsPlace p here
      → set_need p right ≤ OPERAND_LIMIT → ((h : ℕ) → h + right ≤ OPERAND_LIMIT → FitsExpr c h e) → FitsAssignment c (resolved.Set (resolve_place p symbols scopes) e)
  set_fits (tree.ToVariable x) e right here scopes a ok le value = go (private_word scopes x.text) (variable_is here scopes x a ok)
    where
      go : (o : Option ℕ) → IsVariable c o (word_named x symbols) → FitsAssignment c (resolved.Set (to_variable o (word_named x symbols)) e)
      go (Some k) is = (is, value 0 (omega arith))
      go None is = (is, value 0 (omega arith))
  set_fits (tree.ToElement x i) e right here scopes a ok le value = (array_is here scopes x a ok.0, expr_fits i here scopes 0 a ok.1 (omega arith), value 1 (omega arith))

  update_fits : (p : tree.Place) (op : Operator) (at : Pos) (e : resolved.Expr) (right : ℕ) (here : Surroundings) (scopes : Scopes) → Around here.globals here.locals scopes → AcceptsPlace p here
      → update_need p right ≤ OPERAND_LIMIT → ((h : ℕ) → h + right ≤ OPERAND_LIMIT → FitsExpr c h e) → FitsAssignment c (resolved.Update (resolve_place p symbols scopes) op at e)
  update_fits (tree.ToVariable x) op at e right here scopes a ok le value = go (private_word scopes x.text) (variable_is here scopes x a ok)
    where
      go : (o : Option ℕ) → IsVariable c o (word_named x symbols) → FitsAssignment c (resolved.Update (to_variable o (word_named x symbols)) op at e)
      go (Some k) is = (is, value 1 (omega arith))
      go None is = (is, value 1 (omega arith))
  update_fits (tree.ToElement x i) op at e right here scopes a ok le value = (array_is here scopes x a ok.0, expr_fits i here scopes 0 a ok.1 (omega arith), value 2 (omega arith))

  pub assignment_fits : (s : tree.Assignment) (here : Surroundings) (scopes : Scopes) → Around here.globals here.locals scopes → AcceptsAssignment s here → assignment_need s ≤ OPERAND_LIMIT
      → FitsAssignment c (resolve_assignment s symbols scopes)
  assignment_fits (tree.Set p e) here scopes a ok le = set_fits p _ (need e) here scopes a ok.0 le (λ h l. expr_fits e here scopes h a ok.1 l)
  assignment_fits (tree.Update p op at e) here scopes a ok le = update_fits p op at _ (need e) here scopes a ok.0 le (λ h l. expr_fits e here scopes h a ok.1 l)
  assignment_fits (tree.Increment p) here scopes a ok le = update_fits p _ _ (resolved.Number 1) 1 here scopes a ok le (λ h l. one h l)
    where
      one : (h : ℕ) → h + 1 ≤ OPERAND_LIMIT → h < OPERAND_LIMIT
      one h l = omega arith
  assignment_fits (tree.Decrement p) here scopes a ok le = update_fits p _ _ (resolved.Number 1) 1 here scopes a ok le (λ h l. one h l)
    where
      one : (h : ℕ) → h + 1 ≤ OPERAND_LIMIT → h < OPERAND_LIMIT
      one h l = omega arith

  -- ---- what may be absent

  pub value_fits : (e : Option tree.Expr) (here : Surroundings) (scopes : Scopes) → Around here.globals here.locals scopes → IfThere AcceptsExpr e here → if_there need e ≤ OPERAND_LIMIT
      → FitsExpr c 0 (expr_or_zero e symbols scopes)
  value_fits None here scopes a ok le = omega arith
  value_fits (Some e) here scopes a ok le = expr_fits e here scopes 0 a ok (omega arith)

  pub test_fits : (e : Option tree.Expr) (here : Surroundings) (scopes : Scopes) → Around here.globals here.locals scopes → IfThere AcceptsExpr e here → if_there need e ≤ OPERAND_LIMIT
      → FitsTest c (option_map (λ t. resolve_expr t symbols scopes) e)
  test_fits None here scopes a ok le = tt
  test_fits (Some e) here scopes a ok le = expr_fits e here scopes 0 a ok (omega arith)

  pub step_fits : (s : Option tree.Assignment) (here : Surroundings) (scopes : Scopes) → Around here.globals here.locals scopes → IfThere AcceptsAssignment s here → if_there assignment_need s ≤ OPERAND_LIMIT
      → FitsStep c (option_map (λ t. resolve_assignment t symbols scopes) s)
  step_fits None here scopes a ok le = tt
  step_fits (Some s) here scopes a ok le = assignment_fits s here scopes a ok le

  -- ---- declarations

  pub locals_fit : (ds : List tree.LocalDecl) (here : Surroundings) (scopes : Scopes) (k : ℕ) → Around here.globals here.locals scopes → AcceptsLocals ds here → k + length ds ≤ c.privates
      → locals_need ds ≤ OPERAND_LIMIT → FitsSimples c (resolve_locals ds symbols scopes k)
  locals_fit [] here scopes k a ok few le = tt
  locals_fit (d ∷ ds) here scopes k a ok few le =
      let low : k < c.privates = less (length ds) few in (
        (low, value_fits d.init here scopes a ok.0 (omega arith)),
        locals_fit ds (with_local d here) (with_word scopes d.name.text k) (k + 1) (record { known = a.known; here = here_with c.privates here.locals scopes d.name k a.here low }) ok.2 (next (length ds) few) (omega arith),
      )
    where
      less : (l : ℕ) → k + suc l ≤ c.privates → k < c.privates
      less l le = omega arith

      next : (l : ℕ) → k + suc l ≤ c.privates → k + 1 + l ≤ c.privates
      next l le = omega arith

  pub init_fits : (i : tree.Init) (here : Surroundings) (scopes : Scopes) (k : ℕ) → Around here.globals here.locals scopes → AcceptsInit i here → k + init_locals i ≤ c.privates
      → init_need i ≤ OPERAND_LIMIT → FitsSimples c (resolve_init i symbols scopes k)
  init_fits tree.NoInit here scopes k a ok few le = tt
  init_fits (tree.InitLocals ds) here scopes k a ok few le = locals_fit ds here scopes k a ok few le
  init_fits (tree.InitAssign s) here scopes k a ok few le = (assignment_fits s here scopes a ok le, tt)
