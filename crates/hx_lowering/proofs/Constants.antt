-- The constants that the words of an accepted program push are numbers of 32 bits.
use Rattle.std.proofs.Common.{◌≡◌, ℕ, zero, suc, ◌+◌, List, [], ◌∷◌, length, map, Option, Some, None, pos, refl, sym, subst, arith}
use Rattle.std.specs.Prelude.{slice_get, option_map, flat_map, ◌&&◌, not}
use Rattle.std.specs.List.{AllByRecursion}
use Rattle.std.proofs.lemmas.List.Elements.{recursion_from_All}
use Rattle.hx_tree.specs.declared.token.Pos.{Pos}
use Rattle.hx_tree.specs.declared.tree.Returns.{Returns}
use Rattle.hx_tree.specs.declared.tree.Returns.TheVariants as returns
use Rattle.hx_tree.specs.declared.tree.Operator.{Operator}
use Rattle.hx_tree.specs.declared.tree.BinaryOp.TheVariants.{Strict, And, Or}
use Rattle.hx_tree.specs.Tree as tree
use Rattle.hx_tree.specs.World.{Map}
use Rattle.hx_tree.specs.Meaning.{item_functions}
use Rattle.hx_tree.specs.Accepted.{Surroundings, Kind, AcceptsExpr, AcceptsExprs, AcceptsPlace, AcceptsAssignment, AcceptsLocals, AcceptsInit, AcceptsReturn, AcceptsStmt, AcceptsParts, AcceptsItem, AcceptsFunction, IfThere, IsAccepted, with_local, after_init, after_part, in_scope, inside_loop, init_locals, stmt_locals, part_locals, at_start, kinds_of}
use Rattle.hx_resolved.specs.declared.symbol.Symbol.{Symbol}
use Rattle.hx_resolved.specs.Resolved as resolved
use Rattle.hx_resolved.specs.Resolved.{Clauses, LoopKind}
use Rattle.hx_resolved.specs.Symbols.{Scopes, private_word, with_word, words_after_init, numbered, symbols_of}
use Rattle.hx_resolved.specs.Resolve as resolve
use Rattle.hx_resolved.specs.Resolve.{variable, to_variable, word_named, words_named, resolve_expr, resolve_exprs, resolve_place, resolve_assignment, expr_or_zero, resolve_locals, resolve_init, resolve_stmt, resolve_part_then, resolve_parts, simples_then, words_after_part, resolve_function, around_function, kind_if, while_clauses, resolve_clauses}
use Rattle.hx_code.specs.declared.word.Word.{Word}
use Rattle.hx_code.specs.declared.word.Word.TheVariants.{Const, Glob, SetGlob, Elem, SetElem, Dup, Drop, Unary, Binary, Jump, JumpFalse, JumpTrue, Call, Ret, Print, Emit, Enter, Turn, Leave}
use Rattle.hx_lowering.specs.declared.line.Line.{Line}
use Rattle.hx_lowering.specs.Size.{expr_size, turn_size, stmt_size}
use Rattle.hx_lowering.specs.Lines.{Version, put, cell_of, get_at, set_at, get_private, set_private, array_of, expr_lines, exprs_lines, assignment_lines, simples_lines, test_lines, step_lines}
use Rattle.hx_lowering.specs.Draft.{Draft, Targets, with_lines, put_word, inside, turn_draft, targets, do_targets, plain_draft, turns_draft, loop_draft, stmt_draft, stmts_draft, plain_version, no_targets, function_draft, functions_draft, no_draft, draft_of, code_of}
use Rattle.hx_lowering.proofs.Ranged.{small_number}
use Rattle.hx_lowering.proofs.Kept.{IsSmall, CodeIsSmall}
use Rattle.hx_lowering.proofs.Declares.{draft_then}

abbrev AreSmall : List Line → Type 0
AreSmall [] = Unit {0}
AreSmall (l ∷ ls) = IsSmall l.word × AreSmall ls

small_put : (v : Version) (h : ℕ) (w : Word) (lines : List Line) → AreSmall lines → IsSmall w → AreSmall (put v h w lines)
small_put v h w [] s i = (i, tt)
small_put v h w (l ∷ ls) s i = (s.0, small_put v h w ls s.1 i)

small_get : (v : Version) (k : ℕ) → IsSmall (get_private v k)
small_get v k = go (cell_of v.carried k)
  where
    go : (o : Option ℕ) → IsSmall (get_at o v.globals k)
    go None = tt
    go (Some c) = tt

small_set : (v : Version) (k : ℕ) → IsSmall (set_private v k)
small_set v k = go (cell_of v.carried k)
  where
    go : (o : Option ℕ) → IsSmall (set_at o v.globals k)
    go None = tt
    go (Some c) = tt

-- ---- expressions

abbrev SmallExpr : resolved.Expr → Type 0
SmallExpr e = (v : Version) (h : ℕ) (lines : List Line) → AreSmall lines → AreSmall (expr_lines e v h lines)

abbrev SmallExprs : resolved.Exprs → Type 0
SmallExprs es = (v : Version) (h : ℕ) (lines : List Line) → AreSmall lines → AreSmall (exprs_lines es v h lines)

small_one : IsSmall (Const (pos 1))
small_one = small_number 1 (omega arith)

small_zero : IsSmall (Const (pos 0))
small_zero = small_number 0 (omega arith)

variable_small : (o : Option ℕ) (word : ℕ) → SmallExpr (variable o word)
variable_small (Some k) word v h lines s = small_put v h (get_private v k) lines s (small_get v k)
variable_small None word v h lines s = small_put v h (Glob word) lines s tt

-- `&&` and `||`
and_small : (l r : resolved.Expr) (at : Pos) → SmallExpr l → SmallExpr r → SmallExpr (resolved.Binary And at l r)
and_small l r at sl sr v h lines s =
    let zero_at = length lines + expr_size l + 1 + expr_size r + 3 in
    small_put v h (Const (pos 0)) _
    (small_put v (h + 1) (Jump (zero_at + 1)) _ (small_put v h (Const (pos 1)) _ (small_put v (h + 1) (JumpFalse zero_at) _ (sr v h _ (small_put v (h + 1) (JumpFalse zero_at) _ (sl v h lines s) tt)) tt) small_one) tt) small_zero

or_small : (l r : resolved.Expr) (at : Pos) → SmallExpr l → SmallExpr r → SmallExpr (resolved.Binary Or at l r)
or_small l r at sl sr v h lines s =
    let one_at = length lines + expr_size l + 1 + expr_size r + 3 in
    small_put v h (Const (pos 1)) _
    (small_put v (h + 1) (Jump (one_at + 1)) _ (small_put v h (Const (pos 0)) _ (small_put v (h + 1) (JumpTrue one_at) _ (sr v h _ (small_put v (h + 1) (JumpTrue one_at) _ (sl v h lines s) tt)) tt) small_zero) tt) small_one

conditional_small : (c a b : resolved.Expr) → SmallExpr c → SmallExpr a → SmallExpr b → SmallExpr (resolved.Conditional c a b)
conditional_small c a b sc sa sb v h lines s =
    let other_at = length lines + expr_size c + 1 + expr_size a + 1 in
    sb v h _ (small_put v (h + 1) (Jump (other_at + expr_size b)) _ (sa v h _ (small_put v (h + 1) (JumpFalse other_at) _ (sc v h lines s) tt)) tt)

module _ (symbols : Map Symbol) where
  mutual
    expr_small : (e : tree.Expr) (here : Surroundings) (scopes : Scopes) → AcceptsExpr e here → SmallExpr (resolve_expr e symbols scopes)
    expr_small (tree.Number n) here scopes ok v h lines s = small_put v h (Const (pos n)) lines s (small_number n ok)
    expr_small (tree.Variable x) here scopes ok v h lines s = variable_small (private_word scopes x.text) (word_named x symbols) v h lines s
    expr_small (tree.Element x e) here scopes ok v h lines s = small_put v (h + 1) (Elem (array_of (words_named x symbols)) x.pos) _ (expr_small e here scopes ok.1 v h lines s) tt
    expr_small (tree.Call f es) here scopes ok v h lines s = small_put v _ (Call _ f.pos) _ (exprs_small es here scopes ok.1 v h lines s) tt
    expr_small (tree.Paren e) here scopes ok v h lines s = expr_small e here scopes ok v h lines s
    expr_small (tree.Unary op e) here scopes ok v h lines s = small_put v (h + 1) (Unary op) _ (expr_small e here scopes ok v h lines s) tt
    expr_small (tree.Binary (Strict op) at l r) here scopes ok v h lines s = small_put v (h + 2) (Binary op at) _ (expr_small r here scopes ok.1 v (h + 1) _ (expr_small l here scopes ok.0 v h lines s)) tt
    expr_small (tree.Binary And at l r) here scopes ok v h lines s = and_small (resolve_expr l symbols scopes) (resolve_expr r symbols scopes) at (expr_small l here scopes ok.0) (expr_small r here scopes ok.1) v h lines s
    expr_small (tree.Binary Or at l r) here scopes ok v h lines s = or_small (resolve_expr l symbols scopes) (resolve_expr r symbols scopes) at (expr_small l here scopes ok.0) (expr_small r here scopes ok.1) v h lines s
    expr_small (tree.Conditional c a b) here scopes ok v h lines s =
        conditional_small (resolve_expr c symbols scopes) (resolve_expr a symbols scopes) (resolve_expr b symbols scopes) (expr_small c here scopes ok.0) (expr_small a here scopes ok.1) (expr_small b here scopes ok.2) v h lines s

    exprs_small : (es : tree.Exprs) (here : Surroundings) (scopes : Scopes) → AcceptsExprs es here → SmallExprs (resolve_exprs es symbols scopes)
    exprs_small tree.no_exprs here scopes ok v h lines s = s
    exprs_small (tree.expr_and e es) here scopes ok v h lines s = exprs_small es here scopes ok.1 v (h + 1) _ (expr_small e here scopes ok.0 v h lines s)

-- ---- assignments

abbrev SmallPlace : resolved.Place → Type 0
SmallPlace (resolved.ToPrivate k) = Unit {0}
SmallPlace (resolved.ToWord a) = Unit {0}
SmallPlace (resolved.ToElement words at i) = SmallExpr i

abbrev SmallAssignment : resolved.Assignment → Type 0
SmallAssignment a = (v : Version) (lines : List Line) → AreSmall lines → AreSmall (assignment_lines a v lines)

set_small : (q : resolved.Place) (e : resolved.Expr) → SmallPlace q → SmallExpr e → SmallAssignment (resolved.Set q e)
set_small (resolved.ToPrivate k) e sq se v lines s = small_put v 1 (set_private v k) _ (se v 0 lines s) (small_set v k)
set_small (resolved.ToWord a) e sq se v lines s = small_put v 1 (SetGlob a) _ (se v 0 lines s) tt
set_small (resolved.ToElement words at i) e sq se v lines s = small_put v 2 (SetElem (array_of words) at) _ (se v 1 _ (sq v 0 lines s)) tt

update_small : (q : resolved.Place) (op : Operator) (at : Pos) (e : resolved.Expr) → SmallPlace q → SmallExpr e → SmallAssignment (resolved.Update q op at e)
update_small (resolved.ToPrivate k) op at e sq se v lines s =
    small_put v 1 (set_private v k) _ (small_put v 2 (Binary op at) _ (se v 1 _ (small_put v 0 (get_private v k) lines s (small_get v k))) tt) (small_set v k)
update_small (resolved.ToWord a) op at e sq se v lines s =
    small_put v 1 (SetGlob a) _ (small_put v 2 (Binary op at) _ (se v 1 _ (small_put v 0 (Glob a) lines s tt)) tt) tt
update_small (resolved.ToElement words place i) op at e sq se v lines s =
    small_put v 2 (SetElem (array_of words) place) _ (small_put v 3 (Binary op at) _ (se v 2 _ (small_put v 2 (Elem (array_of words) place) _ (small_put v 1 Dup _ (sq v 0 lines s) tt) tt)) tt) tt

one_small : SmallExpr (resolved.Number 1)
one_small v h lines s = small_put v h (Const (pos 1)) lines s small_one

to_small : (o : Option ℕ) (word : ℕ) → SmallPlace (to_variable o word)
to_small (Some k) word = tt
to_small None word = tt

-- ---- statements

abbrev SmallSimples : List resolved.Simple → Type 0
SmallSimples ss = (v : Version) (lines : List Line) → AreSmall lines → AreSmall (simples_lines ss v lines)

abbrev SmallStmt : resolved.Stmt → Type 0
SmallStmt rb = (v : Version) (to : Targets) (d : Draft) → AreSmall d.lines → AreSmall (stmt_draft rb v to d).lines

abbrev SmallStmts : resolved.Stmts → Type 0
SmallStmts ss = (v : Version) (to : Targets) (d : Draft) → AreSmall d.lines → AreSmall (stmts_draft ss v to d).lines

module _ (symbols : Map Symbol) where
  place_small : (q : tree.Place) (here : Surroundings) (scopes : Scopes) → AcceptsPlace q here → SmallPlace (resolve_place q symbols scopes)
  place_small (tree.ToVariable x) here scopes ok = to_small (private_word scopes x.text) (word_named x symbols)
  place_small (tree.ToElement x e) here scopes ok = expr_small symbols e here scopes ok.1

  assignment_small : (a : tree.Assignment) (here : Surroundings) (scopes : Scopes) → AcceptsAssignment a here → SmallAssignment (resolve_assignment a symbols scopes)
  assignment_small (tree.Set q e) here scopes ok = set_small (resolve_place q symbols scopes) _ (place_small q here scopes ok.0) (expr_small symbols e here scopes ok.1)
  assignment_small (tree.Update q op at e) here scopes ok = update_small (resolve_place q symbols scopes) op at _ (place_small q here scopes ok.0) (expr_small symbols e here scopes ok.1)
  assignment_small (tree.Increment q) here scopes ok = update_small (resolve_place q symbols scopes) _ _ _ (place_small q here scopes ok) one_small
  assignment_small (tree.Decrement q) here scopes ok = update_small (resolve_place q symbols scopes) _ _ _ (place_small q here scopes ok) one_small

  value_small : (o : Option tree.Expr) (here : Surroundings) (scopes : Scopes) → IfThere AcceptsExpr o here → SmallExpr (expr_or_zero o symbols scopes)
  value_small None here scopes ok v h lines s = small_put v h (Const (pos 0)) lines s small_zero
  value_small (Some e) here scopes ok v h lines s = expr_small symbols e here scopes ok v h lines s

  test_small : (o : Option tree.Expr) (here : Surroundings) (scopes : Scopes) → IfThere AcceptsExpr o here → (exit : ℕ) (v : Version) (lines : List Line) → AreSmall lines → AreSmall (test_lines (option_map (λ e. resolve_expr e symbols scopes) o) exit v lines)
  test_small None here scopes ok exit v lines s = s
  test_small (Some e) here scopes ok exit v lines s = small_put v 1 (JumpFalse exit) _ (expr_small symbols e here scopes ok v 0 lines s) tt

  step_small : (o : Option tree.Assignment) (here : Surroundings) (scopes : Scopes) → IfThere AcceptsAssignment o here → (v : Version) (lines : List Line) → AreSmall lines → AreSmall (step_lines (option_map (λ a. resolve_assignment a symbols scopes) o) v lines)
  step_small None here scopes ok v lines s = s
  step_small (Some a) here scopes ok v lines s = assignment_small a here scopes ok v lines s

  locals_small : (ds : List tree.LocalDecl) (here : Surroundings) (scopes : Scopes) (k : ℕ) → AcceptsLocals ds here → SmallSimples (resolve_locals ds symbols scopes k)
  locals_small [] here scopes k ok v lines s = s
  locals_small (d ∷ ds) here scopes k ok v lines s =
      locals_small ds (with_local d here) (with_word scopes d.name.text k) (k + 1) ok.2 v _
      (small_put v 1 (set_private v k) _ (value_small d.init here scopes ok.0 v 0 lines s) (small_set v k))

  init_small : (i : tree.Init) (here : Surroundings) (scopes : Scopes) (k : ℕ) → AcceptsInit i here → SmallSimples (resolve_init i symbols scopes k)
  init_small tree.NoInit here scopes k ok v lines s = s
  init_small (tree.InitLocals ds) here scopes k ok v lines s = locals_small ds here scopes k ok v lines s
  init_small (tree.InitAssign a) here scopes k ok v lines s = assignment_small a here scopes ok v lines s

  return_small : (r : Returns) (o : Option tree.Expr) (here : Surroundings) (scopes : Scopes) → AcceptsReturn r o here → SmallExpr (expr_or_zero o symbols scopes)
  return_small returns.Int None here scopes ok = absurd ok
  return_small returns.Int (Some e) here scopes ok = expr_small symbols e here scopes ok
  return_small returns.Void None here scopes ok = value_small None here scopes tt
  return_small returns.Void (Some e) here scopes ok = absurd ok

-- a loop, where its clauses and its body are small
module _ (c : Clauses) (rb : resolved.Stmt) (test : (exit : ℕ) (v : Version) (lines : List Line) → AreSmall lines → AreSmall (test_lines c.test exit v lines)) (step : (v : Version) (lines : List Line) → AreSmall lines → AreSmall (step_lines c.step v lines)) (body : SmallStmt rb) where
  abbrev draw : Version → Targets → Draft → Draft
  draw v to d = stmt_draft rb v to d

  turn_small : (exit : ℕ) (v : Version) (to : Targets) (d : Draft) → AreSmall d.lines → AreSmall (turn_draft c exit v (draw v to) d).lines
  turn_small exit v to d s = step v _ (body v to (with_lines d (test_lines c.test exit v d.lines)) (test exit v d.lines s))

  plain_small : (v : Version) (d : Draft) → AreSmall d.lines → AreSmall (plain_draft c (stmt_size rb) (draw v) v d).lines
  plain_small v d s =
      let start = length d.lines in
      small_put v 0 (Jump start) _ (turn_small (start + turn_size c (stmt_size rb) + 1) v (targets c (stmt_size rb) start) d s) tt

  turns_small : (v : Version) (d : Draft) → AreSmall d.lines → AreSmall (turns_draft c (stmt_size rb) (draw v) v d).lines
  turns_small v d s =
      let start = length d.lines in
      small_put v 0 Leave _ (small_put v 0 Turn _ (turn_small (start + turn_size c (stmt_size rb) + 1) v (targets c (stmt_size rb) start) d s) tt) tt

  loop_small : (kind : LoopKind) (v : Version) (d : Draft) → AreSmall d.lines → AreSmall (loop_draft kind c (stmt_size rb) draw v d).lines
  loop_small resolved.Plain v d s = plain_small v d s
  loop_small (resolved.IsRegion r) v d s =
      let number = length d.regions in
      let within = inside number r v in
      let opened = put_word v 0 (Enter number (length d.lines + 1 + (turn_size c (stmt_size rb) + 2))) d in
      plain_small v (turns_draft c (stmt_size rb) (draw within) within opened) (turns_small within opened (small_put v 0 (Enter number _) d.lines s tt))

simples_then_small : (ss : List resolved.Simple) (rest : resolved.Stmts) → SmallSimples ss → SmallStmts rest → SmallStmts (simples_then ss rest)
simples_then_small ss rest f g v to d s = subst (λ (x : Draft). AreSmall x.lines) (sym (draft_then ss rest v to d)) (g v to _ (f v d.lines s))

module _ (symbols : Map Symbol) where
  mutual
    stmt_small : (st : tree.Stmt) (here : Surroundings) (around : resolve.Around) (same : around.symbols ≡ symbols) (scopes : Scopes) (k : ℕ) → AcceptsStmt st here → SmallStmt (resolve_stmt st around scopes k)
    stmt_small (tree.Block ps) here around same scopes k ok v to d s = parts_small ps (in_scope here) around same ([] ∷ scopes) k ok v to d s
    stmt_small tree.Empty here around same scopes k ok v to d s = s
    stmt_small (tree.Assign a) here around same scopes k ok v to d s = assignment_small around.symbols a here scopes ok v d.lines s
    stmt_small (tree.CallStatement f es) here around same scopes k ok v to d s = small_put v 1 Drop _ (small_put v _ (Call _ f.pos) _ (exprs_small around.symbols es here scopes ok.1 v 0 d.lines s) tt) tt
    stmt_small (tree.Print at e) here around same scopes k ok v to d s = small_put v 1 (Print at) _ (expr_small around.symbols e here scopes ok v 0 d.lines s) tt
    stmt_small (tree.Emit at e) here around same scopes k ok v to d s = small_put v 1 (Emit at) _ (expr_small around.symbols e here scopes ok v 0 d.lines s) tt
    stmt_small (tree.If test st) here around same scopes k ok v to d s =
        stmt_small st here around same scopes k ok.1 v to _ (small_put v 1 (JumpFalse _) _ (expr_small around.symbols test here scopes ok.0 v 0 d.lines s) tt)
    stmt_small (tree.IfElse test st other) here around same scopes k ok v to d s =
        stmt_small other here around same scopes (k + stmt_locals st) ok.2 v to _
        (small_put v 0 (Jump _) _ (stmt_small st here around same scopes k ok.1 v to _ (small_put v 1 (JumpFalse _) _ (expr_small around.symbols test here scopes ok.0 v 0 d.lines s) tt)) tt)
    stmt_small (tree.While marked test st) here around same scopes k ok v to d s =
        loop_small (while_clauses (resolve_expr test around.symbols scopes)) (resolve_stmt st (resolve.inside marked around) scopes k)
        (test_small around.symbols (Some test) here scopes ok.0) (λ v' lines s'. s') (stmt_small st (inside_loop here) (resolve.inside marked around) same scopes k ok.1)
        (kind_if (marked && not around.is_marked) around.privates (while_clauses (resolve_expr test around.symbols scopes)) (resolve_stmt st (resolve.inside marked around) scopes k)) v (with_lines d d.lines) s
    stmt_small (tree.DoWhile st test) here around same scopes k ok v to d s =
        let rt = resolve_expr test around.symbols scopes in
        let rb = resolve_stmt st around scopes k in
        small_put v 1 (JumpTrue (length d.lines)) _
        (expr_small around.symbols test here scopes ok.1 v 0 _ (stmt_small st (inside_loop here) around same scopes k ok.0 v (do_targets rt (stmt_size rb) (length d.lines)) d s)) tt
    stmt_small (tree.For marked h st) here around same scopes k ok v to d s =
        let inner = words_after_init h.init ([] ∷ scopes) k in
        let after = after_init h.init (in_scope here) in
        let c = resolve_clauses h around.symbols ([] ∷ scopes) k in
        let rb = resolve_stmt st (resolve.inside marked around) inner (k + init_locals h.init) in
        loop_small c rb (test_small around.symbols h.test after inner ok.1) (step_small around.symbols h.step after inner ok.2)
        (stmt_small st (inside_loop after) (resolve.inside marked around) same inner (k + init_locals h.init) ok.3)
        (kind_if (marked && not around.is_marked) around.privates c rb) v (with_lines d (simples_lines c.init v d.lines)) (init_small around.symbols h.init (in_scope here) ([] ∷ scopes) k ok.0 v d.lines s)
    stmt_small (tree.Break at) here around same scopes k ok v to d s = small_put v 0 (Jump to.break_to) d.lines s tt
    stmt_small (tree.Continue at) here around same scopes k ok v to d s = small_put v 0 (Jump to.continue_to) d.lines s tt
    stmt_small (tree.Return at e) here around same scopes k ok v to d s = small_put v 1 Ret _ (return_small around.symbols here.returns e here scopes ok v 0 d.lines s) tt

    parts_small : (ps : tree.Parts) (here : Surroundings) (around : resolve.Around) (same : around.symbols ≡ symbols) (scopes : Scopes) (k : ℕ) → AcceptsParts ps here → SmallStmts (resolve_parts ps around scopes k)
    parts_small tree.no_parts here around same scopes k ok v to d s = s
    parts_small (tree.part_and (tree.Locals ds) ps) here around same scopes k ok v to d s =
        let rest = resolve_parts ps around (words_after_part (tree.Locals ds) scopes k) (k + part_locals (tree.Locals ds)) in
        simples_then_small (resolve_locals ds around.symbols scopes k) rest (locals_small around.symbols ds here scopes k ok.0)
        (parts_small ps (after_part (tree.Locals ds) here) around same (words_after_part (tree.Locals ds) scopes k) (k + part_locals (tree.Locals ds)) ok.1) v to d s
    parts_small (tree.part_and (tree.Statement st) ps) here around same scopes k ok v to d s =
        parts_small ps here around same scopes (k + stmt_locals st) ok.1 v to _ (stmt_small st here around same scopes k ok.0 v to d s)

-- ---- whole programs

function_small : (symbols : Map Symbol) (kinds : Map Kind) (f : tree.Func) → AcceptsFunction kinds f → (globals : ℕ) (d : Draft) → AreSmall d.lines → AreSmall (function_draft (resolve_function symbols f) globals d).lines
function_small symbols kinds f ok globals d s =
    let v = plain_version (length d.functions) globals in
    small_put v 1 Ret _ (small_put v 0 (Const (pos 0)) _
    (parts_small symbols f.body (at_start kinds f) (around_function symbols f) refl (numbered (tree.param_names f.params) 0 ∷ []) (length (tree.param_names f.params)) ok.body v no_targets d s) small_zero) tt

functions_small : (symbols : Map Symbol) (kinds : Map Kind) (is : List tree.Item) → AllByRecursion (AcceptsItem kinds) is → (globals : ℕ) (d : Draft) → AreSmall d.lines
    → AreSmall (functions_draft (map (resolve_function symbols) (flat_map item_functions is)) globals d).lines
functions_small symbols kinds [] ok globals d s = s
functions_small symbols kinds (tree.Globals gs ∷ is) ok globals d s = functions_small symbols kinds is ok.1 globals d s
functions_small symbols kinds (tree.Function f ∷ is) ok globals d s =
    functions_small symbols kinds is ok.1 globals _ (function_small symbols kinds f ok.0 globals d s)

word_small : (lines : List Line) (p : ℕ) (w : Word) → AreSmall lines → slice_get (map (λ (l : Line). l.word) lines) p ≡ Some w → IsSmall w
word_small [] p w s e = absurd cc
word_small (l ∷ ls) zero w s e = let same : l.word ≡ w = cc in subst IsSmall same s.0
word_small (l ∷ ls) (suc p) w s e = word_small ls p w s.1 e

pub code_small : (p : tree.Program) → IsAccepted p → CodeIsSmall (code_of (resolve.resolve p))
code_small p accepted q w e =
    let lines = (draft_of (resolve.resolve p)).lines in
    word_small lines q w (functions_small (symbols_of p) (kinds_of p) p.items (recursion_from_All _ p.items accepted.items) (length (resolve.resolve p).opening) no_draft tt) e
