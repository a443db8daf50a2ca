-- The words of a statement do what it does.
use Rattle.std.proofs.Common.{◌≡◌, ℕ, suc, ◌+◌, ◌≤◌, ◌<◌, Bool, true, false, List, [], ◌∷◌, ◌++◌, length, Option, Some, None, ℤ, pos, refl, sym, ap, subst, ◌∙◌, arith, if◌then◌else◌}
use Rattle.std.specs.Prelude.{nat_eq, nat_lt, slice_get, IsTrue, ◌||◌, ◌&&◌, not, ◌%◌}
use Rattle.std.specs.Int.{w32, cast_unsigned}
use Rattle.std.specs.Fmt.{signed_decimal}
use Rattle.std.proofs.lemmas.Bool.{ltb-true}
use Rattle.std.proofs.lemmas.Bool.Decides.{Decides-eqb}
use Rattle.hx_tree.specs.declared.limits.TheConstants.{PRIVATE_LIMIT}
use Rattle.hx_tree.specs.declared.token.Pos.{Pos}
use Rattle.hx_tree.specs.declared.tree.Returns.{Returns as Returns_}
use Rattle.hx_tree.specs.declared.tree.Returns.TheVariants as returns
use Rattle.hx_tree.specs.Numbers.{is_zero}
use Rattle.hx_tree.specs.Tree as tree
use Rattle.hx_tree.specs.Tree.{Program, Name}
use Rattle.hx_tree.specs.World.{Map, declare, World, Answer, Gives, Faults, Unfinished, Run, and_then, ◌>>=◌, gives, Environment, enter_scope, leave_scope, print_bytes}
use Rattle.hx_tree.specs.Value.{value, values}
use Rattle.hx_tree.specs.Effect.{Exit, GoesOn, Breaks, Continues, Returns, Effect, goes_on, go_on, inside as inside_context, is_counted, loop, step_of, call_in, value_or, declare_all, begin, effect, effects, assign}
use Rattle.hx_tree.specs.Accepted.{Surroundings, AcceptsStmt, AcceptsParts, AcceptsExpr, AcceptsReturn, AcceptsInit, AcceptsLocals, after_init, with_name, with_local, with_locals, IfThere, in_scope, inside_loop, stmt_locals, parts_locals, init_locals, FunctionKind, count as tree_count}
use Rattle.hx_resolved.specs.Symbols.{Scopes, symbols_of, with_word, with_words, words_after_init}
use Rattle.hx_resolved.specs.Carried.{expr_reads, stmt_reads, stmts_read, clauses_read, any_of, if_any, assignment_reads, simple_reads, assigns, simple_assigns, simple_declares, stmt_assigns, stmts_assign, stmt_declares, stmts_declare, turns_read}
use Rattle.hx_resolved.specs.Resolve as resolve
use Rattle.hx_resolved.specs.Resolve.{resolve_expr, resolve_exprs, function_at, resolve_assignment, resolve_stmt, resolve_parts, expr_or_zero}
use Rattle.hx_code.specs.declared.word.Word.TheVariants.{Jump, JumpFalse, Print, Emit, Ret, Const, Call, Drop}
use Rattle.hx_code.specs.declared.word.Output.TheVariants as output
use Rattle.hx_code.specs.Code.{CodeView}
use Rattle.hx_code.specs.Call.{wants_of, low_byte}
use Rattle.hx_code.specs.Machine.{Machine, machine_step}
use Rattle.hx_lowering.specs.declared.line.Line.{Line}
use Rattle.hx_lowering.specs.Lines.{put, set_private, count, expr_lines, exprs_lines, assignment_lines, simples_lines}
use Rattle.hx_lowering.specs.Size.{expr_size, stmt_size}
use Rattle.hx_lowering.specs.Draft.{Draft, with_lines, put_word, do_targets, loop_draft, stmt_draft, stmts_draft}
use Rattle.hx_lowering.proofs.Globals.{words_in}
use Rattle.hx_lowering.proofs.Follow.{Follows, follows_then, at_once}
use Rattle.hx_lowering.proofs.Setting.{Back, returns_back}
use Rattle.hx_lowering.proofs.Stand.{Has, has_before, word_stands, length-put, length-expr}
use Rattle.hx_lowering.proofs.At.{layout_of, call_at, At, at_place, goes_to, prints_to}
use Rattle.hx_lowering.proofs.Names.{env_of, names_of, Around}
use Rattle.hx_lowering.proofs.Values.{Leaves, value_at, word_goes, jump_follows, or_left, or_right}
use Rattle.hx_lowering.proofs.Scene.{Scene, Fair, Stands, Holds, Came, EndsBy, Ends, held, fixed_or}
use Rattle.hx_lowering.proofs.Locals.{Tidy, tidy_more, tidy_scope, tidy_word, declare_is}
use Rattle.hx_lowering.proofs.Taken.{changed, changed_by_body, base_at, unfixed_read, unfixed_write, unkept_write, own_unfixed, own_unkept}
use Rattle.hx_lowering.proofs.Declares.{reads_then, assigns_then, declares_then, draft_then, declares_from}
use Rattle.hx_lowering.proofs.Writes.{private_written}
use Rattle.hx_lowering.proofs.Assigns.{Free, Loose, value_here, values_here, call_here, assign_follows}
use Rattle.hx_lowering.proofs.Calling.{onto}
use Rattle.hx_lowering.proofs.Drafts.{HasDraft, has_word, has_stmt, has_stmts, has_simples, has_loop, length-stmt}
use Rattle.hx_lowering.proofs.Loops.{clauses_of}
use Rattle.hx_lowering.proofs.DoLoops.{in_do, holds_in_do, fair_in_do, has_body, do_follows}
use Rattle.hx_lowering.proofs.Marked.{loop_follows}
use Rattle.hx_lowering.proofs.Flat.{flat_stmt}

abbrev pub around_of : Program → Scene → resolve.Around
around_of p s = record { symbols = symbols_of p; privates = s.privates; is_marked = s.is_marked }

returned_ok : (r : Returns_) (e : tree.Expr) (here : Surroundings) → AcceptsReturn r (Some e) here → AcceptsExpr e here
returned_ok returns.Int e here ok = ok
returned_ok returns.Void e here ok = absurd ok

module _ (p : Program) (code : CodeView) (words : code.globals ≡ words_in (layout_of p)) where
  -- the end of some parts of a block
  abbrev pub PartsEnd : Scene → Scopes → ℕ → Exit × Environment → World → Machine → Type 0
  PartsEnd s outer place out w m = EndsBy p code s outer place out.0 (leave_scope out.1) w m

  goes_on_here : (s : Scene) (scopes : Scopes) (n place : ℕ) (ps cells : List ℤ) → Holds s ps cells → (w : World) (m : Machine) → At p code s.ground place ps [] cells w m
      → Follows code n m (goes_on (env_of scopes (held s ps cells)) w) (Ends p code s scopes place)
  goes_on_here s scopes n place ps cells holds w m at = at_once code m (λ m'. Stands p code s scopes place (env_of scopes (held s ps cells)) w m') (record { ps = ps; cells = cells; holds = holds; at = at; env_is = refl })

  -- the innermost scope and the others
  abbrev pub Top : Scopes → Scopes → Type 0
  Top scopes outer = (scope : Map ℕ) × (scopes ≡ scope ∷ outer)

  leave_stands : (s : Scene) (scopes outer : Scopes) → Top scopes outer → (place : ℕ) (env : Environment) (w : World) (m : Machine) → Stands p code s scopes place env w m → Stands p code s outer place (leave_scope env) w m
  leave_stands s scopes outer top place env w m st =
      record { ps = st.ps; cells = st.cells; holds = st.holds; at = st.at; env_is = ap leave_scope (st.env_is ∙ ap (λ sc. env_of sc (held s st.ps st.cells)) top.1) }

  leave_ends : (s : Scene) (scopes outer : Scopes) → Top scopes outer → (place : ℕ) (exit : Exit) (env : Environment) (w : World) (m : Machine)
      → EndsBy p code s scopes place exit env w m → EndsBy p code s outer place exit (leave_scope env) w m
  leave_ends s scopes outer top place GoesOn env w m ends = leave_stands s scopes outer top place env w m ends
  leave_ends s scopes outer top place Breaks env w m ends = (ends.0, leave_stands s scopes outer top s.to.break_to env w m ends.1)
  leave_ends s scopes outer top place Continues env w m ends = (ends.0, leave_stands s scopes outer top s.to.continue_to env w m ends.1)
  leave_ends s scopes outer top place (Returns v) env w m ends = ends

  outer_ends : (s : Scene) (scopes outer : Scopes) → Top scopes outer → (place : ℕ) (exit : Exit) (env : Environment) (w : World) (m : Machine) (rest : Environment → Effect) (place' : ℕ)
      → EndsBy p code s scopes place exit env w m
      → ((m' : Machine) → Stands p code s scopes place env w m' → Follows code s.context.turns m' (rest env w) (PartsEnd s outer place'))
      → Follows code s.context.turns m (go_on exit rest env w) (PartsEnd s outer place')
  outer_ends s scopes outer top place GoesOn env w m rest place' ends k = k m ends
  outer_ends s scopes outer top place Breaks env w m rest place' ends k =
      at_once code m (λ m'. EndsBy p code s outer place' Breaks (leave_scope env) w m') (ends.0, leave_stands s scopes outer top s.to.break_to env w m ends.1)
  outer_ends s scopes outer top place Continues env w m rest place' ends k =
      at_once code m (λ m'. EndsBy p code s outer place' Continues (leave_scope env) w m') (ends.0, leave_stands s scopes outer top s.to.continue_to env w m ends.1)
  outer_ends s scopes outer top place (Returns v) env w m rest place' ends k = at_once code m (λ m'. Came p code s v w m') ends

  scope_in : (scopes : Scopes) (here : Surroundings) → Around p scopes here → Around p ([] ∷ scopes) (in_scope here)
  scope_in scopes here around = record { kinds = around.kinds; names = ap (λ ls. [] ∷ ls) around.names }

  loop_in : (scopes : Scopes) (here : Surroundings) → Around p scopes here → Around p scopes (inside_loop here)
  loop_in scopes here around = record { kinds = around.kinds; names = around.names }

  ends_at : (s : Scene) (scopes : Scopes) (n place place' : ℕ) (m : Machine) (a : Answer (Exit × Environment)) → place ≡ place' → Follows code n m a (Ends p code s scopes place) → Follows code n m a (Ends p code s scopes place')
  ends_at s scopes n place place' m a e h = subst (λ q. Follows code n m a (Ends p code s scopes q)) e h

  -- a value, and what is printed of it
  prints : (s : Scene) → Fair p code s → (next : ℕ) (scopes : Scopes) → Tidy next scopes → next ≤ s.privates → (here : Surroundings) → Around p scopes here → (e : tree.Expr) → AcceptsExpr e here
      → Free s (λ k. expr_reads k (resolve_expr e (symbols_of p) scopes)) → (place : Pos)
      → (lines : List Line) → Has code (put s.version 1 (Print place) (expr_lines (resolve_expr e (symbols_of p) scopes) s.version 0 lines))
      → (ps cells : List ℤ) → Holds s ps cells → (w : World) (m : Machine) → At p code s.ground (length lines) ps [] cells w m
      → Follows code s.context.turns m (effect (tree.Print place e) s.context (env_of scopes (held s ps cells)) w) (Ends p code s scopes (length (put s.version 1 (Print place) (expr_lines (resolve_expr e (symbols_of p) scopes) s.version 0 lines))))
  prints s fair next scopes tidy fits here around e ok free place lines has ps cells holds w m at =
      let es = expr_lines (resolve_expr e (symbols_of p) scopes) s.version 0 lines in
      let done = put s.version 1 (Print place) es in
      let env = env_of scopes (held s ps cells) in
      let n = s.context.turns in
      follows_then code n m (value e (call_in s.context) env w) (λ v. print_bytes place (signed_decimal v ++ 10 ∷ []) >>= (λ done. goes_on env)) (Leaves p code s.ground s.version words fair.globals fair.carries es ps [] cells) (Ends p code s scopes (length done))
      (value_here p code words s fair next scopes tidy fits here around e ok free 0 ps [] cells lines (has_before code s.version 1 (Print place) es has) w m at)
      (λ v w' m' at'. prints_to p code s.ground n (length es) (length es + 1) ps (v ∷ []) [] cells w' m' (Print place) (output.Number v) place (λ done. goes_on env) (Ends p code s scopes (length done)) words at' (word_stands code s.version 1 (Print place) es has) refl
      (λ w'' m'' at''. goes_on_here s scopes n (length done) ps cells holds w'' m'' (at_place p code s.ground (length es + 1) (length done) ps [] cells w'' m'' (sym (length-put s.version 1 (Print place) es)) at'')))

  emits : (s : Scene) → Fair p code s → (next : ℕ) (scopes : Scopes) → Tidy next scopes → next ≤ s.privates → (here : Surroundings) → Around p scopes here → (e : tree.Expr) → AcceptsExpr e here
      → Free s (λ k. expr_reads k (resolve_expr e (symbols_of p) scopes)) → (place : Pos)
      → (lines : List Line) → Has code (put s.version 1 (Emit place) (expr_lines (resolve_expr e (symbols_of p) scopes) s.version 0 lines))
      → (ps cells : List ℤ) → Holds s ps cells → (w : World) (m : Machine) → At p code s.ground (length lines) ps [] cells w m
      → Follows code s.context.turns m (effect (tree.Emit place e) s.context (env_of scopes (held s ps cells)) w) (Ends p code s scopes (length (put s.version 1 (Emit place) (expr_lines (resolve_expr e (symbols_of p) scopes) s.version 0 lines))))
  emits s fair next scopes tidy fits here around e ok free place lines has ps cells holds w m at =
      let es = expr_lines (resolve_expr e (symbols_of p) scopes) s.version 0 lines in
      let done = put s.version 1 (Emit place) es in
      let env = env_of scopes (held s ps cells) in
      let n = s.context.turns in
      follows_then code n m (value e (call_in s.context) env w) (λ v. print_bytes place (cast_unsigned w32 v % 256 ∷ []) >>= (λ done. goes_on env)) (Leaves p code s.ground s.version words fair.globals fair.carries es ps [] cells) (Ends p code s scopes (length done))
      (value_here p code words s fair next scopes tidy fits here around e ok free 0 ps [] cells lines (has_before code s.version 1 (Emit place) es has) w m at)
      (λ v w' m' at'. prints_to p code s.ground n (length es) (length es + 1) ps (v ∷ []) [] cells w' m' (Emit place) (output.Byte (low_byte v)) place (λ done. goes_on env) (Ends p code s scopes (length done)) words at' (word_stands code s.version 1 (Emit place) es has) refl
      (λ w'' m'' at''. goes_on_here s scopes n (length done) ps cells holds w'' m'' (at_place p code s.ground (length es + 1) (length done) ps [] cells w'' m'' (sym (length-put s.version 1 (Emit place) es)) at'')))

  -- a value is returned
  returns_it : (s : Scene) (scopes : Scopes) (n : ℕ) (env : Environment) (v : ℤ) (h : ℕ) (lines : List Line) → Has code (put s.version h Ret lines)
      → (ps cells : List ℤ) → Holds s ps cells → (w : World) (m : Machine) (place : ℕ) → At p code s.ground (length lines) ps (v ∷ []) cells w m
      → Follows code n m (Gives (Returns v, env) w) (Ends p code s scopes place)
  returns_it s scopes n env v h lines has ps cells holds w m place at =
      let c = call_at (length lines) ps (v ∷ []) in
      let back = returns_back code s.ground c c at.memory v (ap (λ word. wants_of word c) (word_stands code s.version h Ret lines has)) in
      λ always. record {
        steps = 1;
        enough = omega arith;
        holds = record { memory = at.memory; back = subst (λ x. Back code s.ground v at.memory (machine_step code x)) (sym at.is) back; world = at.world; room = at.room; cells_are = λ cs e a. at.cells_are a ∙ holds.freezes cs e };
      }

  return_value : (s : Scene) → Fair p code s → (next : ℕ) (scopes : Scopes) → Tidy next scopes → next ≤ s.privates → (here : Surroundings) → Around p scopes here → (o : Option tree.Expr) → AcceptsReturn here.returns o here
      → Free s (λ k. expr_reads k (expr_or_zero o (symbols_of p) scopes))
      → (lines : List Line) → Has code (put s.version 1 Ret (expr_lines (expr_or_zero o (symbols_of p) scopes) s.version 0 lines))
      → (ps cells : List ℤ) → Holds s ps cells → (w : World) (m : Machine) (place : ℕ) → At p code s.ground (length lines) ps [] cells w m
      → Follows code s.context.turns m ((value_or (pos 0) o (call_in s.context) (env_of scopes (held s ps cells)) >>= (λ v. gives (Returns v, env_of scopes (held s ps cells)))) w) (Ends p code s scopes place)
  return_value s fair next scopes tidy fits here around None ok free lines has ps cells holds w m place at =
      let es = put s.version 0 (Const (pos 0)) lines in
      let env = env_of scopes (held s ps cells) in
      word_goes p code s.ground s.version words fair.globals fair.carries s.context.turns 0 ps ps [] (pos 0 ∷ []) cells w m (Const (pos 0)) lines (Gives (Returns (pos 0), env) w) (Ends p code s scopes place) (has_before code s.version 1 Ret es has) at refl
      (λ m' at'. returns_it s scopes s.context.turns env (pos 0) 1 es has ps cells holds w m' place at')
  return_value s fair next scopes tidy fits here around (Some e) ok free lines has ps cells holds w m place at =
      let es = expr_lines (resolve_expr e (symbols_of p) scopes) s.version 0 lines in
      let env = env_of scopes (held s ps cells) in
      follows_then code s.context.turns m (value e (call_in s.context) env w) (λ v. gives (Returns v, env)) (Leaves p code s.ground s.version words fair.globals fair.carries es ps [] cells) (Ends p code s scopes place)
      (value_here p code words s fair next scopes tidy fits here around e (returned_ok here.returns e here ok) free 0 ps [] cells lines (has_before code s.version 1 Ret es has) w m at)
      (λ v w' m' at'. returns_it s scopes s.context.turns env v 1 es has ps cells holds w' m' place at')

  -- a jump out of a turn
  jumps : (s : Scene) (scopes : Scopes) (n to : ℕ) (d : Draft) → HasDraft code (put_word s.version 0 (Jump to) d) → (ps cells : List ℤ) → Holds s ps cells → (w : World) (m : Machine) → At p code s.ground (length d.lines) ps [] cells w m
      → (exit : Exit) (place : ℕ)
      → ((m' : Machine) → Stands p code s scopes to (env_of scopes (held s ps cells)) w m' → EndsBy p code s scopes place exit (env_of scopes (held s ps cells)) w m')
      → Follows code n m (Gives (exit, env_of scopes (held s ps cells)) w) (Ends p code s scopes place)
  jumps s scopes n to d has ps cells holds w m at exit place k =
      let env = env_of scopes (held s ps cells) in
      goes_to p code s.ground n (length d.lines) to ps ps [] [] cells w m (Jump to) (Gives (exit, env) w) (Ends p code s scopes place) at (word_stands code s.version 0 (Jump to) d.lines has.lines) refl
      (λ m' at'. at_once code m' (λ x. EndsBy p code s scopes place exit env w x) (k m' (record { ps = ps; cells = cells; holds = holds; at = at'; env_is = refl })))

  loose_left : (s : Scene) (a b : ℕ → Bool) → Loose s (λ k. a k || b k) → Loose s a
  loose_left s a b loose k e = loose k (or_left (a k) (b k) e)

  loose_right : (s : Scene) (a b : ℕ → Bool) → Loose s (λ k. a k || b k) → Loose s b
  loose_right s a b loose k e = loose k (or_right (a k) (b k) e)

  free_left : (s : Scene) (a b : ℕ → Bool) → Free s (λ k. a k || b k) → Free s a
  free_left s a b free k e = free k (or_left (a k) (b k) e)

  free_right : (s : Scene) (a b : ℕ → Bool) → Free s (λ k. a k || b k) → Free s b
  free_right s a b free k e = free k (or_right (a k) (b k) e)

  -- ---- declarations

  top_word : (scopes outer : Scopes) → Top scopes outer → (x : List ℕ) (k : ℕ) → Top (with_word scopes x k) outer
  top_word scopes outer top x k = ((x, k) ∷ top.0, ap (λ sc. with_word sc x k) top.1)

  top_words : (ds : List tree.LocalDecl) (scopes outer : Scopes) → Top scopes outer → (k : ℕ) → Top (with_words ds scopes k) outer
  top_words [] scopes outer top k = top
  top_words (d ∷ ds) scopes outer top k = top_words ds (with_word scopes d.name.text k) outer (top_word scopes outer top d.name.text k) (k + 1)

  word_tidy : (scopes outer : Scopes) → Top scopes outer → (x : List ℕ) (k : ℕ) → Tidy k scopes → Tidy (k + 1) (with_word scopes x k)
  word_tidy scopes outer top x k tidy = subst (λ sc. Tidy (k + 1) (with_word sc x k)) (sym top.1) (tidy_word k top.0 outer x (subst (Tidy k) top.1 tidy))

  words_tidy : (ds : List tree.LocalDecl) (scopes outer : Scopes) → Top scopes outer → (k : ℕ) → Tidy k scopes → Tidy (k + length ds) (with_words ds scopes k)
  words_tidy [] scopes outer top k tidy = tidy_more k (k + 0) scopes (omega arith) tidy
  words_tidy (d ∷ ds) scopes outer top k tidy =
      let e : k + 1 + length ds ≡ k + suc (length ds) = omega arith in
      subst (λ n. Tidy n (with_words ds (with_word scopes d.name.text k) (k + 1))) e
      (words_tidy ds (with_word scopes d.name.text k) outer (top_word scopes outer top d.name.text k) (k + 1) (word_tidy scopes outer top d.name.text k tidy))

  word_around : (scopes outer : Scopes) → Top scopes outer → (here : Surroundings) (d : tree.LocalDecl) (k : ℕ) → Around p scopes here → Around p (with_word scopes d.name.text k) (with_local d here)
  word_around scopes outer top here d k around = record {
    kinds = around.kinds;
    names = ap (with_name d.name) (around.names ∙ ap names_of top.1) ∙ sym (ap (λ sc. names_of (with_word sc d.name.text k)) top.1);
  }

  words_around : (ds : List tree.LocalDecl) (scopes outer : Scopes) → Top scopes outer → (here : Surroundings) (k : ℕ) → Around p scopes here → Around p (with_words ds scopes k) (with_locals ds here)
  words_around [] scopes outer top here k around = around
  words_around (d ∷ ds) scopes outer top here k around =
      words_around ds (with_word scopes d.name.text k) outer (top_word scopes outer top d.name.text k) (with_local d here) (k + 1) (word_around scopes outer top here d k around)

  declared : (scopes outer : Scopes) → Top scopes outer → (x : List ℕ) (k : ℕ) (f g : ℕ → ℤ) (z : ℤ) → Tidy k scopes → g k ≡ z → ((j : ℕ) → (j ≡ k → ⊥) → f j ≡ g j) → declare (env_of scopes f) x z ≡ env_of (with_word scopes x k) g
  declared scopes outer top x k f g z tidy is same =
      subst (λ sc. declare (env_of sc f) x z ≡ env_of (with_word sc x k) g) (sym top.1) (declare_is top.0 outer x k f g z (subst (Tidy k) top.1 tidy).below is same)

  -- the first value of a local
  first_value : (s : Scene) (fair : Fair p code s) (next : ℕ) (scopes : Scopes) → Tidy next scopes → next ≤ s.privates → (here : Surroundings) → Around p scopes here → (o : Option tree.Expr) → IfThere AcceptsExpr o here
      → Free s (λ k. expr_reads k (expr_or_zero o (symbols_of p) scopes))
      → (lines : List Line) → Has code (expr_lines (expr_or_zero o (symbols_of p) scopes) s.version 0 lines)
      → (ps cells : List ℤ) (w : World) (m : Machine) → At p code s.ground (length lines) ps [] cells w m
      → Follows code s.context.turns m (value_or (pos 0) o (call_in s.context) (env_of scopes (held s ps cells)) w)
      (Leaves p code s.ground s.version words fair.globals fair.carries (expr_lines (expr_or_zero o (symbols_of p) scopes) s.version 0 lines) ps [] cells)
  first_value s fair next scopes tidy fits here around None ok free lines has ps cells w m at =
      value_here p code words s fair next scopes tidy fits here around (tree.Number 0) (omega arith) free 0 ps [] cells lines has w m at
  first_value s fair next scopes tidy fits here around (Some e) ok free lines has ps cells w m at =
      value_here p code words s fair next scopes tidy fits here around e ok free 0 ps [] cells lines has w m at

  locals_follow : (ds : List tree.LocalDecl) (s : Scene) (fair : Fair p code s) → (scopes outer : Scopes) → Top scopes outer → (k : ℕ) → Tidy k scopes → k + length ds ≤ s.privates → (here : Surroundings) → Around p scopes here → AcceptsLocals ds here
      → Free s (λ j. any_of (simple_reads j) (resolve.resolve_locals ds (symbols_of p) scopes k)) → Loose s (λ j. any_of (simple_declares j) (resolve.resolve_locals ds (symbols_of p) scopes k))
      → (lines : List Line) → Has code (simples_lines (resolve.resolve_locals ds (symbols_of p) scopes k) s.version lines)
      → (ps cells : List ℤ) → Holds s ps cells → (w : World) (m : Machine) → At p code s.ground (length lines) ps [] cells w m
      → Follows code s.context.turns m (declare_all ds (call_in s.context) (env_of scopes (held s ps cells)) w)
      (λ env' w' m'. Stands p code s (with_words ds scopes k) (length (simples_lines (resolve.resolve_locals ds (symbols_of p) scopes k) s.version lines)) env' w' m')
  locals_follow [] s fair scopes outer top k tidy fits here around ok free loose lines has ps cells holds w m at =
      at_once code m (λ m'. Stands p code s scopes (length lines) (env_of scopes (held s ps cells)) w m') (record { ps = ps; cells = cells; holds = holds; at = at; env_is = refl })
  locals_follow (d ∷ ds) s fair scopes outer top k tidy fits here around ok free loose lines has ps cells holds w m at =
      let n = s.context.turns in
      let e = expr_or_zero d.init (symbols_of p) scopes in
      let v = s.version in
      let es = expr_lines e v 0 lines in
      let line = put v 1 (set_private v k) es in
      let scopes' = with_word scopes d.name.text k in
      let rest = resolve.resolve_locals ds (symbols_of p) scopes' (k + 1) in
      let done = simples_lines rest v line in
      let has_line = has_simples code rest v line has in
      let env = env_of scopes (held s ps cells) in
      let few = fair.few in
      let lt : k < PRIVATE_LIMIT = omega arith in
      let loose_k = loose k (or_left (nat_eq k k) (any_of (simple_declares k) rest) ((Decides-eqb k k).1 refl)) in
      let Done = λ (env' : Environment) (w' : World) (m' : Machine). Stands p code s (with_words ds scopes' (k + 1)) (length done) env' w' m' in
      follows_then code n m (value_or (pos 0) d.init (call_in s.context) env w) (λ z. declare_all ds (call_in s.context) (declare env d.name.text z)) (Leaves p code s.ground v words fair.globals fair.carries es ps [] cells) Done
      (first_value s fair k scopes tidy (omega arith) here around d.init ok.0 (free_left s (λ j. expr_reads j e) (λ j. any_of (simple_reads j) rest) free) lines (has_before code v 1 (set_private v k) es has_line) ps cells w m at)
      (λ z w' m' at'. private_written p code words s fair n 1 k z ps [] cells holds loose_k.1 lt w' m' es (declare_all ds (call_in s.context) (declare env d.name.text z) w') Done has_line at'
      (λ ps' cells' m'' changed at''.
      let env_is : declare env d.name.text z ≡ env_of scopes' (held s ps' cells') =
      declared scopes outer top d.name.text k (held s ps cells) (held s ps' cells') z tidy (ap (λ o. fixed_or o (value_at v ps' cells' k)) loose_k.0 ∙ changed.here) (λ j ne. ap (fixed_or (s.fixed j)) (changed.others j ne)) in
      subst (λ x. Follows code n m'' (declare_all ds (call_in s.context) x w') Done) (sym env_is)
      (locals_follow ds s fair scopes' outer (top_word scopes outer top d.name.text k) (k + 1) (word_tidy scopes outer top d.name.text k tidy) (omega arith) (with_local d here) (word_around scopes outer top here d k around) ok.2
      (free_right s (λ j. expr_reads j e) (λ j. any_of (simple_reads j) rest) free) (loose_right s (λ j. nat_eq k j) (λ j. any_of (simple_declares j) rest) loose)
      line has ps' cells' changed.holds w' m'' at'')))

  -- what a `for` begins with
  begin_follows : (i : tree.Init) (s : Scene) → Fair p code s → (scopes : Scopes) (here : Surroundings) → Around p scopes here → (k : ℕ) → Tidy k scopes → k + init_locals i ≤ s.privates → AcceptsInit i (in_scope here)
      → Free s (λ j. any_of (simple_reads j) (resolve.resolve_init i (symbols_of p) ([] ∷ scopes) k)) → Loose s (λ j. any_of (simple_assigns j) (resolve.resolve_init i (symbols_of p) ([] ∷ scopes) k))
      → Loose s (λ j. any_of (simple_declares j) (resolve.resolve_init i (symbols_of p) ([] ∷ scopes) k))
      → (lines : List Line) → Has code (simples_lines (resolve.resolve_init i (symbols_of p) ([] ∷ scopes) k) s.version lines)
      → (ps cells : List ℤ) → Holds s ps cells → (w : World) (m : Machine) → At p code s.ground (length lines) ps [] cells w m
      → Around p (words_after_init i ([] ∷ scopes) k) (after_init i (in_scope here))
      × Top (words_after_init i ([] ∷ scopes) k) scopes
      × Tidy (k + init_locals i) (words_after_init i ([] ∷ scopes) k)
      × Follows code s.context.turns m (begin i (call_in s.context) (env_of ([] ∷ scopes) (held s ps cells)) w)
      (λ env' w' m'. Stands p code s (words_after_init i ([] ∷ scopes) k) (length (simples_lines (resolve.resolve_init i (symbols_of p) ([] ∷ scopes) k) s.version lines)) env' w' m')
  begin_follows tree.NoInit s fair scopes here around k tidy fits ok free loose fresh lines has ps cells holds w m at = (
    scope_in scopes here around,
    ([], refl),
    tidy_more k (k + 0) ([] ∷ scopes) (omega arith) (tidy_scope k scopes tidy),
    at_once code m (λ m'. Stands p code s ([] ∷ scopes) (length lines) (env_of ([] ∷ scopes) (held s ps cells)) w m') (record { ps = ps; cells = cells; holds = holds; at = at; env_is = refl }),
  )
  begin_follows (tree.InitLocals ds) s fair scopes here around k tidy fits ok free loose fresh lines has ps cells holds w m at = (
    words_around ds ([] ∷ scopes) scopes ([], refl) (in_scope here) k (scope_in scopes here around),
    top_words ds ([] ∷ scopes) scopes ([], refl) k,
    words_tidy ds ([] ∷ scopes) scopes ([], refl) k (tidy_scope k scopes tidy),
    locals_follow ds s fair ([] ∷ scopes) scopes ([], refl) k (tidy_scope k scopes tidy) fits (in_scope here) (scope_in scopes here around) ok free fresh lines has ps cells holds w m at,
  )
  begin_follows (tree.InitAssign a) s fair scopes here around k tidy fits ok free loose fresh lines has ps cells holds w m at =
      let ra = resolve_assignment a (symbols_of p) ([] ∷ scopes) in (
        scope_in scopes here around,
        ([], refl),
        tidy_more k (k + 0) ([] ∷ scopes) (omega arith) (tidy_scope k scopes tidy),
        assign_follows p code words s fair k ([] ∷ scopes) (tidy_scope k scopes tidy) (omega arith) (in_scope here) (scope_in scopes here around) a ok
            (free_left s (λ j. assignment_reads j ra) (λ j. false) free) (loose_left s (λ j. assigns j ra) (λ j. false) loose) ps cells holds lines has w m at,
      )

  -- past the other side of an `if`
  past_else : (s : Scene) (scopes : Scopes) (n place to behind : ℕ) → to ≡ behind → slice_get code.words place ≡ Some (Jump to) → (m : Machine) (a : Answer (Exit × Environment))
      → Follows code n m a (Ends p code s scopes place) → Follows code n m a (Ends p code s scopes behind)
  past_else s scopes n place to behind e stands m (Gives (GoesOn, env) w) r =
      follows_then code n m (Gives (GoesOn, env) w) (λ out. gives out) (Ends p code s scopes place) (Ends p code s scopes behind) r
      (λ out w' m' ends. past out.0 out.1 w' m' ends)
    where
      past : (exit : Exit) (env : Environment) (w : World) (m : Machine) → EndsBy p code s scopes place exit env w m → Follows code n m (Gives (exit, env) w) (Ends p code s scopes behind)
      past GoesOn env w m st = goes_to p code s.ground n place to st.ps st.ps [] [] st.cells w m (Jump to) (Gives (GoesOn, env) w) (Ends p code s scopes behind) st.at stands refl
          (λ m' at'. at_once code m' (λ x. Stands p code s scopes behind env w x) (record { ps = st.ps; cells = st.cells; holds = st.holds; at = at_place p code s.ground to behind st.ps [] st.cells w m' e at'; env_is = st.env_is }))
      past Breaks env w m st = at_once code m (λ x. EndsBy p code s scopes behind Breaks env w x) st
      past Continues env w m st = at_once code m (λ x. EndsBy p code s scopes behind Continues env w x) st
      past (Returns v) env w m st = at_once code m (λ x. EndsBy p code s scopes behind (Returns v) env w x) st
  past_else s scopes n place to behind e stands m (Gives (Breaks, env) w) r = r
  past_else s scopes n place to behind e stands m (Gives (Continues, env) w) r = r
  past_else s scopes n place to behind e stands m (Gives (Returns v, env) w) r = r
  past_else s scopes n place to behind e stands m (Faults f w) r = r
  past_else s scopes n place to behind e stands m Unfinished r = r

  -- declarations always go on
  then_rest : (n : ℕ) (m : Machine) (a : Answer Environment) (rest : Environment → Effect) (Done : Exit × Environment → World → Machine → Type 0)
      → Follows code n m (and_then a rest) Done → Follows code n m (and_then (and_then a (λ env'. goes_on env')) (λ out. go_on out.0 rest out.1)) Done
  then_rest n m (Gives env w) rest Done h = h
  then_rest n m (Faults f w) rest Done h = h
  then_rest n m Unfinished rest Done h = h

  locals_in_loop : (ds : List tree.LocalDecl) (here : Surroundings) → here.in_loop ≡ (with_locals ds here).in_loop
  locals_in_loop [] here = refl
  locals_in_loop (d ∷ ds) here = locals_in_loop ds (with_local d here)

  not_below : (j k : ℕ) (declares : Bool) → (j < k → declares ≡ false) → declares ≡ true → nat_lt j k ≡ false
  not_below j k declares from e = go (nat_lt j k) refl
    where
      go : (b : Bool) → nat_lt j k ≡ b → b ≡ false
      go true l = let t : true ≡ false = sym e ∙ from (ltb-true j k l) in absurd cc
      go false l = refl

  mutual
    pub stmt_follows : (st : tree.Stmt) (s : Scene) → Fair p code s → (scopes : Scopes) (here : Surroundings) → Around p scopes here → (IsTrue here.in_loop → s.in_loop ≡ true) → (k : ℕ) → Tidy k scopes → k + stmt_locals st ≤ s.privates → AcceptsStmt st here
        → Free s (λ j. stmt_reads j (resolve_stmt st (around_of p s) scopes k))
        → Loose s (λ j. stmt_assigns j (resolve_stmt st (around_of p s) scopes k)) → Loose s (λ j. stmt_declares j (resolve_stmt st (around_of p s) scopes k))
        → (d : Draft) → HasDraft code (stmt_draft (resolve_stmt st (around_of p s) scopes k) s.version s.to d)
        → (ps cells : List ℤ) → Holds s ps cells → (w : World) (m : Machine) → At p code s.ground (length d.lines) ps [] cells w m
        → Follows code s.context.turns m (effect st s.context (env_of scopes (held s ps cells)) w) (Ends p code s scopes (length (stmt_draft (resolve_stmt st (around_of p s) scopes k) s.version s.to d).lines))
    stmt_follows (tree.Block parts) s fair scopes here around loops k tidy fits ok free loose fresh d has ps cells holds w m at =
        follows_then code s.context.turns m (effects parts s.context (enter_scope (env_of scopes (held s ps cells))) w) (λ out. gives (out.0, leave_scope out.1)) (PartsEnd s scopes _) (Ends p code s scopes _)
        (parts_follow parts s fair ([] ∷ scopes) scopes ([], refl) (in_scope here) (scope_in scopes here around) loops k (tidy_scope k scopes tidy) fits ok free loose fresh d has ps cells holds w m at)
        (λ out w' m' ends. at_once code m' (λ x. PartsEnd s scopes _ out w' x) ends)
    stmt_follows tree.Empty s fair scopes here around loops k tidy fits ok free loose fresh d has ps cells holds w m at = goes_on_here s scopes s.context.turns (length d.lines) ps cells holds w m at
    stmt_follows (tree.Assign a) s fair scopes here around loops k tidy fits ok free loose fresh d has ps cells holds w m at =
        let done = assignment_lines (resolve_assignment a (symbols_of p) scopes) s.version d.lines in
        follows_then code s.context.turns m (assign a (call_in s.context) (env_of scopes (held s ps cells)) w) (λ env'. goes_on env') (λ env' w' m'. Stands p code s scopes (length done) env' w' m') (Ends p code s scopes (length done))
        (assign_follows p code words s fair k scopes tidy (omega arith) here around a ok free loose ps cells holds d.lines has.lines w m at)
        (λ env' w' m' stands. at_once code m' (λ x. Stands p code s scopes (length done) env' w' x) stands)
    stmt_follows (tree.CallStatement f es) s fair scopes here around loops k tidy fits ok free loose fresh d has ps cells holds w m at =
        let v = s.version in
        let n = s.context.turns in
        let rs = resolve_exprs es (symbols_of p) scopes in
        let env = env_of scopes (held s ps cells) in
        let a = exprs_lines rs v 0 d.lines in
        let word = Call (function_at f (symbols_of p)) f.pos in
        let b = put v (count rs) word a in
        let done = put v 1 Drop b in
        let has_b = has_before code v 1 Drop b has.lines in
        let Done = Ends p code s scopes (length done) in
        follows_then code n m (values es (call_in s.context) env w) (λ vs. call_in s.context f vs >>= (λ x. goes_on env))
        (λ vs w' m'. (length vs ≡ tree_count es) × At p code s.ground (length a) ps (onto vs []) cells w' m') Done
        (values_here p code words s fair k scopes tidy (omega arith) here around es ok.1 free 0 ps [] cells d.lines (has_before code v (count rs) word a has_b) w m at)
        (λ vs w' m' up. follows_then code n m' (call_in s.context f vs w') (λ x. goes_on env) (λ x w'' m''. At p code s.ground (length b) ps (x ∷ []) cells w'' m'') Done
        (call_here p code words s fair k scopes tidy (omega arith) here around f ok.0.0 vs (ok.0.1 ∙ ap (λ q. Some (FunctionKind ok.0.0 q)) (sym up.0)) (count rs) ps [] cells a has_b w' m' up.1)
        (λ x w'' m'' at''. word_goes p code s.ground v words fair.globals fair.carries n 1 ps ps (x ∷ []) [] cells w'' m'' Drop b (goes_on env w'') Done has.lines at'' refl
        (λ m3 at3. goes_on_here s scopes n (length done) ps cells holds w'' m3 at3)))
    stmt_follows (tree.Print place e) s fair scopes here around loops k tidy fits ok free loose fresh d has ps cells holds w m at = prints s fair k scopes tidy (omega arith) here around e ok free place d.lines has.lines ps cells holds w m at
    stmt_follows (tree.Emit place e) s fair scopes here around loops k tidy fits ok free loose fresh d has ps cells holds w m at = emits s fair k scopes tidy (omega arith) here around e ok free place d.lines has.lines ps cells holds w m at
    stmt_follows (tree.If test st) s fair scopes here around loops k tidy fits ok free loose fresh d has ps cells holds w m at =
        let rt = resolve_expr test (symbols_of p) scopes in
        let rs = resolve_stmt st (around_of p s) scopes k in
        let v = s.version in
        let behind = length d.lines + expr_size rt + 1 + stmt_size rs in
        let a = expr_lines rt v 0 d.lines in
        let d1 = with_lines d (put v 1 (JumpFalse behind) a) in
        let done = stmt_draft rs v s.to d1 in
        let has1 = has_stmt code rs v s.to d1 has in
        let env = env_of scopes (held s ps cells) in
        let n = s.context.turns in
        let at_end : behind ≡ length done.lines = omega (arith, length-stmt rs v s.to d1, length-put v 1 (JumpFalse behind) a, length-expr rt v 0 d.lines) in
        let Done = Ends p code s scopes (length done.lines) in
        follows_then code n m (value test (call_in s.context) env w) (λ x. if is_zero x then goes_on env else effect st s.context env) (Leaves p code s.ground v words fair.globals fair.carries a ps [] cells) Done
        (value_here p code words s fair k scopes tidy (omega arith) here around test ok.0 (free_left s (λ j. expr_reads j rt) (λ j. stmt_reads j rs) free) 0 ps [] cells d.lines (has_before code v 1 (JumpFalse behind) a has1.lines) w m at)
        (λ x w' m' at'. jump_follows p code s.ground v words fair.globals fair.carries n 1 behind x ps [] cells w' m' a (goes_on env) (effect st s.context env) Done has1.lines at'
        (λ m'' at''. goes_on_here s scopes n (length done.lines) ps cells holds w' m'' (at_place p code s.ground behind (length done.lines) ps [] cells w' m'' at_end at''))
        (λ m'' at''. stmt_follows st s fair scopes here around loops k tidy fits ok.1 (free_right s (λ j. expr_reads j rt) (λ j. stmt_reads j rs) free) loose fresh d1 has ps cells holds w' m'' at''))
    stmt_follows (tree.IfElse test st other) s fair scopes here around loops k tidy fits ok free loose fresh d has ps cells holds w m at =
        let rt = resolve_expr test (symbols_of p) scopes in
        let rs = resolve_stmt st (around_of p s) scopes k in
        let ro = resolve_stmt other (around_of p s) scopes (k + stmt_locals st) in
        let v = s.version in
        let other_at = length d.lines + expr_size rt + 1 + stmt_size rs + 1 in
        let behind = other_at + stmt_size ro in
        let a = expr_lines rt v 0 d.lines in
        let d1 = with_lines d (put v 1 (JumpFalse other_at) a) in
        let d2 = stmt_draft rs v s.to d1 in
        let d3 = put_word v 0 (Jump behind) d2 in
        let done = stmt_draft ro v s.to d3 in
        let has3 = has_stmt code ro v s.to d3 has in
        let has2 = has_word code v 0 (Jump behind) d2 has3 in
        let has1 = has_stmt code rs v s.to d1 has2 in
        let env = env_of scopes (held s ps cells) in
        let n = s.context.turns in
        let at_other : other_at ≡ length d3.lines = omega (arith, length-put v 0 (Jump behind) d2.lines, length-stmt rs v s.to d1, length-put v 1 (JumpFalse other_at) a, length-expr rt v 0 d.lines) in
        let at_end : behind ≡ length done.lines = omega (arith, length-stmt ro v s.to d3, at_other) in
        let Done = Ends p code s scopes (length done.lines) in
        let reads_rest : ℕ → Bool = λ j. stmt_reads j ro in
        let free_first = free_left s (λ j. expr_reads j rt || stmt_reads j rs) reads_rest free in
        follows_then code n m (value test (call_in s.context) env w) (λ x. if is_zero x then effect other s.context env else effect st s.context env) (Leaves p code s.ground v words fair.globals fair.carries a ps [] cells) Done
        (value_here p code words s fair k scopes tidy (omega arith) here around test ok.0 (free_left s (λ j. expr_reads j rt) (λ j. stmt_reads j rs) free_first) 0 ps [] cells d.lines (has_before code v 1 (JumpFalse other_at) a has1.lines) w m at)
        (λ x w' m' at'. jump_follows p code s.ground v words fair.globals fair.carries n 1 other_at x ps [] cells w' m' a (effect other s.context env) (effect st s.context env) Done has1.lines at'
        (λ m'' at''. stmt_follows other s fair scopes here around loops (k + stmt_locals st) (tidy_more k (k + stmt_locals st) scopes (omega arith) tidy) (omega arith) ok.2 (free_right s (λ j. expr_reads j rt || stmt_reads j rs) reads_rest free)
        (loose_right s (λ j. stmt_assigns j rs) (λ j. stmt_assigns j ro) loose) (loose_right s (λ j. stmt_declares j rs) (λ j. stmt_declares j ro) fresh) d3 has ps cells holds w' m''
        (at_place p code s.ground other_at (length d3.lines) ps [] cells w' m'' at_other at''))
        (λ m'' at''. past_else s scopes n (length d2.lines) behind (length done.lines) at_end (word_stands code v 0 (Jump behind) d2.lines has3.lines) m'' (effect st s.context env w')
        (stmt_follows st s fair scopes here around loops k tidy (omega arith) ok.1 (free_right s (λ j. expr_reads j rt) (λ j. stmt_reads j rs) free_first)
        (loose_left s (λ j. stmt_assigns j rs) (λ j. stmt_assigns j ro) loose) (loose_left s (λ j. stmt_declares j rs) (λ j. stmt_declares j ro) fresh) d1 has2 ps cells holds w' m'' at'')))
    stmt_follows (tree.While marked test st) s fair scopes here around loops k tidy fits ok free loose fresh d has ps cells holds w m at =
        let rt = resolve_expr test (symbols_of p) scopes in
        let rs = resolve_stmt st (resolve.inside marked (around_of p s)) scopes k in
        let cs = clauses_of p code words scopes [] (Some test) None in
        let free_clauses = free_left s (λ j. clauses_read j cs) (λ j. stmt_reads j rs) free in
        let fits' : k ≤ s.privates = omega arith in
        let declares : (j : ℕ) → j < k → stmt_declares j rs ≡ false = λ j lt. declares_from st (resolve.inside marked (around_of p s)) scopes k j lt in
        let reads_any : ℕ → Bool = λ j. turns_read j cs rs in
        let writes_any : ℕ → Bool = λ j. changed cs rs j in
        loop_follows p code words marked s.is_marked s k scopes tidy fits' here around [] (Some test) None rs (λ c env. effect st c env) ok.0 tt
        (free_left s (λ j. expr_reads j rt) (λ j. false) free_clauses) (λ j e. absurd cc) (λ j e. absurd cc) fair
        (λ e v to d'. subst (λ b. (stmt_draft (resolve_stmt st (record { symbols = symbols_of p; privates = s.privates; is_marked = b }) scopes k) v to d').regions ≡ d'.regions) (sym (or_right s.is_marked marked e)) (flat_stmt st (symbols_of p) s.privates scopes k v to d'))
        declares
        (λ d' fair' ps' cells' holds' w' m' at' has'. stmt_follows st _ fair' scopes (inside_loop here) (loop_in scopes here around) (λ e''. refl) k tidy fits ok.1 (free_right s (λ j. clauses_read j cs) (λ j. stmt_reads j rs) free) loose fresh _ has' ps' cells' (record { long = holds'.long; keeps = holds'.keeps; freezes = holds'.freezes }) w' m' at')
        (s.is_marked || marked)
        (λ e e' d' o number fair' ps' cells' holds' w' m' at' has'.
        let base : ℕ → ℤ = λ j. base_at cs rs o.call.privates o.iteration j in
        stmt_follows st _ fair' scopes (inside_loop here) (loop_in scopes here around) (λ e''. refl) k tidy fits ok.1
        (λ j r. unfixed_read k reads_any writes_any base j (or_right (if_any (expr_reads j) cs.test || if_any (assignment_reads j) cs.step) (stmt_reads j rs) r))
        (λ j r. (let a = changed_by_body cs rs j r in (unfixed_write k reads_any writes_any base j a, unkept_write k reads_any writes_any base j a)))
        (λ j r. (let own = not_below j k (stmt_declares j rs) (declares j) r in (own_unfixed k reads_any writes_any base j own, own_unkept k reads_any writes_any base j own)))
        _ has' ps' cells' holds' w' m' at')
        d has ps cells holds w m at
    stmt_follows (tree.DoWhile st test) s fair scopes here around loops k tidy fits ok free loose fresh d has ps cells holds w m at =
        let rt = resolve_expr test (symbols_of p) scopes in
        let rs = resolve_stmt st (around_of p s) scopes k in
        let to = do_targets rt (stmt_size rs) (length d.lines) in
        do_follows p code words s fair k scopes tidy (omega arith) here around test ok.1 (free_right s (λ j. stmt_reads j rs) (λ j. expr_reads j rt) free) rs (λ env. effect st s.context env) d has
        (λ ps' cells' holds' w' m' at'. stmt_follows st (in_do s to) (fair_in_do p code words s to fair) scopes (inside_loop here) (loop_in scopes here around) (λ e. refl) k tidy fits ok.0
        (free_left s (λ j. stmt_reads j rs) (λ j. expr_reads j rt) free) loose fresh d
        (has_body p code words s fair k scopes tidy (omega arith) here around test ok.1 (free_right s (λ j. stmt_reads j rs) (λ j. expr_reads j rt) free) rs (λ env. effect st s.context env) d has)
        ps' cells' (holds_in_do s to ps' cells' holds') w' m' at')
        ps cells holds w m at
    stmt_follows (tree.For marked h st) s fair scopes here around loops k tidy fits ok free loose fresh d has ps cells holds w m at =
        let v = s.version in
        let n = s.context.turns in
        let sc1 = words_after_init h.init ([] ∷ scopes) k in
        let init = resolve.resolve_init h.init (symbols_of p) ([] ∷ scopes) k in
        let cs = clauses_of p code words sc1 init h.test h.step in
        let rs = resolve_stmt st (resolve.inside marked (around_of p s)) sc1 (k + init_locals h.init) in
        let c = inside_context marked s.context in
        let d0 = with_lines d (simples_lines init v d.lines) in
        let kind = resolve.kind_if (marked && not s.is_marked) s.privates cs rs in
        let done = loop_draft kind cs (stmt_size rs) (λ v' to' d'. stmt_draft rs v' to' d') v d0 in
        let has0 = has_loop code kind cs (stmt_size rs) (λ v' to' d'. stmt_draft rs v' to' d') v (λ v' to' d'. has_stmt code rs v' to' d') d0 has in
        let free_clauses = free_left s (λ j. clauses_read j cs) (λ j. stmt_reads j rs) free in
        let free_start = free_left s (λ j. any_of (simple_reads j) init || if_any (expr_reads j) cs.test) (λ j. if_any (assignment_reads j) cs.step) free_clauses in
        let loose_clauses = loose_left s (λ j. any_of (simple_assigns j) init || if_any (assigns j) cs.step) (λ j. stmt_assigns j rs) loose in
        let k1 = k + init_locals h.init in
        let b = begin_follows h.init s fair scopes here around k tidy (omega arith) ok.0
        (free_left s (λ j. any_of (simple_reads j) init) (λ j. if_any (expr_reads j) cs.test) free_start) (loose_left s (λ j. any_of (simple_assigns j) init) (λ j. if_any (assigns j) cs.step) loose_clauses)
        (loose_left s (λ j. any_of (simple_declares j) init) (λ j. stmt_declares j rs) fresh) d.lines has0.lines ps cells holds w m at in
        let around1 = b.0 in
        let top1 = b.1 in
        let tidy1 = b.2 in
        let here1 = after_init h.init (in_scope here) in
        let fits1 : k1 ≤ s.privates = omega arith in
        let fits_body : k1 + stmt_locals st ≤ s.privates = omega arith in
        let declares : (j : ℕ) → j < k1 → stmt_declares j rs ≡ false = λ j lt. declares_from st (resolve.inside marked (around_of p s)) sc1 k1 j lt in
        let reads_any : ℕ → Bool = λ j. turns_read j cs rs in
        let writes_any : ℕ → Bool = λ j. changed cs rs j in
        let meant : Environment → Run (Exit × Environment) = λ env'. loop n (is_counted marked s.context) (value_or (pos 1) h.test (call_in c)) (λ env''. effect st c env'') (step_of h.step (call_in c)) env' in
        let Done = Ends p code s scopes (length done.lines) in
        follows_then code n m (begin h.init (call_in s.context) (enter_scope (env_of scopes (held s ps cells))) w) (λ env'. meant env' >>= (λ out. gives (out.0, leave_scope out.1)))
        (λ env' w' m'. Stands p code s sc1 (length d0.lines) env' w' m') Done b.3
        (λ env' w' m' stands. subst (λ x. Follows code n m' ((meant x >>= (λ out. gives (out.0, leave_scope out.1))) w') Done) (sym stands.env_is)
        (follows_then code n m' (meant (env_of sc1 (held s stands.ps stands.cells)) w') (λ out. gives (out.0, leave_scope out.1)) (Ends p code s sc1 (length done.lines)) Done
        (loop_follows p code words marked s.is_marked s k1 sc1 tidy1 fits1 here1 around1 init h.test h.step rs (λ c' env''. effect st c' env'') ok.1 ok.2
        (free_right s (λ j. any_of (simple_reads j) init) (λ j. if_any (expr_reads j) cs.test) free_start)
        (free_right s (λ j. any_of (simple_reads j) init || if_any (expr_reads j) cs.test) (λ j. if_any (assignment_reads j) cs.step) free_clauses)
        (loose_right s (λ j. any_of (simple_assigns j) init) (λ j. if_any (assigns j) cs.step) loose_clauses) fair
        (λ e v' to d'. subst (λ b'. (stmt_draft (resolve_stmt st (record { symbols = symbols_of p; privates = s.privates; is_marked = b' }) sc1 k1) v' to d').regions ≡ d'.regions) (sym (or_right s.is_marked marked e)) (flat_stmt st (symbols_of p) s.privates sc1 k1 v' to d'))
        declares
        (λ d' fair' ps' cells' holds' w'' m'' at' has'. stmt_follows st _ fair' sc1 (inside_loop here1) (loop_in sc1 here1 around1) (λ e''. refl) k1 tidy1 fits_body ok.3 (free_right s (λ j. clauses_read j cs) (λ j. stmt_reads j rs) free)
        (loose_right s (λ j. any_of (simple_assigns j) init || if_any (assigns j) cs.step) (λ j. stmt_assigns j rs) loose) (loose_right s (λ j. any_of (simple_declares j) init) (λ j. stmt_declares j rs) fresh) _ has' ps' cells' (record { long = holds'.long; keeps = holds'.keeps; freezes = holds'.freezes }) w'' m'' at')
        (s.is_marked || marked)
        (λ e e' d' o number fair' ps' cells' holds' w'' m'' at' has'.
        let base : ℕ → ℤ = λ j. base_at cs rs o.call.privates o.iteration j in
        stmt_follows st _ fair' sc1 (inside_loop here1) (loop_in sc1 here1 around1) (λ e''. refl) k1 tidy1 fits_body ok.3
        (λ j r. unfixed_read k1 reads_any writes_any base j (or_right (if_any (expr_reads j) cs.test || if_any (assignment_reads j) cs.step) (stmt_reads j rs) r))
        (λ j r. (let a = changed_by_body cs rs j r in (unfixed_write k1 reads_any writes_any base j a, unkept_write k1 reads_any writes_any base j a)))
        (λ j r. (let own = not_below j k1 (stmt_declares j rs) (declares j) r in (own_unfixed k1 reads_any writes_any base j own, own_unkept k1 reads_any writes_any base j own)))
        _ has' ps' cells' holds' w'' m'' at')
        d0 has stands.ps stands.cells stands.holds w' m' stands.at)
        (λ out w'' m'' ends. at_once code m'' (λ x. EndsBy p code s scopes (length done.lines) out.0 (leave_scope out.1) w'' x)
        (leave_ends s sc1 scopes top1 (length done.lines) out.0 out.1 w'' m'' ends))))
    stmt_follows (tree.Break place) s fair scopes here around loops k tidy fits ok free loose fresh d has ps cells holds w m at =
        jumps s scopes s.context.turns s.to.break_to d has ps cells holds w m at Breaks (length (put s.version 0 (Jump s.to.break_to) d.lines)) (λ m' stands. (loops ok, stands))
    stmt_follows (tree.Continue place) s fair scopes here around loops k tidy fits ok free loose fresh d has ps cells holds w m at =
        jumps s scopes s.context.turns s.to.continue_to d has ps cells holds w m at Continues (length (put s.version 0 (Jump s.to.continue_to) d.lines)) (λ m' stands. (loops ok, stands))
    stmt_follows (tree.Return place e) s fair scopes here around loops k tidy fits ok free loose fresh d has ps cells holds w m at =
        return_value s fair k scopes tidy (omega arith) here around e ok free d.lines has.lines ps cells holds w m _ at

    pub parts_follow : (parts : tree.Parts) (s : Scene) → Fair p code s → (scopes outer : Scopes) → Top scopes outer → (here : Surroundings) → Around p scopes here → (IsTrue here.in_loop → s.in_loop ≡ true) → (k : ℕ) → Tidy k scopes → k + parts_locals parts ≤ s.privates → AcceptsParts parts here
        → Free s (λ j. stmts_read j (resolve_parts parts (around_of p s) scopes k))
        → Loose s (λ j. stmts_assign j (resolve_parts parts (around_of p s) scopes k)) → Loose s (λ j. stmts_declare j (resolve_parts parts (around_of p s) scopes k))
        → (d : Draft) → HasDraft code (stmts_draft (resolve_parts parts (around_of p s) scopes k) s.version s.to d)
        → (ps cells : List ℤ) → Holds s ps cells → (w : World) (m : Machine) → At p code s.ground (length d.lines) ps [] cells w m
        → Follows code s.context.turns m (effects parts s.context (env_of scopes (held s ps cells)) w) (PartsEnd s outer (length (stmts_draft (resolve_parts parts (around_of p s) scopes k) s.version s.to d).lines))
    parts_follow tree.no_parts s fair scopes outer top here around loops k tidy fits ok free loose fresh d has ps cells holds w m at =
        at_once code m (λ m'. Stands p code s outer (length d.lines) (leave_scope (env_of scopes (held s ps cells))) w m')
        (leave_stands s scopes outer top (length d.lines) (env_of scopes (held s ps cells)) w m (record { ps = ps; cells = cells; holds = holds; at = at; env_is = refl }))
    parts_follow (tree.part_and (tree.Locals ls) parts) s fair scopes outer top here around loops k tidy fits ok free loose fresh d has ps cells holds w m at =
        let ss = resolve.resolve_locals ls (symbols_of p) scopes k in
        let scopes' = with_words ls scopes k in
        let rest = resolve_parts parts (around_of p s) scopes' (k + length ls) in
        let n = s.context.turns in
        let d1 = with_lines d (simples_lines ss s.version d.lines) in
        let same = draft_then ss rest s.version s.to d in
        let has1 : HasDraft code (stmts_draft rest s.version s.to d1) = subst (HasDraft code) same has in
        let has0 = has_stmts code rest s.version s.to d1 has1 in
        let free' : Free s (λ j. any_of (simple_reads j) ss || stmts_read j rest) = λ j e. free j (sym (reads_then ss rest j) ∙ e) in
        let loose' : Loose s (λ j. any_of (simple_assigns j) ss || stmts_assign j rest) = λ j e. loose j (sym (assigns_then ss rest j) ∙ e) in
        let fresh' : Loose s (λ j. any_of (simple_declares j) ss || stmts_declare j rest) = λ j e. fresh j (sym (declares_then ss rest j) ∙ e) in
        let done = stmts_draft rest s.version s.to d1 in
        let Done = PartsEnd s outer (length done.lines) in
        subst (λ (x : Draft). Follows code n m (effects (tree.part_and (tree.Locals ls) parts) s.context (env_of scopes (held s ps cells)) w) (PartsEnd s outer (length x.lines))) (sym same)
        (then_rest n m (declare_all ls (call_in s.context) (env_of scopes (held s ps cells)) w) (effects parts s.context) Done
        (follows_then code n m (declare_all ls (call_in s.context) (env_of scopes (held s ps cells)) w) (effects parts s.context) (λ env' w' m'. Stands p code s scopes' (length d1.lines) env' w' m') Done
        (locals_follow ls s fair scopes outer top k tidy (omega arith) here around ok.0 (free_left s (λ j. any_of (simple_reads j) ss) (λ j. stmts_read j rest) free')
        (loose_left s (λ j. any_of (simple_declares j) ss) (λ j. stmts_declare j rest) fresh') d.lines has0.lines ps cells holds w m at)
        (λ env' w' m' stands. subst (λ x. Follows code n m' (effects parts s.context x w') Done) (sym stands.env_is)
        (parts_follow parts s fair scopes' outer (top_words ls scopes outer top k) (with_locals ls here) (words_around ls scopes outer top here k around) (λ e. loops (locals_in_loop ls here ∙ e)) (k + length ls) (words_tidy ls scopes outer top k tidy) (omega arith) ok.1
        (free_right s (λ j. any_of (simple_reads j) ss) (λ j. stmts_read j rest) free')
        (loose_right s (λ j. any_of (simple_assigns j) ss) (λ j. stmts_assign j rest) loose') (loose_right s (λ j. any_of (simple_declares j) ss) (λ j. stmts_declare j rest) fresh') d1 has1 stands.ps stands.cells stands.holds w' m' stands.at))))
    parts_follow (tree.part_and (tree.Statement st) parts) s fair scopes outer top here around loops k tidy fits ok free loose fresh d has ps cells holds w m at =
        let rs = resolve_stmt st (around_of p s) scopes k in
        let k' = k + stmt_locals st in
        let rest = resolve_parts parts (around_of p s) scopes k' in
        let d1 = stmt_draft rs s.version s.to d in
        let done = stmts_draft rest s.version s.to d1 in
        let env = env_of scopes (held s ps cells) in
        follows_then code s.context.turns m (effect st s.context env w) (λ out. go_on out.0 (effects parts s.context) out.1) (Ends p code s scopes (length d1.lines)) (PartsEnd s outer (length done.lines))
        (stmt_follows st s fair scopes here around loops k tidy (omega arith) ok.0 (free_left s (λ j. stmt_reads j rs) (λ j. stmts_read j rest) free)
        (loose_left s (λ j. stmt_assigns j rs) (λ j. stmts_assign j rest) loose) (loose_left s (λ j. stmt_declares j rs) (λ j. stmts_declare j rest) fresh) d (has_stmts code rest s.version s.to d1 has) ps cells holds w m at)
        (λ out w' m' ends. outer_ends s scopes outer top (length d1.lines) out.0 out.1 w' m' (effects parts s.context) (length done.lines) ends
        (λ m'' stands. subst (λ env'. Follows code s.context.turns m'' (effects parts s.context env' w') (PartsEnd s outer (length done.lines))) (sym stands.env_is)
        (parts_follow parts s fair scopes outer top here around loops k' (tidy_more k k' scopes (omega arith) tidy) (omega arith) ok.1 (free_right s (λ j. stmt_reads j rs) (λ j. stmts_read j rest) free)
        (loose_right s (λ j. stmt_assigns j rs) (λ j. stmts_assign j rest) loose) (loose_right s (λ j. stmt_declares j rs) (λ j. stmts_declare j rest) fresh) d1 has stands.ps stands.cells stands.holds w' m'' stands.at)))
