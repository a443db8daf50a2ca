-- The words of a loop do what its turns do.
use Rattle.std.proofs.Common.{◌≡◌, ℕ, ◌+◌, ◌≤◌, Bool, true, false, List, [], length, Option, Some, None, ℤ, pos, refl, sym, subst, arith, if◌then◌else◌}
use Rattle.std.specs.Prelude.{option_map}
use Rattle.hx_tree.specs.Numbers.{is_zero}
use Rattle.hx_tree.specs.Tree as tree
use Rattle.hx_tree.specs.Tree.{Program, Name}
use Rattle.hx_tree.specs.World.{World, Run, ◌>>=◌, Environment}
use Rattle.hx_tree.specs.Value.{Calling, value}
use Rattle.hx_tree.specs.Effect.{Effect, Context, call_in, value_or, step_of, loop}
use Rattle.hx_tree.specs.Accepted.{Surroundings, AcceptsExpr, AcceptsAssignment, IfThere}
use Rattle.hx_resolved.specs.Resolved as resolved
use Rattle.hx_resolved.specs.Resolved.{Clauses, Simple}
use Rattle.hx_resolved.specs.Symbols.{Scopes, symbols_of}
use Rattle.hx_resolved.specs.Carried.{expr_reads, assignment_reads, assigns, if_any}
use Rattle.hx_resolved.specs.Counts.{step_counts}
use Rattle.hx_resolved.specs.Resolve.{resolve_expr, resolve_assignment}
use Rattle.hx_code.specs.declared.word.Word.TheVariants.{Jump, JumpFalse}
use Rattle.hx_code.specs.Code.{CodeView}
use Rattle.hx_code.specs.Machine.{Machine}
use Rattle.hx_lowering.specs.declared.line.Line.{Line}
use Rattle.hx_lowering.specs.Lines.{Version, expr_lines, test_lines, step_lines}
use Rattle.hx_lowering.specs.Size.{turn_size, stmt_size}
use Rattle.hx_lowering.specs.Draft.{Draft, Targets, with_lines, put_word, targets, plain_draft, stmt_draft}
use Rattle.hx_lowering.proofs.Globals.{words_in}
use Rattle.hx_lowering.proofs.Follow.{Follows, follows_then, follows_fewer, at_once}
use Rattle.hx_lowering.proofs.Stand.{Has, has_before, word_stands, length-put}
use Rattle.hx_lowering.proofs.At.{layout_of, At, at_place, turns_back}
use Rattle.hx_lowering.proofs.Names.{env_of, Around}
use Rattle.hx_lowering.proofs.Values.{Leaves, jump_follows}
use Rattle.hx_lowering.proofs.Scene.{Scene, Fair, Stands, Holds, Came, Ends, held, turns_follow}
use Rattle.hx_lowering.proofs.Assigns.{Free, Loose, value_here, assign_follows}
use Rattle.hx_lowering.proofs.Locals.{Tidy}
use Rattle.hx_lowering.proofs.Drafts.{HasDraft, has_word, has_lines, has_step, has_stmt, length-test, length-step, length-stmt}

module _ (p : Program) (code : CodeView) (words : code.globals ≡ words_in (layout_of p)) where
  module _ (s : Scene) (fair : Fair p code s) (next : ℕ) (scopes : Scopes) (tidy : Tidy next scopes) (fits : next ≤ s.privates) (here : Surroundings) (around : Around p scopes here) where
    abbrev call : Calling
    call = call_in s.context

    abbrev n : ℕ
    n = s.context.turns

    -- a test and its jump
    pub test_here : {A : Type 0} (o : Option tree.Expr) → IfThere AcceptsExpr o here
        → Free s (λ k. if_any (expr_reads k) (option_map (λ e. resolve_expr e (symbols_of p) scopes) o))
        → (n exit : ℕ) → n ≤ s.context.turns → (ps cells : List ℤ) (lines : List Line) → Has code (test_lines (option_map (λ e. resolve_expr e (symbols_of p) scopes) o) exit s.version lines)
        → (w : World) (m : Machine) → At p code s.ground (length lines) ps [] cells w m → (f g : Run A) (Done : A → World → Machine → Type 0)
        → ((w' : World) (m' : Machine) → At p code s.ground exit ps [] cells w' m' → Follows code n m' (f w') Done)
        → ((w' : World) (m' : Machine) → At p code s.ground (length (test_lines (option_map (λ e. resolve_expr e (symbols_of p) scopes) o) exit s.version lines)) ps [] cells w' m' → Follows code n m' (g w') Done)
        → Follows code n m ((value_or (pos 1) o call (env_of scopes (held s ps cells)) >>= (λ v. if is_zero v then f else g)) w) Done
    test_here None ok free n exit le ps cells lines has w m at f g Done kf kg = kg w m at
    test_here (Some e) ok free n exit le ps cells lines has w m at f g Done kf kg =
        let es = expr_lines (resolve_expr e (symbols_of p) scopes) s.version 0 lines in
        follows_then code n m (value e call (env_of scopes (held s ps cells)) w) (λ v. if is_zero v then f else g) (Leaves p code s.ground s.version words fair.globals fair.carries es ps [] cells) Done
        (follows_fewer code s.context.turns n m (value e call (env_of scopes (held s ps cells)) w) _ le
        (value_here p code words s fair next scopes tidy fits here around e ok free 0 ps [] cells lines (has_before code s.version 1 (JumpFalse exit) es has) w m at))
        (λ x w' m' at'. jump_follows p code s.ground s.version words fair.globals fair.carries n 1 exit x ps [] cells w' m' es f g Done has at' (kf w') (kg w'))

    -- a step
    pub step_here : (o : Option tree.Assignment) → IfThere AcceptsAssignment o here
        → Free s (λ k. if_any (assignment_reads k) (option_map (λ a. resolve_assignment a (symbols_of p) scopes) o))
        → Loose s (λ k. if_any (assigns k) (option_map (λ a. resolve_assignment a (symbols_of p) scopes) o))
        → (lines : List Line) → Has code (step_lines (option_map (λ a. resolve_assignment a (symbols_of p) scopes) o) s.version lines)
        → (env : Environment) (w : World) (m : Machine) → Stands p code s scopes (length lines) env w m
        → Follows code n m (step_of o call env w) (λ env' w' m'. Stands p code s scopes (length (step_lines (option_map (λ a. resolve_assignment a (symbols_of p) scopes) o) s.version lines)) env' w' m')
    step_here None ok free loose lines has env w m stands = at_once code m (λ m'. Stands p code s scopes (length lines) env w m') stands
    step_here (Some a) ok free loose lines has env w m stands =
        subst (λ x. Follows code n m (step_of (Some a) call x w) (λ env' w' m'. Stands p code s scopes (length (step_lines (Some (resolve_assignment a (symbols_of p) scopes)) s.version lines)) env' w' m'))
        (sym stands.env_is)
        (assign_follows p code words s fair next scopes tidy fits here around a ok free loose stands.ps stands.cells stands.holds lines has w m stands.at)

  -- ---- a plain loop

  abbrev pub tested : Clauses → ℕ → Version → Draft → Draft
  tested c exit v d = with_lines d (test_lines c.test exit v d.lines)

  abbrev pub stepped : Clauses → Version → Draft → Draft
  stepped c v d = with_lines d (step_lines c.step v d.lines)

  -- the scene of the turns of a loop
  abbrev pub within : Scene → Targets → Bool → Context → Scene
  within s to marked c = record s { to = to; is_marked = marked; in_loop = true; context = c }

  abbrev pub clauses_of : Scopes → List Simple → Option tree.Expr → Option tree.Assignment → Clauses
  clauses_of scopes init test step = record {
    init = init;
    test = option_map (λ e. resolve_expr e (symbols_of p) scopes) test;
    step = option_map (λ a. resolve_assignment a (symbols_of p) scopes) step;
    counts = step_counts step scopes;
  }

  pub plain_follows : (s : Scene) (marked : Bool) (c : Context) (next : ℕ) (scopes : Scopes) → Tidy next scopes → next ≤ s.privates → (here : Surroundings) → Around p scopes here
      → (init : List Simple) (test : Option tree.Expr) (step : Option tree.Assignment) (rb : resolved.Stmt) (body : Environment → Effect) (counted : Bool) → counted ≡ false
      → IfThere AcceptsExpr test here → IfThere AcceptsAssignment step here
      → Free s (λ k. if_any (expr_reads k) (clauses_of scopes init test step).test) → Free s (λ k. if_any (assignment_reads k) (clauses_of scopes init test step).step) → Loose s (λ k. if_any (assigns k) (clauses_of scopes init test step).step)
      → (d : Draft) → HasDraft code (plain_draft (clauses_of scopes init test step) (stmt_size rb) (λ to d'. stmt_draft rb s.version to d') s.version d)
      → Fair p code (within s (targets (clauses_of scopes init test step) (stmt_size rb) (length d.lines)) marked c)
      → ((ps cells : List ℤ) → Holds s ps cells → (w : World) (m : Machine) → At p code s.ground (length (tested (clauses_of scopes init test step) (length d.lines + turn_size (clauses_of scopes init test step) (stmt_size rb) + 1) s.version d).lines) ps [] cells w m
      → HasDraft code (stmt_draft rb s.version (targets (clauses_of scopes init test step) (stmt_size rb) (length d.lines)) (tested (clauses_of scopes init test step) (length d.lines + turn_size (clauses_of scopes init test step) (stmt_size rb) + 1) s.version d))
      → Follows code c.turns m (body (env_of scopes (held s ps cells)) w) (Ends p code (within s (targets (clauses_of scopes init test step) (stmt_size rb) (length d.lines)) marked c) scopes (length (stmt_draft rb s.version (targets (clauses_of scopes init test step) (stmt_size rb) (length d.lines)) (tested (clauses_of scopes init test step) (length d.lines + turn_size (clauses_of scopes init test step) (stmt_size rb) + 1) s.version d)).lines)))
      → (ps cells : List ℤ) → Holds s ps cells → (w : World) (m : Machine) → At p code s.ground (length d.lines) ps [] cells w m
      → Follows code c.turns m (loop c.turns counted (value_or (pos 1) test (call_in c)) body (step_of step (call_in c)) (env_of scopes (held s ps cells)) w)
      (Ends p code s scopes (length (plain_draft (clauses_of scopes init test step) (stmt_size rb) (λ to d'. stmt_draft rb s.version to d') s.version d).lines))
  plain_follows s marked c next scopes tidy fits here around init test step rb body counted none ok_test ok_step free_test free_step loose_step d has fair hb ps cells holds w m at =
      let cs = clauses_of scopes init test step in
      let v = s.version in
      let size = stmt_size rb in
      let start = length d.lines in
      let exit = start + turn_size cs size + 1 in
      let T = targets cs size start in
      let d1 = tested cs exit v d in
      let d2 = stmt_draft rb v T d1 in
      let d3 = stepped cs v d2 in
      let d4 = put_word v 0 (Jump start) d3 in
      let si = within s T marked c in
      let inner : (ps' cells' : List ℤ) → Holds s ps' cells' → Holds si ps' cells' = λ ps' cells' h. record { long = h.long; keeps = h.keeps; freezes = h.freezes } in
      let outer_holds : (ps' cells' : List ℤ) → Holds si ps' cells' → Holds s ps' cells' = λ ps' cells' h. record { long = h.long; keeps = h.keeps; freezes = h.freezes } in
      let has3 = has_word code v 0 (Jump start) d3 has in
      let has2 = has_lines code d2 d3.lines has3 (has_step code cs.step v d2.lines) in
      let has1 = has_stmt code rb v T d1 has2 in
      let at_step : length d2.lines ≡ T.continue_to = omega (arith, length-stmt rb v T d1, length-test cs.test exit v d.lines) in
      let at_exit : exit ≡ length d4.lines = omega (arith, length-put v 0 (Jump start) d3.lines, length-step cs.step v d2.lines, length-stmt rb v T d1, length-test cs.test exit v d.lines) in
      let Done = Ends p code s scopes (length d4.lines) in
      let env0 = env_of scopes (held s ps cells) in
      subst (λ b. Follows code c.turns m (loop c.turns b (value_or (pos 1) test (call_in c)) body (step_of step (call_in c)) env0 w) Done) (sym none)
      (turns_follow p code (λ j. si) c.turns scopes start (length d1.lines) (λ j. Stands p code si scopes (length d3.lines)) false (value_or (pos 1) test (call_in c)) body (step_of step (call_in c)) Done
      (λ n j le ps' cells' holds' w' m' at' f g kf kg. test_here si fair next scopes tidy fits here around test ok_test free_test n exit le ps' cells' d.lines has1.lines w' m' at' f g Done kf kg)
      (λ j ps' cells' holds' w' m' at'. subst (λ q. Follows code c.turns m' (body (env_of scopes (held s ps' cells')) w') (Ends p code si scopes q)) at_step (hb ps' cells' (outer_holds ps' cells' holds') w' m' at' has2))
      (λ j env' w' m' stands. step_here si fair next scopes tidy fits here around step ok_step free_step loose_step d2.lines has3.lines env' w' m'
      (subst (λ q. Stands p code si scopes q env' w' m') (sym at_step) stands))
      (λ n j env' w' m' next stands k. turns_back p code s.ground n (length d3.lines) start stands.ps stands.ps [] [] stands.cells w' m' (Jump start) (next env' w') Done stands.at (word_stands code v 0 (Jump start) d3.lines has.lines) refl
      (λ m'' at''. k j stands.ps stands.cells stands.holds w' m'' at'' stands.env_is))
      (λ n j env' w' m' stands. at_once code m' (λ m''. Stands p code s scopes (length d4.lines) env' w' m'') (record { ps = stands.ps; cells = stands.cells; holds = outer_holds stands.ps stands.cells stands.holds; at = at_place p code s.ground exit (length d4.lines) stands.ps [] stands.cells w' m' at_exit stands.at; env_is = stands.env_is }))
      (λ n j z env' w' m' came. at_once code m' (λ m''. Came p code s z w' m'') (record { memory = came.memory; back = came.back; world = came.world; room = came.room; cells_are = came.cells_are }))
      c.turns (omega arith) 0 ps cells (inner ps cells holds) w m at)
