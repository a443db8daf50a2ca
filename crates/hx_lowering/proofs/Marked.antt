-- The words of a loop, marked or not, wherever it stands.
use Rattle.std.proofs.Common.{◌≡◌, ℕ, ◌+◌, ◌≤◌, ◌<◌, Bool, true, false, List, [], length, Option, ℤ, pos, refl, sym, ap, subst, ◌∙◌, arith}
use Rattle.std.specs.Prelude.{◌||◌, ◌&&◌, not}
use Rattle.hx_tree.specs.Tree as tree
use Rattle.hx_tree.specs.Tree.{Program, Name}
use Rattle.hx_tree.specs.World.{World, Run, Environment}
use Rattle.hx_tree.specs.Effect.{Exit, Effect, Context, inside as inside_context, is_counted, call_in, value_or, step_of, loop}
use Rattle.hx_tree.specs.Accepted.{Surroundings, AcceptsExpr, AcceptsAssignment, IfThere}
use Rattle.hx_resolved.specs.Resolved as resolved
use Rattle.hx_resolved.specs.Resolved.{Clauses, Simple}
use Rattle.hx_resolved.specs.Symbols.{Scopes}
use Rattle.hx_resolved.specs.Carried.{expr_reads, assignment_reads, assigns, if_any, turns_declare, region_of}
use Rattle.hx_resolved.specs.Resolve.{kind_if}
use Rattle.hx_code.specs.declared.word.Word.TheVariants.{Enter}
use Rattle.hx_code.specs.declared.word.Ask.TheVariants as ask
use Rattle.hx_code.specs.Code.{CodeView}
use Rattle.hx_code.specs.Call.{CallView, Asks, wants_of, wants_at}
use Rattle.hx_code.specs.Machine.{Machine, machine_step}
use Rattle.hx_lowering.specs.Lines.{Version}
use Rattle.hx_lowering.specs.Size.{turn_size, stmt_size}
use Rattle.hx_lowering.specs.Draft.{Draft, Targets, inside, targets, plain_draft, turns_draft, region_at, loop_draft, stmt_draft}
use Rattle.hx_lowering.proofs.Globals.{words_in}
use Rattle.hx_lowering.proofs.Follow.{Follows, steps_to}
use Rattle.hx_lowering.proofs.Setting.{Ground, Outside, Inside, Opener, is_active, enters_plain, setting_of}
use Rattle.hx_lowering.proofs.Stand.{word_stands, length-put}
use Rattle.hx_lowering.proofs.At.{layout_of, call_at, At, at_place}
use Rattle.hx_lowering.proofs.Names.{env_of, Around}
use Rattle.hx_lowering.proofs.Scene.{Scene, Fair, Holds, Ends, held}
use Rattle.hx_lowering.proofs.Assigns.{Free, Loose}
use Rattle.hx_lowering.proofs.Locals.{Tidy}
use Rattle.hx_lowering.proofs.Drafts.{HasDraft, has_stmt, has_turns, has_plain, has_region, length-stmt, length-turns}
use Rattle.hx_lowering.proofs.Loops.{tested, within, clauses_of, plain_follows}
use Rattle.hx_lowering.proofs.Regions.{Flat, iteration_scene, entered, whole, region_opens, or_true}

or_false : (b : Bool) → (b || false) ≡ b
or_false true = refl
or_false false = refl

module _ (p : Program) (code : CodeView) (words : code.globals ≡ words_in (layout_of p)) where
  abbrev Cs : Scopes → List Simple → Option tree.Expr → Option tree.Assignment → Clauses
  Cs scopes init test step = clauses_of p code words scopes init test step

  abbrev pub marked_scene : Scene → Bool → Scene
  marked_scene s im = record s { is_marked = im }

  -- the targets of a plain loop's turns, and what stands with its test
  abbrev pub plain_targets : Clauses → resolved.Stmt → Draft → Targets
  plain_targets cs rb d = targets cs (stmt_size rb) (length d.lines)

  abbrev pub plain_tested : Clauses → resolved.Stmt → Version → Draft → Draft
  plain_tested cs rb v d = tested p code words cs (length d.lines + turn_size cs (stmt_size rb) + 1) v d

  -- the body of a loop does what it should, in the turns of a plain loop
  abbrev pub PlainBody : Scene → Bool → Bool → Scopes → Clauses → resolved.Stmt → (Context → Environment → Effect) → Type 0
  PlainBody s marked im scopes cs rb body =
      (d : Draft) → Fair p code (within p code words s (plain_targets cs rb d) (im || marked) (inside_context marked s.context))
      → (ps cells : List ℤ) → Holds s ps cells → (w : World) (m : Machine) → At p code s.ground (length (plain_tested cs rb s.version d).lines) ps [] cells w m
      → HasDraft code (stmt_draft rb s.version (plain_targets cs rb d) (plain_tested cs rb s.version d))
      → Follows code s.context.turns m (body (inside_context marked s.context) (env_of scopes (held s ps cells)) w)
      (Ends p code (within p code words s (plain_targets cs rb d) (im || marked) (inside_context marked s.context)) scopes (length (stmt_draft rb s.version (plain_targets cs rb d) (plain_tested cs rb s.version d)).lines))

  -- and in the turns of a region
  abbrev pub RegionBody : Scene → Bool → ℕ → Scopes → Clauses → resolved.Stmt → (Context → Environment → Effect) → Type 0
  RegionBody s mk low scopes cs rb body =
      (d : Draft) (o : Opener) → o.region ≡ length d.regions
      → Fair p code (iteration_scene p code words s mk low o cs rb (plain_targets cs rb (entered p code words cs (stmt_size rb) s.version d)) (inside_context true s.context))
      → (ps cells : List ℤ) → Holds (iteration_scene p code words s mk low o cs rb (plain_targets cs rb (entered p code words cs (stmt_size rb) s.version d)) (inside_context true s.context)) ps cells → (w : World) (m : Machine) → At p code (Inside o []) (length (plain_tested cs rb (inside o.region (region_of s.privates cs rb) s.version) (entered p code words cs (stmt_size rb) s.version d)).lines) ps [] cells w m
      → HasDraft code (stmt_draft rb (inside o.region (region_of s.privates cs rb) s.version) (plain_targets cs rb (entered p code words cs (stmt_size rb) s.version d)) (plain_tested cs rb (inside o.region (region_of s.privates cs rb) s.version) (entered p code words cs (stmt_size rb) s.version d)))
      → Follows code s.context.turns m (body (inside_context true s.context) (env_of scopes (held (iteration_scene p code words s mk low o cs rb (plain_targets cs rb (entered p code words cs (stmt_size rb) s.version d)) (inside_context true s.context)) ps cells)) w)
      (Ends p code (iteration_scene p code words s mk low o cs rb (plain_targets cs rb (entered p code words cs (stmt_size rb) s.version d)) (inside_context true s.context)) scopes (length (stmt_draft rb (inside o.region (region_of s.privates cs rb) s.version) (plain_targets cs rb (entered p code words cs (stmt_size rb) s.version d)) (plain_tested cs rb (inside o.region (region_of s.privates cs rb) s.version) (entered p code words cs (stmt_size rb) s.version d))).lines))

  module _ (s : Scene) (next : ℕ) (scopes : Scopes) (tidy : Tidy next scopes) (fits : next ≤ s.privates) (here : Surroundings) (around : Around p scopes here)
      (init : List Simple) (test : Option tree.Expr) (step : Option tree.Assignment) (rb : resolved.Stmt) (body : Context → Environment → Effect)
      (ok_test : IfThere AcceptsExpr test here) (ok_step : IfThere AcceptsAssignment step here)
      (free_test : Free s (λ k. if_any (expr_reads k) (clauses_of p code words scopes init test step).test)) (free_step : Free s (λ k. if_any (assignment_reads k) (clauses_of p code words scopes init test step).step)) (loose_step : Loose s (λ k. if_any (assigns k) (clauses_of p code words scopes init test step).step)) where
    abbrev meant : Bool → Environment → Run (Exit × Environment)
    meant marked env = loop s.context.turns (is_counted marked s.context) (value_or (pos 1) test (call_in (inside_context marked s.context))) (body (inside_context marked s.context)) (step_of step (call_in (inside_context marked s.context))) env

    abbrev draw : Version → Targets → Draft → Draft
    draw v to d = stmt_draft rb v to d

    unmarked : (im : Bool) (ps cells : List ℤ) → Holds (marked_scene s im) ps cells → Holds s ps cells
    unmarked im ps cells h = record { long = h.long; keeps = h.keeps; freezes = h.freezes }

    remarked : (im : Bool) (ps cells : List ℤ) → Holds s ps cells → Holds (marked_scene s im) ps cells
    remarked im ps cells h = record { long = h.long; keeps = h.keeps; freezes = h.freezes }

    -- the plain loop
    plain_loop : (marked im : Bool) → Fair p code (marked_scene s im) → is_counted marked s.context ≡ false → (s.context.is_active || marked) ≡ is_active s.ground → ((im || marked) ≡ true → is_active s.ground ≡ true)
        → PlainBody s marked im scopes (Cs scopes init test step) rb body
        → (d : Draft) → HasDraft code (plain_draft (Cs scopes init test step) (stmt_size rb) (draw s.version) s.version d)
        → (ps cells : List ℤ) → Holds s ps cells → (w : World) (m : Machine) → At p code s.ground (length d.lines) ps [] cells w m
        → Follows code s.context.turns m (meant marked (env_of scopes (held s ps cells)) w) (Ends p code (marked_scene s im) scopes (length (plain_draft (Cs scopes init test step) (stmt_size rb) (draw s.version) s.version d).lines))
    plain_loop marked im fair none active mark hb d has ps cells holds w m at =
        let fair_in : Fair p code (within p code words s (plain_targets (Cs scopes init test step) rb d) (im || marked) (inside_context marked s.context)) = record { globals = fair.globals; carries = fair.carries; active = active; marked = mark; loose = fair.loose; thawed = fair.thawed; apart = fair.apart; small = fair.small; still = fair.still; few = fair.few; calls = fair.calls } in
        plain_follows p code words (marked_scene s im) (im || marked) (inside_context marked s.context) next scopes tidy fits here around init test step rb (body (inside_context marked s.context)) (is_counted marked s.context) none
        ok_test ok_step free_test free_step loose_step d has fair_in (λ ps' cells' holds' w' m' at' has'. hb d fair_in ps' cells' (unmarked im ps' cells' holds') w' m' at' has') ps cells (remarked im ps cells holds) w m at

    -- a marked loop while a region is active: past the region's version
    active_loop : (o : Opener) (rest : List CallView) (r : resolved.Region) → s.ground ≡ Inside o rest → Fair p code (marked_scene s false)
        → PlainBody s true false scopes (Cs scopes init test step) rb body
        → (d : Draft) → HasDraft code (whole p code words r (Cs scopes init test step) rb s.version d)
        → (ps cells : List ℤ) → Holds s ps cells → (w : World) (m : Machine) → At p code s.ground (length d.lines) ps [] cells w m
        → Follows code s.context.turns m (meant true (env_of scopes (held s ps cells)) w) (Ends p code (marked_scene s false) scopes (length (whole p code words r (Cs scopes init test step) rb s.version d).lines))
    active_loop o rest r ground fair hb d has ps cells holds w m at =
        let cs = Cs scopes init test step in
        let v = s.version in
        let size = stmt_size rb in
        let place = length d.lines in
        let wv = inside (length d.regions) r v in
        let ent = entered p code words cs size v d in
        let turns = turns_draft cs size (draw wv) wv ent in
        let plain = plain_draft cs size (draw v) v turns in
        let has_plain' = has_region code plain (region_at r cs size place) has in
        let has_turns' = has_plain code cs size (draw v) v (λ to. has_stmt code rb v to) turns has_plain' in
        let has_ent = has_turns code cs size (draw wv) wv (λ to. has_stmt code rb wv to) ent has_turns' in
        let to = place + 1 + (turn_size cs size + 2) in
        let arrives : to ≡ length turns.lines = omega (arith, length-turns cs size (draw wv) wv (λ to' d'. length-stmt rb wv to' d') ent, length-put v 0 (Enter (length d.regions) to) d.lines) in
        let on : is_active s.ground ≡ true = ap is_active ground in
        let active : s.context.is_active ≡ true = fair.active ∙ on in
        let counted : is_counted true s.context ≡ false = ap not active in
        let c = call_at place ps [] in
        let wanted : wants_at code c ≡ Asks (ask.Enters (length d.regions) to) c = ap (λ word. wants_of word c) (word_stands code v 0 (Enter (length d.regions) to) d.lines has_ent.lines) in
        let m1 = (setting_of code s.ground).here (call_at to ps []) at.memory in
        let at1 : At p code s.ground (length turns.lines) ps [] cells w m1 = at_place p code s.ground to (length turns.lines) ps [] cells w m1 arrives (record { memory = at.memory; is = refl; world = at.world; room = at.room; cells_are = at.cells_are }) in
        steps_to code s.context.turns m m1 (meant true (env_of scopes (held s ps cells)) w) (Ends p code (marked_scene s false) scopes (length plain.lines))
        (ap (machine_step code) at.is ∙ enters_plain code s.ground c at.memory (length d.regions) to on wanted)
        (plain_loop true false fair counted (or_true s.context.is_active ∙ sym on) (λ e. on) hb turns has_plain' ps cells holds w m1 at1)

  -- a marked loop in no other of its function
  region_loop : (g : Ground) (s : Scene) (next : ℕ) (scopes : Scopes) (tidy : Tidy next scopes) (fits : next ≤ s.privates) (here : Surroundings) (around : Around p scopes here)
      (init : List Simple) (test : Option tree.Expr) (step : Option tree.Assignment) (rb : resolved.Stmt) (body : Context → Environment → Effect)
      (ok_test : IfThere AcceptsExpr test here) (ok_step : IfThere AcceptsAssignment step here)
      (free_test : Free s (λ k. if_any (expr_reads k) (clauses_of p code words scopes init test step).test)) (free_step : Free s (λ k. if_any (assignment_reads k) (clauses_of p code words scopes init test step).step))
      (loose_step : Loose s (λ k. if_any (assigns k) (clauses_of p code words scopes init test step).step)) → Fair p code (marked_scene (record s { ground = g }) false)
      → Flat p code words rb → ((k : ℕ) → k < next → turns_declare k rb ≡ false)
      → PlainBody (record s { ground = g }) true false scopes (Cs scopes init test step) rb body
      → (mk : Bool) → RegionBody s mk next scopes (Cs scopes init test step) rb body
      → (d : Draft) → HasDraft code (whole p code words (region_of s.privates (Cs scopes init test step) rb) (Cs scopes init test step) rb s.version d)
      → (ps cells : List ℤ) → Holds (record s { ground = g }) ps cells → (w : World) (m : Machine) → At p code g (length d.lines) ps [] cells w m
      → Follows code s.context.turns m
      (loop s.context.turns (is_counted true s.context) (value_or (pos 1) test (call_in (inside_context true s.context))) (body (inside_context true s.context)) (step_of step (call_in (inside_context true s.context))) (env_of scopes (held s ps cells)) w)
      (Ends p code (marked_scene (record s { ground = g }) false) scopes (length (whole p code words (region_of s.privates (Cs scopes init test step) rb) (Cs scopes init test step) rb s.version d).lines))
  region_loop (Inside o rest) s next scopes tidy fits here around init test step rb body ok_test ok_step free_test free_step loose_step fair flat declares hp mk hr d has ps cells holds w m at =
      active_loop (record s { ground = Inside o rest }) next scopes tidy fits here around init test step rb body ok_test ok_step free_test free_step loose_step o rest (region_of s.privates (Cs scopes init test step) rb) refl fair hp d has ps cells holds w m at
  region_loop (Outside rest) s next scopes tidy fits here around init test step rb body ok_test ok_step free_test free_step loose_step fair flat declares hp mk hr d has ps cells holds w m at =
      let counted : is_counted true s.context ≡ true = ap not fair.active in
      let c = inside_context true s.context in
      let cs = Cs scopes init test step in
      subst (λ b. Follows code s.context.turns m (loop s.context.turns b (value_or (pos 1) test (call_in c)) (body c) (step_of step (call_in c)) (env_of scopes (held s ps cells)) w)
      (Ends p code (marked_scene (record s { ground = Outside rest }) false) scopes (length (whole p code words (region_of s.privates cs rb) cs rb s.version d).lines))) (sym counted)
      (region_opens p code words (marked_scene s false) mk rest c next scopes tidy fits here around init test step rb (body c) ok_test ok_step flat declares d has fair (or_true s.context.is_active) fair.calls
      (λ o number fair' ps' cells' holds' w' m' at' has'. hr d o number fair' ps' cells' holds' w' m' at' has') ps cells (record { long = holds.long; keeps = holds.keeps; freezes = holds.freezes }) w m at)

  -- THE loops
  pub loop_follows : (marked im : Bool) (s : Scene) (next : ℕ) (scopes : Scopes) (tidy : Tidy next scopes) (fits : next ≤ s.privates) (here : Surroundings) (around : Around p scopes here)
      (init : List Simple) (test : Option tree.Expr) (step : Option tree.Assignment) (rb : resolved.Stmt) (body : Context → Environment → Effect)
      (ok_test : IfThere AcceptsExpr test here) (ok_step : IfThere AcceptsAssignment step here)
      (free_test : Free s (λ k. if_any (expr_reads k) (clauses_of p code words scopes init test step).test)) (free_step : Free s (λ k. if_any (assignment_reads k) (clauses_of p code words scopes init test step).step)) (loose_step : Loose s (λ k. if_any (assigns k) (clauses_of p code words scopes init test step).step))
      → Fair p code (marked_scene s im)
      → (marked ≡ true → Flat p code words rb) → ((k : ℕ) → k < next → turns_declare k rb ≡ false)
      → PlainBody s marked im scopes (Cs scopes init test step) rb body
      → (mk : Bool) → (marked ≡ true → im ≡ false → RegionBody s mk next scopes (Cs scopes init test step) rb body)
      → (d : Draft) → HasDraft code (loop_draft (kind_if (marked && not im) s.privates (Cs scopes init test step) rb) (Cs scopes init test step) (stmt_size rb) (λ v to d'. stmt_draft rb v to d') s.version d)
      → (ps cells : List ℤ) → Holds s ps cells → (w : World) (m : Machine) → At p code s.ground (length d.lines) ps [] cells w m
      → Follows code s.context.turns m
      (loop s.context.turns (is_counted marked s.context) (value_or (pos 1) test (call_in (inside_context marked s.context))) (body (inside_context marked s.context)) (step_of step (call_in (inside_context marked s.context))) (env_of scopes (held s ps cells)) w)
      (Ends p code (marked_scene s im) scopes (length (loop_draft (kind_if (marked && not im) s.privates (Cs scopes init test step) rb) (Cs scopes init test step) (stmt_size rb) (λ v to d'. stmt_draft rb v to d') s.version d).lines))
  loop_follows false im s next scopes tidy fits here around init test step rb body ok_test ok_step free_test free_step loose_step fair flat declares hp mk hr d has ps cells holds w m at =
      plain_loop s next scopes tidy fits here around init test step rb body ok_test ok_step free_test free_step loose_step false im fair refl (or_false s.context.is_active ∙ fair.active) (λ e. fair.marked (sym (or_false im) ∙ e)) hp d has ps cells holds w m at
  loop_follows true true s next scopes tidy fits here around init test step rb body ok_test ok_step free_test free_step loose_step fair flat declares hp mk hr d has ps cells holds w m at =
      plain_loop s next scopes tidy fits here around init test step rb body ok_test ok_step free_test free_step loose_step true true fair (ap not (fair.active ∙ fair.marked refl)) (or_true s.context.is_active ∙ sym (fair.marked refl)) (λ e. fair.marked refl) hp d has ps cells holds w m at
  loop_follows true false s next scopes tidy fits here around init test step rb body ok_test ok_step free_test free_step loose_step fair flat declares hp mk hr d has ps cells holds w m at =
      region_loop s.ground s next scopes tidy fits here around init test step rb body ok_test ok_step free_test free_step loose_step fair (flat refl) declares hp mk (hr refl refl) d has ps cells holds w m at
