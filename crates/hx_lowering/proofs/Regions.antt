-- The words of a marked loop: a region where none is active, and else the plain loop.
use Rattle.std.proofs.Common.{◌≡◌, ℕ, ◌+◌, ◌≤◌, ◌<◌, ◌%◌, ◌^◌, Bool, true, false, List, [], ◌∷◌, ◌++◌, length, drop, Option, Some, None, ℤ, pos, ◌+ℤ◌, refl, sym, ap, subst, ◌∙◌, arith, if◌then◌else◌, length-set, append_assoc, add_assoc}
use Rattle.std.specs.Prelude.{◌||◌, ◌&&◌, not, nat_eq, option_map, slice_set, slice_index_or}
use Rattle.std.proofs.lemmas.Bool.Decides.{Decides-eqb}
use Rattle.std.proofs.Math.Seq.{get_or-append_seam}
use Rattle.std.proofs.lemmas.List.{length-replicate, get_or-drop}
use Rattle.hx_tree.specs.declared.limits.TheConstants.{CELL_LIMIT, PRIVATE_LIMIT}
use Rattle.hx_tree.specs.Tree as tree
use Rattle.hx_tree.specs.Tree.{Program, Name}
use Rattle.hx_tree.specs.Numbers.{wrap}
use Rattle.hx_tree.specs.World.{World, Gives, Run, Environment, local_value, set_local}
use Rattle.hx_tree.specs.Value.{Calling}
use Rattle.hx_tree.specs.Effect.{Exit, GoesOn, Effect, Context, call_in, value_or, step_of, loop}
use Rattle.hx_tree.specs.Accepted.{Surroundings, AcceptsExpr, AcceptsAssignment, IfThere}
use Rattle.hx_resolved.specs.Resolved as resolved
use Rattle.hx_resolved.specs.Resolved.{Clauses, Simple}
use Rattle.hx_resolved.specs.Symbols.{Scopes}
use Rattle.hx_resolved.specs.declared.program.Induct as counted
use Rattle.hx_resolved.specs.Counts.{step_counts}
use Rattle.hx_resolved.specs.Carried.{expr_reads, assignment_reads, assigns, stmt_reads, stmt_assigns, if_any, is_induct, turns_read, turns_assign, turns_declare, region_of as region_taken}
use Rattle.hx_code.specs.declared.word.Word.TheVariants.{Enter, Turn, Leave}
use Rattle.hx_code.specs.declared.word.Ask.TheVariants as ask
use Rattle.hx_code.specs.declared.table.Carried.{Carried}
use Rattle.hx_code.specs.Code.{CodeView, RegionView, region_of}
use Rattle.hx_code.specs.Call.{CallView, Asks, wants_of, wants_at}
use Rattle.hx_code.specs.Local.{begun, blank}
use Rattle.hx_code.specs.declared.table.Induct.{Induct}
use Rattle.hx_code.specs.Region.{into_cells, from_cells, copied_words, counter_at, with_counter, iteration_words}
use Rattle.hx_code.specs.Machine.{Machine, machine_step}
use Rattle.hx_lowering.specs.Lines.{Version, cell_of}
use Rattle.hx_lowering.specs.Size.{turn_size, stmt_size}
use Rattle.hx_lowering.specs.Draft.{Draft, Targets, put_word, inside, cells_from, counter_of, targets, plain_draft, region_at, region_draft, stmt_draft}
use Rattle.hx_lowering.proofs.Globals.{Layout, store_from, words_in, elsewhere_behind}
use Rattle.hx_lowering.proofs.Follow.{Follows, steps_to, turns_to, at_once, with_numbers, follows_so, follows_known}
use Rattle.hx_lowering.proofs.Setting.{Memory, Ground, Outside, Inside, Opener, at_turn, is_active, at_outside, at_inside, opens_at, turns_at, leaves_at, memory_behind}
use Rattle.hx_lowering.proofs.Stand.{word_stands, length-put}
use Rattle.hx_lowering.proofs.At.{layout_of, call_at, world_at, At, at_place}
use Rattle.hx_lowering.proofs.Names.{env_of, value_of, Around}
use Rattle.hx_lowering.proofs.Deeper.{depth_of}
use Rattle.hx_lowering.proofs.Calling.{CallsFollow}
use Rattle.hx_lowering.proofs.Scene.{Scene, Fair, Stands, Holds, Came, Ends, held, fixed_or, turns_follow}
use Rattle.hx_lowering.proofs.Assigns.{Free, Loose}
use Rattle.hx_lowering.proofs.Values.{value_at, private_value, or_left, or_right}
use Rattle.hx_lowering.proofs.Locals.{Tidy, env_below, set_is}
use Rattle.hx_lowering.proofs.Cells.{cells_apart, into_at, from_at, from_other, length-from_cells, length-copied}
use Rattle.hx_lowering.proofs.Taken.{changed, is_counted, unassigned_if, unassigned_unchanged, changed_is_none, unfixed_assigned, counter, base_at, base_first, base_other, length-counter, counter_other, counter_here, counter_same, fixed_in, kept_in, unfixed_read, unfixed_write, unkept_write, is_fixed, is_kept, kept_so, in_cell, in_none, few_cells, small_cell, rises, begins_with}
use Rattle.hx_lowering.proofs.Ranged.{AreNumbers, HasNumbers}
use Rattle.hx_lowering.proofs.Counters.{next_turn_value}
use Rattle.hx_lowering.proofs.Counted.{Counts, counts_so}
use Rattle.hx_lowering.proofs.Drafts.{HasDraft, has_word, has_lines, has_step, has_test, has_stmt, has_plain, has_region, length-test, length-step, length-stmt, length-plain}
use Rattle.hx_lowering.proofs.Loops.{test_here, step_here, tested, stepped, clauses_of}

-- cells stand behind the globals
pub cells_behind : (lay : Layout) (globals : ℕ) → globals ≡ words_in lay → (cs : List Carried) (ps st : List ℤ) → store_from lay 0 (into_cells globals cs ps st) ≡ store_from lay 0 st
cells_behind lay globals e [] ps st = refl
cells_behind lay globals e (c ∷ cs) ps st =
    cells_behind lay globals e cs ps (slice_set st (globals + c.cell) (slice_index_or ps c.private (pos 0)))
    ∙ elsewhere_behind lay 0 st (globals + c.cell) (slice_index_or ps c.private (pos 0)) (omega arith)

pub length-into_cells : (globals : ℕ) (cs : List Carried) (ps st : List ℤ) → length (into_cells globals cs ps st) ≡ length st
length-into_cells globals [] ps st = refl
length-into_cells globals (c ∷ cs) ps st =
    length-into_cells globals cs ps (slice_set st (globals + c.cell) (slice_index_or ps c.private (pos 0))) ∙ length-set st (globals + c.cell) (slice_index_or ps c.private (pos 0))

pub or_true : (b : Bool) → (b || true) ≡ true
or_true true = refl
or_true false = refl

append_nothing : (xs : List ℕ) → xs ++ [] ≡ xs
append_nothing [] = refl
append_nothing (x ∷ xs) = ap (λ ys. x ∷ ys) (append_nothing xs)

and_false : (b : Bool) → (b && false) ≡ false
and_false true = refl
and_false false = refl

other_value : (z v : ℤ) (b : Bool) → (b ≡ true → ⊥) → v ≡ (if b then z else v)
other_value z v true ne = absurd (ne refl)
other_value z v false ne = refl

some_same : {x y : ℤ} → Some x ≡ Some y → x ≡ y
some_same h = cc

module _ (p : Program) (code : CodeView) (words : code.globals ≡ words_in (layout_of p)) where
  -- the world of a region is that of the program
  world_behind : (o : Opener) (rest : List CallView) (m : Memory) → world_at p code (Inside o []) m ≡ world_at p code (Outside rest) (memory_behind o m)
  world_behind o rest m = let e : o.turns + m.turns ≡ 0 + (o.turns + m.turns) = omega arith in ap (λ n. record { store = store_from (layout_of p) 0 m.store; text = o.text ++ m.text; turns = n }) e

  -- a draft adds no regions
  abbrev pub Flat : resolved.Stmt → Type 0
  Flat rb = (v : Version) (to : Targets) (d : Draft) → (stmt_draft rb v to d).regions ≡ d.regions

  -- the scene of an iteration
  abbrev pub iteration_scene : Scene → Bool → ℕ → Opener → Clauses → resolved.Stmt → Targets → Context → Scene
  iteration_scene s mk low o cs rb to c = record {
    ground = Inside o [];
    version = inside o.region (region_taken s.privates cs rb) s.version;
    fixed = fixed_in low (λ k. turns_read k cs rb) (λ k. changed cs rb k) (λ k. base_at cs rb o.call.privates o.iteration k);
    kept = kept_in low (λ k. turns_read k cs rb) (λ k. changed cs rb k) (λ k. base_at cs rb o.call.privates o.iteration k);
    frozen = None;
    to = to;
    privates = s.privates;
    is_marked = mk;
    in_loop = true;
    context = c;
  }

  -- the scene of its step, which may write the induction local
  abbrev pub step_scene : Scene → Bool → ℕ → Opener → Clauses → resolved.Stmt → Targets → Context → Scene
  step_scene s mk low o cs rb to c = record (iteration_scene s mk low o cs rb to c) {
    kept = kept_in low (λ k. turns_read k cs rb) (λ k. turns_assign k cs rb) (λ k. base_at cs rb o.call.privates o.iteration k);
  }

  abbrev pub outside_scene : Scene → List CallView → Scene
  outside_scene s rest = record s { ground = Outside rest }

  abbrev pub entered : Clauses → ℕ → Version → Draft → Draft
  entered cs size v d = put_word v 0 (Enter (length d.regions) (length d.lines + 1 + (turn_size cs size + 2))) d

  abbrev pub whole : resolved.Region → Clauses → resolved.Stmt → Version → Draft → Draft
  whole r cs rb v d = region_draft r cs (stmt_size rb) (λ v' to d'. stmt_draft rb v' to d') v d

  -- ---- the values of private words, outside and in an iteration

  module _ (s : Scene) (rest : List CallView) (so_fair : Fair p code (outside_scene s rest)) where
    no_cell : (o : Option ℕ) → (k : ℕ) → cell_of s.version.carried k ≡ o → (ps cells : List ℤ) → private_value o ps cells k ≡ slice_index_or ps k (pos 0)
    no_cell None k e ps cells = refl
    no_cell (Some cell) k e ps cells = let t : false ≡ true = so_fair.carries k cell e in absurd cc

    plainly : (ps cells : List ℤ) (k : ℕ) → held (outside_scene s rest) ps cells k ≡ slice_index_or ps k (pos 0)
    plainly ps cells k = ap (λ o. fixed_or o (value_at s.version ps cells k)) (so_fair.loose refl k).0 ∙ no_cell (cell_of s.version.carried k) k refl ps cells

    module _ (mk : Bool) (low : ℕ) (o : Opener) (cs : Clauses) (rb : resolved.Stmt) (T : Targets) (c : Context) (fits : low ≤ s.privates) (declares : (k : ℕ) → k < low → turns_declare k rb ≡ false) where
      -- the scene of iteration j, and that of its step
      abbrev si : ℕ → Scene
      si j = iteration_scene s mk low (at_turn o j) cs rb T c

      abbrev ss : ℕ → Scene
      ss j = step_scene s mk low (at_turn o j) cs rb T c

      abbrev rs : ℕ → Bool
      rs k = turns_read k cs rb

      abbrev ws : ℕ → Bool
      ws k = changed cs rb k

      abbrev assigned : ℕ → Bool
      assigned k = turns_assign k cs rb

      abbrev words_found : List ℤ
      words_found = o.call.privates

      abbrev base : ℕ → ℕ → ℤ
      base j k = base_at cs rb words_found j k

      abbrev ks : List ℕ
      ks = (region_taken s.privates cs rb).carried

      abbrev start_words : ℕ → List ℤ
      start_words j = with_counter (counter cs rb) words_found j (copied_words (region_taken s.privates cs rb).copied words_found blank)

      carried_value : (j k cell : ℕ) → ws k ≡ true → cell_of (cells_from ks 0) k ≡ Some cell → (ps cells : List ℤ) → held (si j) ps cells k ≡ slice_index_or cells cell (pos 0)
      carried_value j k cell w e ps cells = ap (λ x. fixed_or x (value_at (si j).version ps cells k)) (unfixed_write low rs ws (base j) k w) ∙ ap (λ x. private_value x ps cells k) e

      kept_value : (j k : ℕ) → rs k ≡ true → ws k ≡ false → (ps cells : List ℤ) → held (si j) ps cells k ≡ slice_index_or ps k (pos 0)
      kept_value j k r w ps cells =
          ap (λ x. fixed_or x (value_at (si j).version ps cells k)) (unfixed_read low rs ws (base j) k r) ∙ ap (λ x. private_value x ps cells k) (in_none s.privates low cs rb so_fair.few fits declares k w)

      fixed_value : (j k : ℕ) → k < low → rs k ≡ false → ws k ≡ false → (ps cells : List ℤ) → held (si j) ps cells k ≡ base j k
      fixed_value j k lt r w ps cells = ap (λ x. fixed_or x (value_at (si j).version ps cells k)) (is_fixed low rs ws (base j) k lt r w)

      -- the step's scene keeps less
      loosened : (j : ℕ) (ps cells : List ℤ) → Holds (si j) ps cells → Holds (ss j) ps cells
      loosened j ps cells h = record {
        long = h.long;
        keeps = λ k z e. (let q = kept_so low rs assigned (base j) k z e in h.keeps k z (is_kept low rs ws (base j) k q.0 q.1 (unassigned_unchanged cs rb k q.2) ∙ ap Some q.3));
        freezes = λ vs e. absurd cc;
      }

      module _ (full : length words_found ≡ PRIVATE_LIMIT) where
        roomy_words : (k : ℕ) → k < low → k < length words_found
        roomy_words k lt = let few = so_fair.few in omega (arith, full, few)

        pub begun_holds : (j : ℕ) (cells : List ℤ) → Holds (si j) (start_words j) cells
        begun_holds j cells = record {
          long = length-counter (counter cs rb) words_found j (copied_words (region_taken s.privates cs rb).copied words_found blank)
              ∙ length-copied (region_taken s.privates cs rb).copied words_found blank ∙ length-replicate PRIVATE_LIMIT (pos 0);
          keeps = λ k z e. (let q = kept_so low rs ws (base j) k z e in begins_with s.privates low cs rb so_fair.few fits declares k q.0 q.1 q.2 words_found full j ∙ q.3);
          freezes = λ vs e. absurd cc;
        }

        -- as the region opens
        pub opens_same : AreNumbers words_found → (G : ℕ) (st cells' : List ℤ) → G + CELL_LIMIT ≤ length st → (k : ℕ) → k < low
            → held (si 0) (start_words 0) (drop G (into_cells G (cells_from ks 0) words_found st)) k ≡ held (outside_scene s rest) words_found cells' k
        opens_same small G st cells' room k lt = go (ws k) (rs k) refl refl ∙ sym (plainly words_found cells' k)
          where
            found : ℤ
            found = slice_index_or words_found k (pos 0)

            go : (a b : Bool) → ws k ≡ a → rs k ≡ b → held (si 0) (start_words 0) (drop G (into_cells G (cells_from ks 0) words_found st)) k ≡ slice_index_or words_found k (pos 0)
            go true b w r =
                let cell = in_cell s.privates low cs rb so_fair.few fits declares k lt w in
                let le = few_cells s.privates low cs rb so_fair.few fits declares in
                carried_value 0 k cell.0 w cell.1 (start_words 0) (drop G (into_cells G (cells_from ks 0) words_found st))
                ∙ get_or-drop G (into_cells G (cells_from ks 0) words_found st) cell.0 (pos 0)
                ∙ into_at G ks 0 words_found st k cell.0 cell.1 (omega (arith, le, room))
            go false true w r =
                kept_value 0 k r w (start_words 0) _ ∙ begins_with s.privates low cs rb so_fair.few fits declares k lt r w words_found full 0
                ∙ base_first cs rb k words_found small (roomy_words k lt)
            go false false w r = fixed_value 0 k lt r w (start_words 0) _ ∙ base_first cs rb k words_found small (roomy_words k lt)

        -- what the step leaves of the induction local
        abbrev pub Stepped : ℕ → List ℤ → Type 0
        Stepped j ps = (k : ℕ) → k < low → is_induct cs rb k ≡ true → slice_index_or ps k (pos 0) ≡ base ((j + 1) % 2 ^ 64) k

        -- from a turn to the next
        pub turns_same : ((k : ℕ) → is_induct cs rb k ≡ true → rs k ≡ true) → (j : ℕ) (ps cells : List ℤ) → Holds (ss j) ps cells → Stepped j ps
            → (k : ℕ) → k < low → held (ss j) ps cells k ≡ held (si ((j + 1) % 2 ^ 64)) (start_words ((j + 1) % 2 ^ 64)) cells k
        turns_same reads_it j ps cells holds stepped k lt = go (ws k) (rs k) refl refl
          where
            next : ℕ
            next = (j + 1) % 2 ^ 64

            unmoved : is_induct cs rb k ≡ false → base j k ≡ base ((j + 1) % 2 ^ 64) k
            unmoved i = base_other cs rb k words_found j i ∙ sym (base_other cs rb k words_found ((j + 1) % 2 ^ 64) i)

            read_word : (b : Bool) → is_induct cs rb k ≡ b → rs k ≡ true → ws k ≡ false → slice_index_or ps k (pos 0) ≡ base ((j + 1) % 2 ^ 64) k
            read_word true i r w = stepped k lt i
            read_word false i r w = holds.keeps k (base j k) (is_kept low rs assigned (base j) k lt r (unassigned_if cs rb k w i)) ∙ unmoved i

            fixed_word : (b : Bool) → is_induct cs rb k ≡ b → rs k ≡ false → base j k ≡ base ((j + 1) % 2 ^ 64) k
            fixed_word true i r = let t : true ≡ false = sym (reads_it k i) ∙ r in absurd cc
            fixed_word false i r = unmoved i

            go : (a b : Bool) → ws k ≡ a → rs k ≡ b → held (ss j) ps cells k ≡ held (si ((j + 1) % 2 ^ 64)) (start_words ((j + 1) % 2 ^ 64)) cells k
            go true b w r =
                let cell = in_cell s.privates low cs rb so_fair.few fits declares k lt w in
                carried_value j k cell.0 w cell.1 ps cells ∙ sym (carried_value ((j + 1) % 2 ^ 64) k cell.0 w cell.1 (start_words ((j + 1) % 2 ^ 64)) cells)
            go false true w r =
                kept_value j k r w ps cells ∙ read_word (is_induct cs rb k) refl r w
                ∙ sym (kept_value ((j + 1) % 2 ^ 64) k r w (start_words ((j + 1) % 2 ^ 64)) cells
                ∙ begins_with s.privates low cs rb so_fair.few fits declares k lt r w words_found full ((j + 1) % 2 ^ 64))
            go false false w r =
                fixed_value j k lt r w ps cells ∙ fixed_word (is_induct cs rb k) refl r
                ∙ sym (fixed_value ((j + 1) % 2 ^ 64) k lt r w (start_words ((j + 1) % 2 ^ 64)) cells)

        -- as it is left
        pub leaves_same : (j G : ℕ) (st ps cells cells' : List ℤ) → Holds (si j) ps cells → cells ≡ drop G st → (k : ℕ) → k < low
            → held (si j) ps cells k ≡ held (outside_scene s rest) (with_counter (counter cs rb) words_found j (from_cells G (cells_from ks 0) st words_found)) cells' k
        leaves_same j G st ps cells cells' holds cells_are k lt = go (ws k) (rs k) refl refl ∙ sym (plainly (with_counter (counter cs rb) words_found j (from_cells G (cells_from ks 0) st words_found)) cells' k)
          where
            room : k < length words_found
            room = roomy_words k lt

            behind : ws k ≡ false → base j k ≡ slice_index_or (with_counter (counter cs rb) words_found j (from_cells G (cells_from ks 0) st words_found)) k (pos 0)
            behind w =
                let long = length-from_cells G (cells_from ks 0) st words_found in
                counter_same cs rb k words_found j words_found (from_cells G (cells_from ks 0) st words_found) room (omega (arith, long, room))
                (λ i. sym (from_other G ks 0 st words_found k (in_none s.privates low cs rb so_fair.few fits declares k w)))

            go : (a b : Bool) → ws k ≡ a → rs k ≡ b → held (si j) ps cells k ≡ slice_index_or (with_counter (counter cs rb) words_found j (from_cells G (cells_from ks 0) st words_found)) k (pos 0)
            go true b w r =
                let cell = in_cell s.privates low cs rb so_fair.few fits declares k lt w in
                carried_value j k cell.0 w cell.1 ps cells ∙ ap (λ l. slice_index_or l cell.0 (pos 0)) cells_are ∙ get_or-drop G st cell.0 (pos 0)
                ∙ sym (from_at G ks 0 0 st words_found k cell.0 cell.1 (rises s.privates low cs rb so_fair.few fits declares) room)
                ∙ sym (counter_other cs rb k words_found j (from_cells G (cells_from ks 0) st words_found) (changed_is_none cs rb k w))
            go false true w r = kept_value j k r w ps cells ∙ holds.keeps k (base j k) (is_kept low rs ws (base j) k lt r w) ∙ behind w
            go false false w r = fixed_value j k lt r w ps cells ∙ behind w

        -- the machine stands behind the step
        abbrev pub Behind : Scopes → ℕ → ℕ → Environment → World → Machine → Type 0
        Behind scopes place j env w m = (stands : Stands p code (ss j) scopes place env w m) × Stepped j stands.ps

        -- the step counts the induction local
        pub steps_so : (j place place' : ℕ) (step : Option tree.Assignment) (scopes : Scopes) → Tidy low scopes → cs.counts ≡ step_counts step scopes
            → ((k : ℕ) → is_induct cs rb k ≡ true → rs k ≡ true) → (call : Calling) (n : ℕ) (env : Environment) (w : World) (m : Machine)
            → Stands p code (si j) scopes place env w m → Follows code n m (step_of step call env w) (Stands p code (ss j) scopes place')
            → Follows code n m (step_of step call env w) (Behind scopes place' j)
        steps_so j place place' step scopes tidy counts reads_it call n env w m stands follows = go (step_counts step scopes) refl
          where
            go : (q : Option counted.Induct) → step_counts step scopes ≡ q → Follows code n m (step_of step call env w) (Behind scopes place' j)
            go None none =
                follows_so code n m (step_of step call env w) (Stands p code (ss j) scopes place') (Behind scopes place' j)
                (λ env' w' m' st. (st, λ k lt i. (let c = is_counted cs rb k i in let t : None ≡ Some c.it = sym none ∙ sym counts ∙ c.counts in absurd cc))) follows
            go (Some i) some =
                let it = counts_so p scopes step i some in
                let f = held (si j) stands.ps stands.cells in
                let z = wrap (f i.private +ℤ i.step) in
                let after = set_local (env_of scopes f) it.name z in
                let known : step_of step call env w ≡ Gives after w = ap (λ e. step_of step call e w) stands.env_is ∙ it.gives_it call f w in
                follows_so code n m (step_of step call env w) (λ env' w' m'. (env' ≡ after) × Stands p code (ss j) scopes place' env' w' m') (Behind scopes place' j)
                (λ env' w' m' both. (both.1, λ k lt ind. counted_value i some it env' w' m' both.0 both.1 k lt ind))
                (follows_known code n m (step_of step call env w) after w (Stands p code (ss j) scopes place') known follows)
              where
                counted_value : (i : counted.Induct) → step_counts step scopes ≡ Some i → (it : Counts p scopes step i) (env' : Environment) (w' : World) (m' : Machine)
                    → env' ≡ set_local (env_of scopes (held (si j) stands.ps stands.cells)) it.name (wrap (held (si j) stands.ps stands.cells i.private +ℤ i.step))
                    → (st : Stands p code (ss j) scopes place' env' w' m') → Stepped j st.ps
                counted_value i some it env' w' m' same st k lt ind =
                    let c = is_counted cs rb k ind in
                    let next = (j + 1) % 2 ^ 64 in
                    let f = held (si j) stands.ps stands.cells in
                    let z = wrap (f i.private +ℤ i.step) in
                    let same_it : Some i ≡ Some c.it = sym some ∙ sym counts ∙ c.counts in
                    let one : i ≡ c.it = cc in
                    let here : i.private ≡ k = ap (λ (q : counted.Induct). q.private) one ∙ (Decides-eqb c.it.private k).0 c.named in
                    let r = reads_it k ind in
                    let w0 : ws k ≡ false = ap (λ b. turns_assign k cs rb && not b) ind ∙ and_false (turns_assign k cs rb) in
                    let g : ℕ → ℤ = λ q. if nat_eq q i.private then z else f q in
                    let g_here : g i.private ≡ z = ap (λ b. if b then z else f i.private) ((Decides-eqb i.private i.private).1 refl) in
                    let g_other : (q : ℕ) → (q ≡ i.private → ⊥) → f q ≡ g q = λ q ne. other_value z (f q) (nat_eq q i.private) (λ e. ne ((Decides-eqb q i.private).0 e)) in
                    let envs : env_of scopes (held (ss j) st.ps st.cells) ≡ env_of scopes g = sym st.env_is ∙ same ∙ set_is scopes it.name i.private f g z it.is tidy.apart g_here g_other in
                    let values : option_map (held (ss j) st.ps st.cells) (Some i.private) ≡ option_map g (Some i.private) =
                    ap (option_map (held (ss j) st.ps st.cells)) (sym it.is) ∙ sym (value_of scopes (held (ss j) st.ps st.cells) it.name) ∙ ap (λ e. local_value e it.name) envs ∙ value_of scopes g it.name ∙ ap (option_map g) it.is in
                    let value : held (ss j) st.ps st.cells i.private ≡ z = some_same values ∙ g_here in
                    let before : f k ≡ counter_at (counter_of c.it) words_found j =
                    kept_value j k r w0 stands.ps stands.cells ∙ stands.holds.keeps k (base j k) (is_kept low rs ws (base j) k lt r w0) ∙ counter_here cs rb k c words_found j words_found (roomy_words k lt) in
                    sym (kept_value j k r w0 st.ps st.cells)
                    ∙ ap (held (ss j) st.ps st.cells) (sym here) ∙ value
                    ∙ ap (λ q. wrap (f q +ℤ i.step)) here
                    ∙ ap (λ v. wrap (v +ℤ i.step)) before
                    ∙ ap (λ (q : counted.Induct). wrap (counter_at (counter_of c.it) words_found j +ℤ q.step)) one
                    ∙ sym (next_turn_value (counter_of c.it) words_found j)
                    ∙ sym (counter_here cs rb k c words_found next words_found (roomy_words k lt))

  pub region_opens : (s : Scene) (mk : Bool) (rest : List CallView) (c : Context) (low : ℕ) (scopes : Scopes) → Tidy low scopes → low ≤ s.privates → (here : Surroundings) → Around p scopes here
      → (init : List Simple) (test : Option tree.Expr) (step : Option tree.Assignment) (rb : resolved.Stmt) (body : Environment → Effect)
      → IfThere AcceptsExpr test here → IfThere AcceptsAssignment step here
      → Flat rb → ((k : ℕ) → k < low → turns_declare k rb ≡ false)
      → (d : Draft) → HasDraft code (whole (region_taken s.privates (clauses_of p code words scopes init test step) rb) (clauses_of p code words scopes init test step) rb s.version d)
      → Fair p code (outside_scene s rest) → c.is_active ≡ true → ((K : Ground) → depth_of K ≡ depth_of (Outside rest) → CallsFollow p code K (c.calls (is_active K)) c.turns)
      → ((o : Opener) → o.region ≡ length d.regions → Fair p code (iteration_scene s mk low o (clauses_of p code words scopes init test step) rb (targets (clauses_of p code words scopes init test step) (stmt_size rb) (length (entered (clauses_of p code words scopes init test step) (stmt_size rb) s.version d).lines)) c) → (ps cells : List ℤ) → Holds (iteration_scene s mk low o (clauses_of p code words scopes init test step) rb (targets (clauses_of p code words scopes init test step) (stmt_size rb) (length (entered (clauses_of p code words scopes init test step) (stmt_size rb) s.version d).lines)) c) ps cells → (w : World) (m : Machine) → At p code (Inside o []) (length (tested p code words (clauses_of p code words scopes init test step) ((length (entered (clauses_of p code words scopes init test step) (stmt_size rb) s.version d).lines) + turn_size (clauses_of p code words scopes init test step) (stmt_size rb) + 1) (inside o.region (region_taken s.privates (clauses_of p code words scopes init test step) rb) s.version) (entered (clauses_of p code words scopes init test step) (stmt_size rb) s.version d)).lines) ps [] cells w m
      → HasDraft code (stmt_draft rb (inside o.region (region_taken s.privates (clauses_of p code words scopes init test step) rb) s.version) (targets (clauses_of p code words scopes init test step) (stmt_size rb) (length (entered (clauses_of p code words scopes init test step) (stmt_size rb) s.version d).lines)) (tested p code words (clauses_of p code words scopes init test step) ((length (entered (clauses_of p code words scopes init test step) (stmt_size rb) s.version d).lines) + turn_size (clauses_of p code words scopes init test step) (stmt_size rb) + 1) (inside o.region (region_taken s.privates (clauses_of p code words scopes init test step) rb) s.version) (entered (clauses_of p code words scopes init test step) (stmt_size rb) s.version d)))
      → Follows code c.turns m (body (env_of scopes (held (iteration_scene s mk low o (clauses_of p code words scopes init test step) rb (targets (clauses_of p code words scopes init test step) (stmt_size rb) (length (entered (clauses_of p code words scopes init test step) (stmt_size rb) s.version d).lines)) c) ps cells)) w) (Ends p code (iteration_scene s mk low o (clauses_of p code words scopes init test step) rb (targets (clauses_of p code words scopes init test step) (stmt_size rb) (length (entered (clauses_of p code words scopes init test step) (stmt_size rb) s.version d).lines)) c) scopes (length (stmt_draft rb (inside o.region (region_taken s.privates (clauses_of p code words scopes init test step) rb) s.version) (targets (clauses_of p code words scopes init test step) (stmt_size rb) (length (entered (clauses_of p code words scopes init test step) (stmt_size rb) s.version d).lines)) (tested p code words (clauses_of p code words scopes init test step) ((length (entered (clauses_of p code words scopes init test step) (stmt_size rb) s.version d).lines) + turn_size (clauses_of p code words scopes init test step) (stmt_size rb) + 1) (inside o.region (region_taken s.privates (clauses_of p code words scopes init test step) rb) s.version) (entered (clauses_of p code words scopes init test step) (stmt_size rb) s.version d))).lines)))
      → (ps cells : List ℤ) → Holds (outside_scene s rest) ps cells → (w : World) (m : Machine) → At p code (Outside rest) (length d.lines) ps [] cells w m
      → Follows code c.turns m (loop c.turns true (value_or (pos 1) test (call_in c)) body (step_of step (call_in c)) (env_of scopes (held (outside_scene s rest) ps cells)) w)
      (Ends p code (outside_scene s rest) scopes (length (whole (region_taken s.privates (clauses_of p code words scopes init test step) rb) (clauses_of p code words scopes init test step) rb s.version d).lines))
  region_opens s mk rest c low scopes tidy fits here around init test step rb body ok_test ok_step flat declares d has so_fair active calls hb ps cells holds w m at =
      let cs = clauses_of p code words scopes init test step in
      let r = region_taken s.privates cs rb in
      let v = s.version in
      let size = stmt_size rb in
      let number = length d.regions in
      let place = length d.lines in
      let wv = inside number r v in
      let ent = entered cs size v d in
      let start = length ent.lines in
      let exit = start + turn_size cs size + 1 in
      let T = targets cs size start in
      let t1 = tested p code words cs exit wv ent in
      let t2 = stmt_draft rb wv T t1 in
      let t3 = stepped p code words cs wv t2 in
      let t4 = put_word wv 0 Turn t3 in
      let t5 = put_word wv 0 Leave t4 in
      let draw : Targets → Draft → Draft = λ to d'. stmt_draft rb v to d' in
      let plain = plain_draft cs size draw v t5 in
      let entry = region_at r cs size place in
      let has_plain' = has_region code plain entry has in
      let has5 = has_plain code cs size draw v (λ to. has_stmt code rb v to) t5 has_plain' in
      let has4 = has_word code wv 0 Leave t4 has5 in
      let has3 = has_word code wv 0 Turn t3 has4 in
      let has2 = has_lines code t2 t3.lines has3 (has_step code cs.step wv t2.lines) in
      let has1 = has_stmt code rb wv T t1 has2 in
      let has0 = has_lines code ent t1.lines has1 (has_test code cs.test exit wv ent.lines) in
      let len0 : start ≡ place + 1 = length-put v 0 (Enter number (place + 1 + (turn_size cs size + 2))) d.lines in
      let len_test = length-test cs.test exit wv ent.lines in
      let len_body = length-stmt rb wv T t1 in
      let len_step = length-step cs.step wv t2.lines in
      let len_turn = length-put wv 0 Turn t3.lines in
      let len_leave = length-put wv 0 Leave t4.lines in
      let at_step : length t2.lines ≡ T.continue_to = omega (arith, len_body, len_test) in
      let at_exit : exit ≡ length t4.lines = omega (arith, len_turn, len_step, len_body, len_test) in
      let at_end : entry.exit ≡ length plain.lines = omega (arith, length-plain cs size draw v (λ to d'. length-stmt rb v to d') t5, len_leave, len_turn, len_step, len_body, len_test, len0) in
      let same_regions : length plain.regions ≡ number = ap length (flat v (targets cs size (length t5.lines)) _ ∙ flat wv T t1) in
      let default : RegionView = record { start = 0; exit = 0; carried = []; copied = []; induct = None } in
      let region_is : region_of code number ≡ entry =
      ap (λ rs. slice_index_or rs number default) has.regions
      ∙ ap (λ k. slice_index_or ((plain.regions ++ entry ∷ []) ++ has.regions_behind) k default) (sym same_regions)
      ∙ ap (λ rs. slice_index_or rs (length plain.regions) default) (append_assoc plain.regions (entry ∷ []) has.regions_behind)
      ∙ get_or-append_seam plain.regions entry has.regions_behind default in
      let start_is : entry.start ≡ start = sym len0 in
      let mem = at.memory in
      let o : Opener = record { region = number; call = call_at place ps []; rest = rest; store = mem.store; text = mem.text; turns = mem.turns; regions = mem.regions; iteration = 0 } in
      let si : ℕ → Scene = λ j. iteration_scene s mk low (at_turn o j) cs rb T c in
      let ss : ℕ → Scene = λ j. step_scene s mk low (at_turn o j) cs rb T c in
      let so = outside_scene s rest in
      let few = so_fair.few in
      let full : length ps ≡ PRIVATE_LIMIT = holds.long in
      let fair : (j : ℕ) → Fair p code (si j) = λ j. record {
        globals = so_fair.globals;
        carries = λ k cell e. refl;
        active = active;
        marked = λ e. refl;
        loose = λ e k. absurd cc;
        thawed = λ e. absurd cc;
        apart = λ j k cell e f. cells_apart r.carried j k 0 cell e f;
        small = λ k cell e. small_cell s.privates low cs rb few fits declares k cell e;
        still = λ vs e k. absurd cc;
        few = few;
        calls = λ K e. calls K (e ∙ omega arith);
      } in
      let step_fair : (j : ℕ) → Fair p code (ss j) = λ j. record {
        globals = (fair j).globals;
        carries = (fair j).carries;
        active = active;
        marked = λ e. refl;
        loose = λ e k. absurd cc;
        thawed = λ e. absurd cc;
        apart = (fair j).apart;
        small = (fair j).small;
        still = λ vs e k. absurd cc;
        few = few;
        calls = (fair j).calls;
      } in
      let induct : Option Induct = counter cs rb in
      let begins : ℕ → List ℤ = λ j. with_counter induct ps j (copied_words r.copied ps blank) in
      let ps0 = begins 0 in
      let G = words_in (layout_of p) in
      let st0 = into_cells code.globals entry.carried ps mem.store in
      let mem0 : Memory = record { store = st0; text = []; turns = 0; regions = 0 } in
      let cells0 = drop G st0 in
      let m0 = at_inside o [] (begun entry.start ps0) mem0 in
      let none_yet : mem.turns + 0 ≡ 0 + mem.turns = omega arith in
      let world0 : w ≡ world_at p code (Inside o []) mem0 =
      at.world
      ∙ ap (λ st. record { store = st; text = mem.text; turns = 0 + mem.turns }) (sym (cells_behind (layout_of p) code.globals words entry.carried ps mem.store))
      ∙ ap (λ tx. record { store = store_from (layout_of p) 0 st0; text = tx; turns = 0 + mem.turns }) (sym (append_nothing mem.text))
      ∙ ap (λ n. record { store = store_from (layout_of p) 0 st0; text = mem.text ++ []; turns = n }) (sym none_yet) in
      let room = at.room in
      let at0 : At p code (Inside o []) start ps0 [] cells0 w m0 =
      at_place p code (Inside o []) entry.start start ps0 [] cells0 w m0 start_is
      (record { memory = mem0; is = refl; world = world0; room = omega (arith, length-into_cells code.globals entry.carried ps mem.store, room); cells_are = λ a. refl }) in
      let reads_any : ℕ → Bool = λ k. turns_read k cs rb in
      let changes_any : ℕ → Bool = λ k. changed cs rb k in
      let writes_any : ℕ → Bool = λ k. turns_assign k cs rb in
      let base : ℕ → ℕ → ℤ = λ j k. base_at cs rb ps j k in
      let reads_it : (k : ℕ) → is_induct cs rb k ≡ true → turns_read k cs rb ≡ true = λ k e.
      (let it = is_counted cs rb k e in
      let by_step = (counts_so p scopes step it.it it.counts).reads in
      or_left (if_any (expr_reads k) cs.test || if_any (assignment_reads k) cs.step) (stmt_reads k rb)
      (or_right (if_any (expr_reads k) cs.test) (if_any (assignment_reads k) cs.step) (ap (λ q. if_any (assignment_reads q) cs.step) (sym ((Decides-eqb it.it.private k).0 it.named)) ∙ by_step))) in
      let free_test : (j : ℕ) → Free (si j) (λ k. if_any (expr_reads k) cs.test) = λ j k e. unfixed_read low reads_any changes_any (base j) k (or_left (if_any (expr_reads k) cs.test || if_any (assignment_reads k) cs.step) (stmt_reads k rb) (or_left (if_any (expr_reads k) cs.test) (if_any (assignment_reads k) cs.step) e)) in
      let free_step : (j : ℕ) → Free (ss j) (λ k. if_any (assignment_reads k) cs.step) = λ j k e. unfixed_read low reads_any changes_any (base j) k (or_left (if_any (expr_reads k) cs.test || if_any (assignment_reads k) cs.step) (stmt_reads k rb) (or_right (if_any (expr_reads k) cs.test) (if_any (assignment_reads k) cs.step) e)) in
      let loose_step : (j : ℕ) → Loose (ss j) (λ k. if_any (assigns k) cs.step) = λ j k e.
      (let w = or_left (if_any (assigns k) cs.step) (stmt_assigns k rb) e in
      (unfixed_assigned low cs rb (base j) k (reads_it k) w, unkept_write low reads_any writes_any (base j) k w)) in
      let Done = Ends p code so scopes (length plain.lines) in
      let meant : Environment → Run (Exit × Environment) = λ env. loop c.turns true (value_or (pos 1) test (call_in c)) body (step_of step (call_in c)) env in
      let wanted : wants_at code (call_at place ps []) ≡ Asks (ask.Enters number (place + 1 + (turn_size cs size + 2))) (call_at place ps []) =
      ap (λ word. wants_of word (call_at place ps [])) (word_stands code v 0 (Enter number (place + 1 + (turn_size cs size + 2))) d.lines has0.lines) in
      with_numbers code c.turns m (meant (env_of scopes (held so ps cells)) w) Done (λ always.
      let numbers : HasNumbers (at_outside rest (call_at place ps []) mem) = subst HasNumbers at.is (always 0) in
      let small : AreNumbers ps = numbers.calls.0.0 in
      let env0 : env_of scopes (held (si 0) ps0 cells0) ≡ env_of scopes (held so ps cells) =
      env_below low scopes (held (si 0) ps0 cells0) (held so ps cells) tidy.below
      (λ k lt. ap (λ g. held (si 0) ps0 (drop G (into_cells g entry.carried ps mem.store)) k) words ∙ opens_same s rest so_fair mk low o cs rb T c fits declares full small G mem.store cells room k lt) in
      steps_to code c.turns m m0 (meant (env_of scopes (held so ps cells)) w) Done
      (ap (machine_step code) at.is ∙ opens_at code rest (call_at place ps []) mem number (place + 1 + (turn_size cs size + 2)) wanted
      ∙ ap (λ (g : RegionView). at_inside o [] (begun g.start (iteration_words g ps 0)) (record { store = into_cells code.globals g.carried ps mem.store; text = []; turns = 0; regions = 0 })) region_is)
      (subst (λ env. Follows code c.turns m0 (meant env w) Done) env0
      (turns_follow p code si c.turns scopes start (length t1.lines) (Behind s rest so_fair mk low o cs rb T c fits declares full scopes (length t3.lines)) true (value_or (pos 1) test (call_in c)) body (step_of step (call_in c)) Done
      (λ n j le ps' cells' holds' w' m' at' f g kf kg. test_here p code words (si j) (fair j) low scopes tidy fits here around test ok_test (free_test j) n exit le ps' cells' ent.lines has1.lines w' m' at' f g Done kf kg)
      (λ j ps' cells' holds' w' m' at'. subst (λ q. Follows code c.turns m' (body (env_of scopes (held (si j) ps' cells')) w') (Ends p code (si j) scopes q)) at_step (hb (at_turn o j) refl (fair j) ps' cells' holds' w' m' at' has2))
      (λ j env' w' m' stands. steps_so s rest so_fair mk low o cs rb T c fits declares full j T.continue_to (length t3.lines) step scopes tidy refl reads_it (call_in c) c.turns env' w' m' stands
      (step_here p code words (ss j) (step_fair j) low scopes tidy fits here around step ok_step (free_step j) (loose_step j) t2.lines has3.lines env' w' m'
      (subst (λ q. Stands p code (ss j) scopes q env' w' m') (sym at_step)
      (record { ps = stands.ps; cells = stands.cells; holds = loosened s rest so_fair mk low o cs rb T c fits declares j stands.ps stands.cells stands.holds; at = stands.at; env_is = stands.env_is }))))
      (λ n j env' w' m' next behind k.
      let stands = behind.0 in
      let at' = stands.at in
      let mem' = at'.memory in
      let j' = (j + 1) % 2 ^ 64 in
      let o' = at_turn o j' in
      let mem'' : Memory = record mem' { turns = mem'.turns + 1 } in
      let m'' = at_inside o' [] (begun entry.start (begins j')) mem'' in
      let w'' : World = record w' { turns = w'.turns + 1 } in
      turns_to code n m' m'' (next env' w'') Done
      (ap (machine_step code) at'.is
      ∙ turns_at code (at_turn o j) (call_at (length t3.lines) stands.ps []) (call_at (length t3.lines) stands.ps []) mem' (ap (λ word. wants_of word (call_at (length t3.lines) stands.ps [])) (word_stands code wv 0 Turn t3.lines has4.lines))
      ∙ ap (λ (g : RegionView). at_inside o' [] (begun g.start (iteration_words g ps j')) mem'') region_is)
      (k j' (begins j') stands.cells (begun_holds s rest so_fair mk low o cs rb T c fits declares full j' stands.cells) w'' m''
      (at_place p code (Inside o' []) entry.start start (begins j') [] stands.cells w'' m'' start_is
      (record {
        memory = mem'';
        is = refl;
        world = ap (λ (u : World). record u { turns = u.turns + 1 }) at'.world ∙ ap (λ t. record { store = store_from (layout_of p) 0 mem'.store; text = o.text ++ mem'.text; turns = t }) (add_assoc o.turns mem'.turns 1);
        room = at'.room;
        cells_are = at'.cells_are;
      }))
      (stands.env_is ∙ env_below low scopes (held (ss j) stands.ps stands.cells) (held (si j') (begins j') stands.cells) tidy.below (λ k' lt. turns_same s rest so_fair mk low o cs rb T c fits declares full reads_it j stands.ps stands.cells stands.holds behind.1 k' lt))))
      (λ n j env' w' m' stands.
      let o' = at_turn o j in
      let at' = at_place p code (Inside o' []) exit (length t4.lines) stands.ps [] stands.cells w' m' at_exit stands.at in
      let mem' = at'.memory in
      let ps'' = with_counter induct ps j (from_cells code.globals entry.carried mem'.store ps) in
      let cells'' = drop (words_in (layout_of p)) mem'.store in
      let m'' = at_outside rest (call_at entry.exit ps'' []) (memory_behind o' mem') in
      steps_to code n m' m'' (Gives (GoesOn, env') w') Done
      (ap (machine_step code) at'.is
      ∙ leaves_at code o' (call_at (length t4.lines) stands.ps []) (call_at (length t4.lines) stands.ps []) mem' (ap (λ word. wants_of word (call_at (length t4.lines) stands.ps [])) (word_stands code wv 0 Leave t4.lines has5.lines))
      ∙ ap (λ (g : RegionView). at_outside rest (call_at g.exit (with_counter g.induct ps j (from_cells code.globals g.carried mem'.store ps)) []) (memory_behind o' mem')) region_is)
      (at_once code m'' (λ x. Stands p code so scopes (length plain.lines) env' w' x)
      (record {
        ps = ps'';
        cells = cells'';
        holds = record {
          long = length-counter induct ps j (from_cells code.globals entry.carried mem'.store ps) ∙ length-from_cells code.globals entry.carried mem'.store ps ∙ holds.long;
          keeps = λ k z e. (let t : None ≡ Some z = sym (so_fair.loose refl k).1 ∙ e in absurd cc);
          freezes = λ vs e. (let t : None ≡ Some vs = sym (so_fair.thawed refl) ∙ e in absurd cc);
        };
        at = at_place p code (Outside rest) entry.exit (length plain.lines) ps'' [] cells'' w' m'' at_end
            (record { memory = memory_behind o' mem'; is = refl; world = at'.world ∙ world_behind o' rest mem'; room = at'.room; cells_are = λ a. refl });
        env_is = stands.env_is ∙ env_below low scopes (held (si j) stands.ps stands.cells) (held so ps'' cells'') tidy.below
            (λ k lt. leaves_same s rest so_fair mk low o cs rb T c fits declares full j G mem'.store stands.ps stands.cells cells'' stands.holds (sym (at'.cells_are refl)) k lt
            ∙ ap (λ g. held so (with_counter induct ps j (from_cells g entry.carried mem'.store ps)) cells'' k) (sym words));
      })))
      (λ n j z env' w' m' came. at_once code m' (λ x. Came p code so z w' x)
      (record {
        memory = memory_behind o came.memory;
        back = came.back;
        world = came.world ∙ world_behind o rest came.memory;
        room = came.room;
        cells_are = λ vs e a. absurd cc;
      }))
      c.turns (omega arith) 0 ps0 cells0 (begun_holds s rest so_fair mk low o cs rb T c fits declares full 0 cells0) w m0 at0)))
