-- The code of a program does what the program means.
use Rattle.std.proofs.Common.{◌≡◌, ℕ, zero, suc, ◌+◌, ◌-◌, ◌≤◌, List, [], length, drop, Some, None, ℤ, pos, refl, sym, ap, subst, ◌∙◌, arith, ⊎_elim}
use Rattle.std.specs.Prelude.{codes, slice_index_or}
use Rattle.std.proofs.lemmas.Bool.{cases_lt}
use Rattle.std.proofs.lemmas.List.{length-replicate}
use Rattle.hx_tree.specs.declared.limits.TheConstants.{PRIVATE_LIMIT, CALL_LIMIT}
use Rattle.std.proofs.lemmas.Option.{get_or_from_slice_get}
use Rattle.hx_tree.specs.declared.tree.Returns.TheVariants as returns
use Rattle.hx_tree.specs.declared.outcome.End.{End}
use Rattle.hx_tree.specs.declared.outcome.End.TheVariants as end
use Rattle.hx_tree.specs.Tree.{Program}
use Rattle.hx_tree.specs.World.{World, Answer, Gives, Faults, Unfinished}
use Rattle.hx_tree.specs.Meaning.{functions_of, run_function, main_of, main_context, opening_world, Ending, ending, ending_of_main, InputFits}
use Rattle.hx_tree.specs.Accepted.{IsAccepted}
use Rattle.hx_resolved.specs.Symbols.{symbols_of}
use Rattle.hx_resolved.specs.Resolve.{resolve, function_number, or_else}
use Rattle.hx_code.specs.Code.{CodeView, FuncView}
use Rattle.hx_code.specs.Code as code
use Rattle.hx_code.specs.Local.{blank}
use Rattle.hx_code.specs.Region.{held as held_count}
use Rattle.hx_code.specs.Machine.{Machine, by_end, machine_step, machine_after, opening_machine, opening_store}
use Rattle.hx_lowering.specs.Correct.{Shows, run, Behaves}
use Rattle.hx_lowering.specs.Draft.{function_at, code_of}
use Rattle.hx_lowering.proofs.Globals.{words_in}
use Rattle.hx_lowering.proofs.Follow.{Always, Follows, follows_so, after-sum}
use Rattle.hx_lowering.proofs.Numbers.{always_numbers}
use Rattle.hx_lowering.proofs.Calls.{C, F, it_stands, scene, runs_function, calls_follow}
use Rattle.hx_lowering.proofs.Setting.{Memory, Outside, Ended}
use Rattle.hx_lowering.proofs.At.{layout_of, world_at, At, at_place, shows}
use Rattle.hx_lowering.proofs.Scene.{Came}
use Rattle.hx_lowering.proofs.Functions.{IsFunction, function_is}
use Rattle.hx_lowering.proofs.Placed.{IsPlaced}
use Rattle.hx_lowering.proofs.Begins.{room_is, globals_are, begins, has_room}

-- ---- a machine that has ended

stays : (code : CodeView) (m : Machine) (e : End) → m.end ≡ Some e → machine_step code m ≡ m
stays code m e h = ap (λ o. by_end code o m) h

stays_after : (code : CodeView) (m : Machine) (e : End) (k : ℕ) → m.end ≡ Some e → machine_after code k m ≡ m
stays_after code m e zero h = refl
stays_after code m e (suc k) h = ap (machine_step code) (stays_after code m e k h) ∙ stays code m e h

later_same : (code : CodeView) (m : Machine) (e : End) (i j : ℕ) → i ≤ j → (machine_after code i m).end ≡ Some e → machine_after code j m ≡ machine_after code i m
later_same code m e i j le h =
    let split : (j - i) + i ≡ j = omega arith in
    ap (λ n. machine_after code n m) (sym split) ∙ after-sum code i (j - i) m ∙ stays_after code (machine_after code i m) e (j - i) h

one_end : (code : CodeView) (m : Machine) (e f : End) (i j : ℕ) → (machine_after code i m).end ≡ Some e → (machine_after code j m).end ≡ Some f → machine_after code i m ≡ machine_after code j m
one_end code m e f i j h k = ⊎_elim (λ lt. sym (later_same code m e i j (omega arith) h)) (λ le. later_same code m f j i le k) (cases_lt i j)

-- ---- main

module _ (p : Program) (accepted : IsAccepted p) where
  -- the main function, with its words
  main_it : IsFunction (codes "main") (functions_of p) (symbols_of p) 0 returns.Int 0
  main_it = function_is p (codes "main") returns.Int 0 accepted.has_main

  main_stands : IsPlaced (C p accepted) (F p accepted (codes "main") returns.Int 0 main_it) (C p accepted).globals main_it.number
  main_stands = it_stands p accepted (codes "main") returns.Int 0 main_it

  abbrev code_here : CodeView
  code_here = code_of (resolve p)

  main_number : code_here.main ≡ main_it.number
  main_number = let e : 0 + main_it.number ≡ main_it.number = omega arith in ap (λ s. or_else (function_number s) 0) main_it.symbol_is ∙ e

  main_entry : (code.main_of code_here).entry ≡ length main_stands.before.lines
  main_entry =
      let default : FuncView = record { name = []; entry = 0; parameters = 0; privates = 0 } in
      ap (λ n. (slice_index_or code_here.functions n default).entry) main_number
      ∙ ap (λ (g : FuncView). g.entry) (get_or_from_slice_get code_here.functions main_it.number (function_at (F p accepted (codes "main") returns.Int 0 main_it) (length main_stands.before.lines)) default main_stands.in_table)

  -- the run has ended
  abbrev Over : ℤ → World → Machine → Type 0
  Over v w m = Shows code_here m (ending (end.Normal v) w)

  over : (v : ℤ) (w : World) (m : Machine) (memory : Memory) → w ≡ world_at p code_here (Outside []) memory → Ended code_here m (end.Normal v) memory.store memory.text memory.turns → Over v w m
  over v w m memory is ended =
      let z : memory.turns ≡ 0 + memory.turns = omega arith in
      subst (λ u. Shows code_here m (ending (end.Normal v) u)) (sym is)
      (shows p code_here (Outside []) (globals_are p accepted) m (end.Normal v) memory (record { finish = ended.finish; text = ended.text; store = ended.store; turns = ended.turns ∙ ap held_count z }))

  runs : (input : List ℤ) → InputFits p input → (n : ℕ) → Follows code_here n (opening_machine code_here input) (run_function (main_of p) [] (main_context p n) (opening_world p input)) Over
  unfolding main_stands
  runs input room n =
      let m0 = opening_machine code_here input in
      let memory : Memory = record { store = opening_store code_here input; text = []; turns = 0; regions = 0 } in
      let cells = drop (words_in (layout_of p)) (opening_store code_here input) in
      let start : At p code_here (Outside []) (length main_stands.before.lines) blank [] cells (opening_world p input) m0 =
      at_place p code_here (Outside []) (code.main_of code_here).entry (length main_stands.before.lines) blank [] cells (opening_world p input) m0 main_entry
      (record { memory = memory; is = refl; world = ap (λ st. record { store = st; text = []; turns = 0 }) (sym (begins p accepted input room)); room = has_room p accepted input room; cells_are = λ a. refl }) in
      subst (λ o. Follows code_here n m0 (run_function o [] (main_context p n) (opening_world p input)) Over) (sym main_it.named)
      (follows_so code_here n m0 (run_function (Some main_it.it) [] (main_context p n) (opening_world p input))
      (λ v w m. Came p code_here (scene p accepted (codes "main") returns.Int 0 main_it (Outside []) cells (main_context p n)) v w m) Over
      (λ v w m came. over v w m came.memory came.world came.back)
      (runs_function p accepted (codes "main") returns.Int 0 main_it (Outside []) (main_context p n) refl
      (λ K e. calls_follow p accepted (CALL_LIMIT - 1) K (omega (arith, e)) n)
      [] refl blank cells (length-replicate PRIVATE_LIMIT (pos 0)) (λ i lt. absurd (omega arith)) (opening_world p input) m0 start))

  -- ---- both ways

  shown_so : (input : List ℤ) → Always code_here (opening_machine code_here input) → (n : ℕ) (a : Answer ℤ) (r : Ending) → Follows code_here n (opening_machine code_here input) a Over → ending_of_main a ≡ Some r → (j : ℕ) × Shows code_here (run code_here input j) r
  shown_so input always n (Gives v w) r follows is =
      let same : ending (end.Normal v) w ≡ r = cc in
      let q = follows always in
      (q.steps, subst (Shows code_here (run code_here input q.steps)) same q.holds)
  shown_so input always n (Faults f w) r follows is =
      let same : ending (end.Fault f) w ≡ r = cc in
      let q = follows always in
      (q.steps, subst (Shows code_here (run code_here input q.steps)) same q.holds)
  shown_so input always n Unfinished r follows is = absurd cc

  meant_so : (input : List ℤ) → Always code_here (opening_machine code_here input) → (n : ℕ) (e : End) → (run code_here input n).end ≡ Some e → (a : Answer ℤ) → Follows code_here n (opening_machine code_here input) a Over
      → (r : Ending) × (ending_of_main a ≡ Some r) × Shows code_here (run code_here input n) r
  meant_so input always n e finished (Gives v w) follows =
      let q = follows always in
      (ending (end.Normal v) w, refl, subst (λ m. Shows code_here m (ending (end.Normal v) w)) (one_end code_here (opening_machine code_here input) _ e q.steps n q.holds.finish finished) q.holds)
  meant_so input always n e finished (Faults f w) follows =
      let q = follows always in
      (ending (end.Fault f) w, refl, subst (λ m. Shows code_here m (ending (end.Fault f) w)) (one_end code_here (opening_machine code_here input) _ e q.steps n q.holds.finish finished) q.holds)
  meant_so input always n e finished Unfinished follows =
      let q = follows always in
      let still : (run code_here input q.steps).end ≡ Some e = ap (λ (m : Machine). m.end) (later_same code_here (opening_machine code_here input) e n q.steps q.enough finished) ∙ finished in
      let none : None ≡ Some e = sym q.holds ∙ still in
      absurd cc

  pub behaves : Behaves p code_here
  behaves = record {
    fits = λ input. (λ fit. subst (λ n. length input ≤ n) (room_is p accepted) fit, λ fit. subst (λ n. length input ≤ n) (sym (room_is p accepted)) fit);
    ends = λ input numbers room r means. shown_so input (always_numbers p accepted input numbers room) means.0 _ r (runs input room means.0) means.1;
    ends_only = λ input numbers room n e finished.
        let found = meant_so input (always_numbers p accepted input numbers room) n e finished (run_function (main_of p) [] (main_context p n) (opening_world p input)) (runs input room n) in
        (found.0, (n, found.1), found.2);
  }
