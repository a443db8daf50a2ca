-- Calls: the words of a function do what the function means, and a call's word makes the call.
use Rattle.std.proofs.Common.{◌≡◌, ℕ, zero, suc, ◌+◌, ◌<◌, true, false, List, [], ◌∷◌, ◌++◌, length, drop, Option, Some, None, ℤ, pos, refl, sym, ap, subst, ◌∙◌, arith}
use Rattle.std.specs.Prelude.{nat_le, flat_map, zip, slice_get, slice_index_or, All, option_map}
use Rattle.std.proofs.lemmas.List.{length-replicate}
use Rattle.hx_tree.specs.declared.limits.TheConstants.{PRIVATE_LIMIT, CALL_LIMIT}
use Rattle.std.proofs.lemmas.Bool.Decides.{nat_tests}
use Rattle.std.proofs.lemmas.Option.{slice_get-map}
use Rattle.hx_tree.specs.declared.tree.Returns.{Returns as Returns_}
use Rattle.hx_tree.specs.declared.outcome.End.TheVariants as end
use Rattle.hx_tree.specs.Tree as tree
use Rattle.hx_tree.specs.Tree.{Program, Name, Item, Func, param_names}
use Rattle.hx_tree.specs.World.{look_up, Map, Environment, World, Gives, ◌>>=◌, gives}
use Rattle.hx_tree.specs.Effect.{Exit, GoesOn, Breaks, Continues, Returns, Context, effects}
use Rattle.hx_tree.specs.Meaning.{calls, item_functions, functions_of, texts_of, returned, run_function, ending}
use Rattle.hx_tree.specs.Accepted.{FunctionKind, AcceptsItem, AcceptsFunction, IsAccepted, kinds_of, at_start, private_words}
use Rattle.hx_resolved.specs.Resolved as resolved
use Rattle.hx_resolved.specs.Symbols.{symbols_of, numbered}
use Rattle.hx_resolved.specs.Resolve.{resolve, resolve_function, function_number, function_at, or_else}
use Rattle.hx_code.specs.declared.word.Word.TheVariants.{Const, Ret, Call}
use Rattle.hx_code.specs.declared.word.Ask.TheVariants as ask
use Rattle.hx_code.specs.Code.{CodeView, FuncView}
use Rattle.hx_tree.specs.declared.outcome.FaultKind.TheVariants.{CallTooDeep}
use Rattle.hx_code.specs.Call.{CallView, Asks, wants_of, wants_at, fault_at}
use Rattle.hx_code.specs.Local.{blank, pushed, callee, without_arguments, with_arguments}
use Rattle.hx_code.specs.Machine.{Machine, machine_step}
use Rattle.hx_lowering.specs.Correct.{Shows}
use Rattle.hx_lowering.specs.Lines.{Version}
use Rattle.hx_lowering.specs.Draft.{Draft, put_word, no_targets, plain_version, draft_of, code_of}
use Rattle.hx_lowering.specs.Draft as draft
use Rattle.hx_lowering.proofs.Globals.{words_in}
use Rattle.hx_lowering.proofs.Follow.{Follows, follows_then, follows_so, steps_to, faults_at, at_once}
use Rattle.hx_lowering.proofs.Setting.{Memory, Ground, Outside, Inside, setting_of, is_active, Back, returns_back}
use Rattle.hx_lowering.proofs.Deeper.{depth_of, deeper, deeper_active, deeper_depth, calls_in, calls_deep}
use Rattle.hx_lowering.proofs.Calling.{onto, CallsFollow}
use Rattle.hx_lowering.proofs.Arguments.{argument_at, drop-onto, length-with_arguments, parameters_are, params_tidy}
use Rattle.hx_lowering.proofs.Stand.{words_of, spots_of, word_stands}
use Rattle.hx_lowering.proofs.At.{layout_of, call_at, world_at, At, at_place, shows}
use Rattle.hx_lowering.proofs.Names.{env_of, names_in, Around}
use Rattle.hx_lowering.proofs.Values.{word_goes}
use Rattle.hx_lowering.proofs.Scene.{Scene, Fair, Came, Holds, EndsBy, held}
use Rattle.hx_lowering.proofs.Locals.{Tidy}
use Rattle.hx_lowering.proofs.Drafts.{HasDraft, has_word}
use Rattle.hx_lowering.proofs.Statements.{PartsEnd, parts_follow}
use Rattle.hx_lowering.proofs.Functions.{IsFunction, function_is}
use Rattle.hx_lowering.proofs.Placed.{IsPlaced, placed, body_of, has_end, has_body}
use Rattle.hx_lowering.proofs.Begins.{globals_are}

-- ---- tables

nothing_more : {A : Type 0} (xs : List A) → xs ≡ xs ++ []
nothing_more [] = refl
nothing_more (x ∷ xs) = ap (λ l. x ∷ l) (nothing_more xs)

-- the code has all lines of its draft
all_lines : (q : resolved.Program) → HasDraft (code_of q) (draft_of q)
all_lines q = record {
  lines = record { behind = []; words = ap words_of (nothing_more (draft_of q).lines); spots = ap spots_of (nothing_more (draft_of q).lines) };
  regions_behind = [];
  regions = nothing_more (draft_of q).regions;
}

accepted_at : (ks : _) (is : List Item) (i : ℕ) (f : Func) → All (AcceptsItem ks) is → slice_get (flat_map item_functions is) i ≡ Some f → AcceptsFunction ks f
accepted_at ks [] i f ok at = absurd cc
accepted_at ks (tree.Globals gs ∷ is) i f ok at = accepted_at ks is i f (λ k d lt. ok (suc k) d (omega (arith, lt))) at
accepted_at ks (tree.Function g ∷ is) zero f ok at = let same : g ≡ f = cc in subst (AcceptsFunction ks) same (ok 0 (tree.Function g) (omega arith))
accepted_at ks (tree.Function g ∷ is) (suc i) f ok at = accepted_at ks is i f (λ k d lt. ok (suc k) d (omega (arith, lt))) at

-- ---- functions

names_numbered : (xs : List tree.Name) (k : ℕ) → texts_of xs ≡ names_in (numbered xs k)
names_numbered [] k = refl
names_numbered (x ∷ xs) k = ap (λ l. x.text ∷ l) (names_numbered xs (k + 1))

-- where a region is active no function's words change a cell
abbrev frozen_in : Ground → List ℤ → Option (List ℤ)
frozen_in (Outside rest) cells = None
frozen_in (Inside o rest) cells = Some cells

thaws : (K : Ground) (cells : List ℤ) → is_active K ≡ false → frozen_in K cells ≡ None
thaws (Outside rest) cells e = refl
thaws (Inside o rest) cells e = absurd cc

freezes_so : (K : Ground) (cells cs : List ℤ) → frozen_in K cells ≡ Some cs → cells ≡ cs
freezes_so (Outside rest) cells cs e = absurd cc
freezes_so (Inside o rest) cells cs e = cc

frozen_active : (K : Ground) (cells : List ℤ) → is_active K ≡ true → frozen_in K cells ≡ Some cells
frozen_active (Outside rest) cells e = absurd cc
frozen_active (Inside o rest) cells e = refl

module _ (p : Program) (accepted : IsAccepted p) where
  abbrev pub C : CodeView
  C = code_of (resolve p)

  pub words : C.globals ≡ words_in (layout_of p)
  words = globals_are p accepted

  module _ (x : List ℕ) (r : Returns_) (k : ℕ) (it : IsFunction x (functions_of p) (symbols_of p) 0 r k) where
    abbrev pub F : resolved.Function
    F = resolve_function (symbols_of p) it.it

    at_number : slice_get (resolve p).functions it.number ≡ Some F
    at_number = slice_get-map (resolve_function (symbols_of p)) (functions_of p) it.number ∙ ap (option_map (resolve_function (symbols_of p))) it.at

    pub it_stands : IsPlaced C F C.globals it.number
    it_stands = placed C (resolve p).functions C.globals (all_lines (resolve p)) refl it.number F at_number

    abbrev pub entry : ℕ
    entry = length it_stands.before.lines

    pub function_ok : AcceptsFunction (kinds_of p) it.it
    function_ok = accepted_at (kinds_of p) p.items it.number it.it accepted.items it.at

    abbrev V : Version
    V = plain_version (length it_stands.before.functions) C.globals

    abbrev pub scene : Ground → List ℤ → Context → Scene
    scene K cells c = record {
      ground = K;
      version = V;
      fixed = λ j. None;
      kept = λ j. None;
      frozen = frozen_in K cells;
      to = no_targets;
      privates = private_words it.it;
      is_marked = false;
      in_loop = false;
      context = c;
    }

    abbrev body : Draft
    body = body_of C F C.globals it_stands.before

    -- the end of the body gives 0
    at_the_end : (K : Ground) (cells0 : List ℤ) (c : Context) (ps cells : List ℤ) → Holds (scene K cells0 c) ps cells → (w : World) (m : Machine) → At p C K (length body.lines) ps [] cells w m
        → Follows C c.turns m (Gives (pos 0) w) (λ v w' m'. Came p C (scene K cells0 c) v w' m')
    at_the_end K cells0 c ps cells holds w m at =
        let last = put_word V 0 (Const (pos 0)) body in
        let has_ret = has_end C F C.globals it_stands.before it_stands.stands in
        let has_zero = has_word C V 1 Ret last has_ret in
        let Done = λ (v : ℤ) (w' : World) (m' : Machine). Came p C (scene K cells0 c) v w' m' in
        word_goes p C K V words words (λ j cell e. absurd cc) c.turns 0 ps ps [] (pos 0 ∷ []) cells w m (Const (pos 0)) body.lines (Gives (pos 0) w) Done has_zero.lines at refl
        (λ m' at'.
        let d = call_at (length last.lines) ps (pos 0 ∷ []) in
        let back = returns_back C K d d at'.memory (pos 0) (ap (λ word. wants_of word d) (word_stands C V 1 Ret last.lines has_ret.lines)) in
        λ always. record {
          steps = 1;
          enough = omega arith;
          holds = record { memory = at'.memory; back = subst (λ q. Back C K (pos 0) at'.memory (machine_step C q)) (sym at'.is) back; world = at'.world; room = at'.room; cells_are = λ cs e a. at'.cells_are a ∙ holds.freezes cs e };
        })

    ended : (K : Ground) (cells0 : List ℤ) (c : Context) (exit : Exit) (env : Environment) (w : World) (m : Machine) → EndsBy p C (scene K cells0 c) [] (length body.lines) exit env w m
        → Follows C c.turns m (Gives (returned exit) w) (λ v w' m'. Came p C (scene K cells0 c) v w' m')
    ended K cells0 c GoesOn env w m ends = at_the_end K cells0 c ends.ps ends.cells ends.holds w m ends.at
    ended K cells0 c Breaks env w m ends = absurd cc
    ended K cells0 c Continues env w m ends = absurd cc
    ended K cells0 c (Returns v) env w m ends = at_once C m (λ q. Came p C (scene K cells0 c) v w q) ends

    -- THE functions: after its words the call has returned with its value
    pub runs_function : (K : Ground) (c : Context) → c.is_active ≡ is_active K
        → ((K' : Ground) → depth_of K' ≡ depth_of K → CallsFollow p C K' (c.calls (is_active K')) c.turns)
        → (vs : List ℤ) → length vs ≡ k → (ps cells : List ℤ) → length ps ≡ PRIVATE_LIMIT → ((i : ℕ) → i < length vs → slice_index_or ps i (pos 0) ≡ slice_index_or vs i (pos 0))
        → (w : World) (m : Machine) → At p C K entry ps [] cells w m
        → Follows C c.turns m (run_function (Some it.it) vs c w) (λ v w' m'. Came p C (scene K cells c) v w' m')
    runs_function K c active calls vs many ps cells long same w m at =
        let s = scene K cells c in
        let xs = param_names it.it.params in
        let few = function_ok.few_private in
        let count : length xs ≡ length vs = it.parameters_are ∙ sym many in
        let scope : Map ℕ = numbered xs 0 in
        let fair : Fair p C s = record {
          globals = words;
          carries = λ j cell e. absurd cc;
          active = active;
          marked = λ e. absurd cc;
          loose = λ e j. (refl, refl);
          thawed = thaws K cells;
          apart = λ i j cell e f. absurd cc;
          small = λ j cell e. absurd cc;
          still = λ cs e j. refl;
          few = few;
          calls = calls;
        } in
        let tidy : Tidy (length xs) (scope ∷ []) = params_tidy xs in
        let around : Around p (scope ∷ []) (at_start (kinds_of p) it.it) = record { kinds = refl; names = ap (λ l. l ∷ []) (names_numbered xs 0) } in
        let holds : Holds s ps cells = record { long = long; keeps = λ j z e. absurd cc; freezes = freezes_so K cells } in
        let env_is : zip (texts_of xs) vs ∷ [] ≡ env_of (scope ∷ []) (held s ps cells) = ap (λ l. l ∷ []) (parameters_are xs vs (held s ps cells) count same) in
        let Done = λ (v : ℤ) (w' : World) (m' : Machine). Came p C s v w' m' in
        subst (λ env. Follows C c.turns m ((effects it.it.body c env >>= (λ out. gives (returned out.0))) w) Done) (sym env_is)
        (follows_then C c.turns m (effects it.it.body c (env_of (scope ∷ []) (held s ps cells)) w) (λ out. gives (returned out.0)) (PartsEnd p C words s [] (length body.lines)) Done
        (parts_follow p C words it.it.body s fair (scope ∷ []) [] (scope, refl) (at_start (kinds_of p) it.it) around (λ e. absurd cc) (length xs) tidy (omega arith) function_ok.body
        (λ j e. refl) (λ j e. (refl, refl)) (λ j e. (refl, refl)) it_stands.before (has_body C F C.globals it_stands.before it_stands.stands) ps cells holds w m at)
        (λ out w' m' ends. ended K cells c out.0 _ w' m' ends))

  -- ---- calls

  world_deeper : (K : Ground) (d : CallView) (memory : Memory) → world_at p C (deeper K d) memory ≡ world_at p C K memory
  world_deeper (Outside rest) d memory = refl
  world_deeper (Inside o rest) d memory = refl

  back_deeper : (K : Ground) (d : CallView) (v : ℤ) (memory : Memory) (m : Machine) → Back C (deeper K d) v memory m → m ≡ (setting_of C K).here (pushed v d) memory
  back_deeper (Outside rest) d v memory m e = e
  back_deeper (Inside o rest) d v memory m e = e

  nat_le_same : (n m : ℕ) → n ≡ m → nat_le n m ≡ true
  nat_le_same n m e = grind (arith, nat_tests)

  nat_le_above : (n m : ℕ) → m < n → nat_le n m ≡ false
  nat_le_above n m lt = grind (arith, nat_tests)

  -- a call that would be too deep
  too_deep : (K : Ground) (n : ℕ) (f : Name) (r : Returns_) (vs : List ℤ) (place : ℕ) (ps os cells : List ℤ) (w : World) (m : Machine) → (at : At p C K place ps (onto vs os) cells w m)
      → (it : IsFunction f.text (functions_of p) (symbols_of p) 0 r (length vs)) (g : FuncView) → slice_get C.functions (function_at f (symbols_of p)) ≡ Some g
      → g ≡ draft.function_at (F f.text r (length vs) it) (entry f.text r (length vs) it)
      → wants_at C (call_at place ps (onto vs os)) ≡ Asks (ask.Calls (function_at f (symbols_of p)) f.pos) (call_at (place + 1) ps (onto vs os))
      → depth_of K ≡ CALL_LIMIT
      → Follows C n m (calls zero p n (is_active K) f vs w) (λ v w' m'. At p C K (place + 1) ps (v ∷ os) cells w' m')
  too_deep K n f r vs place ps os cells w m at it g in_table g_is asks depth =
      faults_at C n m (fault_at CallTooDeep f.pos) w (λ v w' m'. At p C K (place + 1) ps (v ∷ os) cells w' m')
      (subst (λ q. Shows C (machine_step C q) (ending (end.Fault (fault_at CallTooDeep f.pos)) w)) (sym at.is)
      (subst (λ q. Shows C (machine_step C ((setting_of C K).here (call_at place ps (onto vs os)) at.memory)) (ending (end.Fault (fault_at CallTooDeep f.pos)) q)) (sym at.world)
      (shows p C K words _ _ at.memory
      (calls_deep C K (call_at place ps (onto vs os)) (call_at (place + 1) ps (onto vs os)) at.memory _ f.pos g asks in_table (nat_le_same CALL_LIMIT (depth_of K) (sym depth))))))

  -- a call, where calls one deeper do what they mean
  one_deeper : (more : ℕ) (K : Ground) (n : ℕ) (f : Name) (r : Returns_) (vs : List ℤ) (place : ℕ) (ps os cells : List ℤ) (w : World) (m : Machine) → (at : At p C K place ps (onto vs os) cells w m)
      → (it : IsFunction f.text (functions_of p) (symbols_of p) 0 r (length vs)) (g : FuncView) → slice_get C.functions (function_at f (symbols_of p)) ≡ Some g
      → g ≡ draft.function_at (F f.text r (length vs) it) (entry f.text r (length vs) it)
      → wants_at C (call_at place ps (onto vs os)) ≡ Asks (ask.Calls (function_at f (symbols_of p)) f.pos) (call_at (place + 1) ps (onto vs os))
      → suc more + depth_of K ≡ CALL_LIMIT → ((K'' : Ground) → more + depth_of K'' ≡ CALL_LIMIT → CallsFollow p C K'' (calls more p n (is_active K'')) n)
      → Follows C n m (calls (suc more) p n (is_active K) f vs w) (λ v w' m'. At p C K (place + 1) ps (v ∷ os) cells w' m')
  one_deeper more K n f r vs place ps os cells w m at it g in_table g_is asks depth next =
      let d = without_arguments g (call_at (place + 1) ps (onto vs os)) in
      let K' = deeper K d in
      let c : Context = record { calls = calls more p n; turns = n; is_active = is_active K } in
      let ps0 = with_arguments g.parameters (onto vs os) blank in
      let m1 = (setting_of C K').here (callee g (call_at (place + 1) ps (onto vs os))) at.memory in
      let parameters : g.parameters ≡ length vs = ap (λ (q : FuncView). q.parameters) g_is ∙ it.parameters_are in
      let at_entry : g.entry ≡ entry f.text r (length vs) it = ap (λ (q : FuncView). q.entry) g_is in
      let here : At p C K' (entry f.text r (length vs) it) ps0 [] cells w m1 = at_place p C K' g.entry _ ps0 [] cells w m1 at_entry
      (record { memory = at.memory; is = refl; world = at.world ∙ sym (world_deeper K d at.memory); room = at.room; cells_are = λ a. at.cells_are (sym (deeper_active K d) ∙ a) }) in
      let few = (function_ok f.text r (length vs) it).few_private in
      let many = it.parameters_are in
      let long : length blank ≡ PRIVATE_LIMIT = length-replicate PRIVATE_LIMIT (pos 0) in
      let held_so : (i : ℕ) → i < length vs → slice_index_or ps0 i (pos 0) ≡ slice_index_or vs i (pos 0) = λ i lt.
      ap (λ q. slice_index_or (with_arguments q (onto vs os) blank) i (pos 0)) parameters ∙ argument_at vs os blank i lt (omega arith) in
      let Done = λ (v : ℤ) (w' : World) (m' : Machine). At p C K (place + 1) ps (v ∷ os) cells w' m' in
      steps_to C n m m1 (calls (suc more) p n (is_active K) f vs w) Done
      (ap (machine_step C) at.is ∙ calls_in C K (call_at place ps (onto vs os)) (call_at (place + 1) ps (onto vs os)) at.memory _ f.pos g asks in_table (nat_le_above CALL_LIMIT (depth_of K) (omega arith)))
      (subst (λ o. Follows C n m1 (run_function o vs c w) Done) (sym it.named)
      (follows_so C n m1 (run_function (Some it.it) vs c w) (λ v w' m'. Came p C (scene f.text r (length vs) it K' cells c) v w' m') Done
      (λ v w' m' came. record {
        memory = came.memory;
        is = back_deeper K d v came.memory m' came.back ∙ ap (λ l. (setting_of C K).here (call_at (place + 1) ps (v ∷ l)) came.memory) (ap (λ q. drop q (onto vs os)) parameters ∙ drop-onto vs os);
        world = came.world ∙ world_deeper K d came.memory;
        room = came.room;
        cells_are = λ a. (let a' : is_active K' ≡ true = deeper_active K d ∙ a in came.cells_are cells (frozen_active K' cells a') a');
      })
      (runs_function f.text r (length vs) it K' c (sym (deeper_active K d))
      (λ K'' e. next K'' (let q = deeper_depth K d in omega (arith, e, q, depth)))
      vs refl ps0 cells (length-with_arguments g.parameters (onto vs os) blank ∙ long) held_so w m1 here)))

  call_it : (f : Name) (r : Returns_) (n : ℕ) → look_up (kinds_of p) f.text ≡ Some (FunctionKind r n) → IsFunction f.text (functions_of p) (symbols_of p) 0 r n
  call_it f r n kind = function_is p f.text r n kind

  abbrev table_at : (f : Name) (r : Returns_) (n : ℕ) → IsFunction f.text (functions_of p) (symbols_of p) 0 r n → FuncView
  table_at f r n it = draft.function_at (F f.text r n it) (entry f.text r n it)

  in_table_at : (f : Name) (r : Returns_) (n : ℕ) (it : IsFunction f.text (functions_of p) (symbols_of p) 0 r n) → slice_get C.functions (function_at f (symbols_of p)) ≡ Some (table_at f r n it)
  in_table_at f r n it =
      let e : 0 + it.number ≡ it.number = omega arith in
      let number : function_at f (symbols_of p) ≡ it.number = ap (λ s. or_else (function_number s) 0) it.symbol_is ∙ e in
      ap (slice_get C.functions) number ∙ (it_stands f.text r n it).in_table

  asks_so : (f : Name) (place : ℕ) (ps os : List ℤ) → slice_get C.words place ≡ Some (Call (function_at f (symbols_of p)) f.pos)
      → wants_at C (call_at place ps os) ≡ Asks (ask.Calls (function_at f (symbols_of p)) f.pos) (call_at (place + 1) ps os)
  asks_so f place ps os stands = ap (λ o. wants_of o (call_at place ps os)) stands

  -- THE calls
  pub calls_follow : (left : ℕ) (K : Ground) → left + depth_of K ≡ CALL_LIMIT → (n : ℕ) → CallsFollow p C K (calls left p n (is_active K)) n
  calls_follow zero K depth n f r vs kind place ps os cells w m at stands =
      let it = call_it f r (length vs) kind in
      too_deep K n f r vs place ps os cells w m at it (table_at f r (length vs) it) (in_table_at f r (length vs) it) refl (asks_so f place ps (onto vs os) stands) (omega (arith, depth))
  calls_follow (suc more) K depth n f r vs kind place ps os cells w m at stands =
      let it = call_it f r (length vs) kind in
      one_deeper more K n f r vs place ps os cells w m at it (table_at f r (length vs) it) (in_table_at f r (length vs) it) refl (asks_so f place ps (onto vs os) stands) depth
      (λ K'' e. calls_follow more K'' e n)
