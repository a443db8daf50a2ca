-- The words of a `do` do what it does.
use Rattle.std.proofs.Common.{◌≡◌, ℕ, zero, suc, ◌+◌, ◌≤◌, Bool, true, false, List, [], ◌∷◌, length, ℤ, refl, sym, ap, subst, arith, if◌then◌else◌}
use Rattle.hx_tree.specs.Numbers.{is_zero}
use Rattle.hx_tree.specs.Tree as tree
use Rattle.hx_tree.specs.Tree.{Program}
use Rattle.hx_tree.specs.World.{World, ◌>>=◌, gives, unfinished, Environment}
use Rattle.hx_tree.specs.Value.{Calling, value}
use Rattle.hx_tree.specs.Effect.{Exit, GoesOn, Breaks, Continues, Returns, Effect, call_in, goes_on, end_turn, loop}
use Rattle.hx_tree.specs.Accepted.{Surroundings, AcceptsExpr}
use Rattle.hx_resolved.specs.Resolved as resolved
use Rattle.hx_resolved.specs.Symbols.{Scopes, symbols_of}
use Rattle.hx_resolved.specs.Carried.{expr_reads}
use Rattle.hx_resolved.specs.Resolve.{resolve_expr}
use Rattle.hx_code.specs.declared.word.Word.TheVariants.{JumpTrue}
use Rattle.hx_code.specs.declared.word.Ask.TheVariants as ask
use Rattle.hx_code.specs.Call.{Asks}
use Rattle.hx_code.specs.Code.{CodeView}
use Rattle.hx_code.specs.Machine.{Machine}
use Rattle.hx_lowering.specs.declared.line.Line.{Line}
use Rattle.hx_lowering.specs.Lines.{expr_lines}
use Rattle.hx_lowering.specs.Size.{stmt_size}
use Rattle.hx_lowering.specs.Draft.{Draft, Targets, do_targets, stmt_draft}
use Rattle.hx_lowering.proofs.Globals.{words_in}
use Rattle.hx_lowering.proofs.Follow.{Follows, follows_then, follows_fewer, at_once}
use Rattle.hx_lowering.proofs.Stand.{Has, has_before, has_expr, word_stands, length-put, length-expr}
use Rattle.hx_lowering.proofs.At.{layout_of, call_at, At, at_place, not_over, turns_back}
use Rattle.hx_lowering.proofs.Names.{env_of, Around}
use Rattle.hx_lowering.proofs.Values.{Leaves, word_goes}
use Rattle.hx_lowering.proofs.Scene.{Scene, Fair, Stands, Holds, Came, EndsBy, Ends, held}
use Rattle.hx_lowering.proofs.Assigns.{Free, value_here}
use Rattle.hx_lowering.proofs.Locals.{Tidy}
use Rattle.hx_lowering.proofs.Drafts.{HasDraft, has_lines, length-stmt}

-- the scene of the body of a `do`
abbrev pub in_do : Scene → Targets → Scene
in_do s to = record s { to = to; in_loop = true }

pub holds_in_do : (s : Scene) (to : Targets) (ps cells : List ℤ) → Holds s ps cells → Holds (in_do s to) ps cells
holds_in_do s to ps cells h = record { long = h.long; keeps = h.keeps; freezes = h.freezes }

module _ (p : Program) (code : CodeView) (words : code.globals ≡ words_in (layout_of p)) where
  pub fair_in_do : (s : Scene) (to : Targets) → Fair p code s → Fair p code (in_do s to)
  fair_in_do s to f = record {
    globals = f.globals;
    carries = f.carries;
    active = f.active;
    marked = f.marked;
    loose = f.loose;
    thawed = f.thawed;
    apart = f.apart;
    small = f.small;
    still = f.still;
    few = f.few;
    calls = f.calls;
  }

  module _ (s : Scene) (fair : Fair p code s) (next : ℕ) (scopes : Scopes) (tidy : Tidy next scopes) (fits : next ≤ s.privates) (here : Surroundings) (around : Around p scopes here) (test : tree.Expr) (ok : AcceptsExpr test here) (free : Free s (λ k. expr_reads k (resolve_expr test (symbols_of p) scopes))) (rb : resolved.Stmt) (body : Environment → Effect) (d : Draft) where
    abbrev call : Calling
    call = call_in s.context

    abbrev n : ℕ
    n = s.context.turns

    abbrev rt : resolved.Expr
    rt = resolve_expr test (symbols_of p) scopes

    abbrev pub T : Targets
    T = do_targets rt (stmt_size rb) (length d.lines)

    abbrev pub behind_body : Draft
    behind_body = stmt_draft rb s.version T d

    abbrev tested : List Line
    tested = expr_lines rt s.version 0 behind_body.lines

    abbrev whole : Draft
    whole = stmt_draft (resolved.DoWhile rb rt) s.version s.to d

    abbrev Done : Exit × Environment → World → Machine → Type 0
    Done = Ends p code s scopes (length whole.lines)

    abbrev turns : ℕ → Environment → Effect
    turns k = loop k false (value test call) body gives

    abbrev turn : ℕ → Environment → Effect
    turn k env = body env >>= (λ out. end_turn out.0 false gives (turns k) out.1)

    at_test : length behind_body.lines ≡ T.continue_to
    at_test = length-stmt rb s.version T d

    at_exit : T.break_to ≡ length whole.lines
    at_exit = omega (arith, length-stmt rb s.version T d, length-expr rt s.version 0 behind_body.lines, length-put s.version 1 (JumpTrue (length d.lines)) tested)

    outside : (place place' : ℕ) (env : Environment) (w : World) (m : Machine) → place ≡ place' → Stands p code (in_do s T) scopes place env w m → Stands p code s scopes place' env w m
    outside place place' env w m e st = record {
      ps = st.ps;
      cells = st.cells;
      holds = record { long = st.holds.long; keeps = st.holds.keeps; freezes = st.holds.freezes };
      at = at_place p code s.ground place place' st.ps [] st.cells w m e st.at;
      env_is = st.env_is;
    }

    module _ (has : HasDraft code whole) where
      has_tested : Has code tested
      has_tested = has_before code s.version 1 (JumpTrue (length d.lines)) tested has.lines

      pub has_body : HasDraft code behind_body
      has_body = has_lines code behind_body whole.lines has (λ h. has_expr code rt s.version 0 behind_body.lines has_tested)

      -- the test: behind it, or at the body again, one word on
      test_follows : (k j : ℕ) → k ≤ n → k ≤ suc j → (ps cells : List ℤ) → Holds s ps cells → (w : World) (m : Machine) → At p code s.ground (length behind_body.lines) ps [] cells w m → (again : Effect)
          → ((w' : World) (m' : Machine) → At p code s.ground (length d.lines) ps [] cells w' m' → Follows code j m' (again w') Done)
          → Follows code k m ((value test call (env_of scopes (held s ps cells)) >>= (λ v. if is_zero v then goes_on (env_of scopes (held s ps cells)) else again)) w) Done
      test_follows k j le few ps cells holds w m at again go =
          let env = env_of scopes (held s ps cells) in
          follows_then code k m (value test call env w) (λ v. if is_zero v then goes_on env else again) (Leaves p code s.ground s.version words fair.globals fair.carries tested ps [] cells) Done
          (follows_fewer code n k m (value test call env w) _ le (value_here p code words s fair next scopes tidy fits here around test ok free 0 ps [] cells behind_body.lines has_tested w m at))
          (λ x w' m' at'. choose x w' m' at' (is_zero x) refl)
        where
          choose : (x : ℤ) (w' : World) (m' : Machine) → At p code s.ground (length tested) ps (x ∷ []) cells w' m' → (b : Bool) → is_zero x ≡ b
              → Follows code k m' ((if b then goes_on (env_of scopes (held s ps cells)) else again) w') Done
          choose x w' m' at' true e =
              word_goes p code s.ground s.version words fair.globals fair.carries k 1 ps ps (x ∷ []) [] cells w' m' (JumpTrue (length d.lines)) tested (goes_on (env_of scopes (held s ps cells)) w') Done has.lines at'
              (ap (λ b. if b then Asks ask.Goes (call_at (length tested + 1) ps []) else Asks ask.Goes (call_at (length d.lines) ps [])) e)
              (λ m'' at''. at_once code m'' (λ q. Stands p code s scopes (length whole.lines) (env_of scopes (held s ps cells)) w' q) (record { ps = ps; cells = cells; holds = holds; at = at''; env_is = refl }))
          choose x w' m' at' false e =
              follows_fewer code (suc j) k m' (again w') Done few
              (turns_back p code s.ground j (length tested) (length d.lines) ps ps (x ∷ []) [] cells w' m' (JumpTrue (length d.lines)) (again w') Done at' (word_stands code s.version 1 (JumpTrue (length d.lines)) tested has.lines)
              (ap (λ b. if b then Asks ask.Goes (call_at (length tested + 1) ps []) else Asks ask.Goes (call_at (length d.lines) ps [])) e)
              (go w'))

      module _ (hb : (ps cells : List ℤ) → Holds s ps cells → (w : World) (m : Machine) → At p code s.ground (length d.lines) ps [] cells w m → Follows code n m (body (env_of scopes (held s ps cells)) w) (Ends p code (in_do s T) scopes (length behind_body.lines))) where
        -- a turn, where the further ones are followed
        turn_follows : (k : ℕ) → k ≤ n
            → ((ps cells : List ℤ) → Holds s ps cells → (w : World) (m : Machine) → At p code s.ground (length behind_body.lines) ps [] cells w m → Follows code k m (turns k (env_of scopes (held s ps cells)) w) Done)
            → (ps cells : List ℤ) → Holds s ps cells → (w : World) (m : Machine) → At p code s.ground (length d.lines) ps [] cells w m → Follows code k m (turn k (env_of scopes (held s ps cells)) w) Done
        turn_follows k le further ps cells holds w m at =
            follows_then code k m (body (env_of scopes (held s ps cells)) w) (λ out. end_turn out.0 false gives (turns k) out.1) (Ends p code (in_do s T) scopes (length behind_body.lines)) Done
            (follows_fewer code n k m (body (env_of scopes (held s ps cells)) w) _ le (hb ps cells holds w m at))
            (λ out w' m' ends. ended out.0 out.1 w' m' ends)
          where
            more : (env : Environment) (w' : World) (m' : Machine) → Stands p code s scopes (length behind_body.lines) env w' m' → Follows code k m' (turns k env w') Done
            more env w' m' st = subst (λ x. Follows code k m' (turns k x w') Done) (sym st.env_is) (further st.ps st.cells st.holds w' m' st.at)

            ended : (exit : Exit) (env : Environment) (w' : World) (m' : Machine) → EndsBy p code (in_do s T) scopes (length behind_body.lines) exit env w' m' → Follows code k m' (end_turn exit false gives (turns k) env w') Done
            ended GoesOn env w' m' st = more env w' m' (outside _ _ env w' m' refl st)
            ended Continues env w' m' st = more env w' m' (outside T.continue_to (length behind_body.lines) env w' m' (sym at_test) st.1)
            ended Breaks env w' m' st = at_once code m' (λ q. Stands p code s scopes (length whole.lines) env w' q) (outside T.break_to (length whole.lines) env w' m' at_exit st.1)
            ended (Returns z) env w' m' came =
                at_once code m' (λ q. Came p code s z w' q) (record { memory = came.memory; back = came.back; world = came.world; room = came.room; cells_are = came.cells_are })

        turns_follow : (k : ℕ) → k ≤ n → (ps cells : List ℤ) → Holds s ps cells → (w : World) (m : Machine) → At p code s.ground (length behind_body.lines) ps [] cells w m
            → Follows code k m (turns k (env_of scopes (held s ps cells)) w) Done
        turns_follow zero le ps cells holds w m at =
            test_follows zero zero le (omega arith) ps cells holds w m at unfinished
            (λ w' m' at' always. record { steps = 0; enough = omega arith; holds = not_over p code s.ground (length d.lines) ps [] cells w' m' at' })
        turns_follow (suc k) le ps cells holds w m at =
            test_follows (suc k) k le (omega arith) ps cells holds w m at (turn k (env_of scopes (held s ps cells)))
            (λ w' m' at'. turn_follows k (omega arith) (turns_follow k (omega arith)) ps cells holds w' m' at')

        pub do_follows : (ps cells : List ℤ) → Holds s ps cells → (w : World) (m : Machine) → At p code s.ground (length d.lines) ps [] cells w m → Follows code n m (turn n (env_of scopes (held s ps cells)) w) Done
        do_follows ps cells holds w m at = turn_follows n (omega arith) (turns_follow n (omega arith)) ps cells holds w m at
