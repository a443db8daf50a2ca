-- What a statement's words do, in terms of where they may end.
use Rattle.std.proofs.Common.{◌≡◌, ℕ, zero, suc, ◌+◌, ◌≤◌, ◌<◌, Bool, true, false, List, [], length, drop, Option, Some, None, ℤ, pos, refl, sym, subst, arith, if◌then◌else◌}
use Rattle.std.specs.Prelude.{slice_index_or}
use Rattle.hx_tree.specs.declared.limits.TheConstants.{CELL_LIMIT, PRIVATE_LIMIT}
use Rattle.hx_tree.specs.Numbers.{is_zero}
use Rattle.hx_tree.specs.Tree.{Program}
use Rattle.hx_tree.specs.World.{World, Gives, Run, ◌>>=◌, unfinished, Environment, count_turn}
use Rattle.hx_tree.specs.Effect.{Exit, GoesOn, Breaks, Continues, Returns, Effect, Context, goes_on, end_turn, loop}
use Rattle.hx_resolved.specs.Symbols.{Scopes}
use Rattle.hx_code.specs.Code.{CodeView}
use Rattle.hx_code.specs.Machine.{Machine}
use Rattle.hx_lowering.specs.Lines.{Version, cell_of}
use Rattle.hx_lowering.specs.Draft.{Targets}
use Rattle.hx_lowering.proofs.Globals.{words_in}
use Rattle.hx_lowering.proofs.Follow.{Follows, follows_then, follows_fewer}
use Rattle.hx_lowering.proofs.Setting.{Memory, Ground, is_active, Back}
use Rattle.hx_lowering.proofs.At.{layout_of, world_at, At, not_over}
use Rattle.hx_lowering.proofs.Names.{env_of}
use Rattle.hx_lowering.proofs.Deeper.{depth_of}
use Rattle.hx_lowering.proofs.Calling.{CallsFollow}
use Rattle.hx_lowering.proofs.Values.{value_at}

-- where a statement stands: the calls around it, the version of its words, the values of private words that no word reads or
-- writes, the private words that keep their value, the cells where none is written, where `break` and `continue` go, how many
-- private words its function has, whether a marked loop of it is around, whether a loop is, and the context of its meaning
pub record Scene : Type 0 where
  pub ground : Ground
  pub version : Version
  pub fixed : ℕ → Option ℤ
  pub kept : ℕ → Option ℤ
  pub frozen : Option (List ℤ)
  pub to : Targets
  pub privates : ℕ
  pub is_marked : Bool
  pub in_loop : Bool
  pub context : Context

abbrev pub fixed_or : Option ℤ → ℤ → ℤ
fixed_or (Some z) v = z
fixed_or None v = v

-- the values of private words
abbrev pub held : Scene → List ℤ → List ℤ → ℕ → ℤ
held s ps cells k = fixed_or (s.fixed k) (value_at s.version ps cells k)

-- the private words and the cells are those of a call there
pub record Holds (s : Scene) (ps cells : List ℤ) : Type 0 where
  pub long : length ps ≡ PRIVATE_LIMIT
  pub keeps : (k : ℕ) (z : ℤ) → s.kept k ≡ Some z → slice_index_or ps k (pos 0) ≡ z
  pub freezes : (cs : List ℤ) → s.frozen ≡ Some cs → cells ≡ cs

module _ (p : Program) (code : CodeView) where
  pub record Fair (s : Scene) : Type 0 where
    pub globals : s.version.globals ≡ words_in (layout_of p)
    pub carries : (k cell : ℕ) → cell_of s.version.carried k ≡ Some cell → is_active s.ground ≡ true
    pub active : s.context.is_active ≡ is_active s.ground
    pub marked : s.is_marked ≡ true → is_active s.ground ≡ true
    pub loose : is_active s.ground ≡ false → (k : ℕ) → (s.fixed k ≡ None) × (s.kept k ≡ None)
    pub thawed : is_active s.ground ≡ false → s.frozen ≡ None
    pub apart : (j k cell : ℕ) → cell_of s.version.carried j ≡ Some cell → cell_of s.version.carried k ≡ Some cell → j ≡ k
    pub small : (k cell : ℕ) → cell_of s.version.carried k ≡ Some cell → cell < CELL_LIMIT
    pub still : (cs : List ℤ) → s.frozen ≡ Some cs → (k : ℕ) → cell_of s.version.carried k ≡ None
    pub few : s.privates ≤ PRIVATE_LIMIT
    pub calls : (K : Ground) → depth_of K ≡ depth_of s.ground → CallsFollow p code K (s.context.calls (is_active K)) s.context.turns

  -- the machine stands at a place, with the locals of an environment
  pub record Stands (s : Scene) (scopes : Scopes) (place : ℕ) (env : Environment) (w : World) (m : Machine) : Type 0 where
    pub ps : List ℤ
    pub cells : List ℤ
    pub holds : Holds s ps cells
    pub at : At p code s.ground place ps [] cells w m
    pub env_is : env ≡ env_of scopes (held s ps cells)

  -- the call has returned a value
  pub record Came (s : Scene) (v : ℤ) (w : World) (m : Machine) : Type 0 where
    pub memory : Memory
    pub back : Back code s.ground v memory m
    pub world : w ≡ world_at p code s.ground memory
    pub room : words_in (layout_of p) + CELL_LIMIT ≤ length memory.store
    pub cells_are : (cs : List ℤ) → s.frozen ≡ Some cs → is_active s.ground ≡ true → drop (words_in (layout_of p)) memory.store ≡ cs

  abbrev pub EndsBy : Scene → Scopes → ℕ → Exit → Environment → World → Machine → Type 0
  EndsBy s scopes place GoesOn env w m = Stands s scopes place env w m
  EndsBy s scopes place Breaks env w m = (s.in_loop ≡ true) × Stands s scopes s.to.break_to env w m
  EndsBy s scopes place Continues env w m = (s.in_loop ≡ true) × Stands s scopes s.to.continue_to env w m
  EndsBy s scopes place (Returns v) env w m = Came s v w m

  -- a statement's words have done what it does
  abbrev pub Ends : Scene → Scopes → ℕ → Exit × Environment → World → Machine → Type 0
  Ends s scopes place out w m = EndsBy s scopes place out.0 out.1 w m

  -- the turns of a loop that begin at start, where its body has the targets of the scene; each turn has a scene of its own
  pub turns_follow : (S : ℕ → Scene) (most : ℕ) (scopes : Scopes) (start after : ℕ) (Behind : ℕ → Environment → World → Machine → Type 0) (counted : Bool) (test : Environment → Run ℤ) (body : Environment → Effect) (step : Environment → Run Environment) (Done : Exit × Environment → World → Machine → Type 0)
      → ((n j : ℕ) → n ≤ most → (ps cells : List ℤ) → Holds (S j) ps cells → (w : World) (m : Machine) → At p code (S j).ground start ps [] cells w m → (f g : Run (Exit × Environment))
      → ((w' : World) (m' : Machine) → At p code (S j).ground (S j).to.break_to ps [] cells w' m' → Follows code n m' (f w') Done)
      → ((w' : World) (m' : Machine) → At p code (S j).ground after ps [] cells w' m' → Follows code n m' (g w') Done)
      → Follows code n m ((test (env_of scopes (held (S j) ps cells)) >>= (λ v. if is_zero v then f else g)) w) Done)
      → ((j : ℕ) (ps cells : List ℤ) → Holds (S j) ps cells → (w : World) (m : Machine) → At p code (S j).ground after ps [] cells w m → Follows code most m (body (env_of scopes (held (S j) ps cells)) w) (Ends (S j) scopes (S j).to.continue_to))
      → ((j : ℕ) (env : Environment) (w : World) (m : Machine) → Stands (S j) scopes (S j).to.continue_to env w m → Follows code most m (step env w) (Behind j))
      → ((n j : ℕ) (env : Environment) (w : World) (m : Machine) (next : Environment → Effect) → Behind j env w m
      → ((j' : ℕ) (ps cells : List ℤ) → Holds (S j') ps cells → (w' : World) (m' : Machine) → At p code (S j').ground start ps [] cells w' m' → env ≡ env_of scopes (held (S j') ps cells) → Follows code n m' (next env w') Done)
      → Follows code (suc n) m ((count_turn counted >>= (λ done. next env)) w) Done)
      → ((n j : ℕ) (env : Environment) (w : World) (m : Machine) → Stands (S j) scopes (S j).to.break_to env w m → Follows code n m (goes_on env w) Done)
      → ((n j : ℕ) (v : ℤ) (env : Environment) (w : World) (m : Machine) → Came (S j) v w m → Follows code n m (Gives (Returns v, env) w) Done)
      → (n : ℕ) → n ≤ most → (j : ℕ) (ps cells : List ℤ) → Holds (S j) ps cells → (w : World) (m : Machine) → At p code (S j).ground start ps [] cells w m
      → Follows code n m (loop n counted test body step (env_of scopes (held (S j) ps cells)) w) Done
  turns_follow S most scopes start after Behind counted test body step Done ht hb hs again leaves returned zero le j ps cells holds w m at =
      ht zero j le ps cells holds w m at (goes_on (env_of scopes (held (S j) ps cells))) unfinished
      (λ w' m' at'. leaves zero j _ w' m' (record { ps = ps; cells = cells; holds = holds; at = at'; env_is = refl }))
      (λ w' m' at' always. record { steps = 0; enough = omega arith; holds = not_over p code (S j).ground after ps [] cells w' m' at' })
  turns_follow S most scopes start after Behind counted test body step Done ht hb hs again leaves returned (suc n) le j ps cells holds w m at =
      let env = env_of scopes (held (S j) ps cells) in
      let next = loop n counted test body step in
      let more : (env' : Environment) (w' : World) (m' : Machine) → Stands (S j) scopes (S j).to.continue_to env' w' m'
      → Follows code (suc n) m' ((step env' >>= (λ env''. count_turn counted >>= (λ done. next env''))) w') Done = λ env' w' m' stands.
      follows_then code (suc n) m' (step env' w') (λ env''. count_turn counted >>= (λ done. next env'')) (Behind j) Done
      (follows_fewer code most (suc n) m' (step env' w') _ le (hs j env' w' m' stands))
      (λ env'' w'' m'' behind. again n j env'' w'' m'' next behind
      (λ j' ps' cells' holds' w3 m3 at3 env_is. subst (λ x. Follows code n m3 (next x w3) Done) (sym env_is)
      (turns_follow S most scopes start after Behind counted test body step Done ht hb hs again leaves returned n (omega arith) j' ps' cells' holds' w3 m3 at3))) in
      ht (suc n) j le ps cells holds w m at (goes_on env) (body env >>= (λ out. end_turn out.0 counted step next out.1))
      (λ w' m' at'. leaves (suc n) j _ w' m' (record { ps = ps; cells = cells; holds = holds; at = at'; env_is = refl }))
      (λ w' m' at'. follows_then code (suc n) m' (body env w') (λ out. end_turn out.0 counted step next out.1) (Ends (S j) scopes (S j).to.continue_to) Done
      (follows_fewer code most (suc n) m' (body env w') _ le (hb j ps cells holds w' m' at'))
      (λ out w'' m'' ends. ended out.0 out.1 w'' m'' ends more))
    where
      ended : (exit : Exit) (env' : Environment) (w' : World) (m' : Machine) → EndsBy (S j) scopes (S j).to.continue_to exit env' w' m'
          → ((env' : Environment) (w' : World) (m' : Machine) → Stands (S j) scopes (S j).to.continue_to env' w' m'
          → Follows code (suc n) m' ((step env' >>= (λ env''. count_turn counted >>= (λ done. loop n counted test body step env''))) w') Done)
          → Follows code (suc n) m' (end_turn exit counted step (loop n counted test body step) env' w') Done
      ended GoesOn env' w' m' ends more = more env' w' m' ends
      ended Continues env' w' m' ends more = more env' w' m' ends.1
      ended Breaks env' w' m' ends more = leaves (suc n) j env' w' m' ends.1
      ended (Returns v) env' w' m' ends more = returned (suc n) j v env' w' m' ends
