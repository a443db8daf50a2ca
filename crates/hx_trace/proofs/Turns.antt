-- From the calls that an entry of a schedule makes to what it leads to.
use Rattle.std.proofs.Common.{◌≡◌, ℕ, ◌<◌, ℤ, ◌⊎◌, inl, inr, Option, Some, None, true, false, refl, ap, sym, subst, ◌∙◌}
use Rattle.std.specs.Prelude.{if◌then◌else◌}
use Rattle.hx_code.specs.declared.word.Ask.TheVariants.{Goes, Loads, Stores, Prints, Faults, Calls, Enters, Turns, Leaves, Returns}
use Rattle.hx_code.specs.Code.{CodeView, store_words}
use Rattle.hx_code.specs.Local.{LocalView, LocalWant, LocalAsks, LocalStuck, asks_of}
use Rattle.hx_code.specs.Valid.{IsValid}
use Rattle.hx_code.specs.Fits.{FitsLocal}
use Rattle.hx_frame.specs.declared.action.Action.{Action}
use Rattle.hx_frame.specs.declared.action.Stop.TheVariants.{NeedLoad, NeedStore, NeedHead, Limit}
use Rattle.hx_frame.specs.Frame.{FrameView, stop_needed}
use Rattle.hx_frame.specs.Automaton.{asked_by, ask_in}
use Rattle.hx_regions.proofs.Words.{IsWell, word_well}
use Rattle.hx_speculation.specs.Iteration.{Ask as Asked}
use Rattle.hx_speculation.specs.Frame.{Frame, Need, Nothing, ForLoad, ForStore, ForHead, Held, IsTrue, IsNeeded, stretch, loaded, stored, holds}
use Rattle.hx_speculation.specs.Board.{Board, Token, Start, Load, Write, Head, Alive, Settle, Abandon, Answer, Go, Value, Done, Full, Yours, NotYet, Live, Again, Passed, Squashed, NotThisFrame, Ended, call}
use Rattle.hx_speculation.specs.Replay.{Running, World, Course, with_running, goes_on, stops, spends_token, after_start, after_load, after_write, after_alive, after_head, after_settle, at_head, at_stop, entry_of}
use Rattle.hx_board.specs.Board.{BoardView, Setup, region_on, board_of, rooms_of}
use Rattle.hx_board.specs.Calls.{Does, Becomes, IsOwnFrame, loaded_answer, stored_answer, alive_answer}
use Rattle.hx_board.specs.declared.answers.Loaded.{Loaded}
use Rattle.hx_board.specs.declared.answers.Loaded.TheVariants.{Squashed as SquashedLoad, Ended as EndedLoad}
use Rattle.hx_board.specs.declared.answers.Stored.{Stored}
use Rattle.hx_board.specs.declared.answers.Stored.TheVariants.{Squashed as SquashedStore, Ended as EndedStore}
use Rattle.hx_board.specs.declared.answers.Alive.{Alive as LooksAlive}
use Rattle.hx_board.specs.declared.answers.Alive.TheVariants.{Squashed as SquashedOn, Ended as EndedOn}
use Rattle.hx_trace.specs.declared.worker.Worker.{Worker}
use Rattle.hx_trace.specs.Tokens.{IsOutOf}
use Rattle.hx_trace.specs.Turns.{course_of, running_of, IsOwnToken, IsInHand, Moves}
use Rattle.hx_trace.proofs.Tokens.{TakesBack, spent, out_load, out_store, out_alive, out_abandon, out_start, GivesOut, settle_gives}

-- ---- a token that is spent is taken back

pub taken_back : (b c d : BoardView) (t : Token) (w : ℕ) (f : Frame LocalView) (answer : Answer LocalView) → t.worker ≡ w → IsOutOf (board_of b) t → Becomes b (Abandon w) c → Does c (Settle t f true) answer d → TakesBack answer
taken_back b c d t w f answer holder out left does =
    let first = spent (region_on b.setup) b.setup.capacities t f (board_of b) out in
    let named = subst (λ v. TakesBack (call (region_on b.setup) b.setup.capacities (Settle t f true) (call (region_on b.setup) b.setup.capacities (Abandon v) (board_of b)).1).0) holder first in
    let here = subst (λ x. TakesBack (call (region_on b.setup) b.setup.capacities (Settle t f true) x).0) left.step named in
    let there = subst (λ (u : Setup). TakesBack (call (region_on u) u.capacities (Settle t f true) (board_of c)).0) (sym left.setup) here in
    subst (λ p. TakesBack p.0) does.step there

-- ---- what stays so where a worker goes on, or stops

abbrev over : BoardView → (ℕ → Option (Running LocalView)) → World LocalView
over b others = record { board = board_of b; running = others }

-- each token that is out stays so
abbrev pub StayOut : BoardView → BoardView → Type 0
StayOut b after = (t : Token) → IsOutOf (board_of b) t → IsOutOf (board_of after) t

in_hand : (w : ℕ) (b after : BoardView) (x : Worker) (f : FrameView) (token : Option Token) → StayOut b after → IsInHand w b x token → IsInHand w after (record x { frame = f }) token
in_hand w b after x f None on h = tt
in_hand w b after x f (Some t) on h = record { worker = h.worker; runs = h.runs; out = on t h.out }

module _ (w : ℕ) (b : BoardView) (x : Worker) (token : Option Token) (entry : World LocalView → World LocalView) where
  pub goes : (after : BoardView) (f : FrameView) → x.is_running ≡ true → after.setup ≡ b.setup → IsOwnFrame b.setup f → IsInHand w b x token → StayOut b after → ((others : ℕ → Option (Running LocalView)) → entry (over b others) ≡ goes_on w (over b others) f.frame token (board_of after)) → Moves entry w b token after (record x { frame = f }) token
  goes after f runs setup own hand on step = record {
    step = λ others. step others ∙ ap (λ s. record { board = board_of after; running = with_running others w (if s then Some (record { frame = f.frame; token = token }) else None) }) (sym runs);
    setup = setup;
    own = own;
    hand = in_hand w b after x f token on hand;
    beside = λ e t other k. (e, on t k);
  }

  -- a worker stops, after a call that leaves each token out
  pub halts : (between after : BoardView) (f : Frame LocalView) (y : Worker) → between.setup ≡ b.setup → StayOut b between → Moves (λ d. stops w d (spends_token (course_of between.setup) w f token d.board)) w between token after y None → ((others : ℕ → Option (Running LocalView)) → entry (over b others) ≡ stops w (over between others) (spends_token (course_of b.setup) w f token (board_of between))) → Moves entry w b token after y None
  halts between after f y setup on rest step = record {
    step = λ others. step others ∙ ap (λ (s : Setup). stops w (over between others) (spends_token (course_of s) w f token (board_of between))) (sym setup) ∙ rest.step others;
    setup = rest.setup ∙ setup;
    own = subst (λ (s : Setup). IsOwnFrame s y.frame) setup rest.own;
    hand = tt;
    beside = λ e t other k. (refl, (rest.beside e t other (on t k)).1);
  }

-- the calls that leave each token out
stay_by : (b after : BoardView) (answer : Answer LocalView) (p : Answer LocalView × Board LocalView) → p ≡ (answer, board_of after) → ((t : Token) → IsOutOf (board_of b) t → IsOutOf p.1 t) → StayOut b after
stay_by b after answer p e f t k = subst (λ (q : Answer LocalView × Board LocalView). IsOutOf q.1 t) e (f t k)

pub stay_load : (b after : BoardView) (w attempt a : ℕ) (answer : Answer LocalView) → Does b (Load w attempt a) answer after → StayOut b after
stay_load b after w attempt a answer d = stay_by b after answer _ d.step (λ t k. out_load (region_on b.setup) b.setup.capacities t (board_of b) k w attempt a)

pub stay_store : (b after : BoardView) (w attempt a : ℕ) (v : ℤ) (answer : Answer LocalView) → Does b (Write w attempt a v) answer after → StayOut b after
stay_store b after w attempt a v answer d = stay_by b after answer _ d.step (λ t k. out_store (region_on b.setup) b.setup.capacities t (board_of b) k w attempt a v)

-- the token by another name
pub renamed : (entry : World LocalView → World LocalView) (w : ℕ) (b after : BoardView) (token next new : Option Token) (x : Worker) → new ≡ next → Moves entry w b token after x next → Moves entry w b token after x new
renamed entry w b after token next new x is m = subst (λ t. Moves entry w b token after x t) (sym is) m

-- ---- load and store

module _ (w : ℕ) (b after : BoardView) (x : Worker) (token : Option Token) (own : IsOwnFrame b.setup x.frame) (runs : x.is_running ≡ true) (hand : IsInHand w b x token) where
  abbrev own_with : Frame LocalView → FrameView
  own_with f = record x.frame { frame = f }

  still_own : (f : Frame LocalView) → IsOwnFrame b.setup (own_with f)
  still_own f = record { code = own.code; capacities = own.capacities }

  pub load_goes : (a : ℕ) (v : ℤ) → Does b (Load w x.frame.frame.attempt a) (Value v) after → Moves (λ d. at_stop (course_of b.setup) w d x.frame.frame token (ForLoad a)) w b token after (record x { frame = own_with (loaded (ask_in x.frame.code) x.frame.capacities.marks v x.frame.frame) }) token
  load_goes a v d =
      let f = loaded (ask_in x.frame.code) x.frame.capacities.marks v x.frame.frame in
      let same : loaded (ask_in b.setup.code) b.setup.capacities.marks v x.frame.frame ≡ f = ap (λ k. loaded (ask_in k) b.setup.capacities.marks v x.frame.frame) (sym own.code) ∙ ap (λ c. loaded (ask_in x.frame.code) c.marks v x.frame.frame) (sym own.capacities) in
      goes w b x token (λ d. at_stop (course_of b.setup) w d x.frame.frame token (ForLoad a)) after (own_with f) runs d.setup (still_own f) hand (stay_load b after w x.frame.frame.attempt a (Value v) d)
      (λ others. ap (λ p. after_load (course_of b.setup) w (over b others) x.frame.frame token p.0 p.1) d.step ∙ ap (λ g. goes_on w (over b others) g token (board_of after)) same)

  pub store_goes : (a : ℕ) (v : ℤ) → Does b (Write w x.frame.frame.attempt a v) Done after → Moves (λ d. at_stop (course_of b.setup) w d x.frame.frame token (ForStore a v)) w b token after (record x { frame = own_with (stored (ask_in x.frame.code) x.frame.capacities.buffer x.frame.frame) }) token
  store_goes a v d =
      let f = stored (ask_in x.frame.code) x.frame.capacities.buffer x.frame.frame in
      let same : stored (ask_in b.setup.code) b.setup.capacities.buffer x.frame.frame ≡ f = ap (λ k. stored (ask_in k) b.setup.capacities.buffer x.frame.frame) (sym own.code) ∙ ap (λ c. stored (ask_in x.frame.code) c.buffer x.frame.frame) (sym own.capacities) in
      goes w b x token (λ d. at_stop (course_of b.setup) w d x.frame.frame token (ForStore a v)) after (own_with f) runs d.setup (still_own f) hand (stay_store b after w x.frame.frame.attempt a v Done d)
      (λ others. ap (λ p. after_write (course_of b.setup) w (over b others) x.frame.frame token p.0 p.1) d.step ∙ ap (λ g. goes_on w (over b others) g token (board_of after)) same)

module _ (w : ℕ) (b between after : BoardView) (x y : Worker) (token : Option Token) (rest : Moves (λ d. stops w d (spends_token (course_of between.setup) w x.frame.frame token d.board)) w between token after y None) where
  pub load_halts : (a : ℕ) (r : Loaded) → Does b (Load w x.frame.frame.attempt a) (loaded_answer r) between → (r ≡ SquashedLoad) ⊎ (r ≡ EndedLoad) → Moves (λ d. at_stop (course_of b.setup) w d x.frame.frame token (ForLoad a)) w b token after y None
  load_halts a r d is =
      halts w b x token (λ d. at_stop (course_of b.setup) w d x.frame.frame token (ForLoad a)) between after x.frame.frame y d.setup (stay_load b between w x.frame.frame.attempt a (loaded_answer r) d) rest
      (λ others. ap (λ p. after_load (course_of b.setup) w (over b others) x.frame.frame token p.0 p.1) d.step ∙ by others is)
    where
      by : (others : ℕ → Option (Running LocalView)) → (r ≡ SquashedLoad) ⊎ (r ≡ EndedLoad) → after_load (course_of b.setup) w (over b others) x.frame.frame token (loaded_answer r) (board_of between) ≡ stops w (over between others) (spends_token (course_of b.setup) w x.frame.frame token (board_of between))
      by others (inl e) = ap (λ q. after_load (course_of b.setup) w (over b others) x.frame.frame token (loaded_answer q) (board_of between)) e
      by others (inr e) = ap (λ q. after_load (course_of b.setup) w (over b others) x.frame.frame token (loaded_answer q) (board_of between)) e

  pub store_halts : (a : ℕ) (v : ℤ) (r : Stored) → Does b (Write w x.frame.frame.attempt a v) (stored_answer r) between → (r ≡ SquashedStore) ⊎ (r ≡ EndedStore) → Moves (λ d. at_stop (course_of b.setup) w d x.frame.frame token (ForStore a v)) w b token after y None
  store_halts a v r d is =
      halts w b x token (λ d. at_stop (course_of b.setup) w d x.frame.frame token (ForStore a v)) between after x.frame.frame y d.setup (stay_store b between w x.frame.frame.attempt a v (stored_answer r) d) rest
      (λ others. ap (λ p. after_write (course_of b.setup) w (over b others) x.frame.frame token p.0 p.1) d.step ∙ by others is)
    where
      by : (others : ℕ → Option (Running LocalView)) → (r ≡ SquashedStore) ⊎ (r ≡ EndedStore) → after_write (course_of b.setup) w (over b others) x.frame.frame token (stored_answer r) (board_of between) ≡ stops w (over between others) (spends_token (course_of b.setup) w x.frame.frame token (board_of between))
      by others (inl e) = ap (λ q. after_write (course_of b.setup) w (over b others) x.frame.frame token (stored_answer q) (board_of between)) e
      by others (inr e) = ap (λ q. after_write (course_of b.setup) w (over b others) x.frame.frame token (stored_answer q) (board_of between)) e

  pub look_halts : (r : LooksAlive) → Does b (Alive w x.frame.frame.attempt) (alive_answer r) between → (r ≡ SquashedOn) ⊎ (r ≡ EndedOn) → Moves (λ d. at_stop (course_of b.setup) w d x.frame.frame token Nothing) w b token after y None
  look_halts r d is =
      halts w b x token (λ d. at_stop (course_of b.setup) w d x.frame.frame token Nothing) between after x.frame.frame y d.setup (stay_by b between (alive_answer r) _ d.step (λ t k. out_alive (region_on b.setup) b.setup.capacities t (board_of b) k w x.frame.frame.attempt)) rest
      (λ others. ap (λ p. after_alive (course_of b.setup) w (over b others) x.frame.frame token p.0 p.1) d.step ∙ by others is)
    where
      by : (others : ℕ → Option (Running LocalView)) → (r ≡ SquashedOn) ⊎ (r ≡ EndedOn) → after_alive (course_of b.setup) w (over b others) x.frame.frame token (alive_answer r) (board_of between) ≡ stops w (over between others) (spends_token (course_of b.setup) w x.frame.frame token (board_of between))
      by others (inl e) = ap (λ q. after_alive (course_of b.setup) w (over b others) x.frame.frame token (alive_answer q) (board_of between)) e
      by others (inr e) = ap (λ q. after_alive (course_of b.setup) w (over b others) x.frame.frame token (alive_answer q) (board_of between)) e

-- ---- settle and start

pub settle_goes : (w : ℕ) (b after : BoardView) (x : Worker) (t u : Token) (g : FrameView) → IsOwnFrame b.setup x.frame → x.is_running ≡ true → t.worker ≡ w → g ≡ record x.frame { frame = g.frame } → Does b (Settle t x.frame.frame true) (Again u g.frame) after → Moves (λ d. at_head (course_of b.setup) w d x.frame.frame (Some t)) w b (Some t) after (record x { frame = g }) (Some u)
settle_goes w b after x t u g own runs holder same d =
    let given = subst (λ (p : Answer LocalView × Board LocalView). GivesOut (region_on b.setup) b.setup.capacities (board_of b) t.worker p) d.step (settle_gives (region_on b.setup) b.setup.capacities (board_of b) t x.frame.frame) in
    record {
      step = λ others. ap (λ p. after_settle (course_of b.setup) w (over b others) p.0 p.1) d.step ∙ ap (λ s. record { board = board_of after; running = with_running others w (if s then Some (record { frame = g.frame; token = Some u }) else None) }) (sym runs);
      setup = d.setup;
      own = record { code = ap (λ (f : FrameView). f.code) same ∙ own.code; capacities = ap (λ (f : FrameView). rooms_of f.capacities) same ∙ own.capacities };
      hand = record { worker = given.0 ∙ holder; runs = runs; out = given.1 };
      beside = λ e. absurd cc;
    }

pub start_goes : (w : ℕ) (b after : BoardView) (x : Worker) (g : FrameView) → IsOwnFrame b.setup x.frame → g ≡ record x.frame { frame = g.frame } → Does b (Start w true) (Go g.frame) after → Moves (λ d. entry_of (course_of b.setup) w d None) w b None after (record { frame = g; is_running = true }) None
start_goes w b after x g own same d = record {
  step = λ others. ap (λ p. after_start w (over b others) p.0 p.1) d.step;
  setup = d.setup;
  own = record { code = ap (λ (f : FrameView). f.code) same ∙ own.code; capacities = ap (λ (f : FrameView). rooms_of f.capacities) same ∙ own.capacities };
  hand = tt;
  beside = λ e t other k. (refl, subst (λ (p : Answer LocalView × Board LocalView). IsOutOf p.1 t) d.step (out_start (region_on b.setup) b.setup.capacities t (board_of b) k w other));
}

-- ---- an entry of a worker that runs

along : (w : ℕ) (b after : BoardView) (token next : Option Token) (x : Worker) (e g : World LocalView → World LocalView) → ((d : World LocalView) → e d ≡ g d) → Moves g w b token after x next → Moves e w b token after x next
along w b after token next x e g same m = record { step = λ others. same (over b others) ∙ m.step others; setup = m.setup; own = m.own; hand = m.hand; beside = m.beside }

module _ (w : ℕ) (b after : BoardView) (x y : Worker) (token next : Option Token) (own : IsOwnFrame b.setup x.frame) (runs : x.is_running ≡ true) (g : FrameView) (ran : g ≡ record x.frame { frame = stretch (ask_in x.frame.code) 1024 x.frame.frame }) where
  -- its stretch
  stretched : (d : World LocalView) → entry_of (course_of b.setup) w d (running_of x token) ≡ at_stop (course_of b.setup) w d g.frame token g.frame.need
  stretched d =
      let f : stretch (ask_in b.setup.code) 1024 x.frame.frame ≡ g.frame = ap (λ k. stretch (ask_in k) 1024 x.frame.frame) (sym own.code) ∙ sym (ap (λ (v : FrameView). v.frame) ran) in
      ap (λ s. entry_of (course_of b.setup) w d (if s then Some (record { frame = x.frame.frame; token = token }) else None)) runs ∙ ap (λ (h : Frame LocalView). at_stop (course_of b.setup) w d h token h.need) f

  pub stop_moves : (need : Need) → g.frame.need ≡ need → Moves (λ d. at_stop (course_of b.setup) w d g.frame token need) w b token after y next → Moves (λ d. entry_of (course_of b.setup) w d (running_of x token)) w b token after y next
  stop_moves need e m =
      along w b after token next y _ (λ d. at_stop (course_of b.setup) w d g.frame token need)
      (λ d. stretched d ∙ ap (at_stop (course_of b.setup) w d g.frame token) e) m

  pub head_moves : (action in_stop : Action) (need : Need) → g.frame.need ≡ need → NeedHead in_stop ≡ stop_needed action need → Moves (λ d. at_head (course_of b.setup) w d g.frame token) w b token after y next → Moves (λ d. entry_of (course_of b.setup) w d (running_of x token)) w b token after y next
  head_moves action in_stop Nothing e s m = absurd cc
  head_moves action in_stop (ForLoad a) e s m = absurd cc
  head_moves action in_stop (ForStore a v) e s m = absurd cc
  head_moves action in_stop ForHead e s m = stop_moves ForHead e m
  head_moves action in_stop Held e s m = stop_moves Held e m

-- what a stop says of the need
pub needs_load : (action : Action) (need : Need) (a : ℕ) → NeedLoad a ≡ stop_needed action need → need ≡ ForLoad a
needs_load action Nothing a s = absurd cc
needs_load action (ForLoad b) a s = let same : a ≡ b = cc in ap ForLoad (sym same)
needs_load action (ForStore b v) a s = absurd cc
needs_load action ForHead a s = absurd cc
needs_load action Held a s = absurd cc

pub needs_store : (action : Action) (need : Need) (a : ℕ) (v : ℤ) → NeedStore a v ≡ stop_needed action need → need ≡ ForStore a v
needs_store action Nothing a v s = absurd cc
needs_store action (ForLoad b) a v s = absurd cc
needs_store action (ForStore b u) a v s = let same : b ≡ a = cc in let value : u ≡ v = cc in ap (λ n. ForStore n u) same ∙ ap (ForStore a) value
needs_store action ForHead a v s = absurd cc
needs_store action Held a v s = absurd cc

pub needs_nothing : (action : Action) (need : Need) → Limit ≡ stop_needed action need → need ≡ Nothing
needs_nothing action Nothing s = refl
needs_nothing action (ForLoad b) s = absurd cc
needs_nothing action (ForStore b v) s = absurd cc
needs_nothing action ForHead s = absurd cc
needs_nothing action Held s = absurd cc

-- ---- what a frame asks of the store is in it

module _ (code : CodeView) (r : Option ℕ) (l : LocalView) where
  load_within : (k : LocalWant) (a : ℕ) (q : ℤ → LocalView) → IsWell code r k → asked_by l k ≡ Asked.Loads a q → a < store_words code
  load_within LocalStuck a q h e = absurd h
  load_within (LocalAsks (Loads c) m) a q h e = let same : c ≡ a = cc in subst (λ n. n < store_words code) same h.0.0
  load_within (LocalAsks Goes m) a q h e = absurd cc
  load_within (LocalAsks (Stores c v) m) a q h e = absurd cc
  load_within (LocalAsks (Prints output at) m) a q h e = absurd cc
  load_within (LocalAsks (Faults fault) m) a q h e = absurd cc
  load_within (LocalAsks (Calls g at) m) a q h e = absurd cc
  load_within (LocalAsks (Enters s t) m) a q h e = absurd cc
  load_within (LocalAsks Turns m) a q h e = absurd cc
  load_within (LocalAsks Leaves m) a q h e = absurd cc
  load_within (LocalAsks (Returns v) m) a q h e = absurd cc

  store_within : (k : LocalWant) (a : ℕ) (v : ℤ) (q : LocalView) → IsWell code r k → asked_by l k ≡ Asked.Stores a v q → a < store_words code
  store_within LocalStuck a v q h e = absurd h
  store_within (LocalAsks (Stores c u) m) a v q h e = let same : c ≡ a = cc in subst (λ n. n < store_words code) same h.0.0
  store_within (LocalAsks Goes m) a v q h e = absurd cc
  store_within (LocalAsks (Loads c) m) a v q h e = absurd cc
  store_within (LocalAsks (Prints output at) m) a v q h e = absurd cc
  store_within (LocalAsks (Faults fault) m) a v q h e = absurd cc
  store_within (LocalAsks (Calls g at) m) a v q h e = absurd cc
  store_within (LocalAsks (Enters s t) m) a v q h e = absurd cc
  store_within (LocalAsks Turns m) a v q h e = absurd cc
  store_within (LocalAsks Leaves m) a v q h e = absurd cc
  store_within (LocalAsks (Returns u) m) a v q h e = absurd cc

module _ (code : CodeView) (valid : IsValid code) (f : Frame LocalView) (true_frame : IsTrue (ask_in code) f) (fits : FitsLocal code f.here) where
  pub needed_load : (a : ℕ) → f.need ≡ ForLoad a → a < store_words code
  needed_load a e = let n = subst (IsNeeded (ask_in code) f) e true_frame.needed in load_within code f.here.region f.here (asks_of code f.here) a n.0 (word_well code valid f.here fits) n.1

  pub needed_store : (a : ℕ) (v : ℤ) → f.need ≡ ForStore a v → a < store_words code
  needed_store a v e = let n = subst (IsNeeded (ask_in code) f) e true_frame.needed in store_within code f.here.region f.here (asks_of code f.here) a v n.0 (word_well code valid f.here fits) n.1
