-- What was given up stays counted.
use Rattle.std.proofs.Common.{◌≡◌, ℕ, zero, suc, ◌+◌, ◌^◌, ℤ, Bool, true, false, ◌&&◌, ◌==◌, not, List, [], ◌∷◌, ◌++◌, Option, Some, None, refl, sym, ◌∙◌, arith}
use Rattle.std.specs.Prelude.{nat_lt}
use Rattle.hx_tree.specs.declared.outcome.Counts.{Counts}
use Rattle.hx_code.specs.declared.word.Exit.TheVariants.{Faulted}
use Rattle.hx_code.specs.Region.{held}
use Rattle.hx_speculation.specs.Iteration.{Ask, Goes, Loads, Stores, Prints, TurnEnds, Leaves, Returns, Faults}
use Rattle.hx_speculation.specs.Region.{has_room_for}
use Rattle.hx_speculation.specs.Frame.{Frame, Need, Nothing, ForLoad, ForStore, ForHead, Held, stretch}
use Rattle.hx_speculation.specs.Slots.{Slot, of_worker, may_restart, Found, Known, New, MarksFull, LoadLost, found, Written, Restarts, BufferFull, NumbersEnd, StoreLost, written, from_worker}
use Rattle.hx_speculation.specs.Board.{Board, Token, Call, Start, Load, Write, Head, Alive, Settle, Abandon, Answer, Go, Value, Done, Full, Yours, NotYet, Live, Again, Squashed, NotThisFrame, Ended, spends, next_iteration, starts, after_load as board_load, counts_store, after_store as board_store, gives_head, asks_head, is_of_slot, commits, ends, settles_ask, settles_need, refuses, settles, abandons, does, has_ended, call}
use Rattle.hx_speculation.specs.Replay.{Running, World, Course, board_after, spends_token, after_start, after_load, after_write, after_alive, after_head, after_settle, at_head, at_stop, entry_of}
use Rattle.hx_speculation.proofs.Stores.{if_cases}

pub counted_is_some : (n : ℕ) → held (n + 1) ≡ 0 → ⊥
counted_is_some n e = omega arith

store_abandons : (n : ℕ) (had : Bool) (c : Counts) → (counts_store n had c).abandons ≡ c.abandons
store_abandons zero false c = refl
store_abandons zero true c = refl
store_abandons (suc n) had c = refl

module _ {σ : Type 0} (c : Course σ) where
  -- where none is counted after this, none was before
  abbrev NoneBefore : Board σ → Answer σ × Board σ → Type 0
  NoneBefore b p = p.1.counts.abandons ≡ 0 → b.counts.abandons ≡ 0

  start_none : (w : ℕ) (b : Board σ) (o : Option (ℕ × Slot σ)) → NoneBefore b (starts c.region w b o)
  start_none w b (Some p) = λ e. e
  start_none w b None = if_cases {A = Answer σ × Board σ} (NoneBefore b) (nat_lt (next_iteration b) (2 ^ 64)) _ (spends b) (λ _ e. e) (λ _ e. e)

  load_none : (w attempt a : ℕ) (b : Board σ) (z : Found) → NoneBefore b (board_load w attempt a b z)
  load_none w attempt a b (Known v) e = e
  load_none w attempt a b (New v) e = e
  load_none w attempt a b MarksFull e = e
  load_none w attempt a b LoadLost e = e

  store_none : (w attempt a : ℕ) (v : ℤ) (b : Board σ) (z : Written) → NoneBefore b (board_store w attempt a v b z)
  store_none w attempt a v b (Restarts n had) e = sym (store_abandons n had b.counts) ∙ e
  store_none w attempt a v b BufferFull e = e
  store_none w attempt a v b NumbersEnd e = e
  store_none w attempt a v b StoreLost e = e

  head_none : (w attempt : ℕ) (b : Board σ) (o : Option (ℕ × Slot σ)) → NoneBefore b (asks_head w attempt b o)
  head_none w attempt b None = λ e. e
  head_none w attempt b (Some p) =
      if_cases {A = Answer σ × Board σ} (NoneBefore b) (p.1.attempt == attempt) (gives_head w attempt p.0 b) (Squashed, b)
      (λ _. if_cases {A = Answer σ × Board σ} (NoneBefore b) ((p.0 == b.head) && not b.is_out) _ (NotYet, b) (λ _ e. e) (λ _ e. e))
      (λ _ e. e)

  ask_none : (b : Board σ) (t : Token) (f : Frame σ) (x : Slot σ) (later : List (Slot σ)) (ask : Ask σ) → NoneBefore b (settles_ask c.region b t f x later ask)
  ask_none b t f x later (Goes q) = λ e. e
  ask_none b t f x later (Loads a q) = λ e. e
  ask_none b t f x later (Stores a v q) = λ e. e
  ask_none b t f x later (Prints bytes q full) =
      if_cases {A = Answer σ × Board σ} (NoneBefore b) (has_room_for c.region b.text bytes) (commits b t x later q (b.text ++ bytes)) (ends b x later (Faulted full)) (λ _ e. e) (λ _ e. e)
  ask_none b t f x later TurnEnds =
      if_cases {A = Answer σ × Board σ} (NoneBefore b) (nat_lt (b.head + 1) (2 ^ 64)) _ (spends (record b { is_out = false })) (λ _ e. e) (λ _ e. e)
  ask_none b t f x later Leaves = λ e. e
  ask_none b t f x later (Returns v) = λ e. e
  ask_none b t f x later (Faults fault) = λ e. e

  need_none : (b : Board σ) (t : Token) (f : Frame σ) (x : Slot σ) (later : List (Slot σ)) (need : Need) → NoneBefore b (settles_need c.region b t f x later need)
  need_none b t f x later Nothing = λ e. e
  need_none b t f x later (ForLoad a) = λ e. e
  need_none b t f x later (ForStore a v) = λ e. e
  need_none b t f x later ForHead = ask_none b t f x later (c.region.ask f.here)
  need_none b t f x later Held = λ e. e

  settle_none : (b : Board σ) (t : Token) (f : Frame σ) (is_own : Bool) (xs : List (Slot σ)) → NoneBefore b (settles c.region b t f is_own xs)
  settle_none b t f is_own [] = λ e. e
  settle_none b t f is_own (x ∷ later) =
      if_cases {A = Answer σ × Board σ} (NoneBefore b) (is_own && is_of_slot c.region b.head t f x) (settles_need c.region b t f x later f.need) (refuses b) (λ _. need_none b t f x later f.need) (λ _ e. e)

  abandon_none : (w : ℕ) (b : Board σ) (o : Option (ℕ × Slot σ)) → NoneBefore b (abandons w b o)
  abandon_none w b None = λ e. e
  abandon_none w b (Some p) =
      if_cases {A = Answer σ × Board σ} (NoneBefore b) (may_restart (from_worker w b.active)) _ (spends b) (λ _ e. absurd (counted_is_some b.counts.abandons e)) (λ _ e. e)

  does_none : (k : Call σ) (b : Board σ) → NoneBefore b (does c.region c.capacities k b)
  does_none (Start w is_own) b = if_cases {A = Answer σ × Board σ} (NoneBefore b) is_own (starts c.region w b (of_worker w b.head b.active)) (NotThisFrame, b) (λ _. start_none w b (of_worker w b.head b.active)) (λ _ e. e)
  does_none (Load w attempt a) b = load_none w attempt a b (found c.capacities.marks w attempt a (b.store a) b.active)
  does_none (Write w attempt a v) b = store_none w attempt a v b (written c.capacities.buffer w attempt a v b.active)
  does_none (Head w attempt) b = head_none w attempt b (of_worker w b.head b.active)
  does_none (Alive w attempt) b = λ e. e
  does_none (Settle t f is_own) b = settle_none b t f is_own b.active
  does_none (Abandon w) b = abandon_none w b (of_worker w b.head b.active)

  pub call_none : (k : Call σ) (b : Board σ) → NoneBefore b (call c.region c.capacities k b)
  call_none k b = if_cases {A = Answer σ × Board σ} (NoneBefore b) (has_ended b.exit b.is_spent) (Ended, b) (does c.region c.capacities k b) (λ _ e. e) (λ _. does_none k b)

  pub spends_token_none : (w : ℕ) (f : Frame σ) (token : Option Token) (b : Board σ) → (spends_token c w f token b).counts.abandons ≡ 0 → b.counts.abandons ≡ 0
  spends_token_none w f None b e = e
  spends_token_none w f (Some t) b e = call_none (Abandon w) b (call_none (Settle t f true) (board_after (call c.region c.capacities (Abandon w) b)) e)

  module _ (w : ℕ) (d : World σ) where
    -- and so it is of what a worker makes of an answer
    after_start_none : (ans : Answer σ) (b : Board σ) → (after_start w d ans b).board.counts.abandons ≡ 0 → b.counts.abandons ≡ 0
    after_start_none (Go f) b e = e
    after_start_none _ b e = e

    after_load_none : (f : Frame σ) (token : Option Token) (ans : Answer σ) (b : Board σ) → (after_load c w d f token ans b).board.counts.abandons ≡ 0 → b.counts.abandons ≡ 0
    after_load_none f token (Value v) b e = e
    after_load_none f token Full b e = e
    after_load_none f token _ b e = spends_token_none w f token b e

    after_write_none : (f : Frame σ) (token : Option Token) (ans : Answer σ) (b : Board σ) → (after_write c w d f token ans b).board.counts.abandons ≡ 0 → b.counts.abandons ≡ 0
    after_write_none f token Done b e = e
    after_write_none f token Full b e = e
    after_write_none f token _ b e = spends_token_none w f token b e

    after_alive_none : (f : Frame σ) (token : Option Token) (ans : Answer σ) (b : Board σ) → (after_alive c w d f token ans b).board.counts.abandons ≡ 0 → b.counts.abandons ≡ 0
    after_alive_none f token Live b e = e
    after_alive_none f token _ b e = spends_token_none w f token b e

    after_head_none : (f : Frame σ) (ans : Answer σ) (b : Board σ) → (after_head w d f ans b).board.counts.abandons ≡ 0 → b.counts.abandons ≡ 0
    after_head_none f (Yours t) b e = e
    after_head_none f NotYet b e = e
    after_head_none f _ b e = e

    after_settle_none : (ans : Answer σ) (b : Board σ) → (after_settle c w d ans b).board.counts.abandons ≡ 0 → b.counts.abandons ≡ 0
    after_settle_none (Again t f) b e = e
    after_settle_none NotThisFrame b e = call_none (Abandon w) b e
    after_settle_none _ b e = e

    at_head_none : (f : Frame σ) (token : Option Token) → (at_head c w d f token).board.counts.abandons ≡ 0 → d.board.counts.abandons ≡ 0
    at_head_none f (Some t) e = let p = call c.region c.capacities (Settle t f true) d.board in call_none (Settle t f true) d.board (after_settle_none p.0 p.1 e)
    at_head_none f None e = let p = call c.region c.capacities (Head w f.attempt) d.board in call_none (Head w f.attempt) d.board (after_head_none f p.0 p.1 e)

    at_stop_none : (f : Frame σ) (token : Option Token) (need : Need) → (at_stop c w d f token need).board.counts.abandons ≡ 0 → d.board.counts.abandons ≡ 0
    at_stop_none f token (ForLoad a) e = let p = call c.region c.capacities (Load w f.attempt a) d.board in call_none (Load w f.attempt a) d.board (after_load_none f token p.0 p.1 e)
    at_stop_none f token (ForStore a v) e = let p = call c.region c.capacities (Write w f.attempt a v) d.board in call_none (Write w f.attempt a v) d.board (after_write_none f token p.0 p.1 e)
    at_stop_none f token ForHead e = at_head_none f token e
    at_stop_none f token Held e = at_head_none f token e
    at_stop_none f token Nothing e = let p = call c.region c.capacities (Alive w f.attempt) d.board in call_none (Alive w f.attempt) d.board (after_alive_none f token p.0 p.1 e)

    pub entry_none : (o : Option (Running σ)) → (entry_of c w d o).board.counts.abandons ≡ 0 → d.board.counts.abandons ≡ 0
    entry_none None e = let p = call c.region c.capacities (Start w true) d.board in call_none (Start w true) d.board (after_start_none p.0 p.1 e)
    entry_none (Some y) e = let f = stretch c.region.ask c.limit y.frame in at_stop_none f y.token f.need e
