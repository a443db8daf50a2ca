-- Frames stay true, so each schedule keeps the board sound.
use Rattle.std.proofs.Common.{ℕ, true, false, ◌==◌, ◌&&◌, List, [], ◌∷◌, ◌++◌, Option, Some, None}
use Rattle.std.specs.Prelude.{nat_lt, ◌^◌, ◌+◌}
use Rattle.hx_code.specs.declared.word.Exit.TheVariants.{Faulted}
use Rattle.hx_speculation.specs.Iteration.{Store, Ask, Goes, Loads, Stores, Prints, TurnEnds, Leaves, Returns, Faults}
use Rattle.hx_speculation.specs.Region.{has_room_for}
use Rattle.hx_speculation.specs.Frame.{Frame, Need, Nothing, ForLoad, ForStore, ForHead, Held, IsTrue, stretch, loaded, stored, holds}
use Rattle.hx_speculation.specs.Slots.{Slot, of_worker}
use Rattle.hx_speculation.specs.Board.{Board, Token, Start, Load, Write, Head, Alive, Settle, Abandon, Answer, Go, Value, Done, Full, Yours, NotYet, Live, Again, NotThisFrame, Ended, spends, next_iteration, starts, is_of_slot, commits, ends, settles_ask, settles_need, refuses, settles, has_ended, call}
use Rattle.hx_speculation.specs.Sound.{IsSound}
use Rattle.hx_speculation.specs.Replay.{Running, World, Course, goes_on, stops, spends_token, after_start, after_load, after_write, after_alive, after_head, after_settle, at_head, at_stop, entry_of, replayed, world_at}
use Rattle.hx_speculation.proofs.Stores.{if_cases}
use Rattle.hx_speculation.proofs.Calls.{call_sound, opened_sound}
use Rattle.hx_speculation.proofs.Frames.{begins_true, stretch_true, loaded_true, stored_true, holds_true}

module _ {σ : Type 0} (c : Course σ) where
  -- the frames that the board hands out
  abbrev GivesTrue : Answer σ × Board σ → Type 0
  GivesTrue (Go f, b) = IsTrue c.region.ask f
  GivesTrue (Again t f, b) = IsTrue c.region.ask f
  GivesTrue (_, b) = Unit {0}

  start_gives : (w : ℕ) (b : Board σ) (p : Option (ℕ × Slot σ)) → GivesTrue (starts c.region w b p)
  start_gives w b (Some p) = begins_true c.region.ask _ _ _ _
  start_gives w b None =
      if_cases {A = Answer σ × Board σ} GivesTrue (nat_lt (next_iteration b) (2 ^ 64)) _ (spends b) (λ _. begins_true c.region.ask _ _ _ _) (λ _. tt)

  ask_gives : (b : Board σ) (t : Token) (f : Frame σ) (x : Slot σ) (later : List (Slot σ)) (ask : Ask σ) → GivesTrue (settles_ask c.region b t f x later ask)
  ask_gives b t f x later (Goes q) = begins_true c.region.ask _ _ _ _
  ask_gives b t f x later (Loads a q) = begins_true c.region.ask _ _ _ _
  ask_gives b t f x later (Stores a v q) = begins_true c.region.ask _ _ _ _
  ask_gives b t f x later (Prints bytes q full) =
      if_cases {A = Answer σ × Board σ} GivesTrue (has_room_for c.region b.text bytes) (commits b t x later q (b.text ++ bytes)) (ends b x later (Faulted full)) (λ _. begins_true c.region.ask _ _ _ _) (λ _. tt)
  ask_gives b t f x later TurnEnds =
      if_cases {A = Answer σ × Board σ} GivesTrue (nat_lt (b.head + 1) (2 ^ 64)) _ (spends (record b { is_out = false })) (λ _. tt) (λ _. tt)
  ask_gives b t f x later Leaves = tt
  ask_gives b t f x later (Returns v) = tt
  ask_gives b t f x later (Faults fault) = tt

  need_gives : (b : Board σ) (t : Token) (f : Frame σ) (x : Slot σ) (later : List (Slot σ)) (need : Need) → GivesTrue (settles_need c.region b t f x later need)
  need_gives b t f x later Nothing = begins_true c.region.ask _ _ _ _
  need_gives b t f x later (ForLoad a) = begins_true c.region.ask _ _ _ _
  need_gives b t f x later (ForStore a v) = begins_true c.region.ask _ _ _ _
  need_gives b t f x later Held = begins_true c.region.ask _ _ _ _
  need_gives b t f x later ForHead = ask_gives b t f x later (c.region.ask f.here)

  settle_gives : (b : Board σ) (t : Token) (f : Frame σ) (xs : List (Slot σ)) → GivesTrue (settles c.region b t f true xs)
  settle_gives b t f [] = tt
  settle_gives b t f (x ∷ later) =
      if_cases {A = Answer σ × Board σ} GivesTrue (true && is_of_slot c.region b.head t f x) (settles_need c.region b t f x later f.need) (refuses b) (λ _. need_gives b t f x later f.need) (λ _. tt)

  start_call_gives : (w : ℕ) (b : Board σ) → GivesTrue (call c.region c.capacities (Start w true) b)
  start_call_gives w b = if_cases {A = Answer σ × Board σ} GivesTrue (has_ended b.exit b.is_spent) (Ended, b) _ (λ _. tt) (λ _. start_gives w b (of_worker w b.head b.active))

  settle_call_gives : (t : Token) (f : Frame σ) (b : Board σ) → GivesTrue (call c.region c.capacities (Settle t f true) b)
  settle_call_gives t f b = if_cases {A = Answer σ × Board σ} GivesTrue (has_ended b.exit b.is_spent) (Ended, b) _ (λ _. tt) (λ _. settle_gives b t f b.active)

  abbrev pub RunsTrue : Option (Running σ) → Type 0
  RunsTrue None = Unit {0}
  RunsTrue (Some x) = IsTrue c.region.ask x.frame

  pub record IsTrueWorld (entry : Store) (d : World σ) : Type 0 where
    pub board : IsSound c.region entry d.board
    pub frames : (w : ℕ) → RunsTrue (d.running w)

  module _ (entry : Store) where
    goes_on_true : (w : ℕ) (d : World σ) (f : Frame σ) (token : Option Token) (b : Board σ) → IsTrueWorld entry d → IsSound c.region entry b → IsTrue c.region.ask f → IsTrueWorld entry (goes_on w d f token b)
    goes_on_true w d f token b h s t =
        record { board = s; frames = λ v. if_cases RunsTrue (v == w) (Some (record { frame = f; token = token })) (d.running v) (λ _. t) (λ _. h.frames v) }

    stops_true : (w : ℕ) (d : World σ) (b : Board σ) → IsTrueWorld entry d → IsSound c.region entry b → IsTrueWorld entry (stops w d b)
    stops_true w d b h s = record { board = s; frames = λ v. if_cases RunsTrue (v == w) None (d.running v) (λ _. tt) (λ _. h.frames v) }

    spends_token_sound : (w : ℕ) (f : Frame σ) (token : Option Token) (b : Board σ) → IsTrue c.region.ask f → IsSound c.region entry b → IsSound c.region entry (spends_token c w f token b)
    spends_token_sound w f None b t s = s
    spends_token_sound w f (Some k) b t s =
        call_sound c.region entry c.capacities (Settle k f true) _ (λ _. t.tracked) (call_sound c.region entry c.capacities (Abandon w) b tt s)

    module _ (w : ℕ) (d : World σ) (h : IsTrueWorld entry d) where
      lost : (f : Frame σ) (token : Option Token) (b : Board σ) → IsTrue c.region.ask f → IsSound c.region entry b → IsTrueWorld entry (stops w d (spends_token c w f token b))
      lost f token b t s = stops_true w d _ h (spends_token_sound w f token b t s)

      start_kept : (p : Answer σ × Board σ) → GivesTrue p → IsSound c.region entry p.1 → IsTrueWorld entry (after_start w d p.0 p.1)
      start_kept (Go f, b) g s = goes_on_true w d f None b h s g
      start_kept (_, b) g s = stops_true w d b h s

      load_kept : (f : Frame σ) (token : Option Token) (ans : Answer σ) (b : Board σ) → IsTrue c.region.ask f → IsSound c.region entry b → IsTrueWorld entry (after_load c w d f token ans b)
      load_kept f token (Value v) b t s = goes_on_true w d (loaded c.region.ask c.capacities.marks v f) token b h s (loaded_true c.region.ask c.capacities.marks v f t)
      load_kept f token Full b t s = goes_on_true w d (holds f) token b h s (holds_true c.region.ask f t)
      load_kept f token _ b t s = lost f token b t s

      write_kept : (f : Frame σ) (token : Option Token) (ans : Answer σ) (b : Board σ) → IsTrue c.region.ask f → IsSound c.region entry b → IsTrueWorld entry (after_write c w d f token ans b)
      write_kept f token Done b t s = goes_on_true w d (stored c.region.ask c.capacities.buffer f) token b h s (stored_true c.region.ask c.capacities.buffer f t)
      write_kept f token Full b t s = goes_on_true w d (holds f) token b h s (holds_true c.region.ask f t)
      write_kept f token _ b t s = lost f token b t s

      alive_kept : (f : Frame σ) (token : Option Token) (ans : Answer σ) (b : Board σ) → IsTrue c.region.ask f → IsSound c.region entry b → IsTrueWorld entry (after_alive c w d f token ans b)
      alive_kept f token Live b t s = goes_on_true w d f token b h s t
      alive_kept f token _ b t s = lost f token b t s

      head_kept : (f : Frame σ) (ans : Answer σ) (b : Board σ) → IsTrue c.region.ask f → IsSound c.region entry b → IsTrueWorld entry (after_head w d f ans b)
      head_kept f (Yours k) b t s = goes_on_true w d f (Some k) b h s t
      head_kept f NotYet b t s = goes_on_true w d f None b h s t
      head_kept f _ b t s = stops_true w d b h s

      settle_kept : (p : Answer σ × Board σ) → GivesTrue p → IsSound c.region entry p.1 → IsTrueWorld entry (after_settle c w d p.0 p.1)
      settle_kept (Again k f, b) g s = goes_on_true w d f (Some k) b h s g
      settle_kept (NotThisFrame, b) g s = stops_true w d _ h (call_sound c.region entry c.capacities (Abandon w) b tt s)
      settle_kept (_, b) g s = stops_true w d b h s

      at_head_kept : (f : Frame σ) (token : Option Token) → IsTrue c.region.ask f → IsTrueWorld entry (at_head c w d f token)
      at_head_kept f (Some k) t =
          settle_kept (call c.region c.capacities (Settle k f true) d.board) (settle_call_gives k f d.board) (call_sound c.region entry c.capacities (Settle k f true) d.board (λ _. t.tracked) h.board)
      at_head_kept f None t = head_kept f _ _ t (call_sound c.region entry c.capacities (Head w f.attempt) d.board tt h.board)

      at_stop_kept : (f : Frame σ) (token : Option Token) (need : Need) → IsTrue c.region.ask f → IsTrueWorld entry (at_stop c w d f token need)
      at_stop_kept f token (ForLoad a) t = load_kept f token _ _ t (call_sound c.region entry c.capacities (Load w f.attempt a) d.board tt h.board)
      at_stop_kept f token (ForStore a v) t = write_kept f token _ _ t (call_sound c.region entry c.capacities (Write w f.attempt a v) d.board tt h.board)
      at_stop_kept f token ForHead t = at_head_kept f token t
      at_stop_kept f token Held t = at_head_kept f token t
      at_stop_kept f token Nothing t = alive_kept f token _ _ t (call_sound c.region entry c.capacities (Alive w f.attempt) d.board tt h.board)

      pub entry_kept : (x : Option (Running σ)) → RunsTrue x → IsTrueWorld entry (entry_of c w d x)
      entry_kept None t = start_kept (call c.region c.capacities (Start w true) d.board) (start_call_gives w d.board) (call_sound c.region entry c.capacities (Start w true) d.board tt h.board)
      entry_kept (Some x) t =
          let f = stretch c.region.ask c.limit x.frame in
          at_stop_kept f x.token f.need (stretch_true c.region.ask c.limit x.frame t)

    replayed_true : (ws : List ℕ) (d : World σ) → IsTrueWorld entry d → IsTrueWorld entry (replayed c ws d)
    replayed_true [] d h = h
    replayed_true (w ∷ ws) d h = replayed_true ws _ (entry_kept w d h (d.running w) (h.frames w))

    pub replay_sound : (ws : List ℕ) → IsSound c.region entry (replayed c ws (world_at entry)).board
    replay_sound ws = (replayed_true ws (world_at entry) (record { board = opened_sound c.region entry; frames = λ w. tt })).board
