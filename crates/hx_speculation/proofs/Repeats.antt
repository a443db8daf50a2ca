-- Quiet loops never repeat, whatever the schedule.
use Rattle.std.proofs.Common.{◌≡◌, ℕ, zero, suc, ◌+◌, ◌^◌, ◌<◌, ℤ, inl, inr, Bool, true, false, ◌&&◌, ◌==◌, not, List, [], ◌∷◌, ◌++◌, Option, Some, None, refl, sym, ◌∙◌, subst, arith}
use Rattle.std.specs.Prelude.{nat_lt}
use Rattle.std.proofs.lemmas.Bool.{false≢true}
use Rattle.hx_tree.specs.declared.outcome.Counts.{Counts}
use Rattle.hx_code.specs.declared.word.Exit.{Exit}
use Rattle.hx_code.specs.declared.word.Exit.TheVariants.{Left, Returned, Faulted}
use Rattle.hx_marks.specs.Table.{Table, look}
use Rattle.hx_speculation.specs.Iteration.{Store, overlay, Agrees, Ask, Goes, Loads, Stores, Prints, TurnEnds, Leaves, Returns, Faults}
use Rattle.hx_speculation.specs.Region.{Going, Comes, has_room_for}
use Rattle.hx_speculation.specs.Frame.{Frame, Need, Nothing, ForLoad, ForStore, ForHead, Held, IsTrue, IsNeeded, begins, stretch, loaded, stored, holds}
use Rattle.hx_speculation.specs.Slots.{Slot, first_attempt, of_worker, may_restart, Found, Known, New, MarksFull, LoadLost, found, with_mark, Written, Restarts, BufferFull, NumbersEnd, StoreLost, written, with_write, from_worker}
use Rattle.hx_speculation.specs.Board.{Board, Token, Start, Load, Write, Head, Alive, Settle, Abandon, Answer, Go, Yours, NotYet, Live, Again, Squashed, NotThisFrame, Ended, spends, next_iteration, starts, after_load as board_load, counts_store, after_store as board_store, gives_head, asks_head, lives, is_of_slot, commits, ends, passes, settles_ask, settles_need, refuses, settles, abandons, does, has_ended, call}
use Rattle.hx_speculation.specs.Sound.{head_start, AreOpening, RestIsOpening, MarksAreSeen, starts_of, shown, IsSound}
use Rattle.hx_speculation.specs.Replay.{Running, World, Course, with_running, stops, board_after, spends_token, after_start, after_load, after_write, after_alive, after_head, after_settle, at_head, at_stop, entry_of, replayed, world_at}
use Rattle.hx_speculation.specs.Watch.{in_turn, ComesWatched, Begins, IsQuiet}
use Rattle.hx_speculation.specs.Attempts.{AttemptsAreOne, HasCommittedNone, MarksAreOfEntry}
use Rattle.hx_speculation.proofs.Stores.{if_cases, and_left, and_right, eq_true, eq_same}
use Rattle.hx_speculation.proofs.Calls.{runs_on, opened_sound}
use Rattle.hx_speculation.proofs.Frames.{stretch_true}
use Rattle.hx_speculation.proofs.Replay.{RunsTrue, IsTrueWorld, entry_kept}
use Rattle.hx_speculation.proofs.Watch.{Source, comes_watched, knows}
use Rattle.hx_speculation.proofs.Abandons.{counted_is_some, call_none, entry_none}
use Rattle.hx_speculation.proofs.Links.{workers, Apart, Distinct, Empty, Linked, Links, links_set, links_apart, worker_link, mark_workers, write_workers, of_none, of_links, distinct_new, links_new, IsSameBut, same_then, same_sync, stretch_same, holds_same, loaded_worker, stored_worker}
use Rattle.hx_speculation.proofs.Attempts.{opening_clean, Facts, Anchor, Anchored, Clean, LoadKept, load_once, StoreKept, store_once, facts_later}

-- who settles is the worker of the slot
settler : {σ : Type 0} (t : Token) (f : Frame σ) (x : Slot σ) (j : ℕ) (same : Bool) → (((t.worker == x.worker) && ((t.iteration == j) && ((t.attempt == x.attempt) && ((f.worker == x.worker) && ((f.iteration == j) && (f.attempt == x.attempt)))))) && same) ≡ true → f.worker ≡ x.worker
settler t f x j same k =
    let all = and_left _ same k in
    let two = and_right (t.worker == x.worker) _ all in
    let three = and_right (t.iteration == j) _ two in
    let four = and_right (t.attempt == x.attempt) _ three in
    eq_true f.worker x.worker (and_left (f.worker == x.worker) _ four)

spent_ended : (e : Option Exit) → has_ended e true ≡ true
spent_ended None = refl
spent_ended (Some e) = refl

not_both : {A : Type 0} (b : Bool) → b ≡ true → b ≡ false → A
not_both b t f = absurd (false≢true (sym f ∙ t))

store_repeats : (n : ℕ) (had : Bool) (c : Counts) → (counts_store n had c).repeats ≡ c.repeats
store_repeats zero false c = refl
store_repeats zero true c = refl
store_repeats (suc n) had c = refl

module _ {σ : Type 0} (c : Course σ) (entry : Store) (quiet : IsQuiet c.region entry) where
  -- the frame of a worker is its own
  abbrev Tagged : ℕ → Option (Running σ) → Type 0
  Tagged w None = Unit {0}
  Tagged w (Some y) = y.frame.worker ≡ w

  abbrev Runs : Board σ → Type 0
  Runs b = has_ended b.exit b.is_spent ≡ false

  abbrev FactsOf : Board σ → List (Slot σ) → Type 0
  FactsOf b xs = Facts c.region entry b.head b.store b.text b.head xs

  record IsOnce (g : ℕ → Option (Running σ)) (b : Board σ) : Type 0 where
    links : Runs b → Links g b.active
    distinct : Distinct (workers b.active)
    facts : FactsOf b b.active
    repeats : b.counts.repeats ≡ 0

  record OnceWorld (d : World σ) : Type 0 where
    tags : (w : ℕ) → Tagged w (d.running w)
    once : IsOnce d.running d.board

  once_with : (g k : ℕ → Option (Running σ)) (b : Board σ) (xs : List (Slot σ)) (is_out is_spent : Bool) (counts : Counts) → counts.repeats ≡ b.counts.repeats → (has_ended b.exit is_spent ≡ false → Links k xs) → Distinct (workers xs) → FactsOf b xs → IsOnce g b → IsOnce k (record b { active = xs; is_out = is_out; is_spent = is_spent; counts = counts })
  once_with g k b xs is_out is_spent counts same l n f h = record { links = l; distinct = n; facts = f; repeats = same ∙ h.repeats }

  -- other frames run it
  relinked : (g k : ℕ → Option (Running σ)) (b : Board σ) (is_out : Bool) → IsOnce g b → (Runs b → Links k b.active) → IsOnce k (record b { is_out = is_out })
  relinked g k b is_out h l = once_with g k b b.active is_out b.is_spent b.counts refl l h.distinct h.facts h

  -- where it has ended, no frame matters
  ended_once : (g k : ℕ → Option (Running σ)) (b : Board σ) → has_ended b.exit b.is_spent ≡ true → IsOnce g b → IsOnce k b
  ended_once g k b e h = relinked g k b b.is_out h (λ runs. not_both _ e runs)

  spent_once : (g k : ℕ → Option (Running σ)) (b : Board σ) (is_out : Bool) → IsOnce g b → IsOnce k (record b { is_out = is_out; is_spent = true })
  spent_once g k b is_out h = once_with g k b b.active is_out true b.counts refl (λ runs. not_both _ (spent_ended b.exit) runs) h.distinct h.facts h

  -- ---- where the plain turns are

  -- the plain region comes to where the head starts
  head_comes : (b : Board σ) → b.exit ≡ None → IsSound c.region entry b → Comes c.region entry (Going (head_start c.region b.head (starts_of b.active)) b.store b.text b.head)
  head_comes b run s = subst (λ o. Comes c.region entry (shown c.region b o)) run s.prefix

  rest_anchored : (head : ℕ) (s : Store) (text : List ℕ) (j : ℕ) (xs : List (Slot σ)) → head < j → AreOpening c.region j (starts_of xs) → Facts c.region entry head s text j xs → Anchored c.region entry head s text j xs
  rest_anchored head s text j [] lt o f = tt
  rest_anchored head s text j (x ∷ xs) lt o f = (here, rest_anchored head s text (suc j) xs (omega arith) o.1 f.1)
    where
      here : Begins c.region entry j → Anchor c.region entry head s text j x
      here b =
          let k = comes_watched c.region entry j b.0 b.1 b.2 b.3 in
          let opening = (knows c.region entry j b.0 b.1 b.2 k.0 k.1).opening in
          let comes = subst (λ q. ComesWatched c.region entry (in_turn j q opening.0 opening.1 [])) (sym o.0) opening.2 in
          let agrees : Agrees opening.0 x.marks =
          (λ a v lk.
          let m = (f.0 b).marks a v (inl lt) lk in
          opening_clean c.region entry j (c.region.opening j) opening.0 opening.1 quiet opening.2 a m.0 ∙ sym m.1) in
          record { store = opening.0; out = opening.1; writes = []; comes = comes; agrees = agrees; first = λ _. (opening.0, opening.1, comes, agrees) }

  anchored : (b : Board σ) (xs : List (Slot σ)) → b.active ≡ xs → b.exit ≡ None → IsSound c.region entry b → FactsOf b xs → Anchored c.region entry b.head b.store b.text b.head xs
  anchored b [] e run s f = tt
  anchored b (x ∷ xs) e run s f =
      (λ _. record { store = b.store; out = b.text; writes = k.0; comes = k.1; agrees = marks.0; first = first }, rest_anchored b.head b.store b.text (suc b.head) xs (omega arith) (subst (λ l. RestIsOpening c.region b.head (starts_of l)) e s.rest) f.1)
    where
      marks : MarksAreSeen b.store (x ∷ xs)
      marks = subst (MarksAreSeen b.store) e s.marks

      k : (writes : Table) × ComesWatched c.region entry (in_turn b.head x.start b.store b.text writes)
      k = comes_watched c.region entry b.head x.start b.store b.text (subst (λ l. Comes c.region entry (Going (head_start c.region b.head (starts_of l)) b.store b.text b.head)) e (head_comes b run s))

      first : HasCommittedNone c.region entry b.head b.store b.text b.head x.start → (u : Store) × (t : List ℕ) × ComesWatched c.region entry (in_turn b.head x.start u t []) × Agrees u x.marks
      first (inl lt) = absurd (omega (arith, lt))
      first (inr z) = (b.store, b.text, z.1, marks.0)

  clean : (b : Board σ) → b.exit ≡ None → IsSound c.region entry b → Clean c.region entry b.head b.store b.text b.head b.store
  clean b run s i a le lt ex = by k.0 ((knows c.region entry b.head q b.store b.text k.0 k.1).source a)
    where
      q : σ
      q = head_start c.region b.head (starts_of b.active)

      k : (writes : Table) × ComesWatched c.region entry (in_turn b.head q b.store b.text writes)
      k = comes_watched c.region entry b.head q b.store b.text (head_comes b run s)

      by : (writes : Table) → Source c.region entry b.store b.head writes a → b.store a ≡ entry a
      by writes (inl e) = e
      by writes (inr (inl z)) = quiet z.0 i a (b.store a) (omega (arith, z.1, lt)) z.2 ex
      by writes (inr (inr z)) = quiet b.head i a (b.store a) lt z.0 ex

  -- ---- a worker that gives up

  -- it has no iteration
  abbrev Free : ℕ → Board σ → Type 0
  Free w b = Runs b → Apart w (workers b.active)

  -- where none is counted, none was given up
  abbrev GivenUp : (ℕ → Option (Running σ)) → ℕ → Answer σ × Board σ → Type 0
  GivenUp g w p = p.1.counts.abandons ≡ 0 → IsOnce g p.1 × Free w p.1

  abandons_once : (g : ℕ → Option (Running σ)) (w : ℕ) (b : Board σ) (o : Option (ℕ × Slot σ)) → of_worker w b.head b.active ≡ o → IsOnce g b → GivenUp g w (abandons w b o)
  abandons_once g w b None e h = λ _. (h, λ _. of_none w b.head b.active e)
  abandons_once g w b (Some p) e h =
      if_cases {A = Answer σ × Board σ} (GivenUp g w) (may_restart (from_worker w b.active)) _ (spends b)
      (λ _ n. absurd (counted_is_some b.counts.abandons n))
      (λ _ n. (spent_once g g b b.is_out h, λ runs. not_both _ (spent_ended b.exit) runs))

  abandon_once : (g : ℕ → Option (Running σ)) (w : ℕ) (b : Board σ) → IsOnce g b → GivenUp g w (call c.region c.capacities (Abandon w) b)
  abandon_once g w b h =
      if_cases {A = Answer σ × Board σ} (GivenUp g w) (has_ended b.exit b.is_spent) (Ended, b) (does c.region c.capacities (Abandon w) b)
      (λ e n. (h, λ runs. not_both _ e runs))
      (λ _. abandons_once g w b (of_worker w b.head b.active) refl h)

  -- with a frame of a worker without an iteration nothing is settled
  settles_free : (g : ℕ → Option (Running σ)) (w : ℕ) (t : Token) (f : Frame σ) (b : Board σ) (xs : List (Slot σ)) → f.worker ≡ w → Apart w (workers xs) → IsOnce g b → IsOnce g (settles c.region b t f true xs).1
  settles_free g w t f b [] tag n h = relinked g g b false h h.links
  settles_free g w t f b (x ∷ later) tag n h =
      if_cases {A = Answer σ × Board σ} (λ p. IsOnce g p.1) (true && is_of_slot c.region b.head t f x) (settles_need c.region b t f x later f.need) (refuses b)
      (λ k. absurd (n.0 (sym (settler t f x b.head _ k) ∙ tag)))
      (λ _. relinked g g b false h h.links)

  settle_free : (g : ℕ → Option (Running σ)) (w : ℕ) (t : Token) (f : Frame σ) (b : Board σ) → f.worker ≡ w → Free w b → IsOnce g b → IsOnce g (call c.region c.capacities (Settle t f true) b).1
  settle_free g w t f b tag n h =
      if_cases {A = Answer σ × Board σ} (λ p. IsOnce g p.1) (has_ended b.exit b.is_spent) (Ended, b) (settles c.region b t f true b.active)
      (λ _. h)
      (λ runs. settles_free g w t f b b.active tag (n runs) h)

  spends_token_once : (g : ℕ → Option (Running σ)) (w : ℕ) (f : Frame σ) (token : Option Token) (b : Board σ) → f.worker ≡ w → (spends_token c w f token b).counts.abandons ≡ 0 → IsOnce g b → IsOnce g (spends_token c w f token b)
  spends_token_once g w f None b tag n h = h
  spends_token_once g w f (Some t) b tag n h =
      let after = board_after (call c.region c.capacities (Abandon w) b) in
      let k = abandon_once g w b h (call_none c (Settle t f true) after n) in
      settle_free g w t f after tag k.1 k.0

  -- ---- one entry of a schedule

  facts_new : (head : ℕ) (s : Store) (text : List ℕ) (j w : ℕ) (q : σ) (xs : List (Slot σ)) → Facts c.region entry head s text j xs → Facts c.region entry head s text j (xs ++ first_attempt w q ∷ [])
  facts_new head s text j w q [] f = ((λ b. record { once = refl; marks = λ a v z k. absurd (cc); words = λ a v k. absurd (cc) }), tt)
  facts_new head s text j w q (x ∷ xs) f = (f.0, facts_new head s text (suc j) w q xs f.1)

  module _ (w : ℕ) (d : World σ) (true_world : IsTrueWorld c entry d) (h : OnceWorld d) where
    moved : (o : Option (Running σ)) (b : Board σ) → Tagged w o → IsOnce (with_running d.running w o) b → OnceWorld (record { board = b; running = with_running d.running w o })
    moved o b t k =
        record {
          tags = λ v. if_cases (Tagged v) (v == w) o (d.running v) (λ e. subst (λ z. Tagged z o) (sym (eq_true v w e)) t) (λ _. h.tags v);
          once = k;
        }

    -- start
    abbrev Started : Answer σ × Board σ → Type 0
    Started p = OnceWorld (after_start w d p.0 p.1)

    start_once : (o : Option (ℕ × Slot σ)) → of_worker w d.board.head d.board.active ≡ o → d.running w ≡ None → Started (starts c.region w d.board o)
    start_once (Some p) e is =
        moved (Some (record { frame = begins w p.0 p.1.attempt p.1.start; token = None })) d.board refl (relinked d.running _ d.board d.board.is_out h.once (λ runs.
        of_links d.running w d.board.head (Some (record { frame = begins w p.0 p.1.attempt p.1.start; token = None })) p d.board.active e (h.once).distinct ((h.once).links runs)
        (λ l. let m = subst (λ o. Linked o p.1) is l in inr (record { attempt = refl; start = refl; marks = sym m.0; words = sym m.1 }))))
    start_once None e is =
        let b = d.board in
        let j = next_iteration b in
        let n = of_none w b.head b.active e in
        let fresh : Slot σ = first_attempt w (c.region.opening j) in
        let o : Option (Running σ) = Some (record { frame = begins w j 1 (c.region.opening j); token = None }) in
        if_cases {A = Answer σ × Board σ} Started (nat_lt j (2 ^ 64)) (Go (begins w j 1 (c.region.opening j)), record b { active = b.active ++ fresh ∷ [] }) (spends b)
        (λ _.
        moved o _ refl (once_with d.running _ b (b.active ++ fresh ∷ []) b.is_out b.is_spent b.counts refl
        (λ runs. links_new _ b.active fresh (links_apart d.running w o b.active n ((h.once).links runs)) (worker_link d.running w o fresh refl (inr (record { attempt = refl; start = refl; marks = refl; words = refl }))))
        (distinct_new w (c.region.opening j) b.active n (h.once).distinct)
        (facts_new b.head b.store b.text b.head w (c.region.opening j) b.active (h.once).facts) h.once))
        (λ _. moved None _ tt (spent_once d.running _ b b.is_out h.once))

    start_world : d.running w ≡ None → Started (call c.region c.capacities (Start w true) d.board)
    start_world is =
        if_cases {A = Answer σ × Board σ} Started (has_ended d.board.exit d.board.is_spent) (Ended, d.board) (starts c.region w d.board (of_worker w d.board.head d.board.active))
        (λ e. moved None d.board tt (ended_once d.running _ d.board e h.once))
        (λ _. start_once (of_worker w d.board.head d.board.active) refl is)

    -- the worker's frame y has run on to f
    module _ (y : Running σ) (is : d.running w ≡ Some y) (f : Frame σ) (same : IsSameBut y.frame f) (true_frame : IsTrue c.region.ask f) (tag : f.worker ≡ w) where
      relink : (k : Frame σ) (token : Option Token) → IsSameBut y.frame k → (x : Slot σ) → Linked (d.running w) x → Linked (Some (record { frame = k; token = token })) x
      relink k token s x l = by (subst (λ o. Linked o x) is l)
        where
          by : Linked (Some y) x → Linked (Some (record { frame = k; token = token })) x
          by (inl e) = inl (omega (arith, e.0, s.attempt), e.1)
          by (inr z) = inr (same_sync y.frame k s x z)

      goes_once : (k : Frame σ) (token : Option Token) (is_out : Bool) → IsSameBut y.frame k → IsOnce (with_running d.running w (Some (record { frame = k; token = token }))) (record d.board { is_out = is_out })
      goes_once k token is_out s = relinked d.running _ d.board is_out h.once (λ runs. links_set d.running w _ d.board.active ((h.once).links runs) (relink k token s))

      -- it is another attempt, so the slot is empty
      unlink : (x : Slot σ) → (x.attempt == f.attempt) ≡ false → Linked (d.running w) x → Empty x
      unlink x k l = by (subst (λ o. Linked o x) is l)
        where
          by : Linked (Some y) x → Empty x
          by (inl e) = e.1
          by (inr z) = absurd (false≢true (sym k ∙ subst (λ n. (x.attempt == n) ≡ true) (sym (same_sync y.frame f same x z).attempt) (eq_same x.attempt)))

      lost_once : (p : ℕ × Slot σ) → of_worker w d.board.head d.board.active ≡ Some p → (p.1.attempt == f.attempt) ≡ false → IsOnce (with_running d.running w None) d.board
      lost_once p e k = relinked d.running _ d.board d.board.is_out h.once (λ runs. of_links d.running w d.board.head None p d.board.active e (h.once).distinct ((h.once).links runs) (unlink p.1 k))

      free_once : of_worker w d.board.head d.board.active ≡ None → IsOnce (with_running d.running w None) d.board
      free_once e = relinked d.running _ d.board d.board.is_out h.once (λ runs. links_apart d.running w None d.board.active (of_none w d.board.head d.board.active e) ((h.once).links runs))

      lost : (token : Option Token) (b : Board σ) → (spends_token c w f token b).counts.abandons ≡ 0 → IsOnce (with_running d.running w None) b → OnceWorld (stops w d (spends_token c w f token b))
      lost token b n k = moved None _ tt (spends_token_once _ w f token b tag n k)

      -- load
      abbrev Loaded : Option Token → Answer σ × Board σ → Type 0
      Loaded token p = (after_load c w d f token p.0 p.1).board.counts.abandons ≡ 0 → OnceWorld (after_load c w d f token p.0 p.1)

      load_found : (token : Option Token) (a : ℕ) (next : ℤ → σ) (need : f.need ≡ ForLoad a) (asks : c.region.ask f.here ≡ Loads a next) (unwritten : look f.writes a ≡ None) (unmarked : look f.marks a ≡ None) (z : Found) → LoadKept c.region entry d.board.head d.board.store d.board.text quiet d.running w y is f same token true_frame.tracked c.capacities.marks a next need asks unwritten unmarked d.board.head z d.board.active → Runs d.board → Loaded token (board_load w f.attempt a d.board z)
      load_found token a next need asks unwritten unmarked (Known v) k runs n = absurd k
      load_found token a next need asks unwritten unmarked (New v) k runs n =
          moved (Some (record { frame = loaded c.region.ask c.capacities.marks v f; token = token })) _ (loaded_worker c.region.ask f c.capacities.marks v ∙ tag)
          (once_with d.running _ d.board (with_mark w f.attempt a v d.board.active) d.board.is_out d.board.is_spent d.board.counts refl (λ _. k.0)
          (subst Distinct (sym (mark_workers w f.attempt a v d.board.active)) (h.once).distinct) k.1 h.once)
      load_found token a next need asks unwritten unmarked MarksFull k runs n =
          let s = same_then y.frame f (holds f) same (holds_same c.region.ask f) in
          moved (Some (record { frame = holds f; token = token })) _ ((holds_same c.region.ask f).worker ∙ tag)
          (once_with d.running _ d.board d.board.active d.board.is_out d.board.is_spent _ refl (λ _. links_set d.running w _ d.board.active ((h.once).links runs) (relink (holds f) token s)) (h.once).distinct (h.once).facts h.once)
      load_found token a next need asks unwritten unmarked LoadLost k runs n = lost token d.board n (relinked d.running _ d.board d.board.is_out h.once (λ _. k))

      load_world : (token : Option Token) (a : ℕ) → f.need ≡ ForLoad a → IsNeeded c.region.ask f (ForLoad a) → Loaded token (call c.region c.capacities (Load w f.attempt a) d.board)
      load_world token a need needed =
          if_cases {A = Answer σ × Board σ} (Loaded token) (has_ended d.board.exit d.board.is_spent) (Ended, d.board) (does c.region c.capacities (Load w f.attempt a) d.board)
          (λ e n. lost token d.board n (ended_once d.running _ d.board e h.once))
          (λ runs.
          let run = runs_on c.region entry d.board.exit d.board.is_spent runs in
          load_found token a needed.0 need needed.1 needed.2 needed.3 (found c.capacities.marks w f.attempt a (d.board.store a) d.board.active)
          (load_once c.region entry d.board.head d.board.store d.board.text quiet d.running w y is f same token true_frame.tracked c.capacities.marks a needed.0 need needed.1 needed.2 needed.3 d.board.head d.board.store d.board.active (omega arith) (h.once).distinct ((h.once).links runs) (h.once).facts
          (anchored d.board d.board.active refl run true_world.board (h.once).facts) (clean d.board run true_world.board) (λ _. refl))
          runs)

      -- store
      abbrev Stored : Option Token → Answer σ × Board σ → Type 0
      Stored token p = (after_write c w d f token p.0 p.1).board.counts.abandons ≡ 0 → OnceWorld (after_write c w d f token p.0 p.1)

      store_written : (token : Option Token) (a : ℕ) (v : ℤ) (next : σ) (need : f.need ≡ ForStore a v) (asks : c.region.ask f.here ≡ Stores a v next) (z : Written) → StoreKept c.region entry d.board.head d.board.store d.board.text quiet d.running w y is f same token true_frame.tracked c.capacities.buffer a v next need asks d.board.head z d.board.active → Runs d.board → Stored token (board_store w f.attempt a v d.board z)
      store_written token a v next need asks (Restarts m had) k runs n =
          moved (Some (record { frame = stored c.region.ask c.capacities.buffer f; token = token })) _ (stored_worker c.region.ask f c.capacities.buffer ∙ tag)
          (once_with d.running _ d.board (with_write w f.attempt a v d.board.active) d.board.is_out d.board.is_spent (counts_store m had d.board.counts) (store_repeats m had d.board.counts) (λ _. k.0)
          (subst Distinct (sym (write_workers w f.attempt a v d.board.active)) (h.once).distinct) k.1 h.once)
      store_written token a v next need asks BufferFull k runs n =
          let s = same_then y.frame f (holds f) same (holds_same c.region.ask f) in
          moved (Some (record { frame = holds f; token = token })) _ ((holds_same c.region.ask f).worker ∙ tag)
          (once_with d.running _ d.board d.board.active d.board.is_out d.board.is_spent _ refl (λ _. links_set d.running w _ d.board.active ((h.once).links runs) (relink (holds f) token s)) (h.once).distinct (h.once).facts h.once)
      store_written token a v next need asks NumbersEnd k runs n = lost token _ n (spent_once d.running _ d.board d.board.is_out h.once)
      store_written token a v next need asks StoreLost k runs n = lost token d.board n (relinked d.running _ d.board d.board.is_out h.once (λ _. k))

      store_world : (token : Option Token) (a : ℕ) (v : ℤ) → f.need ≡ ForStore a v → IsNeeded c.region.ask f (ForStore a v) → Stored token (call c.region c.capacities (Write w f.attempt a v) d.board)
      store_world token a v need needed =
          if_cases {A = Answer σ × Board σ} (Stored token) (has_ended d.board.exit d.board.is_spent) (Ended, d.board) (does c.region c.capacities (Write w f.attempt a v) d.board)
          (λ e n. lost token d.board n (ended_once d.running _ d.board e h.once))
          (λ runs.
          let run = runs_on c.region entry d.board.exit d.board.is_spent runs in
          store_written token a v needed.0 need needed.1 (written c.capacities.buffer w f.attempt a v d.board.active)
          (store_once c.region entry d.board.head d.board.store d.board.text quiet d.running w y is f same token true_frame.tracked c.capacities.buffer a v needed.0 need needed.1 d.board.head d.board.active (omega arith) (h.once).distinct ((h.once).links runs) (h.once).facts
          (anchored d.board d.board.active refl run true_world.board (h.once).facts))
          runs)

      -- alive and head
      abbrev Lived : Option Token → Answer σ × Board σ → Type 0
      Lived token p = (after_alive c w d f token p.0 p.1).board.counts.abandons ≡ 0 → OnceWorld (after_alive c w d f token p.0 p.1)

      alive_once : (token : Option Token) (o : Option (ℕ × Slot σ)) → of_worker w d.board.head d.board.active ≡ o → Lived token (lives f.attempt o, d.board)
      alive_once token None e n = lost token d.board n (free_once e)
      alive_once token (Some p) e n =
          if_cases {A = Answer σ} (λ ans. Lived token (ans, d.board)) (p.1.attempt == f.attempt) Live Squashed
          (λ _ _. moved (Some (record { frame = f; token = token })) d.board tag (goes_once f token d.board.is_out same))
          (λ k m. lost token d.board m (lost_once p e k))
          n

      alive_world : (token : Option Token) → Lived token (call c.region c.capacities (Alive w f.attempt) d.board)
      alive_world token =
          if_cases {A = Answer σ × Board σ} (Lived token) (has_ended d.board.exit d.board.is_spent) (Ended, d.board) (does c.region c.capacities (Alive w f.attempt) d.board)
          (λ e n. lost token d.board n (ended_once d.running _ d.board e h.once))
          (λ _. alive_once token (of_worker w d.board.head d.board.active) refl)

      abbrev Headed : Answer σ × Board σ → Type 0
      Headed p = OnceWorld (after_head w d f p.0 p.1)

      head_once : (o : Option (ℕ × Slot σ)) → of_worker w d.board.head d.board.active ≡ o → Headed (asks_head w f.attempt d.board o)
      head_once None e = moved None d.board tt (free_once e)
      head_once (Some p) e =
          if_cases {A = Answer σ × Board σ} Headed (p.1.attempt == f.attempt) (gives_head w f.attempt p.0 d.board) (Squashed, d.board)
          (λ _. if_cases {A = Answer σ × Board σ} Headed ((p.0 == d.board.head) && not d.board.is_out) (Yours (record { worker = w; iteration = p.0; attempt = f.attempt }), record d.board { is_out = true }) (NotYet, d.board)
          (λ _. moved (Some (record { frame = f; token = Some (record { worker = w; iteration = p.0; attempt = f.attempt }) })) _ tag (goes_once f _ true same))
          (λ _. moved (Some (record { frame = f; token = None })) d.board tag (goes_once f None d.board.is_out same)))
          (λ k. moved None d.board tt (lost_once p e k))

      head_world : Headed (call c.region c.capacities (Head w f.attempt) d.board)
      head_world =
          if_cases {A = Answer σ × Board σ} Headed (has_ended d.board.exit d.board.is_spent) (Ended, d.board) (does c.region c.capacities (Head w f.attempt) d.board)
          (λ e. moved None d.board tt (ended_once d.running _ d.board e h.once))
          (λ _. head_once (of_worker w d.board.head d.board.active) refl)

      -- settle
      abbrev SettleKept : Answer σ × Board σ → Type 0
      SettleKept (Again t k, b) = IsOnce (with_running d.running w (Some (record { frame = k; token = Some t }))) b × (k.worker ≡ w)
      SettleKept (NotThisFrame, b) = IsOnce d.running b
      SettleKept (_, b) = IsOnce (with_running d.running w None) b

      module _ (t : Token) (x : Slot σ) (later : List (Slot σ)) (e : d.board.active ≡ x ∷ later) (runs : Runs d.board) (mine : x.worker ≡ w) where
        rest_distinct : Distinct (workers (x ∷ later))
        rest_distinct = subst (λ l. Distinct (workers l)) e (h.once).distinct

        rest_links : (o : Option (Running σ)) → Links (with_running d.running w o) later
        rest_links o = links_apart d.running w o later (subst (λ v. Apart v (workers later)) mine rest_distinct.0) (subst (Links d.running) e ((h.once).links runs)).1

        slot_facts : FactsOf d.board (x ∷ later)
        slot_facts = subst (FactsOf d.board) e (h.once).facts

        commits_once : (q : σ) (text : List ℕ) → SettleKept (commits d.board t x later q text)
        commits_once q text =
            let b = d.board in
            let committed : Slot σ = record x { start = q; marks = []; buffer = [] } in
            let o : Option (Running σ) = Some (record { frame = begins x.worker b.head x.attempt q; token = Some t }) in (
              record {
                links = λ _. (worker_link d.running w o committed mine (inr (record { attempt = refl; start = refl; marks = refl; words = refl })), rest_links o);
                distinct = rest_distinct;
                facts = (
                  λ z. record { once = (slot_facts.0 z).once; marks = λ a v m k. absurd (cc); words = λ a v k. absurd (cc) },
                  facts_later c.region entry b.head b.head b.store (overlay x.buffer b.store) b.text text (suc b.head) later (omega arith) slot_facts.1,
                );
                repeats = (h.once).repeats;
              },
              mine,
            )

        ends_once : (exit : Exit) → SettleKept (ends d.board x later exit)
        ends_once exit = record { links = λ _. tt; distinct = tt; facts = tt; repeats = (h.once).repeats }

        passes_once : SettleKept (passes d.board x later)
        passes_once =
            let b = d.board in
            let u = overlay x.buffer b.store in
            let run = runs_on c.region entry b.exit b.is_spent runs in
            let once : x.attempt ≡ 1 = (slot_facts.0 (_, b.store, b.text, head_comes b run true_world.board)).once in
            let none : b.counts.repeats ≡ 0 = (h.once).repeats in
            let one_more : suc b.head ≡ b.head + 1 = omega arith in
            if_cases {A = Answer σ × Board σ} SettleKept (nat_lt (b.head + 1) (2 ^ 64)) _ (spends (record b { is_out = false }))
            (λ _. record {
              links = λ _. rest_links None;
              distinct = rest_distinct.1;
              facts = subst (λ n. Facts c.region entry n u b.text n later) one_more (facts_later c.region entry b.head (suc b.head) b.store u b.text b.text (suc b.head) later (omega arith) slot_facts.1);
              repeats = omega (arith, once, none);
            })
            (λ _. spent_once d.running _ b false h.once)

        ask_once : (ask : Ask σ) → SettleKept (settles_ask c.region d.board t f x later ask)
        ask_once (Goes q) = commits_once f.here d.board.text
        ask_once (Loads a q) = commits_once f.here d.board.text
        ask_once (Stores a v q) = commits_once f.here d.board.text
        ask_once (Prints bytes q full) =
            if_cases {A = Answer σ × Board σ} SettleKept (has_room_for c.region d.board.text bytes) (commits d.board t x later q (d.board.text ++ bytes)) (ends d.board x later (Faulted full))
            (λ _. commits_once q (d.board.text ++ bytes))
            (λ _. ends_once (Faulted full))
        ask_once TurnEnds = passes_once
        ask_once Leaves = ends_once Left
        ask_once (Returns v) = ends_once (Returned v)
        ask_once (Faults fault) = ends_once (Faulted fault)

        need_once : (need : Need) → SettleKept (settles_need c.region d.board t f x later need)
        need_once Nothing = commits_once f.here d.board.text
        need_once (ForLoad a) = commits_once f.here d.board.text
        need_once (ForStore a v) = commits_once f.here d.board.text
        need_once ForHead = ask_once (c.region.ask f.here)
        need_once Held = commits_once f.here d.board.text

      refuses_once : SettleKept (refuses d.board)
      refuses_once = relinked d.running d.running d.board false h.once (h.once).links

      settles_once : (t : Token) (xs : List (Slot σ)) → d.board.active ≡ xs → Runs d.board → SettleKept (settles c.region d.board t f true xs)
      settles_once t [] e runs = refuses_once
      settles_once t (x ∷ later) e runs =
          if_cases {A = Answer σ × Board σ} SettleKept (true && is_of_slot c.region d.board.head t f x) (settles_need c.region d.board t f x later f.need) (refuses d.board)
          (λ k. need_once t x later e runs (sym (settler t f x d.board.head _ k) ∙ tag) f.need)
          (λ _. refuses_once)

      settle_once : (t : Token) → SettleKept (call c.region c.capacities (Settle t f true) d.board)
      settle_once t =
          if_cases {A = Answer σ × Board σ} SettleKept (has_ended d.board.exit d.board.is_spent) (Ended, d.board) (settles c.region d.board t f true d.board.active)
          (λ e. ended_once d.running _ d.board e h.once)
          (λ runs. settles_once t d.board.active refl runs)

      settle_moved : (p : Answer σ × Board σ) → SettleKept p → (after_settle c w d p.0 p.1).board.counts.abandons ≡ 0 → OnceWorld (after_settle c w d p.0 p.1)
      settle_moved (Again t k, b) kept n = moved (Some (record { frame = k; token = Some t })) b kept.1 kept.0
      settle_moved (NotThisFrame, b) kept n =
          let k = abandon_once d.running w b kept n in
          let after = board_after (call c.region c.capacities (Abandon w) b) in
          moved None after tt (relinked d.running _ after after.is_out k.0 (λ runs. links_apart d.running w None after.active (k.1 runs) ((k.0).links runs)))
      settle_moved (_, b) kept n = moved None b tt kept

      head_or_settle : (token : Option Token) → (at_head c w d f token).board.counts.abandons ≡ 0 → OnceWorld (at_head c w d f token)
      head_or_settle (Some t) n = settle_moved (call c.region c.capacities (Settle t f true) d.board) (settle_once t) n
      head_or_settle None n = head_world

      stop_world : (token : Option Token) (need : Need) → f.need ≡ need → IsNeeded c.region.ask f need → (at_stop c w d f token need).board.counts.abandons ≡ 0 → OnceWorld (at_stop c w d f token need)
      stop_world token (ForLoad a) e needed n = load_world token a e needed n
      stop_world token (ForStore a v) e needed n = store_world token a v e needed n
      stop_world token ForHead e needed n = head_or_settle token n
      stop_world token Held e needed n = head_or_settle token n
      stop_world token Nothing e needed n = alive_world token n

    entry_world : (o : Option (Running σ)) → d.running w ≡ o → RunsTrue c o → (entry_of c w d o).board.counts.abandons ≡ 0 → OnceWorld (entry_of c w d o)
    entry_world None is t n = start_world is
    entry_world (Some y) is t n =
        let f = stretch c.region.ask c.limit y.frame in
        let same = stretch_same c.region.ask y.frame c.limit in
        let k = stretch_true c.region.ask c.limit y.frame t in
        stop_world y is f same k (same.worker ∙ subst (Tagged w) is (h.tags w)) y.token f.need refl k.needed n

  replayed_once : (ws : List ℕ) (d : World σ) → IsTrueWorld c entry d → (d.board.counts.abandons ≡ 0 → OnceWorld d) → (replayed c ws d).board.counts.abandons ≡ 0 → OnceWorld (replayed c ws d)
  replayed_once [] d t h n = h n
  replayed_once (w ∷ ws) d t h n =
      replayed_once ws (entry_of c w d (d.running w)) (entry_kept c entry w d t (d.running w) (t.frames w))
      (λ after. entry_world w d t (h (entry_none c w d (d.running w) after)) (d.running w) refl (t.frames w) after)
      n

  opened_once : OnceWorld (world_at entry)
  opened_once = record { tags = λ w. tt; once = record { links = λ _. tt; distinct = tt; facts = tt; repeats = refl } }

  attempts_are_one : (head : ℕ) (s : Store) (text : List ℕ) (j : ℕ) (xs : List (Slot σ)) → Facts c.region entry head s text j xs → AttemptsAreOne c.region entry j xs
  attempts_are_one head s text j [] f = tt
  attempts_are_one head s text j (x ∷ xs) f = ((λ b. (f.0 b).once), attempts_are_one head s text (suc j) xs f.1)

  marks_are_of_entry : (head : ℕ) (s : Store) (text : List ℕ) (j : ℕ) (xs : List (Slot σ)) → Facts c.region entry head s text j xs → MarksAreOfEntry c.region entry head s text j xs
  marks_are_of_entry head s text j [] f = tt
  marks_are_of_entry head s text j (x ∷ xs) f = ((λ b z a v k. sym ((f.0 b).marks a v z k).1), marks_are_of_entry head s text (suc j) xs f.1)

  module _ (ws : List ℕ) (n : (replayed c ws (world_at entry)).board.counts.abandons ≡ 0) where
    at_last : IsOnce (replayed c ws (world_at entry)).running (replayed c ws (world_at entry)).board
    at_last = (replayed_once ws (world_at entry) (record { board = opened_sound c.region entry; frames = λ w. tt }) (λ _. opened_once) n).once

    pub one_attempt : AttemptsAreOne c.region entry (replayed c ws (world_at entry)).board.head (replayed c ws (world_at entry)).board.active
    one_attempt = attempts_are_one _ _ _ _ _ (at_last).facts

    pub no_repeats : (replayed c ws (world_at entry)).board.counts.repeats ≡ 0
    no_repeats = (at_last).repeats

    pub entrys_marks : (let b = (replayed c ws (world_at entry)).board in MarksAreOfEntry c.region entry b.head b.store b.text b.head b.active)
    entrys_marks = marks_are_of_entry _ _ _ _ _ (at_last).facts
