-- Each call keeps the board sound, and so do all.
use Rattle.std.proofs.Common.{◌≡◌, ℕ, zero, suc, ◌+◌, ◌^◌, ℤ, Bool, true, false, ◌&&◌, ◌==◌, not, List, [], ◌∷◌, ◌++◌, length, Option, Some, None, refl, sym, ap, ◌∙◌, subst, arith}
use Rattle.std.specs.Prelude.{if◌then◌else◌, nat_lt}
use Rattle.hx_tree.specs.declared.outcome.Counts.{Counts}
use Rattle.hx_code.specs.declared.word.Exit.{Exit}
use Rattle.hx_code.specs.declared.word.Exit.TheVariants.{Left, Returned, Faulted}
use Rattle.hx_code.specs.Region.{held}
use Rattle.hx_speculation.specs.Iteration.{Store, overlay, Agrees, Ask, Goes, Loads, Stores, Prints, TurnEnds, Leaves, Returns, Faults}
use Rattle.hx_speculation.specs.Region.{Region, Going, Over, has_room_for, does as gives, Comes}
use Rattle.hx_speculation.specs.Frame.{Frame, IsTracked, Need, Nothing, ForLoad, ForStore, ForHead, Held}
use Rattle.hx_speculation.specs.Slots.{Slot, first_attempt, of_worker, may_restart, Found, Known, New, MarksFull, LoadLost, found, with_mark, Written, Restarts, BufferFull, NumbersEnd, StoreLost, written, with_write, from_worker, restarted_from}
use Rattle.hx_speculation.specs.Board.{Board, Capacities, Token, Call, Start, Load, Write, Head, Alive, Settle, Abandon, Answer, NotYet, Squashed, NotThisFrame, Ended, spends, next_iteration, starts, after_load, counts_store, after_store, gives_head, asks_head, is_of_slot, commits, ends, passes, settles_ask, settles_need, refuses, settles, abandons, does, has_ended, call, after, opened}
use Rattle.hx_speculation.specs.Sound.{head_start, AreOpening, RestIsOpening, MarksAreSeen, starts_of, shown, IsSound, HasTrackedFrame, HaveTrackedFrames}
use Rattle.hx_speculation.proofs.Stores.{if_cases, and_left, and_right, same_table_holds, agrees_nil}
use Rattle.hx_speculation.proofs.Steps.{comes_on, went_comes}
use Rattle.hx_speculation.proofs.Slots.{mark_kept, write_kept, abandon_kept, new_seen, rest_new, head_new}

-- the same regions and whole turns were counted
pub record CountsSame (c d : Counts) : Type 0 where
  pub turns : c.turns ≡ d.turns
  pub regions : c.regions ≡ d.regions

as_counted : (c : Counts) → CountsSame c c
as_counted c = record { turns = refl; regions = refl }

store_same : (n : ℕ) (had : Bool) (c : Counts) → CountsSame (counts_store n had c) c
store_same zero false c = as_counted c
store_same zero true c = record { turns = refl; regions = refl }
store_same (suc n) had c = record { turns = refl; regions = refl }

held_next : (k : ℕ) → held (held k + 1) ≡ held (suc k)
held_next k = omega arith

module _ {σ : Type 0} (r : Region σ) (entry : Store) where
  -- after a call, the board is sound
  abbrev SoundAfter : Answer σ × Board σ → Type 0
  SoundAfter p = IsSound r entry p.1

  -- a board with other active iterations, whose head stands where it stood
  shown_with : (b c : Board σ) (e : Option Exit) → c.head ≡ b.head → c.store ≡ b.store → c.text ≡ b.text → head_start r b.head (starts_of c.active) ≡ head_start r b.head (starts_of b.active) → Comes r entry (shown r b e) → Comes r entry (shown r c e)
  shown_with b c None h s t q p = let same : shown r b None ≡ shown r c None = cc (h, s, t, q) in subst (Comes r entry) same p
  shown_with b c (Some x) h s t q p = let same : shown r b (Some x) ≡ shown r c (Some x) = cc (h, s, t) in subst (Comes r entry) same p

  sound_with : (b : Board σ) (xs : List (Slot σ)) (is_out is_spent : Bool) (counts : Counts) → CountsSame counts b.counts → IsSound r entry b → head_start r b.head (starts_of xs) ≡ head_start r b.head (starts_of b.active) → RestIsOpening r b.head (starts_of xs) → MarksAreSeen b.store xs → IsSound r entry (record b { active = xs; is_out = is_out; is_spent = is_spent; counts = counts })
  sound_with b xs is_out is_spent counts same h e n m =
      record {
        prefix = shown_with b (record b { active = xs; is_out = is_out; is_spent = is_spent; counts = counts }) b.exit refl refl refl e h.prefix;
        marks = m;
        rest = n;
        turns = same.turns ∙ h.turns;
        regions = same.regions ∙ h.regions;
      }

  -- the same starts
  sound_same : (b : Board σ) (xs : List (Slot σ)) (is_out is_spent : Bool) (counts : Counts) → CountsSame counts b.counts → IsSound r entry b → starts_of xs ≡ starts_of b.active → MarksAreSeen b.store xs → IsSound r entry (record b { active = xs; is_out = is_out; is_spent = is_spent; counts = counts })
  sound_same b xs is_out is_spent counts same h e m =
      sound_with b xs is_out is_spent counts same h (ap (head_start r b.head) e) (subst (RestIsOpening r b.head) (sym e) h.rest) m

  -- nothing that matters changes
  sound_but : (b : Board σ) (is_out is_spent : Bool) (counts : Counts) → CountsSame counts b.counts → IsSound r entry b → IsSound r entry (record b { is_out = is_out; is_spent = is_spent; counts = counts })
  sound_but b is_out is_spent counts same h = sound_same b b.active is_out is_spent counts same h refl h.marks

  start_sound : (w : ℕ) (b : Board σ) (p : Option (ℕ × Slot σ)) → IsSound r entry b → SoundAfter (starts r w b p)
  start_sound w b (Some p) h = h
  start_sound w b None h =
      if_cases {A = Answer σ × Board σ} SoundAfter (nat_lt (next_iteration b) (2 ^ 64)) _ (spends b)
      (λ _. sound_with b (b.active ++ first_attempt w (r.opening (b.head + length b.active)) ∷ []) b.is_out b.is_spent b.counts (as_counted b.counts) h
      (head_new r b.head w b.active) (rest_new r b.head w b.active h.rest) (new_seen b.store w _ b.active h.marks))
      (λ _. sound_but b b.is_out true b.counts (as_counted b.counts) h)

  load_sound : (capacity w attempt a : ℕ) (b : Board σ) (f : Found) → found capacity w attempt a (b.store a) b.active ≡ f → IsSound r entry b → SoundAfter (after_load w attempt a b f)
  load_sound capacity w attempt a b (Known v) e h = h
  load_sound capacity w attempt a b (New v) e h =
      let k = mark_kept capacity w attempt a v b.store b.active e h.marks in
      sound_same b (with_mark w attempt a v b.active) b.is_out b.is_spent b.counts (as_counted b.counts) h k.0 k.1
  load_sound capacity w attempt a b MarksFull e h = sound_but b b.is_out b.is_spent _ (record { turns = refl; regions = refl }) h
  load_sound capacity w attempt a b LoadLost e h = h

  store_sound : (w attempt a : ℕ) (v : ℤ) (b : Board σ) (z : Written) → IsSound r entry b → SoundAfter (after_store w attempt a v b z)
  store_sound w attempt a v b (Restarts n had) h =
      let k = write_kept w attempt a v b.store b.active h.marks in
      sound_same b (with_write w attempt a v b.active) b.is_out b.is_spent _ (store_same n had b.counts) h k.0 k.1
  store_sound w attempt a v b BufferFull h = sound_but b b.is_out b.is_spent _ (record { turns = refl; regions = refl }) h
  store_sound w attempt a v b NumbersEnd h = sound_but b b.is_out true b.counts (as_counted b.counts) h
  store_sound w attempt a v b StoreLost h = h

  head_sound : (w attempt : ℕ) (b : Board σ) (p : Option (ℕ × Slot σ)) → IsSound r entry b → SoundAfter (asks_head w attempt b p)
  head_sound w attempt b None h = h
  head_sound w attempt b (Some p) h =
      if_cases {A = Answer σ × Board σ} SoundAfter (p.1.attempt == attempt) (gives_head w attempt p.0 b) (Squashed, b)
      (λ _. if_cases {A = Answer σ × Board σ} SoundAfter ((p.0 == b.head) && not b.is_out) _ (NotYet, b) (λ _. sound_but b true b.is_spent b.counts (as_counted b.counts) h) (λ _. h))
      (λ _. h)

  -- ---- settle

  shown_running : (b : Board σ) (e : Option Exit) → e ≡ None → Comes r entry (shown r b None) → Comes r entry (shown r b e)
  shown_running b e h p = subst (λ o. Comes r entry (shown r b o)) (sym h) p

  commits_sound : (b : Board σ) (t : Token) (x : Slot σ) (later : List (Slot σ)) (q : σ) (text : List ℕ) → b.exit ≡ None → IsSound r entry b → Comes r entry (Going q (overlay x.buffer b.store) text b.head) → MarksAreSeen (overlay x.buffer b.store) later → AreOpening r (suc b.head) (starts_of later) → SoundAfter (commits b t x later q text)
  commits_sound b t x later q text run h c m o =
      record {
        prefix = shown_running (commits b t x later q text).1 b.exit run c;
        marks = (agrees_nil (overlay x.buffer b.store), m);
        rest = o;
        turns = h.turns;
        regions = h.regions;
      }

  ends_sound : (b : Board σ) (x : Slot σ) (later : List (Slot σ)) (e : Exit) → IsSound r entry b → Comes r entry (Over e (overlay x.buffer b.store) b.text b.head) → SoundAfter (ends b x later e)
  ends_sound b x later e h c = record { prefix = c; marks = tt; rest = tt; turns = h.turns; regions = h.regions }

  next_start : (j : ℕ) (qs : List σ) → AreOpening r j qs → r.opening j ≡ head_start r j qs
  next_start j [] o = refl
  next_start j (q ∷ qs) o = sym o.0

  next_rest : (j : ℕ) (qs : List σ) → AreOpening r j qs → RestIsOpening r j qs
  next_rest j [] o = tt
  next_rest j (q ∷ qs) o = o.1

  -- the board once a turn is whole
  abbrev passed : Board σ → Slot σ → List (Slot σ) → Counts → Board σ
  passed b x later counts = record b { head = suc b.head; active = later; store = overlay x.buffer b.store; is_out = false; counts = counts }

  passed_sound : (b : Board σ) (x : Slot σ) (later : List (Slot σ)) (counts : Counts) → counts.turns ≡ held (suc b.head) → counts.regions ≡ 1 → b.exit ≡ None → Comes r entry (Going (r.opening (suc b.head)) (overlay x.buffer b.store) b.text (suc b.head)) → MarksAreSeen (overlay x.buffer b.store) later → AreOpening r (suc b.head) (starts_of later) → IsSound r entry (passed b x later counts)
  passed_sound b x later counts turns regions run c m o =
      record {
        prefix = shown_running (passed b x later counts) b.exit run (subst (λ q. Comes r entry (Going q (overlay x.buffer b.store) b.text (suc b.head))) (next_start (suc b.head) (starts_of later) o) c);
        marks = m;
        rest = next_rest (suc b.head) (starts_of later) o;
        turns = turns;
        regions = regions;
      }

  plus_one : (b : Board σ) (n : ℕ) → n ≡ suc b.head → (x : Slot σ) (later : List (Slot σ)) (counts : Counts) → IsSound r entry (passed b x later counts) → IsSound r entry (record b { head = n; active = later; store = overlay x.buffer b.store; is_out = false; counts = counts })
  plus_one b n e x later counts h = subst (λ k. IsSound r entry (record b { head = k; active = later; store = overlay x.buffer b.store; is_out = false; counts = counts })) (sym e) h

  passes_sound : (b : Board σ) (x : Slot σ) (later : List (Slot σ)) → b.exit ≡ None → IsSound r entry b → Comes r entry (Going (r.opening (suc b.head)) (overlay x.buffer b.store) b.text (suc b.head)) → MarksAreSeen (overlay x.buffer b.store) later → AreOpening r (suc b.head) (starts_of later) → SoundAfter (passes b x later)
  passes_sound b x later run h c m o =
      if_cases {A = Answer σ × Board σ} SoundAfter (nat_lt (b.head + 1) (2 ^ 64)) _ (spends (record b { is_out = false }))
      (λ _. plus_one b (b.head + 1) (omega arith) x later _ (passed_sound b x later _ (ap (λ n. held (n + 1)) h.turns ∙ held_next b.head) h.regions run c m o))
      (λ _. sound_but b false true b.counts (as_counted b.counts) h)

  -- what the head waits with, from the state that its frame and the board have come to
  ask_sound : (b : Board σ) (t : Token) (f : Frame σ) (x : Slot σ) (later : List (Slot σ)) (ask : Ask σ) → b.exit ≡ None → IsSound r entry b → Comes r entry (Going f.here (overlay x.buffer b.store) b.text b.head) → Comes r entry (gives r ask (overlay x.buffer b.store) b.text b.head) → MarksAreSeen (overlay x.buffer b.store) later → AreOpening r (suc b.head) (starts_of later) → SoundAfter (settles_ask r b t f x later ask)
  ask_sound b t f x later (Goes q) run h here c m o = commits_sound b t x later f.here b.text run h here m o
  ask_sound b t f x later (Loads a q) run h here c m o = commits_sound b t x later f.here b.text run h here m o
  ask_sound b t f x later (Stores a v q) run h here c m o = commits_sound b t x later f.here b.text run h here m o
  ask_sound b t f x later (Prints bytes q full) run h here c m o = print_sound (has_room_for r b.text bytes) c
    where
      print_sound : (room : Bool) → Comes r entry (if room then Going q (overlay x.buffer b.store) (b.text ++ bytes) b.head else Over (Faulted full) (overlay x.buffer b.store) b.text b.head) → IsSound r entry (if room then commits b t x later q (b.text ++ bytes) else ends b x later (Faulted full)).1
      print_sound true c = commits_sound b t x later q (b.text ++ bytes) run h c m o
      print_sound false c = ends_sound b x later (Faulted full) h c
  ask_sound b t f x later TurnEnds run h here c m o = passes_sound b x later run h c m o
  ask_sound b t f x later Leaves run h here c m o = ends_sound b x later Left h c
  ask_sound b t f x later (Returns v) run h here c m o = ends_sound b x later (Returned v) h c
  ask_sound b t f x later (Faults e) run h here c m o = ends_sound b x later (Faulted e) h c

  need_sound : (b : Board σ) (t : Token) (f : Frame σ) (x : Slot σ) (later : List (Slot σ)) (need : Need) → b.exit ≡ None → IsSound r entry b → Comes r entry (Going f.here (overlay x.buffer b.store) b.text b.head) → MarksAreSeen (overlay x.buffer b.store) later → AreOpening r (suc b.head) (starts_of later) → SoundAfter (settles_need r b t f x later need)
  need_sound b t f x later Nothing run h here m o = commits_sound b t x later f.here b.text run h here m o
  need_sound b t f x later (ForLoad a) run h here m o = commits_sound b t x later f.here b.text run h here m o
  need_sound b t f x later (ForStore a v) run h here m o = commits_sound b t x later f.here b.text run h here m o
  need_sound b t f x later Held run h here m o = commits_sound b t x later f.here b.text run h here m o
  need_sound b t f x later ForHead run h here m o = ask_sound b t f x later (r.ask f.here) run h here (comes_on r entry _ _ 1 here refl) m o

  -- the head's frame is tracked, so the plain region comes to where it stands
  settled_here : (b : Board σ) (f : Frame σ) (x : Slot σ) → IsTracked r.ask f → f.start ≡ x.start → f.marks ≡ x.marks → f.writes ≡ x.buffer → Agrees b.store x.marks → Comes r entry (Going x.start b.store b.text b.head) → Comes r entry (Going f.here (overlay x.buffer b.store) b.text b.head)
  settled_here b f x tracked e m w g c =
      let by = tracked.by b.store (subst (Agrees b.store) (sym m) g) in
      let from = subst (λ q. Comes r entry (Going q b.store b.text b.head)) (sym e) c in
      subst (λ t. Comes r entry (Going f.here (overlay t b.store) b.text b.head)) w (went_comes r entry f.writes by.0 f.start b.store f.here (overlay f.writes b.store) b.text b.head by.1 from)

  settle_sound : (b : Board σ) (t : Token) (f : Frame σ) (is_own : Bool) (xs : List (Slot σ)) → b.active ≡ xs → b.exit ≡ None → (is_own ≡ true → IsTracked r.ask f) → IsSound r entry b → SoundAfter (settles r b t f is_own xs)
  settle_sound b t f is_own [] e run tracked s = sound_but b false b.is_spent b.counts (as_counted b.counts) s
  settle_sound b t f is_own (x ∷ later) e run tracked s =
      let marks : MarksAreSeen b.store (x ∷ later) = subst (MarksAreSeen b.store) e s.marks in
      let rest : RestIsOpening r b.head (starts_of (x ∷ later)) = subst (λ l. RestIsOpening r b.head (starts_of l)) e s.rest in
      let prefix : Comes r entry (Going x.start b.store b.text b.head) = subst (λ l. Comes r entry (Going (head_start r b.head (starts_of l)) b.store b.text b.head)) e (subst (λ o. Comes r entry (shown r b o)) run s.prefix) in
      if_cases {A = Answer σ × Board σ} SoundAfter (is_own && is_of_slot r b.head t f x) (settles_need r b t f x later f.need) (refuses b)
      (λ fit.
      let own = and_left is_own _ fit in
      let same = and_right _ _ (and_right is_own _ fit) in
      let tables = and_right _ _ same in
      let here = settled_here b f x (tracked own) (r.same_holds _ _ (and_left _ _ same)) (same_table_holds _ _ (and_left _ _ tables)) (same_table_holds _ _ (and_right _ _ tables)) marks.0 prefix in
      need_sound b t f x later f.need run s here marks.1 rest)
      (λ _. sound_but b false b.is_spent b.counts (as_counted b.counts) s)

  abandon_sound : (w : ℕ) (b : Board σ) (p : Option (ℕ × Slot σ)) → IsSound r entry b → SoundAfter (abandons w b p)
  abandon_sound w b None h = h
  abandon_sound w b (Some p) h =
      let k = abandon_kept w b.store b.active h.marks in
      if_cases {A = Answer σ × Board σ} SoundAfter (may_restart (from_worker w b.active)) _ (spends b)
      (λ _. sound_same b (restarted_from w b.active) b.is_out b.is_spent _ (record { turns = refl; regions = refl }) h k.0 k.1)
      (λ _. sound_but b b.is_out true b.counts (as_counted b.counts) h)

  does_sound : (caps : Capacities) (c : Call σ) (b : Board σ) → b.exit ≡ None → HasTrackedFrame r c → IsSound r entry b → SoundAfter (does r caps c b)
  does_sound caps (Start w is_own) b run t h =
      if_cases {A = Answer σ × Board σ} SoundAfter is_own (starts r w b (of_worker w b.head b.active)) (NotThisFrame, b) (λ _. start_sound w b (of_worker w b.head b.active) h) (λ _. h)
  does_sound caps (Load w attempt a) b run t h = load_sound caps.marks w attempt a b (found caps.marks w attempt a (b.store a) b.active) refl h
  does_sound caps (Write w attempt a v) b run t h = store_sound w attempt a v b (written caps.buffer w attempt a v b.active) h
  does_sound caps (Head w attempt) b run t h = head_sound w attempt b (of_worker w b.head b.active) h
  does_sound caps (Alive w attempt) b run t h = h
  does_sound caps (Settle token f is_own) b run t h = settle_sound b token f is_own b.active refl run t h
  does_sound caps (Abandon w) b run t h = abandon_sound w b (of_worker w b.head b.active) h

  pub runs_on : (e : Option Exit) (is_spent : Bool) → has_ended e is_spent ≡ false → e ≡ None
  runs_on None is_spent h = refl
  runs_on (Some x) is_spent h = absurd (cc)

  pub call_sound : (caps : Capacities) (c : Call σ) (b : Board σ) → HasTrackedFrame r c → IsSound r entry b → SoundAfter (call r caps c b)
  call_sound caps c b t h =
      if_cases {A = Answer σ × Board σ} SoundAfter (has_ended b.exit b.is_spent) (Ended, b) (does r caps c b) (λ _. h) (λ runs. does_sound caps c b (runs_on b.exit b.is_spent runs) t h)

  pub calls_sound : (caps : Capacities) (cs : List (Call σ)) (b : Board σ) → HaveTrackedFrames r cs → IsSound r entry b → IsSound r entry (after r caps cs b)
  calls_sound caps [] b t h = h
  calls_sound caps (c ∷ cs) b t h = calls_sound caps cs (call r caps c b).1 t.1 (call_sound caps c b t.0 h)

  pub opened_sound : IsSound r entry (opened entry)
  opened_sound = record { prefix = (0, refl); marks = tt; rest = tt; turns = refl; regions = refl }
