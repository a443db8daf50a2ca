-- What calls on a board do to a token that is out.
use Rattle.std.proofs.Common.{◌≡◌, ◌≢◌, ℕ, zero, suc, ◌+◌, ◌^◌, ◌≤◌, ℤ, List, [], ◌∷◌, ◌++◌, length, Option, Some, None, Bool, true, false, ◌&&◌, not, refl, ap, sym, subst, ◌∙◌, arith}
use Rattle.std.specs.Prelude.{◌==◌, nat_lt, map, if◌then◌else◌}
use Rattle.std.proofs.lemmas.Bool.{false≢true, eqb-true, eq-eqb, and_parts}
use Rattle.hx_code.specs.declared.word.Exit.TheVariants.{Faulted}
use Rattle.hx_code.specs.declared.word.Exit.{Exit}
use Rattle.hx_code.specs.Local.{LocalView}
use Rattle.hx_code.specs.Region.{held}
use Rattle.hx_speculation.specs.Iteration.{Ask, Goes, Loads, Stores, Prints, TurnEnds, Leaves, Returns, Faults}
use Rattle.hx_speculation.specs.Region.{Region, has_room_for}
use Rattle.hx_speculation.specs.Frame.{Frame, Need, Nothing, ForLoad, ForStore, ForHead, Held}
use Rattle.hx_speculation.specs.Slots.{Slot, of_worker, Found, Known, New, MarksFull, LoadLost, found, Written, Restarts, BufferFull, NumbersEnd, StoreLost, written, from_worker, restarted, restarted_from, may_restart}
use Rattle.hx_speculation.specs.Board.{Board, Capacities, Token, Call, Start, Load, Write, Head, Alive, Settle, Abandon, Answer, Go, Value, Done, Full, Yours, NotYet, Live, Again, Passed, Squashed, NotThisFrame, Ended, spends, next_iteration, starts_next, starts, after_load, after_store, gives_head, asks_head, is_of_slot, commits, ends, passes, settles_ask, settles_need, refuses, settles, abandons, does, has_ended, call}
use Rattle.hx_speculation.proofs.Stores.{if_cases}
use Rattle.hx_trace.specs.Tokens.{AtLeast, IsOutOf}
use Rattle.hx_trace.proofs.Attempts.{least_mark, least_write, least_abandon, least_last}

abbrev pub Step : Type 0
Step = Answer LocalView × Board LocalView

module _ (r : Region LocalView) (caps : Capacities) (t : Token) (b : Board LocalView) (k : IsOutOf b t) where
  abbrev StaysOut : Step → Type 0
  StaysOut p = IsOutOf p.1 t

  -- a call of a board that hasn't ended
  by_call : (c : Call LocalView) → (has_ended b.exit b.is_spent ≡ false → StaysOut (does r caps c b)) → StaysOut (call r caps c b)
  by_call c f = if_cases StaysOut (has_ended b.exit b.is_spent) (Ended, b) (does r caps c b) (λ _. k) f

  past_numbers : has_ended b.exit b.is_spent ≡ false → StaysOut (spends b)
  past_numbers e = record { out = λ _. k.out e; least = k.least }

  load_out : (w attempt a : ℕ) (f : Found) → StaysOut (after_load w attempt a b f)
  load_out w attempt a (Known v) = k
  load_out w attempt a (New v) = record { out = k.out; least = least_mark t.attempt t.worker b.head w attempt a v b.active k.least }
  load_out w attempt a MarksFull = record { out = k.out; least = k.least }
  load_out w attempt a LoadLost = k

  pub out_load : (w attempt a : ℕ) → StaysOut (call r caps (Load w attempt a) b)
  out_load w attempt a = by_call (Load w attempt a) (λ _. load_out w attempt a (found caps.marks w attempt a (b.store a) b.active))

  store_out : (w attempt a : ℕ) (v : ℤ) (x : Written) → has_ended b.exit b.is_spent ≡ false → StaysOut (after_store w attempt a v b x)
  store_out w attempt a v (Restarts n had) e = record { out = k.out; least = least_write t.attempt t.worker b.head w attempt a v b.active k.least }
  store_out w attempt a v BufferFull e = record { out = k.out; least = k.least }
  store_out w attempt a v NumbersEnd e = past_numbers e
  store_out w attempt a v StoreLost e = k

  pub out_store : (w attempt a : ℕ) (v : ℤ) → StaysOut (call r caps (Write w attempt a v) b)
  out_store w attempt a v = by_call (Write w attempt a v) (store_out w attempt a v (written caps.buffer w attempt a v b.active))

  pub out_alive : (w attempt : ℕ) → StaysOut (call r caps (Alive w attempt) b)
  out_alive w attempt = by_call (Alive w attempt) (λ _. k)

  start_out : (w : ℕ) → w ≢ t.worker → (o : Option (ℕ × Slot LocalView)) → has_ended b.exit b.is_spent ≡ false → StaysOut (starts r w b o)
  start_out w other (Some p) e = k
  start_out w other None e =
      if_cases StaysOut (nat_lt (next_iteration b) (2 ^ 64)) _ (spends b) (λ _. record { out = k.out; least = least_last t.attempt t.worker b.head w (r.opening (next_iteration b)) b.active other k.least }) (λ _. past_numbers e)

  pub out_start : (w : ℕ) → w ≢ t.worker → StaysOut (call r caps (Start w true) b)
  out_start w other = by_call (Start w true) (start_out w other (of_worker w b.head b.active))

  abandon_out : (w : ℕ) (o : Option (ℕ × Slot LocalView)) → has_ended b.exit b.is_spent ≡ false → StaysOut (abandons w b o)
  abandon_out w None e = k
  abandon_out w (Some p) e =
      if_cases StaysOut (may_restart (from_worker w b.active)) _ (spends b) (λ _. record { out = k.out; least = least_abandon t.attempt t.worker b.head w b.active k.least }) (λ _. past_numbers e)

  pub out_abandon : (w : ℕ) → StaysOut (call r caps (Abandon w) b)
  out_abandon w = by_call (Abandon w) (abandon_out w (of_worker w b.head b.active))

  -- asking for the head: no second token
  abbrev GivesNone : Answer LocalView → Type 0
  GivesNone (Yours u) = ⊥
  GivesNone (Go f) = Unit {0}
  GivesNone (Value v) = Unit {0}
  GivesNone Done = Unit {0}
  GivesNone Full = Unit {0}
  GivesNone NotYet = Unit {0}
  GivesNone Live = Unit {0}
  GivesNone (Again u f) = Unit {0}
  GivesNone Passed = Unit {0}
  GivesNone Squashed = Unit {0}
  GivesNone NotThisFrame = Unit {0}
  GivesNone Ended = Unit {0}

  abbrev OnlyOne : Step → Type 0
  OnlyOne p = GivesNone p.0 × IsOutOf p.1 t

  none_given : (w attempt j : ℕ) → b.is_out ≡ true → OnlyOne (gives_head w attempt j b)
  none_given w attempt j e =
      if_cases OnlyOne ((j == b.head) && not b.is_out) _ (NotYet, b)
      (λ g. let both = and_parts (j == b.head) (not b.is_out) g in let taken : not b.is_out ≡ false = ap not e in absurd (false≢true (sym taken ∙ both.1)))
      (λ _. (tt, k))

  asked_out : (w attempt : ℕ) (o : Option (ℕ × Slot LocalView)) → b.is_out ≡ true → OnlyOne (asks_head w attempt b o)
  asked_out w attempt None e = (tt, k)
  asked_out w attempt (Some p) e = if_cases OnlyOne (p.1.attempt == attempt) (gives_head w attempt p.0 b) (Squashed, b) (λ _. none_given w attempt p.0 e) (λ _. (tt, k))

  pub out_head : (w attempt : ℕ) → OnlyOne (call r caps (Head w attempt) b)
  out_head w attempt =
      if_cases OnlyOne (has_ended b.exit b.is_spent) (Ended, b) (does r caps (Head w attempt) b) (λ _. (tt, k)) (λ e. asked_out w attempt (of_worker w b.head b.active) (k.out e))

-- ---- the token that is given

module _ (r : Region LocalView) (caps : Capacities) (b : Board LocalView) where
  abbrev pub GivesOut : ℕ → Step → Type 0
  GivesOut w (Yours t, d) = (t.worker ≡ w) × IsOutOf d t
  GivesOut w (Go f, d) = Unit {0}
  GivesOut w (Value v, d) = Unit {0}
  GivesOut w (Done, d) = Unit {0}
  GivesOut w (Full, d) = Unit {0}
  GivesOut w (NotYet, d) = Unit {0}
  GivesOut w (Live, d) = Unit {0}
  GivesOut w (Again t f, d) = (t.worker ≡ w) × IsOutOf d t
  GivesOut w (Passed, d) = Unit {0}
  GivesOut w (Squashed, d) = Unit {0}
  GivesOut w (NotThisFrame, d) = Unit {0}
  GivesOut w (Ended, d) = Unit {0}

  asked_gives : (w attempt : ℕ) (o : Option (ℕ × Slot LocalView)) → of_worker w b.head b.active ≡ o → GivesOut w (asks_head w attempt b o)
  asked_gives w attempt None at = tt
  asked_gives w attempt (Some p) at =
      if_cases {A = Step} (GivesOut w) (p.1.attempt == attempt) (gives_head w attempt p.0 b) (Squashed, b)
      (λ e. if_cases {A = Step} (GivesOut w) ((p.0 == b.head) && not b.is_out) (Yours (record { worker = w; iteration = p.0; attempt = attempt }), record b { is_out = true }) (NotYet, b)
      (λ _. let same = eqb-true p.1.attempt attempt e in (refl, record { out = λ _. refl; least = subst (AtLeast attempt) (sym at) (omega (arith, same)) }))
      (λ _. tt))
      (λ _. tt)

  pub head_gives : (w attempt : ℕ) → GivesOut w (call r caps (Head w attempt) b)
  head_gives w attempt = if_cases {A = Step} (GivesOut w) (has_ended b.exit b.is_spent) (Ended, b) (does r caps (Head w attempt) b) (λ _. tt) (λ _. asked_gives w attempt (of_worker w b.head b.active) refl)

  -- ---- settling keeps it, or takes it back

  module _ (t : Token) (f : Frame LocalView) where
    module _ (x : Slot LocalView) (later : List (Slot LocalView)) (worker : t.worker ≡ x.worker) (attempt : t.attempt ≡ x.attempt) where
      commit_gives : (q : LocalView) (text : List ℕ) → GivesOut t.worker (commits b t x later q text)
      commit_gives q text =
          let y : Slot LocalView = record x { start = q; marks = []; buffer = [] } in
          let here : (x.worker == t.worker) ≡ true = eq-eqb x.worker t.worker (sym worker) in
          (refl, record { out = λ _. refl; least = subst (λ s. AtLeast t.attempt (if s then Some (b.head, y) else of_worker t.worker (suc b.head) later)) (sym here) (omega (arith, attempt)) })

      ask_gives : (ask : Ask LocalView) → GivesOut t.worker (settles_ask r b t f x later ask)
      ask_gives (Goes q) = commit_gives f.here b.text
      ask_gives (Loads a q) = commit_gives f.here b.text
      ask_gives (Stores a v q) = commit_gives f.here b.text
      ask_gives (Prints bytes q full) =
          if_cases {A = Step} (GivesOut t.worker) (has_room_for r b.text bytes) (commits b t x later q (b.text ++ bytes)) (ends b x later (Faulted full)) (λ _. commit_gives q (b.text ++ bytes)) (λ _. tt)
      ask_gives TurnEnds = if_cases {A = Step} (GivesOut t.worker) (nat_lt (b.head + 1) (2 ^ 64)) _ (spends (record b { is_out = false })) (λ _. tt) (λ _. tt)
      ask_gives Leaves = tt
      ask_gives (Returns v) = tt
      ask_gives (Faults fault) = tt

      need_gives : (need : Need) → GivesOut t.worker (settles_need r b t f x later need)
      need_gives Nothing = commit_gives f.here b.text
      need_gives (ForLoad a) = commit_gives f.here b.text
      need_gives (ForStore a v) = commit_gives f.here b.text
      need_gives Held = commit_gives f.here b.text
      need_gives ForHead = ask_gives (r.ask f.here)

    -- whose slot it is
    slot_worker : (j : ℕ) (x : Slot LocalView) → is_of_slot r j t f x ≡ true → t.worker ≡ x.worker
    slot_worker j x e = eqb-true t.worker x.worker (and_parts (t.worker == x.worker) _ (and_parts _ _ e).0).0

    slot_attempt : (j : ℕ) (x : Slot LocalView) → is_of_slot r j t f x ≡ true → t.attempt ≡ x.attempt
    slot_attempt j x e =
        let a = and_parts (t.worker == x.worker) _ (and_parts _ _ e).0 in
        let c = and_parts (t.iteration == j) _ a.1 in
        eqb-true t.attempt x.attempt (and_parts (t.attempt == x.attempt) _ c.1).0

    settled_gives : (xs : List (Slot LocalView)) → GivesOut t.worker (settles r b t f true xs)
    settled_gives [] = tt
    settled_gives (x ∷ later) =
        if_cases {A = Step} (GivesOut t.worker) (true && is_of_slot r b.head t f x) (settles_need r b t f x later f.need) (refuses b)
        (λ e. need_gives x later (slot_worker b.head x e) (slot_attempt b.head x e) f.need)
        (λ _. tt)

    pub settle_gives : GivesOut t.worker (call r caps (Settle t f true) b)
    settle_gives = if_cases {A = Step} (GivesOut t.worker) (has_ended b.exit b.is_spent) (Ended, b) (does r caps (Settle t f true) b) (λ _. tt) (λ _. settled_gives b.active)

-- ---- a token is spent: once its worker's iteration has begun again, the board takes it back

abbrev pub TakesBack : Answer LocalView → Type 0
TakesBack (Again u f) = ⊥
TakesBack (Yours u) = Unit {0}
TakesBack (Go f) = Unit {0}
TakesBack (Value v) = Unit {0}
TakesBack Done = Unit {0}
TakesBack Full = Unit {0}
TakesBack NotYet = Unit {0}
TakesBack Live = Unit {0}
TakesBack Passed = Unit {0}
TakesBack Squashed = Unit {0}
TakesBack NotThisFrame = Unit {0}
TakesBack Ended = Unit {0}

module _ (r : Region LocalView) (caps : Capacities) (t : Token) (f : Frame LocalView) where
  -- the slot isn't the token's
  not_of : (b : Board LocalView) (x : Slot LocalView) (later : List (Slot LocalView)) → (is_of_slot r b.head t f x ≡ true → ⊥) → TakesBack (settles r b t f true (x ∷ later)).0
  not_of b x later never =
      if_cases {A = Step} (λ p. TakesBack p.0) (true && is_of_slot r b.head t f x) (settles_need r b t f x later f.need) (refuses b) (λ e. absurd (never e)) (λ _. tt)

  begun_again : (b c : Board LocalView) (j : ℕ) (xs : List (Slot LocalView)) → AtLeast t.attempt (of_worker t.worker j xs) → TakesBack (settles r c t f true (restarted_from t.worker xs)).0
  begun_again b c j [] h = tt
  begun_again b c j (x ∷ xs) h = by (x.worker == t.worker) refl h
    where
      by : (s : Bool) → (x.worker == t.worker) ≡ s → AtLeast t.attempt (if s then Some (j, x) else of_worker t.worker (suc j) xs) → TakesBack (settles r c t f true (if s then restarted x ∷ map restarted xs else x ∷ restarted_from t.worker xs)).0
      by true e le = not_of c (restarted x) _ (λ g. let same = slot_attempt r caps c t f c.head (restarted x) g in omega (arith, le, same))
      by false e le = not_of c x _ (λ g. let same = slot_worker r caps c t f c.head x g in absurd (false≢true (sym e ∙ eq-eqb x.worker t.worker (sym same))))

  without : (c : Board LocalView) (j : ℕ) (xs : List (Slot LocalView)) → of_worker t.worker j xs ≡ None → TakesBack (settles r c t f true xs).0
  without c j [] h = tt
  without c j (x ∷ xs) h = by (x.worker == t.worker) refl h
    where
      by : (s : Bool) → (x.worker == t.worker) ≡ s → (if s then Some (j, x) else of_worker t.worker (suc j) xs) ≡ None → TakesBack (settles r c t f true (x ∷ xs)).0
      by true e none = absurd cc
      by false e none = not_of c x _ (λ g. let same = slot_worker r caps c t f c.head x g in absurd (false≢true (sym e ∙ eq-eqb x.worker t.worker (sym same))))

  abbrev Back : Step → Type 0
  Back p = TakesBack (call r caps (Settle t f true) p.1).0

  back : (p : Step) → (has_ended p.1.exit p.1.is_spent ≡ false → TakesBack (settles r p.1 t f true p.1.active).0) → Back p
  back p g = if_cases {A = Step} (λ q. TakesBack q.0) (has_ended p.1.exit p.1.is_spent) (Ended, p.1) (does r caps (Settle t f true) p.1) (λ _. tt) g

  abandoned : (b : Board LocalView) (o : Option (ℕ × Slot LocalView)) → of_worker t.worker b.head b.active ≡ o → AtLeast t.attempt (of_worker t.worker b.head b.active) → has_ended b.exit b.is_spent ≡ false → Back (abandons t.worker b o)
  abandoned b None at h e = back (Done, b) (λ _. without b b.head b.active at)
  abandoned b (Some p) at h e =
      if_cases {A = Step} Back (may_restart (from_worker t.worker b.active)) _ (spends b)
      (λ _. let c : Board LocalView = record b { active = restarted_from t.worker b.active; counts = record b.counts { abandons = held (b.counts.abandons + 1) } } in back (Done, c) (λ _. begun_again b c b.head b.active h))
      (λ _. back (spends b) (λ g. absurd (over b.exit g)))
    where
      over : (x : Option Exit) → has_ended x true ≡ false → ⊥
      over None g = false≢true (sym g)
      over (Some y) g = false≢true (sym g)

  pub spent : (b : Board LocalView) → IsOutOf b t → TakesBack (call r caps (Settle t f true) (call r caps (Abandon t.worker) b).1).0
  spent b k =
      if_cases {A = Step} Back (has_ended b.exit b.is_spent) (Ended, b) (does r caps (Abandon t.worker) b)
      (λ e. back (Ended, b) (λ g. absurd (false≢true (sym g ∙ e))))
      (λ e. abandoned b (of_worker t.worker b.head b.active) refl k.least e)
