-- What settling comes to.
use Rattle.std.proofs.Common.{◌≡◌, ℕ, ◌+◌, ◌-◌, ◌<◌, ◌≤◌, ◌^◌, List, [], ◌∷◌, ◌++◌, length, Some, Bool, true, false, refl, ap, sym, subst, ◌∙◌, arith}
use Rattle.std.specs.Prelude.{◌==◌, nat_lt, if◌then◌else◌}
use Rattle.std.proofs.lemmas.Bool.{eq-eqb, and_from}
use Rattle.std.proofs.lemmas.Bool.Decides.{nat_tests}
use Rattle.std.proofs.lemmas.List.{append-nil}
use Rattle.hx_tree.specs.declared.outcome.Counts.{Counts}
use Rattle.hx_marks.specs.Table.{Table}
use Rattle.hx_buffer.specs.Overlay.{overlay}
use Rattle.hx_code.specs.declared.word.Ask.{Ask}
use Rattle.hx_code.specs.declared.word.Ask.TheVariants.{Goes, Loads, Stores, Prints, Faults, Calls, Enters, Turns, Leaves, Returns}
use Rattle.hx_code.specs.declared.word.Exit.{Exit}
use Rattle.hx_code.specs.Code.{CodeView}
use Rattle.hx_code.specs.Call.{bytes_of}
use Rattle.hx_code.specs.Local.{LocalView, LocalWant, LocalAsks, LocalStuck, asks_of}
use Rattle.hx_code.specs.Region.{held}
use Rattle.hx_frame.specs.declared.frame.Tag.{Tag}
use Rattle.hx_frame.specs.Automaton.{ask_in, asked_by}
use Rattle.hx_frame.specs.Frame.{ask_needed, asked_word}
use Rattle.hx_speculation.specs.Iteration.{Ask as Asked}
use Rattle.hx_speculation.specs.Frame.{Frame, Need, Nothing, ForLoad, ForStore, ForHead, Held, begins, behind}
use Rattle.hx_speculation.specs.Slots.{Slot}
use Rattle.hx_speculation.specs.Board.{Answer, Board, Token, Settle, Again, Passed, Ended, NotThisFrame, same_table, is_of_slot, commits, ends, passes, spends, settles, settles_need, settles_ask, refuses, call}
use Rattle.hx_speculation.proofs.Stores.{and_left, and_right, eq_true, same_table_holds}
use Rattle.hx_regions.specs.Region.{store_of}
use Rattle.hx_regions.specs.Same.{same_local}
use Rattle.hx_regions.specs.SameHolds.{same_local_holds, same_local_itself, same_value_itself}
use Rattle.hx_board.specs.declared.effect.Effect.{Effect}
use Rattle.hx_board.specs.declared.effect.Effect.TheVariants.{GoesOn, Passes, Ends}
use Rattle.hx_board.specs.Board.{BoardView, region_on, board_of, is_over}
use Rattle.hx_board.specs.Calls.{Does}
use Rattle.hx_board.specs.Effect.{IsOfSlot, IsDue, has_room, effect_of, printed_by}
use Rattle.hx_board.specs.Known.{IsBelow}
use Rattle.hx_board.proofs.Below.{laid}
use Rattle.hx_board.proofs.Steps.{runs}

-- the frame and the token of the head are those of the first
pub due_at : (j : ℕ) (t : Tag) (f : Frame LocalView) (xs : List (Slot LocalView)) → IsDue j t f xs → (x : Slot LocalView) × (later : List (Slot LocalView)) × (xs ≡ x ∷ later) × IsOfSlot j t f x
due_at j t f [] h = absurd h
due_at j t f (x ∷ later) h = (x, later, refl, h)

-- ---- the test

abbrev pub token_of : Tag → Token
token_of t = record { worker = t.worker; iteration = t.iteration; attempt = t.attempt }

same_table_itself : (t : Table) → same_table t t ≡ true
same_table_itself [] = refl
same_table_itself (e ∷ es) = and_from _ _ (eq-eqb e.word e.word refl) (and_from _ _ (same_value_itself e.value) (same_table_itself es))

eq_is : (a b : ℕ) → a ≡ b → (a == b) ≡ true
eq_is a b e = eq-eqb a b e

pub of_slot_true : (b : BoardView) (t : Tag) (f : Frame LocalView) (x : Slot LocalView) → IsOfSlot b.head t f x → is_of_slot (region_on b.setup) b.head (token_of t) f x ≡ true
of_slot_true b t f x h =
    let start : same_local f.start x.start ≡ true = subst (λ q. same_local f.start q ≡ true) h.start (same_local_itself f.start) in
    let marks : same_table f.marks x.marks ≡ true = subst (λ q. same_table f.marks q ≡ true) h.marks (same_table_itself f.marks) in
    let writes : same_table f.writes x.buffer ≡ true = subst (λ q. same_table f.writes q ≡ true) h.writes (same_table_itself f.writes) in
    and_from _ _ (and_from _ _ (eq_is t.worker x.worker h.worker) (and_from _ _ (eq_is t.iteration b.head h.iteration) (and_from _ _ (eq_is t.attempt x.attempt h.attempt) (and_from _ _ (eq_is f.worker x.worker h.frame_worker) (and_from _ _ (eq_is f.iteration b.head h.frame_iteration) (eq_is f.attempt x.attempt h.frame_attempt))))))
    (and_from _ _ start (and_from _ _ marks writes))

of_slot_holds : (b : BoardView) (t : Tag) (f : Frame LocalView) (x : Slot LocalView) → is_of_slot (region_on b.setup) b.head (token_of t) f x ≡ true → IsOfSlot b.head t f x
of_slot_holds b t f x e =
    let n1 = and_left _ _ e in
    let n2 = and_right (t.worker == x.worker) _ n1 in
    let n3 = and_right (t.iteration == b.head) _ n2 in
    let n4 = and_right (t.attempt == x.attempt) _ n3 in
    let n5 = and_right (f.worker == x.worker) _ n4 in
    let s1 = and_right _ _ e in
    let s2 = and_right (same_local f.start x.start) _ s1 in
    record {
      worker = eq_true t.worker x.worker (and_left (t.worker == x.worker) _ n1);
      iteration = eq_true t.iteration b.head (and_left (t.iteration == b.head) _ n2);
      attempt = eq_true t.attempt x.attempt (and_left (t.attempt == x.attempt) _ n3);
      frame_worker = eq_true f.worker x.worker (and_left (f.worker == x.worker) _ n4);
      frame_iteration = eq_true f.iteration b.head (and_left (f.iteration == b.head) _ n5);
      frame_attempt = eq_true f.attempt x.attempt (and_right (f.iteration == b.head) _ n5);
      start = same_local_holds f.start x.start (and_left (same_local f.start x.start) _ s1);
      marks = same_table_holds f.marks x.marks (and_left (same_table f.marks x.marks) _ s2);
      writes = same_table_holds f.writes x.buffer (and_right (same_table f.marks x.marks) _ s2);
    }

-- ---- refused

abbrev by_test : BoardView → Tag → Frame LocalView → Slot LocalView → List (Slot LocalView) → Bool → Answer LocalView × Board LocalView
by_test b t f x later s = if s then settles_need (region_on b.setup) (board_of b) (token_of t) f x later f.need else refuses (board_of b)

refuses_at : (b : BoardView) (t : Tag) (f : Frame LocalView) (xs : List (Slot LocalView)) → (IsDue b.head t f xs → ⊥) → settles (region_on b.setup) (board_of b) (token_of t) f true xs ≡ refuses (board_of b)
refuses_at b t f [] none = refl
refuses_at b t f (x ∷ later) none = by (is_of_slot (region_on b.setup) b.head (token_of t) f x) refl
  where
    by : (s : Bool) → is_of_slot (region_on b.setup) b.head (token_of t) f x ≡ s → by_test b t f x later s ≡ refuses (board_of b)
    by true e = absurd (none (of_slot_holds b t f x e))
    by false e = refl

pub settle_refuses : (b : BoardView) (t : Tag) (f : Frame LocalView) (is_own : Bool) → is_over b ≡ false → is_own ≡ true → (IsDue b.head t f b.active → ⊥) → Does b (Settle (token_of t) f is_own) NotThisFrame (record b { is_out = false })
settle_refuses b t f is_own over own none =
    record { step = runs b (Settle (token_of t) f is_own) over ∙ ap (λ o. settles (region_on b.setup) (board_of b) (token_of t) f o b.active) own ∙ refuses_at b t f b.active none; setup = refl }

foreign_refuses : (b : BoardView) (t : Tag) (f : Frame LocalView) (xs : List (Slot LocalView)) → settles (region_on b.setup) (board_of b) (token_of t) f false xs ≡ refuses (board_of b)
foreign_refuses b t f [] = refl
foreign_refuses b t f (x ∷ later) = refl

-- ---- what the head waits with takes effect

-- the board by what becomes of its head, which goes on from q with this text
abbrev pub by_effect : BoardView → Token → Slot LocalView → List (Slot LocalView) → LocalView → List ℕ → Effect → Answer LocalView × Board LocalView
by_effect b t x later q text GoesOn = commits (board_of b) t x later q text
by_effect b t x later q text Passes = passes (board_of b) x later
by_effect b t x later q text (Ends e) = ends (board_of b) x later e

abbrev printed_on : BoardView → ℕ → Ask → List ℕ
printed_on b n ask = printed_by n (length b.text) ask

nothing_more : (b : BoardView) (t : Token) (f : Frame LocalView) (x : Slot LocalView) (later : List (Slot LocalView)) → commits (board_of b) t x later f.here b.text ≡ commits (board_of b) t x later f.here (b.text ++ [])
nothing_more b t f x later = ap (commits (board_of b) t x later f.here) (sym (append-nil b.text))

print_effect : (b : BoardView) (t : Token) (f : Frame LocalView) (x : Slot LocalView) (later : List (Slot LocalView)) (l : LocalView) (bytes : List ℕ) (e : Exit) (room : Bool) → (if room then commits (board_of b) t x later l (b.text ++ bytes) else ends (board_of b) x later e) ≡ by_effect b t x later l (b.text ++ (if room then bytes else [])) (if room then GoesOn else Ends e)
print_effect b t f x later l bytes e true = refl
print_effect b t f x later l bytes e false = refl

want_effect : (b : BoardView) (t : Token) (f : Frame LocalView) (x : Slot LocalView) (later : List (Slot LocalView)) (w : LocalWant) → settles_ask (region_on b.setup) (board_of b) t f x later (asked_by f.here w) ≡ by_effect b t x later (behind (asked_by f.here w) ForHead f.here) (b.text ++ printed_on b b.setup.entry.printed (asked_word w)) (effect_of b.setup.entry.printed (length b.text) (asked_word w))
want_effect b t f x later LocalStuck = nothing_more b t f x later
want_effect b t f x later (LocalAsks Goes l) = nothing_more b t f x later
want_effect b t f x later (LocalAsks (Loads a) l) = nothing_more b t f x later
want_effect b t f x later (LocalAsks (Stores a v) l) = nothing_more b t f x later
want_effect b t f x later (LocalAsks (Prints output at) l) = print_effect b t f x later l (bytes_of output) _ (has_room b.setup.entry.printed (length b.text) (bytes_of output))
want_effect b t f x later (LocalAsks (Faults fault) l) = refl
want_effect b t f x later (LocalAsks (Calls g at) l) = nothing_more b t f x later
want_effect b t f x later (LocalAsks (Enters r p) l) = refl
want_effect b t f x later (LocalAsks Turns l) = refl
want_effect b t f x later (LocalAsks Leaves l) = refl
want_effect b t f x later (LocalAsks (Returns v) l) = refl

-- the text behind what is waited with
abbrev pub text_behind : BoardView → CodeView → Frame LocalView → List ℕ
text_behind b code f = b.text ++ printed_on b b.setup.entry.printed (ask_needed code f.here f.need)

abbrev pub effect_on : BoardView → CodeView → Frame LocalView → Effect
effect_on b code f = effect_of b.setup.entry.printed (length b.text) (ask_needed code f.here f.need)

abbrev at_need : BoardView → Frame LocalView → Need → Type 0
at_need b f need = (t : Token) (x : Slot LocalView) (later : List (Slot LocalView)) → settles_need (region_on b.setup) (board_of b) t f x later need ≡ by_effect b t x later (behind (ask_in b.setup.code f.here) need f.here) (b.text ++ printed_on b b.setup.entry.printed (ask_needed b.setup.code f.here need)) (effect_of b.setup.entry.printed (length b.text) (ask_needed b.setup.code f.here need))

-- it waits with no action
abbrev IsStill : Need → Type 0
IsStill ForHead = ⊥
IsStill Nothing = Unit {0}
IsStill (ForLoad a) = Unit {0}
IsStill (ForStore a v) = Unit {0}
IsStill Held = Unit {0}

-- only a print that is waited with leads elsewhere
stands_still : (a : Asked LocalView) (need : Need) (q : LocalView) → IsStill need → behind a need q ≡ q
stands_still (Asked.Prints bytes l full) Nothing q h = refl
stands_still (Asked.Prints bytes l full) (ForLoad a) q h = refl
stands_still (Asked.Prints bytes l full) (ForStore a v) q h = refl
stands_still (Asked.Prints bytes l full) Held q h = refl
stands_still (Asked.Prints bytes l full) ForHead q h = absurd h
stands_still (Asked.Goes l) need q h = refl
stands_still (Asked.Loads a l) need q h = refl
stands_still (Asked.Stores a v l) need q h = refl
stands_still Asked.TurnEnds need q h = refl
stands_still Asked.Leaves need q h = refl
stands_still (Asked.Returns v) need q h = refl
stands_still (Asked.Faults fault) need q h = refl

still_effect : (b : BoardView) (f : Frame LocalView) (need : Need) → IsStill need → (t : Token) (x : Slot LocalView) (later : List (Slot LocalView)) → commits (board_of b) t x later f.here b.text ≡ commits (board_of b) t x later (behind (ask_in b.setup.code f.here) need f.here) (b.text ++ [])
still_effect b f need h t x later = nothing_more b t f x later ∙ ap (λ q. commits (board_of b) t x later q (b.text ++ [])) (sym (stands_still (ask_in b.setup.code f.here) need f.here h))

need_effect : (b : BoardView) (f : Frame LocalView) (need : Need) → at_need b f need
need_effect b f ForHead t x later = want_effect b t f x later (asks_of b.setup.code f.here)
need_effect b f Nothing t x later = still_effect b f Nothing tt t x later
need_effect b f (ForLoad a) t x later = still_effect b f (ForLoad a) tt t x later
need_effect b f (ForStore a v) t x later = still_effect b f (ForStore a v) tt t x later
need_effect b f Held t x later = still_effect b f Held tt t x later

-- where the head's frame goes on
abbrev pub behind_frame : BoardView → Frame LocalView → LocalView
behind_frame b f = behind (ask_in b.setup.code f.here) f.need f.here

pub settle_runs : (b : BoardView) (t : Tag) (f : Frame LocalView) (is_own : Bool) (x : Slot LocalView) (later : List (Slot LocalView)) → is_over b ≡ false → is_own ≡ true → b.active ≡ x ∷ later → IsOfSlot b.head t f x → settles (region_on b.setup) (board_of b) (token_of t) f is_own b.active ≡ by_effect b (token_of t) x later (behind_frame b f) (text_behind b b.setup.code f) (effect_on b b.setup.code f)
settle_runs b t f is_own x later over own at due =
    ap (λ o. settles (region_on b.setup) (board_of b) (token_of t) f o b.active) own
    ∙ ap (settles (region_on b.setup) (board_of b) (token_of t) f true) at
    ∙ ap (by_test b t f x later) (of_slot_true b t f x due)
    ∙ need_effect b f f.need (token_of t) x later

-- ---- by its effect

-- the board once the head's words are committed and it goes on
abbrev pub gone_on : BoardView → Slot LocalView → List (Slot LocalView) → LocalView → List ℕ → BoardView
gone_on b x later q text = record b { active = record x { start = q; marks = []; buffer = [] } ∷ later; store = overlay x.buffer b.store; text = text; is_out = true }

abbrev pub with_passed : Counts → ℕ → Counts
with_passed c attempt = record c { turns = held (c.turns + 1); repeats = held (c.repeats + (attempt - 1)) }

abbrev pub passed_on : BoardView → Slot LocalView → List (Slot LocalView) → BoardView
passed_on b x later = record b { head = b.head + 1; active = later; store = overlay x.buffer b.store; is_out = false; counts = with_passed b.counts x.attempt }

abbrev pub ended_at : BoardView → Slot LocalView → List (Slot LocalView) → Exit → BoardView
ended_at b x later e = record b { active = []; store = overlay x.buffer b.store; exit = Some e; is_out = false; counts = record b.counts { discarded = held (b.counts.discarded + length later) } }

module _ (b : BoardView) (t : Tag) (f : Frame LocalView) (is_own : Bool) (x : Slot LocalView) (later : List (Slot LocalView)) (over : is_over b ≡ false) (own : is_own ≡ true) (at : b.active ≡ x ∷ later) (due : IsOfSlot b.head t f x) (fits : IsBelow (length b.store) x.buffer) where
  steps_to : (e : Effect) → effect_on b b.setup.code f ≡ e → call (region_on b.setup) b.setup.capacities (Settle (token_of t) f is_own) (board_of b) ≡ by_effect b (token_of t) x later (behind_frame b f) (text_behind b b.setup.code f) e
  steps_to e h = runs b (Settle (token_of t) f is_own) over ∙ settle_runs b t f is_own x later over own at due ∙ ap (by_effect b (token_of t) x later (behind_frame b f) (text_behind b b.setup.code f)) h

  pub settle_goes_on : effect_on b b.setup.code f ≡ GoesOn → Does b (Settle (token_of t) f is_own) (Again (token_of t) (begins f.worker f.iteration f.attempt (behind_frame b f))) (gone_on b x later (behind_frame b f) (text_behind b b.setup.code f))
  settle_goes_on h =
      let after = gone_on b x later (behind_frame b f) (text_behind b b.setup.code f) in
      let laid_over = laid x.buffer b.store fits in
      let went = steps_to GoesOn h in
      let store = ap (λ s. (Again (token_of t) (begins x.worker b.head x.attempt (behind_frame b f)), record (board_of after) { store = s })) laid_over in
      let with_tag : ℕ → ℕ → ℕ → Answer LocalView × Board LocalView = λ w j n. (Again (token_of t) (begins w j n (behind_frame b f)), board_of after) in
      let frame = ap (λ w. with_tag w b.head x.attempt) (sym due.frame_worker) ∙ ap (λ j. with_tag f.worker j x.attempt) (sym due.frame_iteration) ∙ ap (with_tag f.worker f.iteration) (sym due.frame_attempt) in
      record { step = went ∙ store ∙ frame; setup = refl }

  pub settle_passes : effect_on b b.setup.code f ≡ Passes → b.head + 1 < 2 ^ 64 → Does b (Settle (token_of t) f is_own) Passed (passed_on b x later)
  settle_passes h lt =
      let few : nat_lt (b.head + 1) (2 ^ 64) ≡ true = grind (arith, nat_tests, lt) in
      let went = steps_to Passes h in
      let passed = ap (λ s. if s then (Passed, record (board_of (passed_on b x later)) { store = Rattle.hx_speculation.specs.Iteration.overlay x.buffer (store_of b.store) }) else spends (record (board_of b) { is_out = false })) few in
      record { step = went ∙ passed ∙ ap (λ s. (Passed, record (board_of (passed_on b x later)) { store = s })) (laid x.buffer b.store fits); setup = refl }

  pub settle_spends : effect_on b b.setup.code f ≡ Passes → 2 ^ 64 ≤ b.head + 1 → Does b (Settle (token_of t) f is_own) Ended (record b { is_out = false; is_spent = true })
  settle_spends h ge =
      let many : nat_lt (b.head + 1) (2 ^ 64) ≡ false = grind (arith, nat_tests, ge) in
      let went = steps_to Passes h in
      let spent = ap (λ s. if s then (Passed, record (board_of (passed_on b x later)) { store = Rattle.hx_speculation.specs.Iteration.overlay x.buffer (store_of b.store) }) else spends (record (board_of b) { is_out = false })) many in
      record { step = went ∙ spent; setup = refl }

  pub settle_ends : (e : Exit) → effect_on b b.setup.code f ≡ Ends e → Does b (Settle (token_of t) f is_own) Ended (ended_at b x later e)
  settle_ends e h =
      let went = steps_to (Ends e) h in
      record { step = went ∙ ap (λ s. (Ended, record (board_of (ended_at b x later e)) { store = s })) (laid x.buffer b.store fits); setup = refl }
