-- All workers, and the one whose entry it is.
use Rattle.std.proofs.Common.{◌≡◌, ◌≢◌, ℕ, zero, suc, ◌<◌, List, [], ◌∷◌, length, Option, Some, None, Bool, true, false, refl, ap, sym, subst, ◌∙◌, arith, length-set}
use Rattle.std.specs.Prelude.{◌==◌, if◌then◌else◌, slice_get, slice_index_or, slice_set}
use std.Path.{fun_ext}
use Rattle.std.proofs.lemmas.Option.{slice_get-get_or}
use Rattle.std.proofs.lemmas.Bool.{false≢true, eqb-true, eq-eqb, ne_eqb}
use Rattle.hx_code.specs.Local.{LocalView}
use Rattle.hx_speculation.specs.Board.{Token}
use Rattle.hx_speculation.specs.Replay.{Running, World, with_running, entry_of}
use Rattle.hx_board.specs.Board.{BoardView, Setup, board_of}
use Rattle.hx_board.specs.Calls.{IsOwnFrame}
use Rattle.hx_trace.specs.declared.worker.Worker.{Worker}
use Rattle.hx_trace.specs.declared.worker.Held.{Held}
use Rattle.hx_trace.specs.Tokens.{IsOutOf}
use Rattle.hx_trace.specs.declared.event.Event.{Event}
use Rattle.hx_trace.specs.Events.{event_of}
use Rattle.hx_trace.specs.Turns.{course_of, running_of, IsOwnToken, IsInHand, Moves, token_at, running_at, world_of, held_at, IsHeldBy, MayBeHeld, Keeps}

-- ---- a list with another item at a place

get_same : (xs : List Worker) (w : ℕ) (y : Worker) → w < length xs → slice_get (slice_set xs w y) w ≡ Some y
get_same [] w y lt = absurd (omega (arith, lt))
get_same (x ∷ xs) zero y lt = refl
get_same (x ∷ xs) (suc w) y lt = get_same xs w y (omega (arith, lt))

get_other : (xs : List Worker) (w v : ℕ) (y : Worker) → v ≢ w → slice_get (slice_set xs w y) v ≡ slice_get xs v
get_other [] w v y other = refl
get_other (x ∷ xs) zero zero y other = absurd (other refl)
get_other (x ∷ xs) zero (suc v) y other = refl
get_other (x ∷ xs) (suc w) zero y other = refl
get_other (x ∷ xs) (suc w) (suc v) y other = get_other xs w v y (λ e. other (ap suc e))

differs : (v w : ℕ) → (v == w) ≡ false → v ≢ w
differs v w e same = false≢true (sym e ∙ eq-eqb v w same)

module _ (w : ℕ) (b after : BoardView) (xs : List Worker) (x y : Worker) (held : Option Held) (next : Option Token) (at : slice_get xs w ≡ Some x) (within : w < length xs) where
  -- the token of each worker after the entry of one
  abbrev TokensAfter : Option Held → Type 0
  TokensAfter new = (v : ℕ) → token_at new v ≡ (if v == w then next else token_at held v)

  runs_after : (new : Option Held) → TokensAfter new → (v : ℕ) → with_running (λ u. running_at (slice_get xs u) (token_at held u)) w (running_of y next) v ≡ running_at (slice_get (slice_set xs w y) v) (token_at new v)
  runs_after new tokens v = by (v == w) refl (tokens v)
    where
      by : (t : Bool) → (v == w) ≡ t → token_at new v ≡ (if t then next else token_at held v) → (if t then running_of y next else running_at (slice_get xs v) (token_at held v)) ≡ running_at (slice_get (slice_set xs w y) v) (token_at new v)
      by true e token = let same = eqb-true v w e in sym (ap (λ u. running_at (slice_get (slice_set xs w y) u) (token_at new v)) same ∙ ap (λ o. running_at o (token_at new v)) (get_same xs w y within) ∙ ap (running_of y) token)
      by false e token = sym (ap (λ o. running_at o (token_at new v)) (get_other xs w v y (differs v w e)) ∙ ap (running_at (slice_get xs v)) token)

  pub turned : (token : Option Token) (new : Option Held) → token_at held w ≡ token → Moves (λ d. entry_of (course_of b.setup) w d (running_of x token)) w b token after y next → TokensAfter new → entry_of (course_of b.setup) w (world_of b xs held) (running_at (slice_get xs w) (token_at held w)) ≡ world_of after (slice_set xs w y) new
  turned token new e m tokens =
      let d = world_of b xs held in
      ap (λ o. entry_of (course_of b.setup) w d (running_at o (token_at held w))) at ∙ ap (λ t. entry_of (course_of b.setup) w d (running_of x t)) e ∙ m.step d.running
      ∙ ap (λ g. record { board = board_of after; running = g }) (fun_ext (runs_after new tokens))

  pub keeps_on : (token : Option Token) (new : Option Held) → Keeps b xs held → Moves (λ d. entry_of (course_of b.setup) w d (running_of x token)) w b token after y next → MayBeHeld after (slice_set xs w y) new → Keeps after (slice_set xs w y) new
  keeps_on token new k m h = record {
    many = length-set xs w y ∙ k.many ∙ ap (λ (s : Setup). s.slots) (sym m.setup);
    own = λ v z there. subst (λ (s : Setup). IsOwnFrame s z.frame) (sym m.setup) (by v z (v == w) refl there);
    held = h;
  }
    where
      by : (v : ℕ) (z : Worker) (t : Bool) → (v == w) ≡ t → slice_get (slice_set xs w y) v ≡ Some z → IsOwnFrame b.setup z.frame
      by v z true e there =
          let found : Some y ≡ Some z = sym (get_same xs w y within) ∙ ap (slice_get (slice_set xs w y)) (sym (eqb-true v w e)) ∙ there in
          let yz : y ≡ z = cc in
          subst (λ (u : Worker). IsOwnFrame b.setup u.frame) yz m.own
      by v z false e there = k.own v z (sym (get_other xs w v y (differs v w e)) ∙ there)

  -- the worker itself has the token now
  pub own_held : (h : Held) → h.worker ≡ w → IsOwnToken w after y h.head → IsHeldBy after (slice_set xs w y) h
  own_held h same t = record {
    own = t.worker ∙ sym same;
    there = subst (λ n. h.worker < n) (sym (length-set xs w y)) (subst (λ n. n < length xs) (sym same) within);
    runs = λ z at_z.
        let found : Some y ≡ Some z = sym (get_same xs w y within) ∙ ap (slice_get (slice_set xs w y)) (sym same) ∙ at_z in
        let yz : y ≡ z = cc in
        subst (λ (u : Worker). u.is_running ≡ true) yz t.runs;
    out = t.out;
  }

  -- another has it still
  pub other_held : (h : Held) → h.worker ≢ w → IsHeldBy b xs h → IsOutOf (board_of after) h.head → IsHeldBy after (slice_set xs w y) h
  other_held h other k out = record {
    own = k.own;
    there = subst (λ n. h.worker < n) (sym (length-set xs w y)) k.there;
    runs = λ z at_z. k.runs z (sym (get_other xs w h.worker y other) ∙ at_z);
    out = out;
  }

-- ---- the tokens

pub none_after : (w v : ℕ) → None ≡ (if v == w then None else token_at None v)
none_after w v = by (v == w)
  where
    by : (t : Bool) → None ≡ (if t then None else token_at None v)
    by true = refl
    by false = refl

pub given_after : (w : ℕ) (h : Held) → h.worker ≡ w → (v : ℕ) → token_at (Some h) v ≡ (if v == w then Some h.head else token_at None v)
given_after w h same v = by (v == w) refl
  where
    by : (t : Bool) → (v == w) ≡ t → (if h.worker == v then Some h.head else None) ≡ (if t then Some h.head else None)
    by true e = ap (λ s. if s then Some h.head else None) (eq-eqb h.worker v (same ∙ sym (eqb-true v w e)))
    by false e = ap (λ s. if s then Some h.head else None) (ne_eqb h.worker v (λ f. differs v w e (sym f ∙ same)))

pub own_at : (w : ℕ) (h : Held) → h.worker ≡ w → token_at (Some h) w ≡ Some h.head
own_at w h same = ap (λ s. if s then Some h.head else None) (eq-eqb h.worker w same)

pub other_at : (w : ℕ) (h : Held) → h.worker ≢ w → token_at (Some h) w ≡ None
other_at w h other = ap (λ s. if s then Some h.head else None) (ne_eqb h.worker w other)

-- its own token, and then another or none
pub own_after : (w : ℕ) (h k : Held) → h.worker ≡ w → k.worker ≡ w → (v : ℕ) → token_at (Some k) v ≡ (if v == w then Some k.head else token_at (Some h) v)
own_after w h k mine same v = by (v == w) refl
  where
    by : (t : Bool) → (v == w) ≡ t → (if k.worker == v then Some k.head else None) ≡ (if t then Some k.head else (if h.worker == v then Some h.head else None))
    by true e = ap (λ s. if s then Some k.head else None) (eq-eqb k.worker v (same ∙ sym (eqb-true v w e)))
    by false e = ap (λ s. if s then Some k.head else None) (ne_eqb k.worker v (λ f. differs v w e (sym f ∙ same))) ∙ sym (ap (λ s. if s then Some h.head else None) (ne_eqb h.worker v (λ f. differs v w e (sym f ∙ mine))))

pub spent_after : (w : ℕ) (h : Held) → h.worker ≡ w → (v : ℕ) → None ≡ (if v == w then None else token_at (Some h) v)
spent_after w h mine v = by (v == w) refl
  where
    by : (t : Bool) → (v == w) ≡ t → None ≡ (if t then None else (if h.worker == v then Some h.head else None))
    by true e = refl
    by false e = sym (ap (λ s. if s then Some h.head else None) (ne_eqb h.worker v (λ f. differs v w e (sym f ∙ mine))))

-- another's token stays where it is
pub other_after : (w : ℕ) (h : Held) → h.worker ≢ w → (v : ℕ) → token_at (Some h) v ≡ (if v == w then None else token_at (Some h) v)
other_after w h other v = by (v == w) refl
  where
    by : (t : Bool) → (v == w) ≡ t → (if h.worker == v then Some h.head else None) ≡ (if t then None else (if h.worker == v then Some h.head else None))
    by true e = ap (λ s. if s then Some h.head else None) (ne_eqb h.worker v (λ f. other (f ∙ eqb-true v w e)))
    by false e = refl

-- ---- one entry, by who had the token and who has it then

pub there : (xs : List Worker) (n : ℕ) (d : Worker) (slots : ℕ) → length xs ≡ slots → n < slots → slice_get xs n ≡ Some (slice_index_or xs n d)
there xs n d slots many lt = slice_get-get_or xs n d (omega (arith, many, lt))

-- what the entry came to
pub told_at : (w : ℕ) (b : BoardView) (xs : List Worker) (x : Worker) (held : Option Held) (token : Option Token) (e : Event) → slice_get xs w ≡ Some x → token_at held w ≡ token → e ≡ event_of (course_of b.setup) w (board_of b) (running_of x token) → e ≡ event_of (course_of b.setup) w (board_of b) ((world_of b xs held).running w)
told_at w b xs x held token e at is told =
    told ∙ sym (ap (λ o. event_of (course_of b.setup) w (board_of b) (running_at o (token_at held w))) at ∙ ap (λ t. event_of (course_of b.setup) w (board_of b) (running_of x t)) is)

pub record Turns (w : ℕ) (b after : BoardView) (xs : List Worker) (y : Worker) (held new : Option Held) : Type 0 where
  pub step : entry_of (course_of b.setup) w (world_of b xs held) (running_at (slice_get xs w) (token_at held w)) ≡ world_of after (slice_set xs w y) new
  pub keeps : Keeps after (slice_set xs w y) new

module _ (w : ℕ) (b after : BoardView) (xs : List Worker) (x y : Worker) (result : Option Token) (at : slice_get xs w ≡ Some x) (lt : w < b.setup.slots) where
  abbrev By : Option Token → Option Token → Type 0
  By token next = Moves (λ d. entry_of (course_of b.setup) w d (running_of x token)) w b token after y next

  both : (held new : Option Held) (token next : Option Token) → Keeps b xs held → token_at held w ≡ token → By token next → ((v : ℕ) → token_at new v ≡ (if v == w then next else token_at held v)) → MayBeHeld after (slice_set xs w y) new → Turns w b after xs y held new
  both held new token next k e m tokens h =
      let many = k.many in
      let within : w < length xs = omega (arith, many, lt) in
      record { step = turned w b after xs x y held next at within token new e m tokens; keeps = keeps_on w b after xs x y held next at within token new k m h }

  pub none_gives : (held : Option Held) (h : Held) → held ≡ None → h.worker ≡ w → result ≡ Some h.head → Keeps b xs held → By None result → Turns w b after xs y held (Some h)
  none_gives held h was mine is k m =
      let k0 = subst (Keeps b xs) was k in
      let m0 = subst (By None) is m in
      let many = k.many in
      let within : w < length xs = omega (arith, many, lt) in
      subst (λ o. Turns w b after xs y o (Some h)) (sym was) (both None (Some h) None (Some h.head) k0 refl m0 (given_after w h mine) (own_held w b after xs x y None (Some h.head) at within h mine m0.hand))

  pub none_stays : (held : Option Held) → held ≡ None → result ≡ None → Keeps b xs held → By None result → Turns w b after xs y held None
  none_stays held was is k m = subst (λ o. Turns w b after xs y o None) (sym was) (both None None None None (subst (Keeps b xs) was k) refl (subst (By None) is m) (none_after w) tt)

  pub own_gives : (held : Option Held) (h new : Held) → held ≡ Some h → h.worker ≡ w → new.worker ≡ w → result ≡ Some new.head → Keeps b xs held → By (Some h.head) result → Turns w b after xs y held (Some new)
  own_gives held h new was mine same is k m =
      let k0 = subst (Keeps b xs) was k in
      let m0 = subst (By (Some h.head)) is m in
      let many = k.many in
      let within : w < length xs = omega (arith, many, lt) in
      subst (λ o. Turns w b after xs y o (Some new)) (sym was) (both (Some h) (Some new) (Some h.head) (Some new.head) k0 (own_at w h mine) m0 (own_after w h new mine same) (own_held w b after xs x y (Some h) (Some new.head) at within new same m0.hand))

  pub own_spends : (held : Option Held) (h : Held) → held ≡ Some h → h.worker ≡ w → result ≡ None → Keeps b xs held → By (Some h.head) result → Turns w b after xs y held None
  own_spends held h was mine is k m =
      subst (λ o. Turns w b after xs y o None) (sym was) (both (Some h) None (Some h.head) None (subst (Keeps b xs) was k) (own_at w h mine) (subst (By (Some h.head)) is m) (spent_after w h mine) tt)

  -- another's stays out, and no other is given
  pub other_out : (held : Option Held) (h : Held) → held ≡ Some h → h.worker ≢ w → Keeps b xs held → By None result → (result ≡ None) × IsOutOf (board_of after) h.head
  other_out held h was other k m =
      let k0 = subst (MayBeHeld b xs) was k.held in
      m.beside refl h.head (λ (e : w ≡ h.head.worker). other (sym k0.own ∙ sym e)) k0.out

  pub other_stays : (held : Option Held) (h new : Held) → held ≡ Some h → h.worker ≢ w → new ≡ h → Keeps b xs held → By None result → Turns w b after xs y held (Some new)
  other_stays held h new was other same k m =
      let k0 = subst (Keeps b xs) was k in
      let out = other_out held h was other k m in
      let many = k.many in
      let within : w < length xs = omega (arith, many, lt) in
      let held_on = other_held w b after xs x y (Some h) None at within h other k0.held out.1 in
      let whole = both (Some h) (Some h) None None k0 (other_at w h other) (subst (By None) out.0 m) (other_after w h other) held_on in
      subst (λ o. Turns w b after xs y o (Some new)) (sym was) (subst (λ (n : Held). Turns w b after xs y (Some h) (Some n)) (sym same) whole)

  -- by what the entry answers

  pub none_turns : (held new : Option Held) → held ≡ None → new ≡ held_at w result → Keeps b xs held → By None result → Turns w b after xs y held new
  none_turns held new was is k m = subst (Turns w b after xs y held) (sym is) (by result refl)
    where
      by : (r : Option Token) → result ≡ r → Turns w b after xs y held (held_at w r)
      by None none = none_stays held was none k m
      by (Some t) some = none_gives held (record { worker = w; head = t }) was refl some k m

  pub own_turns : (held new : Option Held) (h : Held) → held ≡ Some h → h.worker ≡ w → new ≡ held_at w result → Keeps b xs held → By (Some h.head) result → Turns w b after xs y held new
  own_turns held new h was mine is k m = subst (Turns w b after xs y held) (sym is) (by result refl)
    where
      by : (r : Option Token) → result ≡ r → Turns w b after xs y held (held_at w r)
      by None none = own_spends held h was mine none k m
      by (Some t) some = own_gives held h (record { worker = w; head = t }) was mine refl some k m
