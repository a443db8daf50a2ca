-- A schedule, entry by entry.
use Rattle.std.proofs.Common.{◌≡◌, ℕ, zero, suc, ◌<◌, List, [], ◌∷◌, ◌++◌, length, All, Option, Some, None, Result, Ok, Err, IfOk, refl, ap, sym, subst, ◌∙◌, arith}
use Rattle.std.specs.Prelude.{if◌then◌else◌, slice_get, slice_index_or}
use std.Path.{fun_ext}
use Rattle.std.proofs.lemmas.List.Elements.{All-push}
use Rattle.hx_code.specs.Code.{CodeView}
use Rattle.hx_code.specs.Local.{LocalView}
use Rattle.hx_word.specs.declared.entry.Entry.{Entry}
use Rattle.hx_frame.specs.declared.frame.Capacities.{Capacities as Rooms}
use Rattle.hx_regions.specs.Region.{store_of}
use Rattle.hx_speculation.specs.Replay.{replayed, world_at}
use Rattle.hx_speculation.specs.Board.{Board}
use Rattle.hx_board.specs.Board.{BoardView, Setup, board_of, opening_board}
use Rattle.hx_board.specs.Ends.{state_of}
use Rattle.hx_trace.specs.declared.worker.Worker.{Worker}
use Rattle.hx_trace.specs.declared.worker.Held.{Held}
use Rattle.hx_trace.specs.Turns.{course_of, running_at, world_of, Keeps}
use Rattle.hx_trace.specs.declared.trace.Trace.{Trace}
use Rattle.hx_trace.specs.declared.event.Event.{Event}
use Rattle.hx_trace.specs.Events.{events_of}
use Rattle.hx_trace.specs.Trace.{board_after, events_from, IsTraceOf, IsTold, IsNew}

-- what stands at a place
got : (xs : List Worker) (w : ℕ) (x : Worker) → slice_get xs w ≡ Some x → (w < length xs) × (slice_index_or xs w x ≡ x)
got [] w x e = absurd cc
got (y ∷ xs) zero x e = let yx : y ≡ x = cc in (omega arith, yx)
got (y ∷ xs) (suc w) x e = let h = got xs w x e in (let lt = h.0 in omega (arith, lt), h.1)

new_at : (code : CodeView) (rooms : Rooms) (xs : List Worker) (w : ℕ) (x : Worker) → All (IsNew code rooms) xs → slice_get xs w ≡ Some x → IsNew code rooms x
new_at code rooms xs w x h e = let g = got xs w x e in subst (IsNew code rooms) g.1 (h w x g.0)

nobody_runs : (code : CodeView) (rooms : Rooms) (xs : List Worker) (w : ℕ) → All (IsNew code rooms) xs → running_at (slice_get xs w) None ≡ None
nobody_runs code rooms xs w h = by (slice_get xs w) refl
  where
    by : (o : Option Worker) → slice_get xs w ≡ o → running_at o None ≡ None
    by None e = refl
    by (Some x) e = ap (λ t. if t then Some (record { frame = x.frame.frame; token = None }) else None) (new_at code rooms xs w x h e).stands

-- one more
pub new_last : (code : CodeView) (rooms : Rooms) (xs ys : List Worker) (x : Worker) → ys ≡ xs ++ x ∷ [] → All (IsNew code rooms) xs → IsNew code rooms x → All (IsNew code rooms) ys
new_last code rooms xs ys x e all new = subst (All (IsNew code rooms)) (sym e) (All-push (IsNew code rooms) xs x all new)

module _ (code : CodeView) (r : ℕ) (e : Entry) (slots : ℕ) (rooms : Rooms) (xs : List Worker) (new : All (IsNew code rooms) xs) where
  -- nobody runs on a board on which nothing has run
  pub world_new : (b : BoardView) → b ≡ opening_board code r e slots rooms → world_of b xs None ≡ world_at (store_of e.store.items)
  world_new b is = ap (λ c. world_of c xs None) is ∙ ap (λ g. record { board = board_of (opening_board code r e slots rooms); running = g }) (fun_ext (λ w. nobody_runs code rooms xs w new))

  pub keeps_new : (b : BoardView) → b ≡ opening_board code r e slots rooms → length xs ≡ slots → Keeps b xs None
  keeps_new b is many =
      subst (λ c. Keeps c xs None) (sym is)
      (record { many = many; own = λ w x at. let n = new_at code rooms xs w x new at in record { code = n.code; capacities = n.rooms }; held = tt })

-- ---- what is told

pub if_ok : {A E : Type 0} (r : Result A E) (P Q : A → Type 0) → IfOk r P → ((a : A) → P a → Q a) → IfOk r Q
if_ok (Ok a) P Q h f = f a h
if_ok (Err e) P Q h f = h

pub tells : (code : CodeView) (r : ℕ) (e : Entry) (slots : ℕ) (rooms : Rooms) (xs : List Worker) (schedule : List ℕ) (first b : BoardView) (t : Trace) → All (IsNew code rooms) xs → first ≡ opening_board code r e slots rooms → (replayed (course_of first.setup) schedule (world_of first xs None)).board ≡ board_of b → IsTold b t → IsTraceOf (board_after code r e slots rooms schedule) t
tells code r e slots rooms xs schedule first b t new is led told =
    let same : board_after code r e slots rooms schedule ≡ board_of b =
    ap (λ (s : Setup). (replayed (course_of s) schedule (world_at (store_of e.store.items))).board) (sym (ap (λ (c : BoardView). c.setup) is)) ∙ ap (λ d. (replayed (course_of first.setup) schedule d).board) (sym (world_new code r e slots rooms xs new first is)) ∙ led in
    record {
      store = ap store_of told.store ∙ ap (λ (c : Board LocalView). c.store) (sym same);
      text = told.text ∙ ap (λ (c : Board LocalView). c.text) (sym same);
      state = told.state ∙ ap (λ (c : Board LocalView). state_of c.exit) (sym same);
      counts = told.counts ∙ ap (λ (c : Board LocalView). c.counts) (sym same);
    }

pub tells_events : (code : CodeView) (r : ℕ) (e : Entry) (slots : ℕ) (rooms : Rooms) (xs : List Worker) (schedule : List ℕ) (first : BoardView) (events : List Event) → All (IsNew code rooms) xs → first ≡ opening_board code r e slots rooms → events ≡ events_of (course_of first.setup) schedule (world_of first xs None) → events ≡ events_from code r e slots rooms schedule
tells_events code r e slots rooms xs schedule first events new is led =
    led ∙ sym (ap (λ (s : Setup). events_of (course_of s) schedule (world_at (store_of e.store.items))) (sym (ap (λ (c : BoardView). c.setup) is)) ∙ ap (λ d. events_of (course_of first.setup) schedule d) (sym (world_new code r e slots rooms xs new first is)))
