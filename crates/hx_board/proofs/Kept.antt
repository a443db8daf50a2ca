-- What load, store and abandon do, and what is kept through them.
use Rattle.std.proofs.Common.{◌≡◌, ℕ, ◌+◌, ◌<◌, ◌≤◌, ◌^◌, ℤ, List, length, Bool, true, false, refl, ap, sym, subst, ◌∙◌, arith}
use Rattle.std.specs.Prelude.{if◌then◌else◌}
use Rattle.hx_tree.specs.declared.outcome.Counts.{Counts}
use Rattle.hx_code.specs.Code.{store_words}
use Rattle.hx_code.specs.Local.{LocalView}
use Rattle.hx_code.specs.Region.{held}
use Rattle.hx_speculation.specs.Slots.{Slot, of_worker, found, Found, with_mark, written, Written, with_write, restarted_from, from_worker, may_restart}
use Rattle.hx_speculation.specs.Board.{Answer, Board, Load, Write, Abandon, Done, counts_store, after_load, after_store, abandons, spends, call}
use Rattle.hx_regions.specs.Region.{store_of}
use Rattle.hx_slots.specs.Slots.{numbered_at}
use Rattle.hx_board.specs.Board.{BoardView, region_on, board_of, is_over}
use Rattle.hx_board.specs.Calls.{Becomes}
use Rattle.hx_board.specs.Known.{IsKept}
use Rattle.hx_board.proofs.Below.{below_mark, below_write, below_abandon}
use Rattle.hx_board.proofs.Lengths.{long_mark, long_write, long_restarted}
use Rattle.hx_board.proofs.Places.{numbered_some, numbered_none, get_there}
use Rattle.hx_board.proofs.Steps.{runs, sound_after}

-- a load of a new word
pub load_kept : (b : BoardView) (w attempt a : ℕ) (v : ℤ) → is_over b ≡ false → Found.New v ≡ found b.setup.capacities.marks w attempt a (store_of b.store a) b.active → IsKept b → IsKept (record b { active = with_mark w attempt a v b.active })
load_kept b w attempt a v over f k =
    let after : BoardView = record b { active = with_mark w attempt a v b.active } in
    let step = runs b (Load w attempt a) over ∙ sym (ap (after_load w attempt a (board_of b)) f) in
    let is : Becomes b (Load w attempt a) after = record { step = ap (λ p. p.1) step; setup = refl } in
    record {
      sound = sound_after b after (Load w attempt a) tt is k.sound;
      long = k.long;
      below = below_mark (store_words b.setup.code) w attempt a v b.active k.below;
      numbers = subst (λ n. b.head + n ≤ 2 ^ 64) (sym (long_mark w attempt a v b.active)) k.numbers;
    }

-- a store that is done
pub store_kept : (b : BoardView) (w attempt a : ℕ) (v : ℤ) (n : ℕ) (had : Bool) (counts : Counts) → is_over b ≡ false → Written.Restarts n had ≡ written b.setup.capacities.buffer w attempt a v b.active → counts ≡ counts_store n had b.counts → a < length b.store → IsKept b → IsKept (record b { active = with_write w attempt a v b.active; counts = counts })
store_kept b w attempt a v n had counts over f e lt k =
    let after : BoardView = record b { active = with_write w attempt a v b.active; counts = counts } in
    let step = runs b (Write w attempt a v) over ∙ sym (ap (after_store w attempt a v (board_of b)) f) in
    let is : Becomes b (Write w attempt a v) after = record { step = ap (λ p. p.1) step ∙ ap (λ (z : Counts). board_of (record after { counts = z })) (sym e); setup = refl } in
    record {
      sound = sound_after b after (Write w attempt a v) tt is k.sound;
      long = k.long;
      below = below_write (store_words b.setup.code) w attempt a v b.active (subst (λ m. a < m) k.long lt) k.below;
      numbers = subst (λ m. b.head + m ≤ 2 ^ 64) (sym (long_write w attempt a v b.active)) k.numbers;
    }

-- ---- abandon

abbrev pub IsPlace : ℕ → List (Slot LocalView) → ℕ → Type 0
IsPlace w xs k = (j : ℕ) → of_worker w j xs ≡ numbered_at j xs k

-- a free worker
pub abandon_free : (b : BoardView) (w k : ℕ) → is_over b ≡ false → IsPlace w b.active k → length b.active ≤ k → Becomes b (Abandon w) b
abandon_free b w k over at le =
    let step = runs b (Abandon w) over ∙ ap (abandons w (board_of b)) (at b.head ∙ numbered_none b.head b.active k le) in
    record { step = ap (λ p. p.1) step; setup = refl }

abbrev after_abandon : BoardView → ℕ → Bool → Answer LocalView × Board LocalView
after_abandon b w t = if t then (Done, record (board_of b) { active = restarted_from w b.active; counts = record b.counts { abandons = held (b.counts.abandons + 1) } }) else spends (board_of b)

abandon_runs : (b : BoardView) (w k : ℕ) → is_over b ≡ false → IsPlace w b.active k → k < length b.active → call (region_on b.setup) b.setup.capacities (Abandon w) (board_of b) ≡ after_abandon b w (may_restart (from_worker w b.active))
abandon_runs b w k over at lt =
    let there = get_there b.active k (omega (arith, lt)) in
    runs b (Abandon w) over ∙ ap (abandons w (board_of b)) (at b.head ∙ numbered_some b.head b.active k there.0 there.1)

pub abandon_does : (b : BoardView) (w k n : ℕ) → is_over b ≡ false → IsPlace w b.active k → k < length b.active → may_restart (from_worker w b.active) ≡ true → n ≡ held (b.counts.abandons + 1) → Becomes b (Abandon w) (record b { active = restarted_from w b.active; counts = record b.counts { abandons = n } })
abandon_does b w k n over at lt may e =
    let step = abandon_runs b w k over at lt ∙ ap (after_abandon b w) may in
    record { step = ap (λ p. p.1) step ∙ ap (λ m. board_of (record b { active = restarted_from w b.active; counts = record b.counts { abandons = m } })) (sym e); setup = refl }

pub abandon_spends : (b : BoardView) (w k : ℕ) → is_over b ≡ false → IsPlace w b.active k → k < length b.active → may_restart (from_worker w b.active) ≡ false → Becomes b (Abandon w) (record b { is_spent = true })
abandon_spends b w k over at lt may =
    let step = abandon_runs b w k over at lt ∙ ap (after_abandon b w) may in record { step = ap (λ p. p.1) step; setup = refl }

pub abandon_kept : (b : BoardView) (w n : ℕ) → Becomes b (Abandon w) (record b { active = restarted_from w b.active; counts = record b.counts { abandons = n } }) → IsKept b → IsKept (record b { active = restarted_from w b.active; counts = record b.counts { abandons = n } })
abandon_kept b w n is k = record {
  sound = sound_after b (record b { active = restarted_from w b.active; counts = record b.counts { abandons = n } }) (Abandon w) tt is k.sound;
  long = k.long;
  below = below_abandon (store_words b.setup.code) w b.active k.below;
  numbers = subst (λ m. b.head + m ≤ 2 ^ 64) (sym (long_restarted w b.active)) k.numbers;
}
