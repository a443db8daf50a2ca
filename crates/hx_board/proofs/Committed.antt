-- What is kept once the head has settled.
use Rattle.std.proofs.Common.{◌≡◌, ℕ, ◌+◌, ◌≤◌, ◌^◌, List, ◌∷◌, length, true, ap, sym, subst, ◌∙◌, arith}
use Rattle.hx_code.specs.declared.word.Exit.{Exit}
use Rattle.hx_code.specs.Code.{store_words}
use Rattle.hx_code.specs.Local.{LocalView}
use Rattle.hx_speculation.specs.Frame.{Frame, IsTracked}
use Rattle.hx_speculation.specs.Slots.{Slot}
use Rattle.hx_speculation.specs.Board.{Answer, Token, Settle}
use Rattle.hx_board.specs.Board.{BoardView, region_on}
use Rattle.hx_board.specs.Calls.{Does}
use Rattle.hx_board.specs.Known.{IsBelow, WriteBelow, IsKept}
use Rattle.hx_board.proofs.Lengths.{long_overlay}
use Rattle.hx_board.proofs.Settling.{gone_on, passed_on, ended_at}
use Rattle.hx_board.proofs.Steps.{sound_after, becomes}

module _ (b : BoardView) (t : Token) (f : Frame LocalView) (x : Slot LocalView) (later : List (Slot LocalView)) (at : b.active ≡ x ∷ later) (tracked : IsTracked (region_on b.setup).ask f) (k : IsKept b) where
  both_below : WriteBelow (store_words b.setup.code) (x ∷ later)
  both_below = subst (WriteBelow (store_words b.setup.code)) at k.below

  -- what the head has written lies in the store
  pub written_below : IsBelow (length b.store) x.buffer
  written_below = subst (λ n. IsBelow n x.buffer) (sym k.long) both_below.0

  pub goes_on_kept : (answer : Answer LocalView) (q : LocalView) (text : List ℕ) → Does b (Settle t f true) answer (gone_on b x later q text) → IsKept (gone_on b x later q text)
  goes_on_kept answer q text is = record {
    sound = sound_after b (gone_on b x later q text) (Settle t f true) (λ _. tracked) (becomes b (gone_on b x later q text) (Settle t f true) answer is) k.sound;
    long = long_overlay x.buffer b.store ∙ k.long;
    below = (tt, both_below.1);
    numbers = subst (λ n. b.head + n ≤ 2 ^ 64) (ap length at) k.numbers;
  }

  pub passes_kept : (answer : Answer LocalView) → Does b (Settle t f true) answer (passed_on b x later) → IsKept (passed_on b x later)
  passes_kept answer is = record {
    sound = sound_after b (passed_on b x later) (Settle t f true) (λ _. tracked) (becomes b (passed_on b x later) (Settle t f true) answer is) k.sound;
    long = long_overlay x.buffer b.store ∙ k.long;
    below = both_below.1;
    numbers = let few = k.numbers in let long = ap length at in omega (arith, few, long);
  }

  pub ends_kept : (answer : Answer LocalView) (e : Exit) → Does b (Settle t f true) answer (ended_at b x later e) → IsKept (ended_at b x later e)
  ends_kept answer e is = record {
    sound = sound_after b (ended_at b x later e) (Settle t f true) (λ _. tracked) (becomes b (ended_at b x later e) (Settle t f true) answer is) k.sound;
    long = long_overlay x.buffer b.store ∙ k.long;
    below = tt;
    numbers = let few = k.numbers in omega (arith, few);
  }
