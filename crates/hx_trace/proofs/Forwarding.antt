-- Where a load finds its value, one iteration after another.
use Rattle.std.proofs.Common.{◌≡◌, ℕ, zero, suc, List, [], ◌∷◌, drop, Some, Bool, true, false, ap, sym, ◌∙◌}
use Rattle.std.specs.Prelude.{slice_get, if◌then◌else◌}
use Rattle.hx_code.specs.Local.{LocalView}
use Rattle.hx_speculation.specs.Slots.{Slot, is_at}
use Rattle.hx_trace.specs.declared.event.Source.{Source}
use Rattle.hx_trace.specs.Events.{own_source, source_behind, source_in}

drop_at : (xs : List (Slot LocalView)) (k : ℕ) (x : Slot LocalView) → slice_get xs k ≡ Some x → drop k xs ≡ x ∷ drop (suc k) xs
drop_at [] k x e = absurd cc
drop_at (y ∷ xs) zero x e = let same : y ≡ x = cc in ap (λ z. z ∷ xs) same
drop_at (y ∷ xs) (suc k) x e = drop_at xs k x e

module _ (w attempt a j k : ℕ) (there : Source) (xs : List (Slot LocalView)) (x : Slot LocalView) (at : slice_get xs k ≡ Some x) where
  -- the attempt is there
  pub source_stop : is_at x w attempt ≡ true → source_in w attempt a j there (drop k xs) ≡ own_source a there x
  source_stop is = ap (source_in w attempt a j there) (drop_at xs k x at) ∙ ap (λ (t : Bool). if t then own_source a there x else source_in w attempt a (suc j) (source_behind a j there x) (drop (suc k) xs)) is

  -- it is behind
  pub source_more : is_at x w attempt ≡ false → source_in w attempt a j there (drop k xs) ≡ source_in w attempt a (suc j) (source_behind a j there x) (drop (suc k) xs)
  source_more is = ap (source_in w attempt a j there) (drop_at xs k x at) ∙ ap (λ (t : Bool). if t then own_source a there x else source_in w attempt a (suc j) (source_behind a j there x) (drop (suc k) xs)) is

  pub source_next : is_at x w attempt ≡ false → (next place : ℕ) (new : Source) → next ≡ suc j → place ≡ suc k → new ≡ source_behind a j there x → source_in w attempt a j there (drop k xs) ≡ source_in w attempt a next new (drop place xs)
  source_next is next place new one more same =
      source_more is ∙ ap (λ n. source_in w attempt a n (source_behind a j there x) (drop (suc k) xs)) (sym one) ∙ ap (λ s. source_in w attempt a next s (drop (suc k) xs)) (sym same) ∙ ap (λ n. source_in w attempt a next new (drop n xs)) (sym more)
