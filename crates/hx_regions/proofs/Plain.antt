-- The plain region of valid code stays in its region and within its text.
use Rattle.std.proofs.Common.{◌≡◌, ℕ, zero, suc, ◌+◌, ◌≤◌, List, [], length, refl, sym, subst, arith, length-append}
use Rattle.std.specs.Prelude.{nat_le}
use Rattle.std.proofs.lemmas.Bool.{leb-true}
use Rattle.hx_tree.specs.declared.limits.TheConstants.{TEXT_LIMIT}
use Rattle.hx_code.specs.Code.{CodeView}
use Rattle.hx_code.specs.Local.{LocalView}
use Rattle.hx_code.specs.Valid.{IsValid}
use Rattle.hx_code.specs.Region.{Opened, opening}
use Rattle.hx_word.specs.Running.{IsOpened}
use Rattle.hx_word.proofs.Regions.{opening_fits}
use Rattle.hx_speculation.specs.Iteration.{Store, Ask, Goes, Loads, Stores, Prints, TurnEnds, Leaves, Returns, Faults}
use Rattle.hx_speculation.specs.Region.{Region, Plain, Going, Over, does, step, steps, Comes}
use Rattle.hx_speculation.proofs.Stores.{if_cases}
use Rattle.hx_frame.specs.Automaton.{ask_in}
use Rattle.hx_regions.specs.Region.{region_in, plain_after, StandsIn, FitsAsked, FitsPlain}
use Rattle.hx_regions.proofs.Words.{word_fits}

-- the last of the words, by itself
pub steps_last : {σ : Type 0} (r : Region σ) (n : ℕ) (p : Plain σ) → steps r (suc n) p ≡ step r (steps r n p)
steps_last r zero p = refl
steps_last r (suc n) p = steps_last r n (step r p)

module _ (code : CodeView) (valid : IsValid code) (o : Opened) (is : IsOpened code o) where
  -- each iteration begins in the region
  pub opening_stands : (j : ℕ) → StandsIn code o.region (opening code o j)
  opening_stands j = record { fits = opening_fits code valid o is j; region = refl }

  does_fits : (a : Ask LocalView) (s : Store) (text : List ℕ) (k : ℕ) → FitsAsked code o.region a → o.printed + length text ≤ TEXT_LIMIT → FitsPlain code o (does (region_in code o) a s text k)
  does_fits (Goes q) s text k h room = (h, room)
  does_fits (Loads a q) s text k h room = (h.1 (s a), room)
  does_fits (Stores a v q) s text k h room = (h.1, room)
  does_fits (Prints bytes q full) s text k h room =
      if_cases {A = Plain LocalView} (FitsPlain code o) (nat_le (o.printed + length text + length bytes) TEXT_LIMIT) _ _
      (λ e. let le = leb-true (o.printed + length text + length bytes) TEXT_LIMIT e in (h, omega (arith, le, length-append text bytes)))
      (λ _. room)
  does_fits TurnEnds s text k h room = (opening_stands (suc k), room)
  does_fits Leaves s text k h room = room
  does_fits (Returns v) s text k h room = room
  does_fits (Faults fault) s text k h room = room

  step_fits : (p : Plain LocalView) → FitsPlain code o p → FitsPlain code o (step (region_in code o) p)
  step_fits (Going q s text k) h = does_fits (ask_in code q) s text k (word_fits code valid o.region q h.0) h.1
  step_fits (Over e s text k) h = h

  pub plain_fits : (entry : Store) (n : ℕ) → FitsPlain code o (plain_after code o entry n)
  plain_fits entry zero = (opening_stands 0, let le = is.printed in omega (arith, le))
  plain_fits entry (suc n) =
      subst (FitsPlain code o) (sym (steps_last (region_in code o) n (Going (opening code o 0) entry [] 0))) (step_fits (plain_after code o entry n) (plain_fits entry n))

  -- whatever it comes to
  pub comes_fits : (entry : Store) (p : Plain LocalView) → Comes (region_in code o) entry p → FitsPlain code o p
  comes_fits entry p c = subst (FitsPlain code o) c.1 (plain_fits entry c.0)
