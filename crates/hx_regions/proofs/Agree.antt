-- The machine's region and the plain one, word by word.
use Rattle.std.proofs.Common.{◌≡◌, ℕ, zero, suc, ◌+◌, ◌<◌, ◌%◌, ◌^◌, ℤ, List, [], length, Option, Some, None, Bool, true, false, refl, ap, ap₂, sym, subst, ◌∙◌, arith, length-set}
use Rattle.std.specs.Prelude.{if◌then◌else◌, nat_le, slice_set}
use Rattle.std.proofs.Math.Nat.{mod-add-mod}
use Rattle.hx_tree.specs.declared.limits.TheConstants.{TEXT_LIMIT}
use Rattle.hx_code.specs.declared.word.Ask.TheVariants.{Goes, Loads, Stores, Prints, Faults, Calls, Enters, Turns, Leaves, Returns}
use Rattle.hx_code.specs.declared.word.Exit.{Exit}
use Rattle.hx_code.specs.Code.{CodeView, store_words}
use Rattle.hx_code.specs.Call.{bytes_of}
use Rattle.hx_code.specs.Local.{LocalView, LocalWant, LocalAsks, LocalStuck, asks_of}
use Rattle.hx_code.specs.Valid.{IsValid}
use Rattle.hx_code.specs.Region.{held, Opened, opening, RegionState, region_opening, region_turns, region_want, region_step, region_after}
use Rattle.hx_code.proofs.Counters.{opening_modulo}
use Rattle.hx_word.specs.Running.{IsOpened}
use Rattle.hx_speculation.specs.Region.{Plain, Going, Over, does, step, Comes}
use Rattle.hx_frame.specs.Automaton.{asked_by}
use Rattle.hx_regions.specs.Region.{store_of, region_in, plain_after, Shows, FitsPlain}
use Rattle.hx_regions.proofs.Stores.{store_set}
use Rattle.hx_regions.proofs.Words.{IsWell, inside_well}
use Rattle.hx_regions.proofs.Plain.{steps_last, plain_fits}

-- ---- a turn is counted

held_next : (k : ℕ) → held (held k + 1) ≡ held (suc k)
held_next k = omega arith

iteration_next : (k : ℕ) → (k % 2 ^ 64 + 1) % 2 ^ 64 ≡ suc k % 2 ^ 64
iteration_next k = let sum : k + 1 ≡ suc k = omega arith in mod-add-mod k (2 ^ 64) 1 ∙ ap (λ n. n % 2 ^ 64) sum

-- ---- one word

module _ (code : CodeView) (o : Opened) where
  abbrev at_state : LocalView → List ℤ → List ℕ → ℕ → Option Exit → RegionState
  at_state q s text k e = record { opened = o; iteration = k % 2 ^ 64; local = q; store = s; text = text; turns = held k; exit = e }

  -- the machine's region is where the plain one is, over a store of as many words as the code says
  abbrev IsBoth : RegionState → Plain LocalView → Type 0
  IsBoth z (Going q t text k) = (s : List ℤ) × (length s ≡ store_words code) × (z ≡ at_state q s text k None) × (t ≡ store_of s)
  IsBoth z (Over e t text k) = (s : List ℤ) × (length s ≡ store_words code) × (q : LocalView) × (z ≡ at_state q s text k (Some e)) × (t ≡ store_of s)

  either : (b : Bool) (x y : RegionState) (p q : Plain LocalView) → IsBoth x p → IsBoth y q → IsBoth (if b then x else y) (if b then p else q)
  either true x y p q f g = f
  either false x y p q f g = g

  turns_both : (q : LocalView) (s : List ℤ) (text : List ℕ) (k : ℕ) → region_turns code (at_state q s text k None) ≡ at_state (opening code o (suc k)) s text (suc k) None
  turns_both q s text k =
      let turned : ℕ → LocalView → ℕ → RegionState = λ j l n. record { opened = o; iteration = j; local = l; store = s; text = text; turns = n; exit = None } in
      ap₂ {C = RegionState} (λ j n. turned j (opening code o j) n) (iteration_next k) (held_next k) ∙ ap (λ l. turned (suc k % 2 ^ 64) l (held (suc k))) (opening_modulo code o (suc k))

  want_both : (q : LocalView) (s : List ℤ) (text : List ℕ) (k : ℕ) → length s ≡ store_words code → (w : LocalWant) → IsWell code (Some o.region) w → IsBoth (region_want code w (at_state q s text k None)) (does (region_in code o) (asked_by q w) (store_of s) text k)
  want_both q s text k long LocalStuck h = absurd h
  want_both q s text k long (LocalAsks Goes l) h = (s, long, refl, refl)
  want_both q s text k long (LocalAsks (Loads a) l) h = (s, long, refl, refl)
  want_both q s text k long (LocalAsks (Stores a v) l) h =
      let lt : a < length s = let le = h.0.0 in omega (arith, le, long) in (slice_set s a v, length-set s a v ∙ long, refl, store_set s a v lt)
  want_both q s text k long (LocalAsks (Prints output at) l) h = either (nat_le (o.printed + length text + length (bytes_of output)) TEXT_LIMIT) _ _ _ _ (s, long, refl, refl) (s, long, l, refl, refl)
  want_both q s text k long (LocalAsks (Faults fault) l) h = (s, long, l, refl, refl)
  want_both q s text k long (LocalAsks (Calls f at) l) h = absurd h.0
  want_both q s text k long (LocalAsks (Enters r t) l) h = let no : None ≡ Some o.region = sym h.0.0 ∙ h.1 in absurd cc
  want_both q s text k long (LocalAsks Turns l) h = (s, long, turns_both q s text k, refl)
  want_both q s text k long (LocalAsks Leaves l) h = (s, long, l, refl, refl)
  want_both q s text k long (LocalAsks (Returns v) l) h = (s, long, l, refl, refl)

  step_both : IsValid code → (z : RegionState) (p : Plain LocalView) → FitsPlain code o p → IsBoth z p → IsBoth (region_step code z) (step (region_in code o) p)
  step_both valid z (Going q t text k) f h =
      let next = want_both q h.0 text k h.1 (asks_of code q) (inside_well code valid o.region q f.0) in
      subst (λ x. IsBoth (region_step code x) (step (region_in code o) (Going q t text k))) (sym h.2)
      (subst (λ u. IsBoth (region_step code (at_state q h.0 text k None)) (step (region_in code o) (Going q u text k))) (sym h.3) next)
  step_both valid z (Over e t text k) f h = (h.0, h.1, h.2, ap (region_step code) h.3, h.4)

  shows : (z : RegionState) (p : Plain LocalView) → IsBoth z p → Shows o z p
  shows z (Going q t text k) h =
      subst (λ x. Shows o x (Going q t text k)) (sym h.2) (record { opened = refl; iteration = refl; exit = refl; store = sym h.3; text = refl; turns = refl }, refl)
  shows z (Over e t text k) h = subst (λ x. Shows o x (Over e t text k)) (sym h.3) (record { opened = refl; iteration = refl; exit = refl; store = sym h.4; text = refl; turns = refl })

  long_of : (z : RegionState) (p : Plain LocalView) → IsBoth z p → length z.store ≡ store_words code
  long_of z (Going q t text k) h = ap (λ (x : RegionState). length x.store) h.2 ∙ h.1
  long_of z (Over e t text k) h = ap (λ (x : RegionState). length x.store) h.3 ∙ h.1

-- ---- any number of them

module _ (code : CodeView) (valid : IsValid code) (o : Opened) (is : IsOpened code o) (words : List ℤ) (long : length words ≡ store_words code) where
  both : (n : ℕ) → IsBoth code o (region_after code n (region_opening code o words)) (plain_after code o (store_of words) n)
  both zero = (words, long, refl, refl)
  both (suc n) =
      let z = region_after code n (region_opening code o words) in
      let next = step_both code o valid z (plain_after code o (store_of words) n) (plain_fits code valid o is (store_of words) n) (both n) in
      subst (IsBoth code o (region_step code z)) (sym (steps_last (region_in code o) n (Going (opening code o 0) (store_of words) [] 0))) next

  pub agree : (n : ℕ) → Shows o (region_after code n (region_opening code o words)) (plain_after code o (store_of words) n)
  agree n = shows code o (region_after code n (region_opening code o words)) (plain_after code o (store_of words) n) (both n)

  -- what the plain region comes to, the machine's shows after some words
  pub comes_shows : (p : Plain LocalView) → Comes (region_in code o) (store_of words) p → (n : ℕ) × Shows o (region_after code n (region_opening code o words)) p
  comes_shows p c = (c.0, subst (Shows o (region_after code c.0 (region_opening code o words))) c.1 (agree c.0))

  pub region_long : (n : ℕ) → length (region_after code n (region_opening code o words)).store ≡ store_words code
  region_long n = long_of code o (region_after code n (region_opening code o words)) (plain_after code o (store_of words) n) (both n)
