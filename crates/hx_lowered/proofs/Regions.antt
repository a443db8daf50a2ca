-- The words of a region keep the rules, where its body's words do in both versions.
use Rattle.std.proofs.Common.{◌≡◌, ℕ, zero, suc, ◌+◌, ◌≤◌, ◌<◌, ◌≢◌, Bool, true, false, List, [], ◌∷◌, ◌++◌, length, Option, Some, None, refl, sym, ap, subst, ◌∙◌, arith, if◌then◌else◌, length-append, append_assoc}
use Rattle.std.specs.Prelude.{slice_get, nat_eq, option_map}
use Rattle.std.specs.List.{AllByRecursion}
use Rattle.std.proofs.lemmas.List.Elements.{All-from_recursion}
use Rattle.std.proofs.lemmas.Option.{slice_get_within}
use Rattle.hx_tree.specs.declared.limits.TheConstants.{CELL_LIMIT}
use Rattle.hx_resolved.specs.declared.program.Induct as counted
use Rattle.hx_resolved.specs.Resolved as resolved
use Rattle.hx_resolved.specs.Resolved.{Clauses}
use Rattle.hx_code.specs.declared.word.Word.TheVariants.{Enter}
use Rattle.hx_code.specs.declared.table.Spot.{Spot}
use Rattle.hx_code.specs.declared.table.Carried.{Carried}
use Rattle.hx_code.specs.Code.{RegionView, CodeView}
use Rattle.hx_code.specs.Valid.{AreDistinctBy, InFunction, IsPrivate, IsOnlyCounter, IsCounterOrNone, IsSpotAt, CarriesWell}
use Rattle.hx_lowering.specs.Size.{turn_size}
use Rattle.hx_lowering.specs.Lines.{Version, cell_of}
use Rattle.hx_lowering.specs.Draft.{Draft, Targets, cells_from, counter_of, inside, put_word, plain_draft, turns_draft, region_at, region_draft}
use Rattle.hx_lowering.proofs.Stand.{spot_stands, length-put}
use Rattle.hx_lowered.proofs.WellFormed.{Context, RisesBy, IsRising, FitsInduct, FitsRegion, FitsTest, FitsStep}
use Rattle.hx_lowered.proofs.Fine.{same_some, each_so, spot_of, Sits, Good, Fine, fine_and, fine_enter, Knows, private_known, sits_at}
use Rattle.hx_lowered.proofs.Drafts.{Holds, Grows, plain_grows, turns_grows}
use Rattle.hx_lowered.proofs.Loops.{DraftPart, LoopBody, plain_part, turns_part}

pub seam : {A : Type 0} (xs : List A) (x : A) (ys : List A) → slice_get ((xs ++ x ∷ []) ++ ys) (length xs) ≡ Some x
seam [] x ys = refl
seam (y ∷ xs) x ys = seam xs x ys

-- ---- carried words and their cells

-- where f rises, it differs at any two places
rising_distinct : {A : Type 0} (f : A → ℕ) (xs : List A) → RisesBy f xs → AreDistinctBy f xs
rising_distinct f [] h i j d lt le = absurd (omega arith)
rising_distinct f (x ∷ xs) h zero zero d lt le = absurd (omega arith)
rising_distinct f (x ∷ xs) h zero (suc j) d lt le = above (f x) _ (All-from_recursion (λ y. f x < f y) xs h.0 j d (less j (length xs) le))
  where
    above : (a b : ℕ) → a < b → a ≢ b
    above a b l e = omega arith

    less : (a b : ℕ) → suc a < suc b → a < b
    less a b l = omega arith
rising_distinct f (x ∷ xs) h (suc i) zero d lt le = absurd (omega arith)
rising_distinct f (x ∷ xs) h (suc i) (suc j) d lt le = rising_distinct f xs h.1 i j d (less i j lt) (less j (length xs) le)
  where
    less : (a b : ℕ) → suc a < suc b → a < b
    less a b l = omega arith

cells_from_on : (ks : List ℕ) (n m : ℕ) → m < n → AllByRecursion (λ (c : Carried). m < c.cell) (cells_from ks n)
cells_from_on [] n m lt = tt
cells_from_on (k ∷ ks) n m lt = (lt, cells_from_on ks (n + 1) m (omega arith))

cells_rise : (ks : List ℕ) (n : ℕ) → RisesBy (λ (c : Carried). c.cell) (cells_from ks n)
cells_rise [] n = tt
cells_rise (k ∷ ks) n = (cells_from_on ks (n + 1) n (omega arith), cells_rise ks (n + 1))

cells_low : (ks : List ℕ) (n : ℕ) → n + length ks ≤ CELL_LIMIT → AllByRecursion (λ (c : Carried). c.cell < CELL_LIMIT) (cells_from ks n)
cells_low [] n le = tt
cells_low (k ∷ ks) n le = (low (length ks) le, cells_low ks (n + 1) (next (length ks) le))
  where
    low : (l : ℕ) → n + suc l ≤ CELL_LIMIT → n < CELL_LIMIT
    low l le = omega arith

    next : (l : ℕ) → n + suc l ≤ CELL_LIMIT → n + 1 + l ≤ CELL_LIMIT
    next l le = omega arith

-- what is said of each number is said of each carried word
each_private : (P : ℕ → Type 0) (ks : List ℕ) (n : ℕ) → AllByRecursion P ks → AllByRecursion (λ (c : Carried). P c.private) (cells_from ks n)
each_private P [] n h = tt
each_private P (k ∷ ks) n h = (h.0, each_private P ks (n + 1) h.1)

privates_rise : (ks : List ℕ) (n : ℕ) → IsRising ks → RisesBy (λ (c : Carried). c.private) (cells_from ks n)
privates_rise [] n h = tt
privates_rise (k ∷ ks) n h = (each_private (λ j. k < j) ks (n + 1) h.0, privates_rise ks (n + 1) h.1)

cell_low : (ks : List ℕ) (n k cell : ℕ) → cell_of (cells_from ks n) k ≡ Some cell → n + length ks ≤ CELL_LIMIT → cell < CELL_LIMIT
cell_low [] n k cell e le = absurd cc
cell_low (j ∷ ks) n k cell e le = go (λ h. cell_low ks (n + 1) k cell h (next (length ks) le)) (nat_eq j k) e
  where
    next : (l : ℕ) → n + suc l ≤ CELL_LIMIT → n + 1 + l ≤ CELL_LIMIT
    next l le = omega arith

    first : (l : ℕ) → n + suc l ≤ CELL_LIMIT → n ≡ cell → cell < CELL_LIMIT
    first l le is = omega arith

    go : (cell_of (cells_from ks (n + 1)) k ≡ Some cell → cell < CELL_LIMIT) → (b : Bool) → (if b then Some n else cell_of (cells_from ks (n + 1)) k) ≡ Some cell → cell < CELL_LIMIT
    go h true e = let is : n ≡ cell = cc in first (length ks) le is
    go h false e = h e

module _ (code : CodeView) (x : Context) (v : Version) (knows : Knows code x v) where
  -- the version of a region that is in the table
  pub knows_inside : (number : ℕ) (r : resolved.Region) → number < length code.regions → FitsRegion x r → Knows code x (inside number r v)
  knows_inside number r lt f = record {
    view = knows.view;
    is = knows.is;
    privates_are = knows.privates_are;
    inside = knows.inside;
    region = lt;
    globals_are = knows.globals_are;
    same_globals = knows.same_globals;
    cells = λ k cell e. cell_low r.carried 0 k cell e (omega (arith, f.few));
    counts = knows.counts;
  }

  -- the counter is a private word of the function, and in neither list
  counter_apart : (o : Option counted.Induct) (carried copied : List ℕ) → FitsInduct x o carried copied → IsOnlyCounter (option_map counter_of o) (cells_from carried 0) copied
  counter_apart None carried copied f = tt
  counter_apart (Some i) carried copied f = (All-from_recursion _ _ (each_private (λ k. k ≢ i.private) carried 0 f.1), All-from_recursion _ _ f.2)

  counter_known : (o : Option counted.Induct) (carried copied : List ℕ) → FitsInduct x o carried copied → IsCounterOrNone code v.function (option_map counter_of o)
  counter_known None carried copied f = tt
  counter_known (Some i) carried copied f = private_known code x v knows i.private f.0

  carries : (number size place : ℕ) (r : resolved.Region) (c : Clauses) → FitsRegion x r → Sits code (inside number r v) (place + 1) 0 → CarriesWell code (region_at r c size place)
  carries number size place r c f begins = record {
    cells = rising_distinct _ _ (cells_rise r.carried 0);
    in_cells = All-from_recursion _ _ (cells_low r.carried 0 (omega (arith, f.few)));
    carried = rising_distinct _ _ (privates_rise r.carried 0 f.carried_rise);
    copied = rising_distinct _ _ f.copied_rise;
    apart = λ i j d e lt le same.
        All-from_recursion (λ y. y ≢ _) r.copied (All-from_recursion (λ (g : Carried). AllByRecursion (λ y. y ≢ g.private) r.copied) (cells_from r.carried 0)
        (each_private (λ k. AllByRecursion (λ y. y ≢ k) r.copied) r.carried 0 f.apart) i d lt) j e le (sym same);
    counter = counter_apart r.induct r.carried r.copied f.induct;
    known = λ s e. subst (λ g. InFunction code (region_at r c size place) g) (ap (λ (t : Spot). t.function) (same_some _ _ _ begins e)) (record {
      carried = All-from_recursion _ _ (each_private (IsPrivate code v.function) r.carried 0 (each_so _ _ (private_known code x v knows) r.carried f.carried));
      copied = All-from_recursion _ _ (each_so _ _ (private_known code x v knows) r.copied f.copied);
      counter = counter_known r.induct r.carried r.copied f.induct;
    });
  }

module _ (code : CodeView) (x : Context) (c : Clauses) (size : ℕ) (v : Version) (knows : Knows code x v) where
  pub region_part : (r : resolved.Region) (body : Version → Targets → Draft → Draft) (d : Draft)
      → ((v' : Version) (to : Targets) (d' : Draft) → Grows code d' size (body v' to d'))
      → ((v' : Version) (to : Targets) (d' : Draft) → (body v' to d').regions ≡ d'.regions)
      → FitsTest x c.test → FitsStep x c.step → FitsRegion x r → v.region ≡ None
      → Holds code (region_draft r c size body v d) → Sits code v (length (region_draft r c size body v d).lines) 0
      → ((v' : Version) → Knows code x v' → LoopBody code v' (body v'))
      → DraftPart code v d (region_draft r c size body v d)
  region_part r body d grows keeps test step fits outside holds end h =
      let number = length d.regions in
      let place = length d.lines in
      let within = inside number r v in
      let behind_turns = place + 1 + (turn_size c size + 2) in
      let opened = put_word v 0 (Enter number behind_turns) d in
      let turns = turns_draft c size (body within) within opened in
      let plain = plain_draft c size (body v) v turns in
      let region = region_at r c size place in
      let regions_turns : turns.regions ≡ d.regions = keeps within _ _ in
      let regions_plain : plain.regions ≡ d.regions = keeps v _ _ ∙ regions_turns in
      let holds_plain : Holds code plain = record { lines = holds.lines; behind = region ∷ holds.behind; regions = holds.regions ∙ append_assoc plain.regions (region ∷ []) holds.behind } in
      let grown_plain = plain_grows code c size (body v) v turns (grows v) in
      let grown_turns = turns_grows code c size (body within) within opened (grows within) in
      let holds_turns = grown_plain.holds holds_plain in
      let holds_opened = grown_turns.holds holds_turns in
      let is_plain : length plain.regions ≡ number = ap length regions_plain in
      let is_turns : length turns.regions ≡ number = ap length regions_turns in
      let stands : slice_get code.regions number ≡ Some region = ap (λ rs. slice_get rs number) holds.regions ∙ ap (λ n. slice_get ((plain.regions ++ region ∷ []) ++ holds.behind) n) (sym is_plain) ∙ seam plain.regions region holds.behind in
      let listed : number < length code.regions = slice_get_within code.regions number region stands in
      let knows_within = knows_inside code x v knows number r listed fits in
      let part_plain = plain_part code x c size v knows (body v) turns (grows v) test step holds_plain end (h v knows) in
      let part_turns = turns_part code x c size within knows_within (body within) opened number refl (grows within) test step holds_turns (h within knows_within) in
      let at_opened = length-put v 0 (Enter number behind_turns) d.lines in
      let at_turns = grown_turns.long in
      let at_plain = grown_plain.long in
      let start_sits : Sits code within (place + 1) 0 = sits_at code within _ _ 0 0 at_opened refl part_turns.begins in
      let plain_sits : Sits code v behind_turns 0 = sits_at code v _ _ 0 0 (omega (arith, at_opened, at_turns)) refl part_plain.begins in
      let end_sits : Sits code v region.exit 0 = sits_at code v _ _ 0 0 (omega (arith, at_opened, at_turns, at_plain)) refl end in
      let exit_sits : IsSpotAt code region.exit v.function None = subst (λ o. slice_get code.spots region.exit ≡ Some (record { function = v.function; region = o; height = 0 })) outside end_sits in
      let carried : CarriesWell code region = carries code x v knows number size place r c fits start_sits in
      let enter : Good code place (Enter number behind_turns) (spot_of v 0) = record {
        known = (knows.inside, knows.region);
        low = omega arith;
        names = listed;
        leads = ((spot_of v 0, plain_sits, refl, refl), tt);
        balances = (omega arith, ((λ t e. ap (λ (s : Spot). s.height) (same_some _ _ _ e plain_sits)), tt));
        stands = (outside, refl);
      } in
      let fine_turns = subst (λ n. Fine code (length opened.lines) (length turns.lines) number n) is_turns part_turns.fine in
      let fine_plain = subst (λ n. Fine code (length turns.lines) (length plain.lines) number n) is_plain (subst (λ n. Fine code (length turns.lines) (length plain.lines) n (length plain.regions)) is_turns part_plain.fine) in
      let fine = fine_enter code v number behind_turns (length plain.lines) d.lines holds_opened.lines enter (fine_and code _ _ _ _ _ _ fine_turns fine_plain)
      (λ g e. subst (λ (g' : RegionView). IsSpotAt code g'.start v.function (Some number) × IsSpotAt code g'.exit v.function None × CarriesWell code g') (same_some _ _ _ stands e) (start_sits, exit_sits, carried)) in
      let count : number + 1 ≡ length (plain.regions ++ region ∷ []) = omega (arith, length-append plain.regions (region ∷ []), is_plain) in
      record { fine = subst (λ n. Fine code place (length plain.lines) number n) count fine; begins = spot_stands code v 0 (Enter number behind_turns) d.lines holds_opened.lines }
