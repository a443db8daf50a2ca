-- How the tests of a validator come together.
use Rattle.std.proofs.Common.{◌≡◌, ◌≢◌, ◌⊎◌, inl, inr, ℕ, zero, suc, ◌+◌, ◌<◌, ◌≤◌, List, [], ◌∷◌, length, refl, ap, sym, subst, ◌∙◌, arith, Option, Some, None, get_or-set_other, get_or-set_same}
use Rattle.std.specs.Prelude.{slice_get, slice_set, slice_index_or}
use Rattle.std.specs.List.{AllByRecursion}
use Rattle.std.proofs.Math.Nat.{eq-or-lt_of_le}
use Rattle.std.proofs.lemmas.Option.{slice_get_within}
use Rattle.hx_code.specs.declared.word.Word.{Word}
use Rattle.hx_code.specs.declared.word.Word.TheVariants.{Const, Priv, SetPriv, Glob, SetGlob, Elem, SetElem, Dup, Drop, Unary, Binary, Jump, JumpFalse, JumpTrue, Call, Ret, Print, Emit, Enter, Turn, Leave}
use Rattle.hx_code.specs.declared.table.Spot.{Spot}
use Rattle.hx_code.specs.declared.table.Induct.{Induct}
use Rattle.hx_code.specs.declared.table.Tables.{Tables}
use Rattle.hx_code.specs.Code.{CodeView, RegionView}
use Rattle.hx_code.specs.Valid.{IsValid, HasSpots, WithinLimits, EachWord, IsBeside, HasHeight, successors, BeginsFunctions, BeginsRegion, EachRegion, CarriesWell, IsCounterOrNone}
use Rattle.hx_code.specs.Validation.{code_of, tables_of, IsLed, IsFine, IsEnterIn, IsOnlyEnter, AreOnlyEnters, HasTwoEnters, BeginsAt, EntersRegion}
use Rattle.std.proofs.lemmas.Bool.{cases_lt}

pub same_some : {A : Type 0} (x y : A) → Some x ≡ Some y → x ≡ y
same_some x y h = cc

-- one more element
pub one_more : {A : Type 0} (xs : List A) (P : ℕ → A → Type 0) (n : ℕ) (x : A) → slice_get xs n ≡ Some x → P n x
    → ((k : ℕ) (y : A) → k < n → slice_get xs k ≡ Some y → P k y) → (k : ℕ) (y : A) → k < n + 1 → slice_get xs k ≡ Some y → P k y
one_more xs P n x at holds before k y below is =
    elim (let le : k ≤ n = omega arith in eq-or-lt_of_le le) [
      | inl e ↦
          let there : slice_get xs n ≡ Some y = subst (λ i. slice_get xs i ≡ Some y) e is in
          let here : P n y = subst (P n) (same_some x y (sym at ∙ there)) holds in
          subst (λ i. P i y) (sym e) here
      | inr lt ↦ before k y lt is
    ]

-- ---- words

-- what is asked of a word does not look at the others
pub fine_same : (words : List Word) (t : Tables) (p : ℕ) (w : Word) (s : Spot) → (IsFine (tables_of t) p w s → IsFine (code_of words t) p w s) × (IsFine (code_of words t) p w s → IsFine (tables_of t) p w s)
fine_same words t p (Const n) s = (λ h. h, λ h. h)
fine_same words t p (Priv k) s = (λ h. h, λ h. h)
fine_same words t p (SetPriv k) s = (λ h. h, λ h. h)
fine_same words t p (Glob a) s = (λ h. h, λ h. h)
fine_same words t p (SetGlob a) s = (λ h. h, λ h. h)
fine_same words t p (Elem a at) s = (λ h. h, λ h. h)
fine_same words t p (SetElem a at) s = (λ h. h, λ h. h)
fine_same words t p Dup s = (λ h. h, λ h. h)
fine_same words t p Drop s = (λ h. h, λ h. h)
fine_same words t p (Unary o) s = (λ h. h, λ h. h)
fine_same words t p (Binary o at) s = (λ h. h, λ h. h)
fine_same words t p (Jump to) s = (λ h. h, λ h. h)
fine_same words t p (JumpFalse to) s = (λ h. h, λ h. h)
fine_same words t p (JumpTrue to) s = (λ h. h, λ h. h)
fine_same words t p (Call f at) s = (λ h. h, λ h. h)
fine_same words t p Ret s = (λ h. h, λ h. h)
fine_same words t p (Print at) s = (λ h. h, λ h. h)
fine_same words t p (Emit at) s = (λ h. h, λ h. h)
fine_same words t p (Enter r to) s = (λ h. h, λ h. h)
fine_same words t p Turn s = (λ h. h, λ h. h)
fine_same words t p Leave s = (λ h. h, λ h. h)

led_beside : (code : CodeView) (s : Spot) (h p : ℕ) → IsLed code s h p → IsBeside code s p
led_beside code s h p at = (record { function = s.function; region = s.region; height = h }, at, refl, refl)

led_high : (code : CodeView) (s : Spot) (h p : ℕ) → IsLed code s h p → HasHeight code h p
led_high code s h p at t here = let e = same_some t (record { function = s.function; region = s.region; height = h }) (sym here ∙ at) in ap (λ (x : Spot). x.height) e

led_by : (code : CodeView) (s : Spot) (h p : ℕ) → IsBeside code s p → HasHeight code h p → IsLed code s h p
led_by code s h p b high =
    let t = b.0 in
    let e : t ≡ record { function = s.function; region = s.region; height = h } = rw (← b.2, ← b.3, ← high t b.1) refl in
    b.1 ∙ ap Some e

pub led_parts : (code : CodeView) (s : Spot) (h : ℕ) (ps : List ℕ) → AllByRecursion (IsLed code s h) ps → AllByRecursion (IsBeside code s) ps × AllByRecursion (HasHeight code h) ps
led_parts code s h [] all = (tt, tt)
led_parts code s h (p ∷ ps) all = let rest = led_parts code s h ps all.1 in ((led_beside code s h p all.0, rest.0), (led_high code s h p all.0, rest.1))

pub led_whole : (code : CodeView) (s : Spot) (h : ℕ) (ps : List ℕ) → AllByRecursion (IsBeside code s) ps → AllByRecursion (HasHeight code h) ps → AllByRecursion (IsLed code s h) ps
led_whole code s h [] beside high = tt
led_whole code s h (p ∷ ps) beside high = (led_by code s h p beside.0 high.0, led_whole code s h ps beside.1 high.1)

-- ---- enters

pub more_enters : (words : List Word) (mark n r v : ℕ) → IsOnlyEnter words mark n r v → (IsEnterIn words r n → ⊥) → IsOnlyEnter words mark (n + 1) r v
more_enters words mark n r v (inl h) none = inl (h.0, λ p lt e. elim (let le : p ≤ n = omega arith in eq-or-lt_of_le le) [ inl is ↦ none (subst (IsEnterIn words r) is e) | inr below ↦ h.1 p below e ])
more_enters words mark n r v (inr h) none = inr (omega (arith, h.0), h.1, λ p lt e. elim (let le : p ≤ n = omega arith in eq-or-lt_of_le le) [ inl is ↦ absurd (none (subst (IsEnterIn words r) is e)) | inr below ↦ h.2 p below e ])

pub new_enter : (words : List Word) (mark n r v : ℕ) → IsOnlyEnter words mark n r v → v ≡ mark → n ≤ mark → IsEnterIn words r n → IsOnlyEnter words mark (n + 1) r n
new_enter words mark n r v (inl h) is le here = inr (omega arith, here, λ p lt e. elim (let le : p ≤ n = omega arith in eq-or-lt_of_le le) [ inl same ↦ same | inr below ↦ absurd (h.1 p below e) ])
new_enter words mark n r v (inr h) is le here = absurd (omega (arith, h.0, is, le))

pub second_enter : (words : List Word) (mark n r v : ℕ) → IsOnlyEnter words mark n r v → v ≢ mark → IsEnterIn words r n → HasTwoEnters words
second_enter words mark n r v (inl h) other here = absurd (other h.0)
second_enter words mark n r v (inr h) other here = (r, v, n, h.1, here, h.0)

-- a word that enters a region
enter_at : (words : List Word) (n r : ℕ) (w : Word) → slice_get words n ≡ Some w → EntersRegion w r → IsEnterIn words r n
enter_at words n r w at e = (e.0, at ∙ ap Some e.1)

enters_at : (words : List Word) (n r : ℕ) (w : Word) → slice_get words n ≡ Some w → IsEnterIn words r n → EntersRegion w r
enters_at words n r w at e = (e.0, same_some w (Enter r e.0) (sym at ∙ e.1))

one_region : (w : Word) (r q : ℕ) → EntersRegion w r → EntersRegion w q → r ≡ q
one_region w r q a b = same_enter r q a.0 b.0 (sym a.1 ∙ b.1)
  where
    same_enter : (r q t u : ℕ) → Enter r t ≡ Enter q u → r ≡ q
    same_enter r q t u e = cc

pub table_same : (words : List Word) (mark n first : ℕ) (table : List ℕ) (w : Word) → slice_get words n ≡ Some w → AreOnlyEnters words mark n first table → ((i : ℕ) → i < 256 → EntersRegion w (first + i) → ⊥) → AreOnlyEnters words mark (n + 1) first table
table_same words mark n first table w at all none i lt = more_enters words mark n (first + i) (slice_index_or table i 0) (all i lt) (λ e. none i lt (enters_at words n (first + i) w at e))

pub table_more : (words : List Word) (mark n first : ℕ) (table : List ℕ) (w : Word) (k : ℕ) → slice_get words n ≡ Some w → AreOnlyEnters words mark n first table → length table ≡ 256 → k < 256 → EntersRegion w (first + k) → slice_index_or table k 0 ≡ mark → n ≤ mark → AreOnlyEnters words mark (n + 1) first (slice_set table k n)
table_more words mark n first table w k at all long below enters free le i lt =
    elim (nat_cases i k) [
      | inl is ↦
          let new = new_enter words mark n (first + k) (slice_index_or table k 0) (all k below) free le (enter_at words n (first + k) w at enters) in
          let set : slice_index_or (slice_set table k n) k 0 ≡ n = get_or-set_same table k n 0 (omega (arith, long)) in
          subst (λ j. IsOnlyEnter words mark (n + 1) (first + j) (slice_index_or (slice_set table k n) j 0)) (sym is) (subst (IsOnlyEnter words mark (n + 1) (first + k)) (sym set) new)
      | inr other ↦
          let kept : slice_index_or (slice_set table k n) i 0 ≡ slice_index_or table i 0 = get_or-set_other table k i n 0 other in
          let more = more_enters words mark n (first + i) (slice_index_or table i 0) (all i lt) (λ e. let same : first + i ≡ first + k = one_region w (first + i) (first + k) (enters_at words n (first + i) w at e) enters in other (omega (arith, same))) in
          subst (IsOnlyEnter words mark (n + 1) (first + i)) (sym kept) more
    ]
  where
    nat_cases : (i k : ℕ) → (i ≡ k) ⊎ (i ≢ k)
    nat_cases i k = elim (cases_lt i k) [ inl a ↦ inr (λ e. omega arith) | inr b ↦ elim (eq-or-lt_of_le b) [ inl e ↦ inl (sym e) | inr c ↦ inr (λ e. omega arith) ] ]

pub table_twice : (words : List Word) (mark n first : ℕ) (table : List ℕ) (w : Word) (k : ℕ) → slice_get words n ≡ Some w → AreOnlyEnters words mark n first table → k < 256 → EntersRegion w (first + k) → slice_index_or table k 0 ≢ mark → HasTwoEnters words
table_twice words mark n first table w k at all below enters taken = second_enter words mark n (first + k) (slice_index_or table k 0) (all k below) taken (enter_at words n (first + k) w at enters)

-- ---- regions

pub there : {A : Type 0} (xs : List A) (k : ℕ) → k < length xs → (x : A) × (slice_get xs k ≡ Some x)
there [] k lt = absurd (omega arith)
there (x ∷ xs) zero lt = (x, refl)
there (x ∷ xs) (suc k) lt = there xs k (omega arith)

pub not_twice : (words : List Word) (t : Tables) → HasSpots (code_of words t) → EachWord (code_of words t) (IsFine (tables_of t)) → EachRegion (code_of words t) (BeginsRegion (code_of words t)) → HasTwoEnters words → ⊥
not_twice words t spots fine begins two =
    let r = two.0 in let p = two.1 in let q = two.2 in
    let below = slice_get_within words p (Enter r two.3.0) two.3.1 in
    let s = there t.spots.items p (omega (arith, below, spots.each)) in
    let known : r < length t.regions.items = (fine p (Enter r two.3.0) s.0 two.3.1 s.1).0 in
    let g = there t.regions.items r known in
    let b = begins r g.0 g.1 in
    let one = b.only p two.3 in let other = b.only q two.4 in
    omega (arith, one, other, two.5)

pub has_enter : (words : List Word) (t : Tables) (mark r v : ℕ) (g : RegionView) → EachRegion (code_of words t) (BeginsRegion (code_of words t)) → slice_get t.regions.items r ≡ Some g → IsOnlyEnter words mark (length words) r v → v ≡ mark → length words ≤ mark → ⊥
has_enter words t mark r v g begins at (inl h) is le =
    let b = begins r g at in h.1 b.place (slice_get_within words b.place (Enter r b.enter.0) b.enter.1) b.enter
has_enter words t mark r v g begins at (inr h) is le = omega (arith, h.0, is, le)

pub begins_back : (words : List Word) (t : Tables) (mark r v : ℕ) (g : RegionView) (s : Spot) → BeginsRegion (code_of words t) r g → IsOnlyEnter words mark (length words) r v → v ≢ mark → slice_get t.spots.items v ≡ Some s → BeginsAt (tables_of t) r g s
begins_back words t mark r v g s b (inl h) other at = absurd (other h.0)
begins_back words t mark r v g s b (inr h) other at =
    let here : v ≡ b.place = b.only v h.1 in
    let same : b.spot ≡ s = same_some b.spot s (sym b.at ∙ subst (λ p. slice_get t.spots.items p ≡ Some s) here at) in
    subst (BeginsAt (tables_of t) r g) same (b.start, b.exit)

pub begins_made : (words : List Word) (t : Tables) (mark r v : ℕ) (g : RegionView) (s : Spot) → IsOnlyEnter words mark (length words) r v → v ≢ mark → slice_get t.spots.items v ≡ Some s → BeginsAt (tables_of t) r g s → BeginsRegion (code_of words t) r g
begins_made words t mark r v g s (inl h) other at is = absurd (other h.0)
begins_made words t mark r v g s (inr h) other at is =
    record { place = v; enter = h.1; only = λ p e. h.2 p (slice_get_within words p (Enter r e.0) e.1) e; spot = s; at = at; start = is.0; exit = is.1 }

-- ---- the whole

pub fine_words : (words : List Word) (t : Tables) → EachWord (code_of words t) (IsFine (tables_of t)) → EachWord (code_of words t) (IsFine (code_of words t))
fine_words words t all p w s a b = (fine_same words t p w s).0 (all p w s a b)

-- whether a counter is in a function does not look at the words
counter_same : (words : List Word) (t : Tables) (f : ℕ) (c : Option Induct) → IsCounterOrNone (tables_of t) f c → IsCounterOrNone (code_of words t) f c
counter_same words t f None h = tt
counter_same words t f (Some c) h = h

counter_back : (words : List Word) (t : Tables) (f : ℕ) (c : Option Induct) → IsCounterOrNone (code_of words t) f c → IsCounterOrNone (tables_of t) f c
counter_back words t f None h = tt
counter_back words t f (Some c) h = h

pub all_valid : (words : List Word) (t : Tables) → HasSpots (code_of words t) → WithinLimits (code_of words t) → EachWord (code_of words t) (IsFine (tables_of t)) → BeginsFunctions (tables_of t)
    → EachRegion (code_of words t) (BeginsRegion (code_of words t)) → EachRegion (tables_of t) (λ r g. CarriesWell (tables_of t) g) → IsValid (code_of words t)
all_valid words t spots limits all functions regions carries =
    let code = code_of words t in
    let fine = fine_words words t all in
    record {
      spots = spots;
      limits = limits;
      names = λ p w s a b. (fine p w s a b).0;
      leads = λ p w s a b. (led_parts code s _ (successors p w) (fine p w s a b).2).0;
      heights = λ p w s a b. ((fine p w s a b).1, (led_parts code s _ (successors p w) (fine p w s a b).2).1);
      functions = functions;
      regions = regions;
      stands = λ p w s a b. (fine p w s a b).3;
      carries = λ r g at. let h = carries r g at in record { cells = h.cells; in_cells = h.in_cells; carried = h.carried; copied = h.copied; apart = h.apart; counter = h.counter; known = λ s here. let k = h.known s here in record { carried = k.carried; copied = k.copied; counter = counter_same words t s.function g.induct k.counter } };
    }

pub words_of_valid : (words : List Word) (t : Tables) → IsValid (code_of words t) → EachWord (code_of words t) (IsFine (tables_of t))
words_of_valid words t v p w s a b =
    let h = v.heights p w s a b in
    (fine_same words t p w s).1 (v.names p w s a b, h.0, led_whole (code_of words t) s _ (successors p w) (v.leads p w s a b) h.1, v.stands p w s a b)

pub carries_of_valid : (words : List Word) (t : Tables) → IsValid (code_of words t) → EachRegion (tables_of t) (λ r g. CarriesWell (tables_of t) g)
carries_of_valid words t v r g at =
    let h = v.carries r g at in
    record { cells = h.cells; in_cells = h.in_cells; carried = h.carried; copied = h.copied; apart = h.apart; counter = h.counter; known = λ s here. let k = h.known s here in record { carried = k.carried; copied = k.copied; counter = counter_back words t s.function g.induct k.counter } }

pub limits_same : (words : List Word) (t : Tables) → WithinLimits (tables_of t) → WithinLimits (code_of words t)
limits_same words t h =
    record { functions = h.functions; small = h.small; heights = h.heights; globals = h.globals; opening = h.opening; main = h.main; input = h.input; input_length = h.input_length }
