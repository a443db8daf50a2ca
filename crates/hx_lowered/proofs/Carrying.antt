-- The private words that a region takes along are distinct ones of its function.
use Rattle.std.proofs.Common.{◌≡◌, ◌≢◌, ℕ, zero, suc, ◌+◌, ◌≤◌, ◌<◌, Bool, true, false, List, [], ◌∷◌, length, Option, Some, None, refl, sym, ap, subst, ◌∙◌, arith, if◌then◌else◌}
use Rattle.std.specs.Prelude.{not, ◌&&◌, ◌||◌, nat_eq, cond}
use Rattle.std.proofs.lemmas.Bool.Decides.{Decides-eqb}
use Rattle.std.specs.List.{AllByRecursion, range_with_len, filter}
use Rattle.hx_tree.specs.declared.limits.TheConstants.{CELL_LIMIT}
use Rattle.hx_resolved.specs.declared.program.Induct.{Induct}
use Rattle.hx_resolved.specs.Resolved.{ToPrivate, ToWord, ToElement, Set, Update, Simple, Declare, Assign, Clauses, Stmt}
use Rattle.hx_resolved.specs.Carried.{if_any, any_of, kept_if, simple_begins, stmt_assigns, induct_of, is_induct, region_of, is_carried, is_copied, turns_declare, turns_assign, turns_read}
use Rattle.hx_lowered.proofs.WellFormed.{Context, FitsSimple, FitsSimples, IsRising, ShareNone, FitsInduct, FitsRegion}
use Rattle.hx_lowered.proofs.Fine.{each_so}

range_from : (a n m : ℕ) → m ≤ a → AllByRecursion (λ k. m ≤ k) (range_with_len a n)
range_from a zero m le = tt
range_from a (suc n) m le = (le, range_from (a + 1) n m (omega arith))

range_below : (a n m : ℕ) → a + n ≤ m → AllByRecursion (λ k. k < m) (range_with_len a n)
range_below a zero m le = tt
range_below a (suc n) m le = (omega arith, range_below (a + 1) n m (omega arith))

range_rises : (a n : ℕ) → IsRising (range_with_len a n)
range_rises a zero = tt
range_rises a (suc n) = (each_so _ _ (above a) (range_with_len (a + 1) n) (range_from (a + 1) n (a + 1) (omega arith)), range_rises (a + 1) n)
  where
    above : (a k : ℕ) → a + 1 ≤ k → a < k
    above a k le = omega arith

range_length : (a n : ℕ) → length (range_with_len a n) ≡ n
range_length a zero = refl
range_length a (suc n) = ap suc (range_length (a + 1) n)

filter_each : {A : Type 0} (P : A → Type 0) (test : A → Bool) (xs : List A) → AllByRecursion P xs → AllByRecursion P (filter test xs)
filter_each P test [] h = tt
filter_each P test (x ∷ xs) h = go (filter_each P test xs h.1) (test x)
  where
    go : AllByRecursion P (filter test xs) → (b : Bool) → AllByRecursion P (cond b (x ∷ filter test xs) (filter test xs))
    go rest true = (h.0, rest)
    go rest false = rest

filter_rises : (test : ℕ → Bool) (xs : List ℕ) → IsRising xs → IsRising (filter test xs)
filter_rises test [] h = tt
filter_rises test (x ∷ xs) h = go (filter_rises test xs h.1) (test x)
  where
    go : IsRising (filter test xs) → (b : Bool) → IsRising (cond b (x ∷ filter test xs) (filter test xs))
    go rest true = (filter_each (λ y. x < y) test xs h.0, rest)
    go rest false = rest

filter_length : (test : ℕ → Bool) (xs : List ℕ) → length (filter test xs) ≤ length xs
filter_length test [] = omega arith
filter_length test (x ∷ xs) = go (filter_length test xs) (test x)
  where
    more : (a b : ℕ) → a ≤ b → suc a ≤ suc b
    more a b le = omega arith

    less : (a b : ℕ) → a ≤ b → a ≤ suc b
    less a b le = omega arith

    go : length (filter test xs) ≤ length xs → (b : Bool) → length (cond b (x ∷ filter test xs) (filter test xs)) ≤ suc (length xs)
    go rest true = more _ _ rest
    go rest false = less _ _ rest

-- what a filter keeps passes its test
filter_passes : (test : ℕ → Bool) (xs : List ℕ) → AllByRecursion (λ y. test y ≡ true) (filter test xs)
filter_passes test [] = tt
filter_passes test (x ∷ xs) = go (filter_passes test xs) (test x) refl
  where
    go : AllByRecursion (λ y. test y ≡ true) (filter test xs) → (b : Bool) → test x ≡ b → AllByRecursion (λ y. test y ≡ true) (cond b (x ∷ filter test xs) (filter test xs))
    go rest true e = (e, rest)
    go rest false e = rest

filters_apart : (one other : ℕ → Bool) → ((k : ℕ) → one k ≡ true → other k ≡ true → ⊥) → (xs : List ℕ) → ShareNone (filter one xs) (filter other xs)
filters_apart one other never xs = each_so _ _ (λ x e. each_so _ _ (λ y f same. never x e (subst (λ z. other z ≡ true) same f)) (filter other xs) (filter_passes other xs)) (filter one xs) (filter_passes one xs)

-- a word isn't both carried and copied
never_both : (c : Clauses) (body : Stmt) (k : ℕ) → is_carried c body k ≡ true → is_copied c body k ≡ true → ⊥
never_both c body k e f = go (turns_declare k body) (turns_assign k c body) (turns_read k c body) (is_induct c body k) e f
  where
    go : (d a r i : Bool) → (not d && a && not i) ≡ true → (not d && r && not a && not i) ≡ true → ⊥
    go true a r i e f = absurd cc
    go false true true i e f = absurd cc
    go false true false i e f = absurd cc
    go false false r i e f = absurd cc

-- ---- the induction local

-- what gets its value before the loop is a private word of the function
begun_below : (x : Context) (k : ℕ) (init : List Simple) → FitsSimples x init → any_of (simple_begins k) init ≡ true → k < x.privates
begun_below x k [] h e = absurd cc
begun_below x k (s ∷ ss) h e = go (simple_begins k s) refl e (begun_below x k ss h.1)
  where
    one : (s : Simple) → FitsSimple x s → simple_begins k s ≡ true → k < x.privates
    one (Declare j v) h e = subst (λ q. q < x.privates) ((Decides-eqb j k).0 e) h.0
    one (Assign (Set (ToPrivate j) v)) h e = subst (λ q. q < x.privates) ((Decides-eqb j k).0 e) h.0
    one (Assign (Set (ToWord a) v)) h e = absurd cc
    one (Assign (Set (ToElement words at i) v)) h e = absurd cc
    one (Assign (Update q op at v)) h e = absurd cc

    go : (b : Bool) → simple_begins k s ≡ b → (b || any_of (simple_begins k) ss) ≡ true → (any_of (simple_begins k) ss ≡ true → k < x.privates) → k < x.privates
    go true is e more = one s h.0 is
    go false is e more = more e

both_true : (a b : Bool) → (a && b) ≡ true → (a ≡ true) × (b ≡ true)
both_true true true e = (refl, refl)
both_true true false e = absurd cc
both_true false b e = absurd cc

-- a carried word and a copied one isn't the induction local
carried_so : (c : Clauses) (body : Stmt) (k : ℕ) → is_carried c body k ≡ true → is_induct c body k ≡ false
carried_so c body k e = go (is_induct c body k) (both_true (not (turns_declare k body) && turns_assign k c body) (not (is_induct c body k)) e).1
  where
    go : (b : Bool) → not b ≡ true → b ≡ false
    go true e = absurd cc
    go false e = refl

copied_so : (c : Clauses) (body : Stmt) (k : ℕ) → is_copied c body k ≡ true → is_induct c body k ≡ false
copied_so c body k e = go (is_induct c body k) (both_true (not (turns_declare k body) && turns_read k c body && not (turns_assign k c body)) (not (is_induct c body k)) e).1
  where
    go : (b : Bool) → not b ≡ true → b ≡ false
    go true e = absurd cc
    go false e = refl

induct_fits : (x : Context) (c : Clauses) (body : Stmt) → FitsSimples x c.init → FitsInduct x (induct_of c body) (filter (is_carried c body) (range_with_len 0 x.privates)) (filter (is_copied c body) (range_with_len 0 x.privates))
induct_fits x c body h = by_counts c.counts refl
  where
    -- where it is this one, the words that a list keeps are others
    others : (i : Induct) → induct_of c body ≡ Some i → (test : ℕ → Bool) → ((k : ℕ) → test k ≡ true → is_induct c body k ≡ false) → AllByRecursion (λ k. k ≢ i.private) (filter test (range_with_len 0 x.privates))
    others i is test so = each_so _ _ (λ k e same. (let t : true ≡ false = sym (ap (if_any (λ q. nat_eq q.private k)) is ∙ (Decides-eqb i.private k).1 (sym same)) ∙ so k e in absurd cc)) (filter test (range_with_len 0 x.privates)) (filter_passes test (range_with_len 0 x.privates))

    by_counts : (o : Option Induct) → c.counts ≡ o → FitsInduct x (induct_of c body) (filter (is_carried c body) (range_with_len 0 x.privates)) (filter (is_copied c body) (range_with_len 0 x.privates))
    by_counts None e = subst (λ o. FitsInduct x o (filter (is_carried c body) (range_with_len 0 x.privates)) (filter (is_copied c body) (range_with_len 0 x.privates))) (sym (ap (kept_if (λ i. any_of (simple_begins i.private) c.init && not (stmt_assigns i.private body))) e)) tt
    by_counts (Some i) e = by_test (any_of (simple_begins i.private) c.init && not (stmt_assigns i.private body)) refl
      where
        by_test : (b : Bool) → (any_of (simple_begins i.private) c.init && not (stmt_assigns i.private body)) ≡ b → FitsInduct x (induct_of c body) (filter (is_carried c body) (range_with_len 0 x.privates)) (filter (is_copied c body) (range_with_len 0 x.privates))
        by_test b t =
            let is : induct_of c body ≡ (if b then Some i else None) = ap (kept_if (λ q. any_of (simple_begins q.private) c.init && not (stmt_assigns q.private body))) e ∙ ap (λ d. if d then Some i else None) t in
            subst (λ o. FitsInduct x o (filter (is_carried c body) (range_with_len 0 x.privates)) (filter (is_copied c body) (range_with_len 0 x.privates))) (sym is) (fits b t is)
          where
            fits : (b : Bool) → (any_of (simple_begins i.private) c.init && not (stmt_assigns i.private body)) ≡ b → induct_of c body ≡ (if b then Some i else None)
                → FitsInduct x (if b then Some i else None) (filter (is_carried c body) (range_with_len 0 x.privates)) (filter (is_copied c body) (range_with_len 0 x.privates))
            fits true t is = (begun_below x i.private c.init h (both_true (any_of (simple_begins i.private) c.init) (not (stmt_assigns i.private body)) t).0, others i is (is_carried c body) (carried_so c body), others i is (is_copied c body) (copied_so c body))
            fits false t is = tt

pub region_fits : (x : Context) (c : Clauses) (body : Stmt) → x.privates ≤ CELL_LIMIT → FitsSimples x c.init → FitsRegion x (region_of x.privates c body)
region_fits x c body few begun = record {
  carried_rise = filter_rises (is_carried c body) _ (range_rises 0 x.privates);
  copied_rise = filter_rises (is_copied c body) _ (range_rises 0 x.privates);
  apart = filters_apart (is_carried c body) (is_copied c body) (never_both c body) (range_with_len 0 x.privates);
  carried = filter_each _ (is_carried c body) _ (range_below 0 x.privates x.privates (omega arith));
  copied = filter_each _ (is_copied c body) _ (range_below 0 x.privates x.privates (omega arith));
  few = omega (arith, filter_length (is_carried c body) (range_with_len 0 x.privates), range_length 0 x.privates);
  induct = induct_fits x c body begun;
}
