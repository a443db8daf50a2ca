-- What is seen of a loop, one time more that it was opened.
use Rattle.std.proofs.Common.{◌≡◌, ◌≢◌, ℕ, zero, suc, ◌+◌, ◌<◌, List, [], ◌∷◌, ◌++◌, length, true, false, Some, Vec, Global, refl, ap, sym, subst, ◌∙◌, inl, inr, arith, length-set, get_or-set_same, get_or-set_other}
use Rattle.std.specs.Prelude.{if◌then◌else◌, slice_get, slice_set}
use Rattle.std.proofs.lemmas.Bool.{ne_eqb}
use Rattle.std.proofs.lemmas.Option.{slice_get_within, slice_get-get_or}
use Rattle.hx_code.specs.Region.{held}
use Rattle.hx_speculation.proofs.Stores.{eq_same, same_or_not}
use Rattle.hx_advise.specs.declared.program.Seen.{Seen}
use Rattle.hx_advise.specs.declared.region.Watched.{Watched}
use Rattle.hx_advise.specs.Events.{turn_of, reads_in, writes_in, IsIndependent}
use Rattle.hx_advise.specs.declared.watch.Need.{Need}
use Rattle.hx_advise.specs.Watch.{AnyWord, need_at}
use Rattle.hx_advise.specs.Runs.{Story, total, AreNeeds, IsSeen, AreSeen, IsTold}
use Rattle.hx_advise.proofs.NeedsSummed.{needs_same, needs_unseen, independent_none}

-- ---- sums

held_more : (a b : ℕ) → held (held a + b) ≡ held (b + a)
held_more a b = omega arith

held_held : (a b : ℕ) → held (held a + held b) ≡ held (b + a)
held_held a b = omega arith

total_own : (f : Story → ℕ) (x : Story) (xs : List Story) → total x.region f (x ∷ xs) ≡ f x + total x.region f xs
total_own f x xs = ap (λ b. (if b then f x else 0) + total x.region f xs) (eq_same x.region)

total_other : (r : ℕ) (f : Story → ℕ) (x : Story) (xs : List Story) → x.region ≢ r → total r f (x ∷ xs) ≡ total r f xs
total_other r f x xs n = ap (λ b. (if b then f x else 0) + total r f xs) (ne_eqb x.region r n) ∙ none (total r f xs)
  where
    none : (k : ℕ) → 0 + k ≡ k
    none k = omega arith

-- a count goes up
pub count_more : (f : Story → ℕ) (x : Story) (xs : List Story) (n m k : ℕ) → m ≡ held (total x.region f xs) → n ≡ held (m + k) → k ≡ f x → n ≡ held (total x.region f (x ∷ xs))
count_more f x xs n m k was is e =
    is ∙ ap (λ j. held (j + k)) was ∙ held_more (total x.region f xs) k ∙ ap (λ j. held (j + total x.region f xs)) e ∙ ap held (sym (total_own f x xs))

-- by one that is held itself
pub held_more_of : (f : Story → ℕ) (x : Story) (xs : List Story) (n m k : ℕ) → m ≡ held (total x.region f xs) → n ≡ held (m + k) → k ≡ held (f x) → n ≡ held (total x.region f (x ∷ xs))
held_more_of f x xs n m k was is e =
    is ∙ ap (λ j. held (j + k)) was ∙ ap (λ j. held (held (total x.region f xs) + j)) e ∙ held_held (total x.region f xs) (f x) ∙ ap held (sym (total_own f x xs))

-- ---- one loop

-- one time more, with other counts but for the verdict
pub record Counted (x : Story) (xs : List Story) (old new : Seen) : Type 0 where
  pub opened : new.opened ≡ held (total x.region (λ x. 1) (x ∷ xs))
  pub turns : new.turns ≡ held (total x.region (λ x. turn_of x.events) (x ∷ xs))
  pub words : new.words ≡ held (total x.region (λ x. x.words) (x ∷ xs))
  pub loads : new.loads ≡ held (total x.region (λ x. reads_in x.events) (x ∷ xs))
  pub stores : new.stores ≡ held (total x.region (λ x. writes_in x.events) (x ∷ xs))

pub counted : (x : Story) (xs : List Story) (w : Watched) (old new : Seen) → IsTold x w → IsSeen x.region xs old → new.opened ≡ held (old.opened + 1) → new.turns ≡ held (old.turns + w.watch.turn) → new.words ≡ held (old.words + w.words) → new.loads ≡ held (old.loads + w.watch.reads) → new.stores ≡ held (old.stores + w.watch.writes) → Counted x xs old new
counted x xs w old new t s opened turns words loads stores = record {
  opened = count_more (λ x. 1) x xs new.opened old.opened 1 s.opened opened refl;
  turns = count_more (λ (x : Story). turn_of x.events) x xs new.turns old.turns w.watch.turn s.turns turns t.events.turn;
  words = count_more (λ (x : Story). x.words) x xs new.words old.words w.words s.words words (sym t.words);
  loads = held_more_of (λ (x : Story). reads_in x.events) x xs new.loads old.loads w.watch.reads s.loads loads t.events.reads;
  stores = held_more_of (λ (x : Story). writes_in x.events) x xs new.stores old.stores w.watch.writes s.stores stores t.events.writes;
}

-- of a time with independent turns
pub seen_fit : (x : Story) (xs : List Story) (old new : Seen) → Counted x xs old new → IsSeen x.region xs old → new.is_independent ≡ old.is_independent → IsIndependent x.events → new.needed ≡ old.needed → new.needs ≡ old.needs → IsSeen x.region (x ∷ xs) new
seen_fit x xs old new c s same fit needed needs = record {
  opened = c.opened;
  turns = c.turns;
  words = c.words;
  loads = c.loads;
  stores = c.stores;
  verdict = (λ h. (λ _. fit, s.verdict.0 (sym same ∙ h)), λ e. same ∙ s.verdict.1 e.1);
  needed = subst (AreNeeds x.region AnyWord (x ∷ xs)) (sym needed) (needs_same x.region AnyWord x xs old.needed (λ _. independent_none x.events AnyWord fit) s.needed);
  needs = λ a. subst (λ (v : Vec Need Global). AreNeeds x.region (λ b. b ≡ a) (x ∷ xs) (need_at v.items a)) (sym needs) (needs_same x.region (λ b. b ≡ a) x xs (need_at old.needs.items a) (λ _. independent_none x.events (λ b. b ≡ a) fit) (s.needs a));
}

-- of one with others
pub seen_unfit : (x : Story) (xs : List Story) (old new : Seen) → Counted x xs old new → new.is_independent ≡ false → (IsIndependent x.events → ⊥) → AreNeeds x.region AnyWord (x ∷ xs) new.needed → ((a : ℕ) → AreNeeds x.region (λ b. b ≡ a) (x ∷ xs) (need_at new.needs.items a)) → IsSeen x.region (x ∷ xs) new
seen_unfit x xs old new c not unfit needed needs = record {
  opened = c.opened;
  turns = c.turns;
  words = c.words;
  loads = c.loads;
  stores = c.stores;
  verdict = (λ h. let no : false ≡ true = sym not ∙ h in absurd cc, λ e. absurd (unfit (e.0 refl)));
  needed = needed;
  needs = needs;
}

-- ---- the other loops

seen_other : (r : ℕ) (x : Story) (xs : List Story) (s : Seen) → x.region ≢ r → IsSeen r xs s → IsSeen r (x ∷ xs) s
seen_other r x xs s n h = record {
  opened = h.opened ∙ ap held (sym (total_other r (λ x. 1) x xs n));
  turns = h.turns ∙ ap held (sym (total_other r (λ (x : Story). turn_of x.events) x xs n));
  words = h.words ∙ ap held (sym (total_other r (λ (x : Story). x.words) x xs n));
  loads = h.loads ∙ ap held (sym (total_other r (λ (x : Story). reads_in x.events) x xs n));
  stores = h.stores ∙ ap held (sym (total_other r (λ (x : Story). writes_in x.events) x xs n));
  verdict = (λ e. (λ same. absurd (n same), h.verdict.0 e), λ e. h.verdict.1 e.1);
  needed = needs_same r AnyWord x xs s.needed (λ same. absurd (n same)) h.needed;
  needs = λ a. needs_same r (λ b. b ≡ a) x xs (need_at s.needs.items a) (λ same. absurd (n same)) (h.needs a);
}

-- one of them is changed
pub are_seen : (x : Story) (xs : List Story) (loops : List Seen) (old new : Seen) → slice_get loops x.region ≡ Some old → AreSeen xs loops → (IsSeen x.region xs old → IsSeen x.region (x ∷ xs) new) → AreSeen (x ∷ xs) (slice_set loops x.region new)
are_seen x xs loops old new at h f = λ r s e.
    let lt : x.region < length loops = slice_get_within loops x.region old at in
    let made = slice_set loops x.region new in
    let long : length made ≡ length loops = length-set loops x.region new in
    elim (same_or_not r x.region) [
      | inl same ↦
          let lt' : x.region < length made = omega (arith, lt, long) in
          let here : slice_get made x.region ≡ Some new = slice_get-get_or made x.region new lt' ∙ ap Some (get_or-set_same loops x.region new new lt) in
          let there : slice_get made x.region ≡ Some s = subst (λ k. slice_get made k ≡ Some s) same e in
          let is : new ≡ s = cc in
          subst (λ k. IsSeen k (x ∷ xs) s) (sym same) (subst (IsSeen x.region (x ∷ xs)) is (f (h x.region old at)))
      | inr other ↦
          let le : r < length made = slice_get_within made r s e in
          let le' : r < length loops = omega (arith, le, long) in
          let there : slice_get loops r ≡ Some s = slice_get-get_or loops r s le' ∙ ap Some (sym (get_or-set_other loops x.region r new s other)) ∙ sym (slice_get-get_or made r s le) ∙ e in
          seen_other r x xs s (λ q. other (sym q)) (h r s there)
    ]

-- ---- loops of which nothing was seen

unseen : (r k : ℕ) (s : Seen) → IsSeen r [] s → IsSeen k [] s
unseen r k s h = record { opened = h.opened; turns = h.turns; words = h.words; loads = h.loads; stores = h.stores; verdict = h.verdict; needed = needs_unseen r k AnyWord s.needed h.needed; needs = λ a. needs_unseen r k (λ b. b ≡ a) (need_at s.needs.items a) (h.needs a) }

-- one more of them
pub unseen_more : (loops : List Seen) (s : Seen) → AreSeen [] loops → ((r : ℕ) → IsSeen r [] s) → (r : ℕ) (t : Seen) → slice_get (loops ++ (s ∷ [])) r ≡ Some t → IsSeen r [] t
unseen_more [] s h f zero t e = let is : s ≡ t = cc in subst (IsSeen 0 []) is (f 0)
unseen_more [] s h f (suc r) t e = absurd cc
unseen_more (x ∷ xs) s h f zero t e = h 0 t e
unseen_more (x ∷ xs) s h f (suc r) t e = unseen r (suc r) t (unseen_more xs s (λ k y at. unseen (suc k) k y (h (suc k) y at)) f r t e)
