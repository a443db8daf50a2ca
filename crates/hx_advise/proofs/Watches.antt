-- What is kept of events tells them, one event later.
use Rattle.std.proofs.Common.{◌≡◌, ◌≢◌, ℕ, suc, ◌+◌, ◌-◌, ◌^◌, ◌<◌, ◌⊎◌, inl, inr, List, ◌∷◌, true, false, Some, length, refl, sym, ap, subst, ◌∙◌, arith, length-set, get_or-set_same, get_or-set_other}
use Rattle.std.specs.Prelude.{slice_index, slice_set, slice_get}
use Rattle.std.proofs.lemmas.Option.{slice_get-get_or}
use Rattle.hx_code.specs.Region.{held}
use Rattle.hx_speculation.proofs.Stores.{same_or_not}
use Rattle.hx_advise.specs.Events.{Event, Read, Write, TurnEnd, turn_of, reads_in, writes_in}
use Rattle.hx_advise.specs.Watch.{WatchView, IsWriter, KeepsNeed, IsAgain, AnyWord, no_need, need_at, Tells}
use Rattle.hx_advise.specs.declared.watch.Need.{Need}
use Rattle.hx_advise.proofs.Needs.{keeps_same, keeps_end, keeps_other, keeps_again, own_read, old_read, old_write, new_write}
use Rattle.hx_advise.proofs.Events.{IsOwn, writer_read, writer_end, writer_other, writer_own, write_keeps, write_kept, end_keeps, end_kept, read_keeps, read_kept, read_breaks}

held_next : (k : ℕ) → held (held k + 1) ≡ held (suc k)
held_next k = omega arith

count_next : (n m k : ℕ) → n ≡ held (m + 1) → m ≡ held k → n ≡ held (suc k)
count_next n m k e h = e ∙ ap (λ x. held (x + 1)) h ∙ held_next k

-- no earlier turn wrote the word that is read, or this one did too
abbrev pub IsOwnIn : WatchView → ℕ → Type 0
IsOwnIn w b = (slice_index w.writers b ≡ 0) ⊎ (w.turn < slice_index w.writers b)

own_in : (w : WatchView) (es : List Event) (b : ℕ) → w.turn ≡ turn_of es → IsOwnIn w b → IsOwn es (slice_index w.writers b)
own_in w es b t (inl e) = inl e
own_in w es b t (inr lt) = inr (subst (λ k. k < slice_index w.writers b) t lt)

own_out : (w : WatchView) (es : List Event) (b : ℕ) → w.turn ≡ turn_of es → IsOwn es (slice_index w.writers b) → IsOwnIn w b
own_out w es b t (inl e) = inl e
own_out w es b t (inr lt) = inr (subst (λ k. k < slice_index w.writers b) (sym t) lt)

writers_read : (xs ys : List ℕ) (es : List Event) (b : ℕ) → ys ≡ xs → ((a : ℕ) → a < length xs → IsWriter es a (slice_index xs a)) → (a : ℕ) → a < length ys → IsWriter (Read b ∷ es) a (slice_index ys a)
writers_read xs ys es b e h a lt =
    let lt' : a < length xs = subst (λ zs. a < length zs) e lt in
    subst (λ zs. IsWriter (Read b ∷ es) a (slice_index zs a)) (sym e) (writer_read es b a (slice_index xs a) (h a lt'))

-- each word is needed as it is told
abbrev TellsNeeds : List Event → List Need → Type 0
TellsNeeds es ns = (a : ℕ) → KeepsNeed es (λ b. b ≡ a) (need_at ns a)

-- as before
needs_still : (w w' : WatchView) (es es' : List Event) → w'.needs ≡ w.needs → ((P : ℕ → Type 0) (n : Need) → KeepsNeed es P n → KeepsNeed es' P n)
    → TellsNeeds es w.needs → TellsNeeds es' w'.needs
needs_still w w' es es' same still h a = subst (λ ns. KeepsNeed es' (λ b. b ≡ a) (need_at ns a)) (sym same) (still (λ b. b ≡ a) (need_at w.needs a) (h a))

-- a read that needs no earlier turn
pub tells_own : (w w' : WatchView) (es : List Event) (b : ℕ) → b < length w.writers → IsOwnIn w b → w'.turn ≡ w.turn → w'.writers ≡ w.writers → w'.reads ≡ held (w.reads + 1) → w'.writes ≡ w.writes → w'.is_independent ≡ w.is_independent → w'.needs ≡ w.needs → w'.needed ≡ w.needed → Tells w es → Tells w' (Read b ∷ es)
tells_own w w' es b lt o turn writers reads writes is needs needed t =
    let x = slice_index w.writers b in
    let still : (P : ℕ → Type 0) (n : Need) → KeepsNeed es P n → KeepsNeed (Read b ∷ es) P n =
    λ P n k. keeps_same es (Read b ∷ es) P n refl (λ i j a h. old_read es b i j a h) (λ i j a h. own_read es b x i j a (t.writers b lt) (own_in w es b t.turn o) h) k in
    record {
      turn = turn ∙ t.turn;
      writers = writers_read w.writers w'.writers es b writers t.writers;
      reads = count_next w'.reads w.reads (reads_in es) reads t.reads;
      writes = writes ∙ t.writes;
      verdict = (λ h. read_keeps es b x (t.writers b lt) (own_in w es b t.turn o) (t.verdict.0 (sym is ∙ h)), λ f. is ∙ t.verdict.1 (read_kept es b f));
      needs = needs_still w w' es (Read b ∷ es) needs still t.needs;
      needed = subst (KeepsNeed (Read b ∷ es) AnyWord) (sym needed) (still AnyWord w.needed t.needed);
    }

not_own : (x now t : ℕ) → x ≡ suc t → t < now → (x ≡ 0) ⊎ (now < x) → ⊥
not_own x now t e lt (inl z) = omega (arith, e, z)
not_own x now t e lt (inr g) = omega (arith, e, lt, g)

-- the word is needed once more
pub record NeedsMore (w w' : WatchView) (b distance : ℕ) : Type 0 where
  pub needs : (n : Need) → slice_get w.needs b ≡ Some n → (m : Need) × IsAgain (w.turn + 1) distance n m × (w'.needs ≡ slice_set w.needs b m)
  pub needed : IsAgain (w.turn + 1) distance w.needed w'.needed

needs_more : (es : List Event) (b t : ℕ) (ns : List Need) (m : Need) → b < length ns → turn_of es + 1 < 2 ^ 64 → IsWriter es b (suc t) → t < turn_of es → IsAgain (suc (turn_of es)) (turn_of es - t) (need_at ns b) m
    → TellsNeeds es ns → TellsNeeds (Read b ∷ es) (slice_set ns b m)
needs_more es b t ns m inside few h lt again told a =
    elim (same_or_not a b) [
      | inl same ↦
          let here : need_at (slice_set ns b m) b ≡ m = get_or-set_same ns b m no_need inside in
          let kept : KeepsNeed (Read b ∷ es) (λ c. c ≡ b) m = keeps_again es b t (λ c. c ≡ b) (need_at ns b) m few h lt refl (told b) again in
          subst (λ k. KeepsNeed (Read b ∷ es) (λ c. c ≡ k) (need_at (slice_set ns b m) k)) (sym same) (subst (KeepsNeed (Read b ∷ es) (λ c. c ≡ b)) (sym here) kept)
      | inr other ↦
          let there : need_at (slice_set ns b m) a ≡ need_at ns a = get_or-set_other ns b a m no_need other in
          subst (KeepsNeed (Read b ∷ es) (λ c. c ≡ a)) (sym there) (keeps_other es b t (λ c. c ≡ a) (need_at ns a) h (λ e. other (sym e)) (told a))
    ]

-- one that needs an earlier turn, t
pub tells_need : (w w' : WatchView) (es : List Event) (b t : ℕ) → b < length w.writers → b < length w.needs → slice_index w.writers b ≡ suc t → t < w.turn → w.turn + 1 < 2 ^ 64 → w'.turn ≡ w.turn → w'.writers ≡ w.writers → w'.reads ≡ held (w.reads + 1) → w'.writes ≡ w.writes → w'.is_independent ≡ false → NeedsMore w w' b (w.turn - t) → Tells w es → Tells w' (Read b ∷ es)
tells_need w w' es b t' lt inside writer earlier few turn writers reads writes is more t =
    let x = slice_index w.writers b in
    let o : IsOwnIn w b → ⊥ = not_own (slice_index w.writers b) w.turn t' writer earlier in
    let now = t.turn in
    let h : IsWriter es b (suc t') = subst (IsWriter es b) writer (t.writers b lt) in
    let earlier' : t' < turn_of es = omega (arith, now, earlier) in
    let few' : turn_of es + 1 < 2 ^ 64 = omega (arith, now, few) in
    let turn_is : w.turn + 1 ≡ suc (turn_of es) = omega (arith, now) in
    let far : w.turn - t' ≡ turn_of es - t' = ap (λ k. k - t') now in
    let so : (n m : Need) → IsAgain (w.turn + 1) (w.turn - t') n m → IsAgain (suc (turn_of es)) (turn_of es - t') n m = λ n m r. subst (λ d. IsAgain (suc (turn_of es)) d n m) far (subst (λ k. IsAgain k (w.turn - t') n m) turn_is r) in
    let again = more.needs (need_at w.needs b) (slice_get-get_or w.needs b no_need inside) in
    record {
      turn = turn ∙ t.turn;
      writers = writers_read w.writers w'.writers es b writers t.writers;
      reads = count_next w'.reads w.reads (reads_in es) reads t.reads;
      writes = writes ∙ t.writes;
      verdict = (λ h. let no : false ≡ true = sym is ∙ h in absurd cc, λ f. absurd (read_breaks es b x (t.writers b lt) (λ k. o (own_out w es b t.turn k)) f));
      needs = subst (TellsNeeds (Read b ∷ es)) (sym again.2) (needs_more es b t' w.needs again.0 inside few' h earlier' (so (need_at w.needs b) again.0 again.1) t.needs);
      needed = keeps_again es b t' AnyWord w.needed w'.needed few' h earlier' tt t.needed (so w.needed w'.needed more.needed);
    }

writer_at : (xs : List ℕ) (es : List Event) (b n a : ℕ) → b < length xs → n ≡ suc (turn_of es) → ((c : ℕ) → c < length xs → IsWriter es c (slice_index xs c)) → a < length xs → (a ≡ b) ⊎ (a ≢ b) → IsWriter (Write b ∷ es) a (slice_index (slice_set xs b n) a)
writer_at xs es b n a lt e h la (inl same) =
    let there : slice_index (slice_set xs b n) b ≡ suc (turn_of es) = get_or-set_same xs b n 0 lt ∙ e in
    subst (λ c. IsWriter (Write b ∷ es) c (slice_index (slice_set xs b n) c)) (sym same) (subst (IsWriter (Write b ∷ es) b) (sym there) (writer_own es b))
writer_at xs es b n a lt e h la (inr other) =
    let there : slice_index (slice_set xs b n) a ≡ slice_index xs a = get_or-set_other xs b a n 0 other in
    subst (IsWriter (Write b ∷ es) a) (sym there) (writer_other es b a (slice_index xs a) other (h a la))

-- a write
pub tells_write : (w w' : WatchView) (es : List Event) (b : ℕ) → b < length w.writers → w'.turn ≡ w.turn → w'.writers ≡ slice_set w.writers b (w.turn + 1) → w'.reads ≡ w.reads → w'.writes ≡ held (w.writes + 1) → w'.is_independent ≡ w.is_independent → w'.needs ≡ w.needs → w'.needed ≡ w.needed → Tells w es → Tells w' (Write b ∷ es)
tells_write w w' es b lt turn writers reads writes is needs needed t =
    let still : (P : ℕ → Type 0) (n : Need) → KeepsNeed es P n → KeepsNeed (Write b ∷ es) P n =
    λ P n k. keeps_same es (Write b ∷ es) P n refl (λ i j a h. old_write es b i j a h) (λ i j a h. new_write es b i j a h) k in
    let e : w.turn + 1 ≡ suc (turn_of es) = let h = t.turn in omega (arith, h) in
    record {
      turn = turn ∙ t.turn;
      writers = λ a la.
          let la' : a < length w.writers = subst (λ n. a < n) (ap length writers ∙ length-set w.writers b (w.turn + 1)) la in
          subst (λ xs. IsWriter (Write b ∷ es) a (slice_index xs a)) (sym writers) (writer_at w.writers es b (w.turn + 1) a lt e t.writers la' (same_or_not a b));
      reads = reads ∙ t.reads;
      writes = count_next w'.writes w.writes (writes_in es) writes t.writes;
      verdict = (λ h. write_keeps es b (t.verdict.0 (sym is ∙ h)), λ f. is ∙ t.verdict.1 (write_kept es b f));
      needs = needs_still w w' es (Write b ∷ es) needs still t.needs;
      needed = subst (KeepsNeed (Write b ∷ es) AnyWord) (sym needed) (still AnyWord w.needed t.needed);
    }

-- the end of a turn
pub tells_end : (w w' : WatchView) (es : List Event) → w'.turn ≡ w.turn + 1 → w'.writers ≡ w.writers → w'.reads ≡ w.reads → w'.writes ≡ w.writes → w'.is_independent ≡ w.is_independent → w'.needs ≡ w.needs → w'.needed ≡ w.needed → Tells w es → Tells w' (TurnEnd ∷ es)
tells_end w w' es turn writers reads writes is needs needed t =
    let still : (P : ℕ → Type 0) (n : Need) → KeepsNeed es P n → KeepsNeed (TurnEnd ∷ es) P n = λ P n k. keeps_end es P n k in
    let e : w.turn + 1 ≡ suc (turn_of es) = let h = t.turn in omega (arith, h) in
    record {
      turn = turn ∙ e;
      writers = λ a la.
          let la' : a < length w.writers = subst (λ xs. a < length xs) writers la in
          subst (λ xs. IsWriter (TurnEnd ∷ es) a (slice_index xs a)) (sym writers) (writer_end es a (slice_index w.writers a) (t.writers a la'));
      reads = reads ∙ t.reads;
      writes = writes ∙ t.writes;
      verdict = (λ h. end_keeps es (t.verdict.0 (sym is ∙ h)), λ f. is ∙ t.verdict.1 (end_kept es f));
      needs = needs_still w w' es (TurnEnd ∷ es) needs still t.needs;
      needed = subst (KeepsNeed (TurnEnd ∷ es) AnyWord) (sym needed) (still AnyWord w.needed t.needed);
    }
