-- What the calls do to the active iterations, in order from the head.
use Rattle.std.proofs.Common.{◌≡◌, ◌≢◌, ℕ, suc, ℤ, ◌+◌, ◌⊎◌, inl, inr, Bool, true, false, ◌==◌, List, [], ◌∷◌, ◌++◌, length, map, Option, Some, None, refl, sym, ap, ◌∙◌, subst, arith, add-zero}
use Rattle.std.specs.Prelude.{not, nat_le, if◌then◌else◌}
use Rattle.std.specs.Ordering.{int_eq}
use Rattle.std.specs.Bool.{Decides}
use Rattle.std.proofs.lemmas.Bool.{false≢true}
use Rattle.std.proofs.lemmas.Bool.Decides.{Decides-int_eq}
use Rattle.hx_marks.specs.Table.{Table, look, put}
use Rattle.hx_marks.proofs.Tables.{look_put_own, look_put_other}
use Rattle.hx_buffer.specs.Overlay.{or_else}
use Rattle.hx_speculation.specs.Iteration.{Store, overlay, Agrees}
use Rattle.hx_speculation.specs.Region.{Region}
use Rattle.hx_speculation.specs.Slots.{Slot, first_attempt, is_at, restarted, New, MarksFull, finds_seen, finds_own, found, with_mark, differs, is_violated, squashed, with_write, restarted_from}
use Rattle.hx_speculation.specs.Sound.{head_start, AreOpening, RestIsOpening, MarksAreSeen, starts_of}
use Rattle.hx_speculation.proofs.Stores.{if_cases, overlay_hit, same_or_not, overlay_but, agrees_nil, agrees_put}

abbrev Keeps : {σ : Type 0} → Store → List (Slot σ) → List (Slot σ) → Type 0
Keeps s xs ys = (starts_of ys ≡ starts_of xs) × MarksAreSeen s ys

-- ---- load

-- a word that is to be marked is what the slot sees there
new_is_seen : (capacity : ℕ) (u v : ℤ) (marks : Table) (o : Option ℤ) → finds_seen capacity u marks o ≡ New v → u ≡ v
new_is_seen capacity u v marks (Some w) e = absurd (cc)
new_is_seen capacity u v marks None e = from_room (nat_le capacity (length marks)) e
  where
    from_room : (is_full : Bool) → (if is_full then MarksFull else New u) ≡ New v → u ≡ v
    from_room true h = absurd (cc)
    from_room false h = cc

own_is_seen : {σ : Type 0} (capacity a : ℕ) (u v : ℤ) (x : Slot σ) (o : Option ℤ) → finds_own capacity a u x o ≡ New v → u ≡ v
own_is_seen capacity a u v x (Some w) e = absurd (cc)
own_is_seen capacity a u v x None e = new_is_seen capacity u v x.marks (look x.marks a) e

pub mark_kept : {σ : Type 0} (capacity w attempt a : ℕ) (v : ℤ) (s : Store) (xs : List (Slot σ)) → found capacity w attempt a (s a) xs ≡ New v → MarksAreSeen s xs → Keeps s xs (with_mark w attempt a v xs)
mark_kept capacity w attempt a v s [] e h = (refl, tt)
mark_kept capacity w attempt a v s (x ∷ xs) e h =
    if_cases (λ l. Keeps s (x ∷ xs) l) (is_at x w attempt) (record x { marks = put x.marks a v } ∷ xs) (x ∷ with_mark w attempt a v xs)
    (λ yes.
    let here : finds_own capacity a (s a) x (look x.buffer a) ≡ New v = rw yes at e in
    (refl, (agrees_put s x.marks a v h.0 (own_is_seen capacity a (s a) v x (look x.buffer a) here), h.1)))
    (λ no.
    let later : found capacity w attempt a (overlay x.buffer s a) xs ≡ New v = rw no at e in
    let rest = mark_kept capacity w attempt a v (overlay x.buffer s) xs later h.1 in
    (ap (λ qs. x.start ∷ qs) rest.0, (h.0, rest.1)))

-- ---- beginning again

restart_starts : {σ : Type 0} (xs : List (Slot σ)) → starts_of (map restarted xs) ≡ starts_of xs
restart_starts [] = refl
restart_starts (x ∷ xs) = ap (λ qs. x.start ∷ qs) (restart_starts xs)

restart_seen : {σ : Type 0} (s : Store) (xs : List (Slot σ)) → MarksAreSeen s (map restarted xs)
restart_seen s [] = tt
restart_seen s (x ∷ xs) = (agrees_nil s, restart_seen (overlay [] s) xs)

-- ---- store

not_other : (v u : ℤ) → differs (Some v) u ≡ false → v ≡ u
not_other v u k = same (int_eq v u) (Decides-int_eq v u) k
  where
    same : (t : Bool) → Decides t (v ≡ u) → not t ≡ false → v ≡ u
    same true d h = d.0 refl
    same false d h = absurd (false≢true (sym h))

pub is_other : (v u : ℤ) → differs (Some v) u ≡ true → v ≢ u
is_other v u k e = false≢true (sym (ap not ((Decides-int_eq v u).1 e)) ∙ k)

-- the violation rule is used here alone: where it spares an iteration, its mark of `a` is what it sees after the write
unviolated_agrees_at : {σ : Type 0} (a b : ℕ) (w : ℤ) (s u : Store) (x : Slot σ) → is_violated a (u a) x ≡ false → ((c : ℕ) → c ≢ a → s c ≡ u c) → Agrees s x.marks → (b ≡ a) ⊎ (b ≢ a) → look x.marks b ≡ Some w → u b ≡ w
unviolated_agrees_at a b w s u x k d h (inl e) g =
    let there : look x.marks a ≡ Some w = ap (look x.marks) (sym e) ∙ g in
    ap u e ∙ sym (not_other w (u a) (ap (λ o. differs o (u a)) (sym there) ∙ k))
unviolated_agrees_at a b w s u x k d h (inr n) g = sym (d b n) ∙ h b w g

unviolated_agrees : {σ : Type 0} (a : ℕ) (s u : Store) (x : Slot σ) → is_violated a (u a) x ≡ false → ((b : ℕ) → b ≢ a → s b ≡ u b) → Agrees s x.marks → Agrees u x.marks
unviolated_agrees a s u x k d h b w g = unviolated_agrees_at a b w s u x k d h (same_or_not b a) g

squash_starts : {σ : Type 0} (a : ℕ) (u : ℤ) (xs : List (Slot σ)) → starts_of (squashed a u xs) ≡ starts_of xs
squash_starts a u [] = refl
squash_starts a u (x ∷ xs) =
    if_cases (λ l. starts_of l ≡ starts_of (x ∷ xs)) (is_violated a u x) (map restarted (x ∷ xs)) (x ∷ squashed a (or_else (look x.buffer a) u) xs)
    (λ _. restart_starts (x ∷ xs))
    (λ _. ap (λ qs. x.start ∷ qs) (squash_starts a (or_else (look x.buffer a) u) xs))

-- s before the write of `a`, u after it
squash_seen : {σ : Type 0} (a : ℕ) (s u : Store) (xs : List (Slot σ)) → ((b : ℕ) → b ≢ a → s b ≡ u b) → MarksAreSeen s xs → MarksAreSeen u (squashed a (u a) xs)
squash_seen a s u [] d h = tt
squash_seen a s u (x ∷ xs) d h =
    if_cases (λ l. MarksAreSeen u l) (is_violated a (u a) x) (map restarted (x ∷ xs)) (x ∷ squashed a (overlay x.buffer u a) xs)
    (λ _. restart_seen u (x ∷ xs))
    (λ k. (unviolated_agrees a s u x k d h.0, squash_seen a (overlay x.buffer s) (overlay x.buffer u) xs (overlay_but x.buffer s u a d) h.1))

own_write_kept : {σ : Type 0} (a : ℕ) (v : ℤ) (s : Store) (x : Slot σ) (xs : List (Slot σ)) → MarksAreSeen s (x ∷ xs) → Keeps s (x ∷ xs) (record x { buffer = put x.buffer a v } ∷ squashed a v xs)
own_write_kept a v s x xs h =
    let u = overlay (put x.buffer a v) s in
    let d = (λ (b : ℕ) (n : b ≢ a). ap (λ o. or_else o (s b)) (sym (look_put_other x.buffer a b v n))) in
    let now : u a ≡ v = overlay_hit (put x.buffer a v) s a v (look_put_own x.buffer a v) in
    (ap (λ qs. x.start ∷ qs) (squash_starts a v xs), (h.0, subst (λ y. MarksAreSeen u (squashed a y xs)) now (squash_seen a (overlay x.buffer s) u xs d h.1)))

pub write_kept : {σ : Type 0} (w attempt a : ℕ) (v : ℤ) (s : Store) (xs : List (Slot σ)) → MarksAreSeen s xs → Keeps s xs (with_write w attempt a v xs)
write_kept w attempt a v s [] h = (refl, tt)
write_kept w attempt a v s (x ∷ xs) h =
    let rest = write_kept w attempt a v (overlay x.buffer s) xs h.1 in
    if_cases (λ l. Keeps s (x ∷ xs) l) (is_at x w attempt) (record x { buffer = put x.buffer a v } ∷ squashed a v xs) (x ∷ with_write w attempt a v xs)
    (λ _. own_write_kept a v s x xs h)
    (λ _. (ap (λ qs. x.start ∷ qs) rest.0, (h.0, rest.1)))

-- ---- abandon

pub abandon_kept : {σ : Type 0} (w : ℕ) (s : Store) (xs : List (Slot σ)) → MarksAreSeen s xs → Keeps s xs (restarted_from w xs)
abandon_kept w s [] h = (refl, tt)
abandon_kept w s (x ∷ xs) h =
    let rest = abandon_kept w (overlay x.buffer s) xs h.1 in
    if_cases (λ l. Keeps s (x ∷ xs) l) (x.worker == w) (map restarted (x ∷ xs)) (x ∷ restarted_from w xs)
    (λ _. (restart_starts (x ∷ xs), restart_seen s (x ∷ xs)))
    (λ _. (ap (λ qs. x.start ∷ qs) rest.0, (h.0, rest.1)))

-- ---- start

pub new_seen : {σ : Type 0} (s : Store) (w : ℕ) (q : σ) (xs : List (Slot σ)) → MarksAreSeen s xs → MarksAreSeen s (xs ++ first_attempt w q ∷ [])
new_seen s w q [] h = (agrees_nil s, tt)
new_seen s w q (x ∷ xs) h = (h.0, new_seen (overlay x.buffer s) w q xs h.1)

opening_new : {σ : Type 0} (r : Region σ) (j w : ℕ) (xs : List (Slot σ)) → AreOpening r j (starts_of xs) → AreOpening r j (starts_of (xs ++ first_attempt w (r.opening (j + length xs)) ∷ []))
opening_new r j w [] h = (ap r.opening (add-zero j), tt)
opening_new r j w (x ∷ xs) h =
    let e : suc j + length xs ≡ j + length (x ∷ xs) = omega arith in
    (h.0, subst (λ n. AreOpening r (suc j) (starts_of (xs ++ first_attempt w (r.opening n) ∷ []))) e (opening_new r (suc j) w xs h.1))

pub rest_new : {σ : Type 0} (r : Region σ) (j w : ℕ) (xs : List (Slot σ)) → RestIsOpening r j (starts_of xs) → RestIsOpening r j (starts_of (xs ++ first_attempt w (r.opening (j + length xs)) ∷ []))
rest_new r j w [] h = tt
rest_new r j w (x ∷ xs) h =
    let e : suc j + length xs ≡ j + length (x ∷ xs) = omega arith in
    subst (λ n. AreOpening r (suc j) (starts_of (xs ++ first_attempt w (r.opening n) ∷ []))) e (opening_new r (suc j) w xs h)

pub head_new : {σ : Type 0} (r : Region σ) (j w : ℕ) (xs : List (Slot σ)) → head_start r j (starts_of (xs ++ first_attempt w (r.opening (j + length xs)) ∷ [])) ≡ head_start r j (starts_of xs)
head_new r j w [] = ap r.opening (add-zero j)
head_new r j w (x ∷ xs) = refl
