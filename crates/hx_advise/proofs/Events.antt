-- What turns have written, and whether that keeps them independent, one event later.
use Rattle.std.proofs.Common.{◌≡◌, ◌≢◌, ℕ, zero, suc, ◌<◌, ◌≤◌, ◌⊎◌, inl, inr, List, [], ◌∷◌, refl, sym, subst, arith}
use Rattle.hx_advise.specs.Events.{Event, Read, Write, TurnEnd, turn_of, HasWritten, Exposed, Wrote, IsIndependent}
use Rattle.hx_advise.specs.Watch.{IsWriter}

-- ---- turns up to the one that is on

pub wrote_before : (es : List Event) (i a : ℕ) → Wrote es i a → i ≤ turn_of es
wrote_before [] i a h = absurd h
wrote_before (Read b ∷ es) i a h = wrote_before es i a h
wrote_before (Write b ∷ es) i a (inl h) = let e = h.0 in omega (arith, e)
wrote_before (Write b ∷ es) i a (inr h) = wrote_before es i a h
wrote_before (TurnEnd ∷ es) i a h = let le : i ≤ turn_of es = wrote_before es i a h in omega (arith, le)

pub exposed_before : (es : List Event) (j a : ℕ) → Exposed es j a → j ≤ turn_of es
exposed_before [] j a h = absurd h
exposed_before (Read b ∷ es) j a (inl h) = let e = h.0 in omega (arith, e)
exposed_before (Read b ∷ es) j a (inr h) = exposed_before es j a h
exposed_before (Write b ∷ es) j a h = exposed_before es j a h
exposed_before (TurnEnd ∷ es) j a h = let le : j ≤ turn_of es = exposed_before es j a h in omega (arith, le)

-- what the turn that is on has written
pub has_wrote : (es : List Event) (a : ℕ) → HasWritten es a → Wrote es (turn_of es) a
has_wrote [] a h = absurd h
has_wrote (Read b ∷ es) a h = has_wrote es a h
has_wrote (Write b ∷ es) a (inl e) = inl (refl, e)
has_wrote (Write b ∷ es) a (inr h) = inr (has_wrote es a h)
has_wrote (TurnEnd ∷ es) a h = absurd h

pub wrote_has : (es : List Event) (i a : ℕ) → Wrote es i a → i ≡ turn_of es → HasWritten es a
wrote_has [] i a h e = absurd h
wrote_has (Read b ∷ es) i a h e = wrote_has es i a h e
wrote_has (Write b ∷ es) i a (inl h) e = inl h.1
wrote_has (Write b ∷ es) i a (inr h) e = inr (wrote_has es i a h e)
wrote_has (TurnEnd ∷ es) i a h e = let le : i ≤ turn_of es = wrote_before es i a h in absurd (omega (arith, le, e))

-- ---- the last turn that wrote a word

pub writer_read : (es : List Event) (b a w : ℕ) → IsWriter es a w → IsWriter (Read b ∷ es) a w
writer_read es b a zero h = h
writer_read es b a (suc t) h = h

pub writer_end : (es : List Event) (a w : ℕ) → IsWriter es a w → IsWriter (TurnEnd ∷ es) a w
writer_end es a zero h = h
writer_end es a (suc t) h = h

none_other : (es : List Event) (b a : ℕ) → a ≢ b → ((i : ℕ) → Wrote es i a → ⊥) → (i : ℕ) → Wrote (Write b ∷ es) i a → ⊥
none_other es b a n h i (inl w) = n (sym w.1)
none_other es b a n h i (inr w) = h i w

last_other : (es : List Event) (b a t : ℕ) → a ≢ b → ((i : ℕ) → Wrote es i a → i ≤ t) → (i : ℕ) → Wrote (Write b ∷ es) i a → i ≤ t
last_other es b a t n h i (inl w) = absurd (n (sym w.1))
last_other es b a t n h i (inr w) = h i w

pub writer_other : (es : List Event) (b a w : ℕ) → a ≢ b → IsWriter es a w → IsWriter (Write b ∷ es) a w
writer_other es b a zero n h = none_other es b a n h
writer_other es b a (suc t) n h = (inr h.0, last_other es b a t n h.1)

pub writer_own : (es : List Event) (a : ℕ) → IsWriter (Write a ∷ es) a (suc (turn_of es))
writer_own es a = (inl (refl, refl), λ i h. wrote_before (Write a ∷ es) i a h)

-- ---- independence

written_later : (es : List Event) (b : ℕ) → IsIndependent es → (i j a : ℕ) → i < j → Wrote (Write b ∷ es) i a → Exposed es j a → ⊥
written_later es b f i j a lt (inl w) x = let le : j ≤ turn_of es = exposed_before es j a x in let e = w.0 in omega (arith, lt, le, e)
written_later es b f i j a lt (inr w) x = f i j a lt w x

pub write_keeps : (es : List Event) (b : ℕ) → IsIndependent es → IsIndependent (Write b ∷ es)
write_keeps es b f = λ i j a lt w x. written_later es b f i j a lt w x

pub write_kept : (es : List Event) (b : ℕ) → IsIndependent (Write b ∷ es) → IsIndependent es
write_kept es b f = λ i j a lt w x. f i j a lt (inr w) x

pub end_keeps : (es : List Event) → IsIndependent es → IsIndependent (TurnEnd ∷ es)
end_keeps es f = λ i j a lt w x. f i j a lt w x

pub end_kept : (es : List Event) → IsIndependent (TurnEnd ∷ es) → IsIndependent es
end_kept es f = λ i j a lt w x. f i j a lt w x

-- no earlier turn has written the word, or this one has written it too
abbrev pub IsOwn : List Event → ℕ → Type 0
IsOwn es w = (w ≡ 0) ⊎ (turn_of es < w)

-- of a word that has this writer, no write of an earlier turn is read by one that hasn't written it
pub own : (es : List Event) (b w i : ℕ) → IsWriter es b w → IsOwn es w → Wrote es i b → i < turn_of es → (HasWritten es b → ⊥) → ⊥
own es b zero i h o x lt n = h i x
own es b (suc t) i h (inl e) x lt n = omega (arith, e)
own es b (suc t) i h (inr o) x lt n =
    let le : t ≤ turn_of es = wrote_before es t b h.0 in
    let e : t ≡ turn_of es = omega (arith, le, o) in
    n (wrote_has es t b h.0 e)

read_own : (es : List Event) (b w : ℕ) → IsWriter es b w → IsOwn es w → IsIndependent es → (i j a : ℕ) → i < j → Wrote es i a → Exposed (Read b ∷ es) j a → ⊥
read_own es b w h o f i j a lt x (inl e) =
    let here : b ≡ a = e.1 in
    let now = e.0 in
    let sooner : i < turn_of es = omega (arith, lt, now) in
    let x' = subst (λ c. Wrote es i c) (sym here) x in
    let n : HasWritten es b → ⊥ = λ k. e.2 (subst (λ c. HasWritten es c) here k) in
    own es b w i h o x' sooner n
read_own es b w h o f i j a lt x (inr e) = f i j a lt x e

pub read_keeps : (es : List Event) (b w : ℕ) → IsWriter es b w → IsOwn es w → IsIndependent es → IsIndependent (Read b ∷ es)
read_keeps es b w h o f = λ i j a lt x e. read_own es b w h o f i j a lt x e

pub read_kept : (es : List Event) (b : ℕ) → IsIndependent (Read b ∷ es) → IsIndependent es
read_kept es b f = λ i j a lt w x. f i j a lt w (inr x)

-- a word that an earlier turn wrote last, and that is read
pub read_breaks : (es : List Event) (b w : ℕ) → IsWriter es b w → (IsOwn es w → ⊥) → IsIndependent (Read b ∷ es) → ⊥
read_breaks es b zero h o f = o (inl refl)
read_breaks es b (suc t) h o f =
    let not_later : turn_of es < suc t → ⊥ = λ lt. o (inr lt) in
    let lt : t < turn_of es = omega (arith, not_later) in
    let n : HasWritten es b → ⊥ = λ k. let le : turn_of es ≤ t = h.1 (turn_of es) (has_wrote es b k) in omega (arith, le, lt) in
    f t (turn_of es) b lt h.0 (inl (refl, refl, n))
