-- Stores, tables laid over them, and tests.
use Rattle.std.proofs.Common.{◌≡◌, ◌≢◌, ℕ, ℤ, pos, negsuc, ◌⊎◌, inl, inr, Bool, true, false, ◌&&◌, ◌==◌, [], ◌∷◌, Some, None, refl, sym, ap, ap₂, ◌∙◌, subst, arith}
use Rattle.std.specs.Prelude.{if◌then◌else◌}
use Rattle.std.proofs.lemmas.Bool.{false≢true}
use Rattle.std.proofs.lemmas.Bool.Decides.{nat_tests, eqb_tells}
use std.Path.{fun_ext}
use Rattle.hx_marks.specs.declared.marks.Entry.{Entry}
use Rattle.hx_marks.specs.Table.{Table, look, put}
use Rattle.hx_marks.proofs.Tables.{look_put_own, look_put_other}
use Rattle.hx_buffer.specs.Overlay.{or_else}
use Rattle.hx_speculation.specs.Iteration.{Store, write, overlay, Agrees, IsIn}
use Rattle.hx_speculation.specs.Board.{same_value, same_table}

pub if_cases : {A : Type 0} (P : A → Type 0) (t : Bool) (x y : A) → (t ≡ true → P x) → (t ≡ false → P y) → P (if t then x else y)
if_cases P true x y f g = f refl
if_cases P false x y f g = g refl

pub and_left : (a b : Bool) → (a && b) ≡ true → a ≡ true
and_left true b e = refl
and_left false b e = e

pub and_right : (a b : Bool) → (a && b) ≡ true → b ≡ true
and_right true b e = e
and_right false b e = absurd (false≢true e)

pub eq_true : (a b : ℕ) → (a == b) ≡ true → a ≡ b
eq_true a b e = grind (arith, nat_tests)

pub eq_same : (a : ℕ) → (a == a) ≡ true
eq_same a = grind (arith, nat_tests)

eq_other : (a b : ℕ) → a ≢ b → (a == b) ≡ false
eq_other a b h = grind (arith, nat_tests)

pub same_or_not : (a b : ℕ) → (a ≡ b) ⊎ (a ≢ b)
same_or_not a b = grind (arith, nat_tests, eqb_tells a b)

pub write_same : (s : Store) (a : ℕ) (v : ℤ) → write s a v a ≡ v
write_same s a v = rw (eq_same a)

pub write_other : (s : Store) (a : ℕ) (v : ℤ) (b : ℕ) → b ≢ a → write s a v b ≡ s b
write_other s a v b h = rw (eq_other b a h)

overlay_put_at : (t : Table) (a : ℕ) (v : ℤ) (s : Store) (b : ℕ) → (b ≡ a) ⊎ (b ≢ a) → overlay (put t a v) s b ≡ write (overlay t s) a v b
overlay_put_at t a v s b (inl e) =
    let here : or_else (look (put t a v) a) (s a) ≡ write (overlay t s) a v a = ap (λ o. or_else o (s a)) (look_put_own t a v) ∙ sym (write_same (overlay t s) a v) in
    subst (λ c. or_else (look (put t a v) c) (s c) ≡ write (overlay t s) a v c) (sym e) here
overlay_put_at t a v s b (inr n) = ap (λ o. or_else o (s b)) (look_put_other t a b v n) ∙ sym (write_other (overlay t s) a v b n)

pub overlay_put : (t : Table) (a : ℕ) (v : ℤ) (s : Store) → overlay (put t a v) s ≡ write (overlay t s) a v
overlay_put t a v s = fun_ext (λ b. overlay_put_at t a v s b (same_or_not b a))

pub overlay_hit : (t : Table) (s : Store) (a : ℕ) (v : ℤ) → look t a ≡ Some v → overlay t s a ≡ v
overlay_hit t s a v h = ap (λ o. or_else o (s a)) h

pub overlay_miss : (t : Table) (s : Store) (a : ℕ) → look t a ≡ None → overlay t s a ≡ s a
overlay_miss t s a h = ap (λ o. or_else o (s a)) h

-- two stores that differ at one word at most
pub overlay_but : (t : Table) (s u : Store) (a : ℕ) → ((b : ℕ) → b ≢ a → s b ≡ u b) → (b : ℕ) → b ≢ a → overlay t s b ≡ overlay t u b
overlay_but t s u a h b n = ap (or_else (look t b)) (h b n)

pub agrees_nil : (s : Store) → Agrees s []
agrees_nil s a v h = absurd (cc)

agrees_put_at : (s : Store) (t : Table) (a : ℕ) (v : ℤ) (b : ℕ) (w : ℤ) → Agrees s t → s a ≡ v → (b ≡ a) ⊎ (b ≢ a) → look (put t a v) b ≡ Some w → s b ≡ w
agrees_put_at s t a v b w g h (inl e) k =
    let there : look (put t a v) b ≡ Some v = ap (look (put t a v)) e ∙ look_put_own t a v in
    let vw : v ≡ w = cc in
    ap s e ∙ h ∙ vw
agrees_put_at s t a v b w g h (inr n) k = g b w (sym (look_put_other t a b v n) ∙ k)

pub agrees_put : (s : Store) (t : Table) (a : ℕ) (v : ℤ) → Agrees s t → s a ≡ v → Agrees s (put t a v)
agrees_put s t a v g h b w k = agrees_put_at s t a v b w g h (same_or_not b a) k

agrees_before_at : (s : Store) (t : Table) (a : ℕ) (v : ℤ) (b : ℕ) (w : ℤ) → look t a ≡ None → Agrees s (put t a v) → (b ≡ a) ⊎ (b ≢ a) → look t b ≡ Some w → s b ≡ w
agrees_before_at s t a v b w g h (inl e) k = let none : look t b ≡ None = ap (look t) e ∙ g in absurd (cc)
agrees_before_at s t a v b w g h (inr n) k = h b w (look_put_other t a b v n ∙ k)

-- a store that agrees with one mark more
pub agrees_before : (s : Store) (t : Table) (a : ℕ) (v : ℤ) → look t a ≡ None → Agrees s (put t a v) → Agrees s t
agrees_before s t a v g h b w k = agrees_before_at s t a v b w g h (same_or_not b a) k

is_in_put_at : (t : Table) (a : ℕ) (v : ℤ) (b : ℕ) → (b ≡ a) ⊎ (b ≢ a) → IsIn t b → IsIn (put t a v) b
is_in_put_at t a v b (inl e) h = (v, ap (look (put t a v)) e ∙ look_put_own t a v)
is_in_put_at t a v b (inr n) h = (h.0, look_put_other t a b v n ∙ h.1)

-- a word more takes none away
pub is_in_put : (t : Table) (a : ℕ) (v : ℤ) (b : ℕ) → IsIn t b → IsIn (put t a v) b
is_in_put t a v b h = is_in_put_at t a v b (same_or_not b a) h

same_value_holds : (x y : ℤ) → same_value x y ≡ true → x ≡ y
same_value_holds (pos m) (pos n) h = ap pos (eq_true m n h)
same_value_holds (negsuc m) (negsuc n) h = ap negsuc (eq_true m n h)
same_value_holds (pos m) (negsuc n) h = absurd (false≢true h)
same_value_holds (negsuc m) (pos n) h = absurd (false≢true h)

pub same_table_holds : (t u : Table) → same_table t u ≡ true → t ≡ u
same_table_holds [] [] h = refl
same_table_holds [] (f ∷ fs) h = absurd (false≢true h)
same_table_holds (e ∷ es) [] h = absurd (false≢true h)
same_table_holds (e ∷ es) (f ∷ fs) h =
    let later = and_right (e.word == f.word) _ h in
    let word = eq_true e.word f.word (and_left (e.word == f.word) _ h) in
    let value = same_value_holds e.value f.value (and_left (same_value e.value f.value) _ later) in
    let rest = same_table_holds es fs (and_right (same_value e.value f.value) _ later) in
    let same : e ≡ f = ap₂ {C = Entry} (λ x y. record { word = x; value = y }) word value in
    ap₂ {C = Table} ◌∷◌ same rest
