-- The attempt of a worker's iteration never falls.
use Rattle.std.proofs.Common.{◌≡◌, ◌≢◌, ℕ, suc, ◌≤◌, ℤ, List, [], ◌∷◌, ◌++◌, Option, Some, None, Bool, true, false, ap, sym, subst, arith}
use Rattle.std.specs.Prelude.{◌==◌, map, if◌then◌else◌}
use Rattle.std.proofs.lemmas.Bool.{ne_eqb}
use Rattle.hx_marks.specs.Table.{look}
use Rattle.hx_buffer.specs.Overlay.{or_else}
use Rattle.hx_code.specs.Local.{LocalView}
use Rattle.hx_speculation.specs.Slots.{Slot, of_worker, is_at, is_violated, restarted, with_mark, with_write, squashed, restarted_from, first_attempt}
use Rattle.hx_speculation.proofs.Stores.{if_cases}
use Rattle.hx_trace.specs.Tokens.{AtLeast}

-- at one iteration, and then at those behind it
rises : (k j : ℕ) (x y : Slot LocalView) (t : Bool) (o p : Option (ℕ × Slot LocalView)) → x.attempt ≤ y.attempt → (AtLeast k o → AtLeast k p) → AtLeast k (if t then Some (j, x) else o) → AtLeast k (if t then Some (j, y) else p)
rises k j x y true o p le f h = omega (arith, h, le)
rises k j x y false o p le f h = f h

stays : (k j : ℕ) (x : Slot LocalView) (t : Bool) (o p : Option (ℕ × Slot LocalView)) → (AtLeast k o → AtLeast k p) → AtLeast k (if t then Some (j, x) else o) → AtLeast k (if t then Some (j, x) else p)
stays k j x true o p f h = h
stays k j x false o p f h = f h

least_restarted : (k w j : ℕ) (xs : List (Slot LocalView)) → AtLeast k (of_worker w j xs) → AtLeast k (of_worker w j (map restarted xs))
least_restarted k w j [] h = h
least_restarted k w j (x ∷ xs) h = rises k j x (restarted x) (x.worker == w) _ _ (omega arith) (least_restarted k w (suc j) xs) h

pub least_mark : (k w j v attempt a : ℕ) (z : ℤ) (xs : List (Slot LocalView)) → AtLeast k (of_worker w j xs) → AtLeast k (of_worker w j (with_mark v attempt a z xs))
least_mark k w j v attempt a z [] h = h
least_mark k w j v attempt a z (x ∷ xs) h =
    if_cases (λ l. AtLeast k (of_worker w j l)) (is_at x v attempt) _ _
    (λ _. rises k j x _ (x.worker == w) _ _ (omega arith) (λ g. g) h)
    (λ _. stays k j x (x.worker == w) _ _ (least_mark k w (suc j) v attempt a z xs) h)

least_squashed : (k w j a : ℕ) (u : ℤ) (xs : List (Slot LocalView)) → AtLeast k (of_worker w j xs) → AtLeast k (of_worker w j (squashed a u xs))
least_squashed k w j a u [] h = h
least_squashed k w j a u (x ∷ xs) h =
    if_cases (λ l. AtLeast k (of_worker w j l)) (is_violated a u x) _ _
    (λ _. least_restarted k w j (x ∷ xs) h)
    (λ _. stays k j x (x.worker == w) _ _ (least_squashed k w (suc j) a (or_else (look x.buffer a) u) xs) h)

pub least_write : (k w j v attempt a : ℕ) (z : ℤ) (xs : List (Slot LocalView)) → AtLeast k (of_worker w j xs) → AtLeast k (of_worker w j (with_write v attempt a z xs))
least_write k w j v attempt a z [] h = h
least_write k w j v attempt a z (x ∷ xs) h =
    if_cases (λ l. AtLeast k (of_worker w j l)) (is_at x v attempt) _ _
    (λ _. rises k j x _ (x.worker == w) _ _ (omega arith) (least_squashed k w (suc j) a z xs) h)
    (λ _. stays k j x (x.worker == w) _ _ (least_write k w (suc j) v attempt a z xs) h)

pub least_abandon : (k w j v : ℕ) (xs : List (Slot LocalView)) → AtLeast k (of_worker w j xs) → AtLeast k (of_worker w j (restarted_from v xs))
least_abandon k w j v [] h = h
least_abandon k w j v (x ∷ xs) h =
    if_cases (λ l. AtLeast k (of_worker w j l)) (x.worker == v) _ _
    (λ _. least_restarted k w j (x ∷ xs) h)
    (λ _. stays k j x (x.worker == w) _ _ (least_abandon k w (suc j) v xs) h)

-- another worker's iteration is put behind
pub least_last : (k w j v : ℕ) (q : LocalView) (xs : List (Slot LocalView)) → v ≢ w → AtLeast k (of_worker w j xs) → AtLeast k (of_worker w j (xs ++ first_attempt v q ∷ []))
least_last k w j v q [] other h = subst (λ t. AtLeast k (if t then Some (j, first_attempt v q) else None)) (sym (ne_eqb v w other)) tt
least_last k w j v q (x ∷ xs) other h = stays k j x (x.worker == w) _ _ (least_last k w (suc j) v q xs other) h
