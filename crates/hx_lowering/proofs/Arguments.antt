-- Arguments on top of the operands become the first private words, and these are the parameters.
use Rattle.std.proofs.Common.{◌≡◌, ℕ, zero, suc, ◌+◌, ◌-◌, ◌≤◌, ◌<◌, List, [], ◌∷◌, ◌++◌, length, drop, ℤ, pos, refl, sym, ap, subst, ◌∙◌, arith, length-set, get_or-set_other, get_or-set_same, ⊎_elim, append_assoc}
use Rattle.std.specs.Prelude.{slice_set, slice_index_or, zip}
use Rattle.std.proofs.lemmas.Bool.{cases_lt}
use Rattle.std.proofs.Math.Seq.{drop-append_seam}
use Rattle.hx_tree.specs.Tree.{Name}
use Rattle.hx_tree.specs.Meaning.{texts_of}
use Rattle.hx_resolved.specs.Symbols.{numbered}
use Rattle.hx_code.specs.Local.{with_arguments}
use Rattle.hx_lowering.proofs.Calling.{onto}
use Rattle.hx_lowering.proofs.Names.{values_in}
use Rattle.hx_lowering.proofs.Locals.{numbers_in, Absent, Apart, Below, Tidy}

pub length-with_arguments : (n : ℕ) (os ps : List ℤ) → length (with_arguments n os ps) ≡ length ps
length-with_arguments zero os ps = refl
length-with_arguments (suc n) [] ps = refl
length-with_arguments (suc n) (v ∷ os) ps = length-with_arguments n os (slice_set ps n v) ∙ length-set ps n v

above : (n : ℕ) (os ps : List ℤ) (i : ℕ) → n ≤ i → slice_index_or (with_arguments n os ps) i (pos 0) ≡ slice_index_or ps i (pos 0)
above zero os ps i le = refl
above (suc n) [] ps i le = refl
above (suc n) (v ∷ os) ps i le = above n os (slice_set ps n v) i (omega arith) ∙ get_or-set_other ps n i v (pos 0) (λ e. omega arith)

-- the topmost of n is the last of them
top_is : (n : ℕ) (v : ℤ) (os ps : List ℤ) → n < length ps → slice_index_or (with_arguments (suc n) (v ∷ os) ps) n (pos 0) ≡ v
top_is n v os ps lt = above n os (slice_set ps n v) n (omega arith) ∙ get_or-set_same ps n v (pos 0) lt

-- the i-th of the first n words is the (n - 1 - i)-th from the top
from_top : (n : ℕ) (os ps : List ℤ) (i : ℕ) → i < n → n ≤ length os → n ≤ length ps → slice_index_or (with_arguments n os ps) i (pos 0) ≡ slice_index_or os (n - 1 - i) (pos 0)
from_top zero os ps i lt a b = absurd (omega arith)
from_top (suc n) [] ps i lt a b = absurd (omega arith)
from_top (suc n) (v ∷ os) ps i lt a b =
    ⊎_elim (λ lt'. lower lt' (from_top n os (slice_set ps n v) i lt' (omega arith) (omega (arith, length-set ps n v)))) (λ le. last (omega arith)) (cases_lt i n)
  where
    lower : i < n → slice_index_or (with_arguments n os (slice_set ps n v)) i (pos 0) ≡ slice_index_or os (n - 1 - i) (pos 0)
        → slice_index_or (with_arguments n os (slice_set ps n v)) i (pos 0) ≡ slice_index_or (v ∷ os) (suc n - 1 - i) (pos 0)
    lower lt' h = let e : suc n - 1 - i ≡ suc (n - 1 - i) = omega arith in h ∙ sym (ap (λ j. slice_index_or (v ∷ os) j (pos 0)) e)

    last : i ≡ n → slice_index_or (with_arguments n os (slice_set ps n v)) i (pos 0) ≡ slice_index_or (v ∷ os) (suc n - 1 - i) (pos 0)
    last e =
        let z : suc n - 1 - i ≡ 0 = omega arith in
        ap (λ j. slice_index_or (with_arguments n os (slice_set ps n v)) j (pos 0)) e ∙ top_is n v os ps (omega arith) ∙ sym (ap (λ j. slice_index_or (v ∷ os) j (pos 0)) z)

-- values on top: the last pushed is topmost
onto_at : (vs os : List ℤ) (k : ℕ) → slice_index_or (onto vs os) (length vs + k) (pos 0) ≡ slice_index_or os k (pos 0)
onto_at [] os k = let e : 0 + k ≡ k = omega arith in ap (λ j. slice_index_or os j (pos 0)) e
onto_at (v ∷ vs) os k = let e : suc (length vs) + k ≡ length vs + suc k = omega arith in ap (λ j. slice_index_or (onto vs (v ∷ os)) j (pos 0)) e ∙ onto_at vs (v ∷ os) (suc k)

onto_in : (vs os : List ℤ) (j : ℕ) → j < length vs → slice_index_or (onto vs os) (length vs - 1 - j) (pos 0) ≡ slice_index_or vs j (pos 0)
onto_in [] os j lt = absurd (omega arith)
onto_in (v ∷ vs) os zero lt = let e : suc (length vs) - 1 - 0 ≡ length vs + 0 = omega arith in ap (λ i. slice_index_or (onto vs (v ∷ os)) i (pos 0)) e ∙ onto_at vs (v ∷ os) 0
onto_in (v ∷ vs) os (suc j) lt = let e : suc (length vs) - 1 - suc j ≡ length vs - 1 - j = omega arith in ap (λ i. slice_index_or (onto vs (v ∷ os)) i (pos 0)) e ∙ onto_in vs (v ∷ os) j (omega arith)

pub length-onto : (vs os : List ℤ) → length (onto vs os) ≡ length vs + length os
length-onto [] os = omega arith
length-onto (v ∷ vs) os = length-onto vs (v ∷ os) ∙ omega arith

onto_is : (vs os : List ℤ) → onto vs os ≡ onto vs [] ++ os
onto_is [] os = refl
onto_is (v ∷ vs) os = onto_is vs (v ∷ os) ∙ sym (append_assoc (onto vs []) (v ∷ []) os) ∙ ap (λ l. l ++ os) (sym (onto_is vs (v ∷ [])))

pub drop-onto : (vs os : List ℤ) → drop (length vs) (onto vs os) ≡ os
drop-onto vs os =
    let len : length (onto vs []) ≡ length vs = length-onto vs [] ∙ omega arith in
    ap (drop (length vs)) (onto_is vs os) ∙ ap (λ n. drop n (onto vs [] ++ os)) (sym len) ∙ drop-append_seam (onto vs []) os

-- each argument is its private word
pub argument_at : (vs os ps : List ℤ) (i : ℕ) → i < length vs → length vs ≤ length ps → slice_index_or (with_arguments (length vs) (onto vs os) ps) i (pos 0) ≡ slice_index_or vs i (pos 0)
argument_at vs os ps i lt room = from_top (length vs) (onto vs os) ps i lt (omega (arith, length-onto vs os)) room ∙ onto_in vs os i lt

-- ---- the parameters' environment

zip_values : (xs : List Name) (vs : List ℤ) (k : ℕ) (held : ℕ → ℤ) → length xs ≡ length vs → ((i : ℕ) → i < length vs → held (k + i) ≡ slice_index_or vs i (pos 0)) → zip (texts_of xs) vs ≡ values_in (numbered xs k) held
zip_values [] [] k held e same = refl
zip_values [] (v ∷ vs) k held e same = absurd (omega arith)
zip_values (x ∷ xs) [] k held e same = absurd (omega arith)
zip_values (x ∷ xs) (v ∷ vs) k held e same =
    let first : held k ≡ v = (let z : k ≡ k + 0 = omega arith in ap held z ∙ same 0 (omega arith)) in
    ap (λ z. (x.text, z) ∷ zip (texts_of xs) vs) (sym first)
    ∙ ap (λ rest. (x.text, held k) ∷ rest) (zip_values xs vs (k + 1) held (omega arith) (λ i lt. (let z : k + 1 + i ≡ k + suc i = omega arith in ap held z ∙ same (suc i) (omega arith))))

pub parameters_are : (xs : List Name) (vs : List ℤ) (held : ℕ → ℤ) → length xs ≡ length vs → ((i : ℕ) → i < length vs → held i ≡ slice_index_or vs i (pos 0)) → zip (texts_of xs) vs ≡ values_in (numbered xs 0) held
parameters_are xs vs held e same = zip_values xs vs 0 held e (λ i lt. (let z : 0 + i ≡ i = omega arith in ap held z ∙ same i lt))

-- ---- their scope is tidy

not_before : (xs : List Name) (k j : ℕ) → j < k → Absent j (numbers_in (numbered xs k))
not_before [] k j lt = tt
not_before (x ∷ xs) k j lt = ((λ e. omega arith), not_before xs (k + 1) j (omega arith))

pub numbers_apart : (xs : List Name) (k : ℕ) → Apart (numbers_in (numbered xs k))
numbers_apart [] k = tt
numbers_apart (x ∷ xs) k = (not_before xs (k + 1) k (omega arith), numbers_apart xs (k + 1))

pub numbers_below : (xs : List Name) (k n : ℕ) → k + length xs ≤ n → Below n (numbers_in (numbered xs k))
numbers_below [] k n le = tt
numbers_below (x ∷ xs) k n le = (omega arith, numbers_below xs (k + 1) n (omega arith))

nothing_more : (ks : List ℕ) → ks ≡ ks ++ []
nothing_more [] = refl
nothing_more (k ∷ ks) = ap (λ l. k ∷ l) (nothing_more ks)

pub params_tidy : (xs : List Name) → Tidy (length xs) (numbered xs 0 ∷ [])
params_tidy xs = record {
  apart = subst Apart (nothing_more (numbers_in (numbered xs 0))) (numbers_apart xs 0);
  below = subst (Below (length xs)) (nothing_more (numbers_in (numbered xs 0))) (numbers_below xs 0 (length xs) (omega arith));
}
