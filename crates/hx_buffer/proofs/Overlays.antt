-- Words written one after another are an overlay.
use Rattle.std.proofs.Common.{◌≡◌, ℕ, suc, zero, ℤ, ◌+◌, ◌<◌, [], ◌∷◌, List, ◌==◌, true, false, Some, None, refl, sym, ap, ◌∙◌, arith, slice_get, slice_set, drop}
use Rattle.std.proofs.lemmas.Bool.Decides.{nat_tests}
use Rattle.hx_marks.specs.declared.marks.Entry.{Entry}
use Rattle.hx_marks.specs.Table.{Table, IsRising, look}
use Rattle.hx_marks.proofs.Tables.{look_above}
use Rattle.hx_buffer.specs.Overlay.{or_else, overlay_from, overlay}

-- the words of a table written into a store, one after another
abbrev pub written : Table → List ℤ → List ℤ
written [] s = s
written (e ∷ es) s = written es (slice_set s e.word e.value)

-- the next one of them
pub written_next : (t : Table) (k : ℕ) (e : Entry) (s : List ℤ) → slice_get t k ≡ Some e → written (drop k t) s ≡ written (drop (suc k) t) (slice_set s e.word e.value)
written_next [] k e s h = absurd cc
written_next (x ∷ xs) zero e s h = let same : x ≡ e = cc in ap (λ (y : Entry). written xs (slice_set s y.word y.value)) same
written_next (x ∷ xs) (suc k) e s h = written_next xs k e s h

-- a word below all of these has no part in them
overlay_past : (n : ℕ) (e : Entry) (es : Table) (s : List ℤ) → e.word < n → overlay_from n (e ∷ es) s ≡ overlay_from n es s
overlay_past n e es [] h = refl
overlay_past n e es (x ∷ xs) h =
    let no : (e.word == n) ≡ false = grind (arith, nat_tests, h) in
    rw no (ap (λ l. or_else (look es n) x ∷ l) (overlay_past (suc n) e es xs (omega (arith, h))))

-- one word more, which the others don't have
overlay_one : (n k : ℕ) (e : Entry) (es : Table) (s : List ℤ) → e.word ≡ n + k → look es e.word ≡ None → overlay_from n es (slice_set s k e.value) ≡ overlay_from n (e ∷ es) s
overlay_one n k e es [] is none = refl
overlay_one n zero e es (x ∷ xs) is none =
    let same : e.word ≡ n = omega (arith, is) in
    let yes : (e.word == n) ≡ true = grind (arith, nat_tests, same) in
    let gone : look es n ≡ None = ap (look es) (sym same) ∙ none in
    rw (yes, gone) (ap (λ l. e.value ∷ l) (sym (overlay_past (suc n) e es xs (omega (arith, same)))))
overlay_one n (suc k) e es (x ∷ xs) is none =
    let no : (e.word == n) ≡ false = grind (arith, nat_tests, is) in
    rw no (ap (λ l. or_else (look es n) x ∷ l) (overlay_one (suc n) k e es xs (omega (arith, is)) none))

overlay_nothing : (n : ℕ) (s : List ℤ) → overlay_from n [] s ≡ s
overlay_nothing n [] = refl
overlay_nothing n (x ∷ xs) = ap (λ l. x ∷ l) (overlay_nothing (suc n) xs)

pub written_is_overlay : (t : Table) (s : List ℤ) → IsRising t → written t s ≡ overlay t s
written_is_overlay [] s r = sym (overlay_nothing 0 s)
written_is_overlay (e ∷ es) s r = written_is_overlay es (slice_set s e.word e.value) r.1 ∙ overlay_one 0 e.word e es s (omega arith) (look_above es e.word r.0)
