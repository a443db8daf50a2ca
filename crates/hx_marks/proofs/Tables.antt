-- Facts on tables.
use Rattle.std.proofs.Common.{◌≡◌, ◌≢◌, ℕ, ℤ, ◌<◌, Bool, true, false, [], ◌∷◌, ◌==◌, Some, None, refl, sym, ap, ◌∙◌, subst, arith, ◌≤◌, ap₂, inl, inr}
use Rattle.std.specs.Prelude.{if◌then◌else◌, nat_lt}
use Rattle.std.proofs.lemmas.Bool.{cases_lt}
use Rattle.std.proofs.lemmas.Bool.Decides.{nat_tests}
use Rattle.hx_marks.specs.declared.marks.Entry.{Entry}
use Rattle.hx_marks.specs.Table.{Table, AreAbove, IsRising, look, put, HaveSameValues}

if_is : {A : Type 0} (P : A → Type 0) (t : Bool) (x y : A) → (t ≡ true → P x) → (t ≡ false → P y) → P (if t then x else y)
if_is P true x y f g = f refl
if_is P false x y f g = g refl

pub look_put_own : (t : Table) (a : ℕ) (v : ℤ) → look (put t a v) a ≡ Some v
look_put_own [] a v = grind (arith, nat_tests)
look_put_own (e ∷ es) a v = grind (arith, nat_tests, look_put_own es a v)

pub look_put_other : (t : Table) (a b : ℕ) (v : ℤ) → b ≢ a → look (put t a v) b ≡ look t b
look_put_other [] a b v h = grind (arith, nat_tests, h)
look_put_other (e ∷ es) a b v h = grind (arith, nat_tests, h, look_put_other es a b v h)

above_less : (a b : ℕ) (t : Table) → a < b → AreAbove b t → AreAbove a t
above_less a b [] h k = tt
above_less a b (e ∷ es) h k = (omega (arith, k.0), above_less a b es h k.1)

put_above : (b : ℕ) (t : Table) (a : ℕ) (v : ℤ) → b < a → AreAbove b t → AreAbove b (put t a v)
put_above b [] a v h k = (h, tt)
put_above b (e ∷ es) a v h k =
    if_is (AreAbove b) (nat_lt e.word a) _ _ (λ _. (k.0, put_above b es a v h k.1))
    (λ _. if_is (AreAbove b) (e.word == a) _ _ (λ _. (h, k.1)) (λ _. (h, k)))

pub put_rises : (t : Table) (a : ℕ) (v : ℤ) → IsRising t → IsRising (put t a v)
put_rises [] a v r = (tt, tt)
put_rises (e ∷ es) a v r =
    if_is IsRising (nat_lt e.word a) _ _ (λ less. let l : e.word < a = grind (arith, nat_tests, less) in (put_above e.word es a v l r.0, put_rises es a v r.1))
    (λ not_less. if_is IsRising (e.word == a) _ _
    (λ same. let s : e.word ≡ a = grind (arith, nat_tests, same) in (subst (λ b. AreAbove b es) s r.0, r.1))
    (λ other. let l : a < e.word = grind (arith, nat_tests, not_less, other) in ((l, above_less a e.word es l r.0), r)))

pub look_above : (t : Table) (a : ℕ) → AreAbove a t → look t a ≡ None
look_above [] a k = refl
look_above (e ∷ es) a k = grind (arith, nat_tests, k.0, look_above es a k.1)

look_first : (e : Entry) (es : Table) → look (e ∷ es) e.word ≡ Some e.value
look_first e es = grind (arith, nat_tests)

-- the first word of one is no word of the other where that begins above it
not_below : (e f : Entry) (es fs : Table) → IsRising (f ∷ fs) → look (e ∷ es) e.word ≡ look (f ∷ fs) e.word → f.word ≤ e.word
not_below e f es fs s same = elim (cases_lt e.word f.word) [
  | inl below ↦
      let none : look (f ∷ fs) e.word ≡ None = look_above (f ∷ fs) e.word (below, above_less e.word f.word fs below s.0) in
      let some = look_first e es in
      absurd (cc (none, some, same))
  | inr at_least ↦ at_least
]

same_rest : (e f : Entry) (es fs : Table) → IsRising (e ∷ es) → IsRising (f ∷ fs) → e.word ≡ f.word → HaveSameValues (e ∷ es) (f ∷ fs) → HaveSameValues es fs
same_rest e f es fs r s word h a = elim (cases_lt a e.word) [
  | inl below ↦ grind (arith, nat_tests, word, below, h a)
  | inr at_least ↦ elim (cases_lt e.word a) [
    | inl above ↦ grind (arith, nat_tests, word, above, h a)
    | inr at_most ↦
        let is : a ≡ e.word = omega (arith, at_least, at_most) in
        ap (look es) is ∙ look_above es e.word r.0 ∙ sym (look_above fs f.word s.0) ∙ sym (ap (look fs) (is ∙ word))
  ]
]

pub same_tables : (t u : Table) → IsRising t → IsRising u → HaveSameValues t u → t ≡ u
same_tables [] [] r s h = refl
same_tables [] (f ∷ fs) r s h = let none = h f.word in let some = look_first f fs in absurd (cc (none, some))
same_tables (e ∷ es) [] r s h = let none = h e.word in let some = look_first e es in absurd (cc (none, some))
same_tables (e ∷ es) (f ∷ fs) r s h =
    let above = not_below e f es fs s (h e.word) in
    let below = not_below f e fs es r (sym (h f.word)) in
    let word : e.word ≡ f.word = omega (arith, above, below) in
    let value : e.value ≡ f.value = (let here = look_first e es in let there = look_first f fs in let same = h e.word in let at = ap (look (f ∷ fs)) word in cc (here, there, same, at)) in
    let first : e ≡ f = ap₂ {C = Entry} (λ w v. record { word = w; value = v }) word value in
    ap₂ {C = Table} ◌∷◌ first (same_tables es fs r.1 s.1 (same_rest e f es fs r s word h))
