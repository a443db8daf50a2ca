-- Needs of words, to which others are added one word after another.
use Rattle.std.proofs.Common.{◌≡◌, ◌≢◌, ℕ, ◌+◌, ◌<◌, ◌≤◌, List, [], ◌∷◌, ◌++◌, length, ap, sym, subst, ◌∙◌, inl, inr, arith, length-set, get_or-set_same, get_or-set_other, length-append}
use Rattle.std.specs.Prelude.{slice_set}
use Rattle.std.proofs.Math.Seq.{get_or-append_seam}
use Rattle.std.proofs.lemmas.List.{get_or_append_left, get_or_past}
use Rattle.std.proofs.lemmas.Bool.{cases_lt}
use Rattle.hx_speculation.proofs.Stores.{same_or_not}
use Rattle.hx_advise.specs.declared.watch.Need.{Need}
use Rattle.hx_advise.specs.Watch.{AreBoth, need_at, no_need}

-- those of the first k words are added, and the others are as before
pub record AreAdded (old more all : List Need) (k : ℕ) : Type 0 where
  pub long : k ≤ length all
  pub added : (a : ℕ) → a < k → AreBoth (need_at old a) (need_at more a) (need_at all a)
  pub left : (a : ℕ) → k ≤ a → need_at all a ≡ need_at old a

one_more : (old more all all' : List Need) (k : ℕ) (x : Need) → AreAdded old more all k → AreBoth (need_at all k) (need_at more k) x → k + 1 ≤ length all' → need_at all' k ≡ x → ((a : ℕ) → a ≢ k → need_at all' a ≡ need_at all a)
    → AreAdded old more all' (k + 1)
one_more old more all all' k x h both long here others = record {
  long = long;
  added = λ a lt. elim (same_or_not a k) [
    | inl same ↦
        let first : AreBoth (need_at old k) (need_at more k) x = subst (λ n. AreBoth n (need_at more k) x) (h.left k (omega arith)) both in
        let now : AreBoth (need_at old k) (need_at more k) (need_at all' k) = subst (AreBoth (need_at old k) (need_at more k)) (sym here) first in
        subst (λ c. AreBoth (need_at old c) (need_at more c) (need_at all' c)) (sym same) now
    | inr other ↦ subst (AreBoth (need_at old a) (need_at more a)) (sym (others a other)) (h.added a (omega (arith, lt, other)))
  ];
  left = λ a le. others a (omega (arith, le)) ∙ h.left a (omega (arith, le));
}

pub added_set : (old more all : List Need) (k : ℕ) (x : Need) → AreAdded old more all k → k < length all → AreBoth (need_at all k) (need_at more k) x → AreAdded old more (slice_set all k x) (k + 1)
added_set old more all k x h lt both =
    one_more old more all (slice_set all k x) k x h both (let e = length-set all k x in omega (arith, e, lt)) (get_or-set_same all k x no_need lt) (λ a other. get_or-set_other all k a x no_need other)

at_end : (all : List Need) (k : ℕ) (x : Need) → length all ≡ k → need_at (all ++ x ∷ []) k ≡ x
at_end all k x e = ap (λ j. need_at (all ++ x ∷ []) j) (sym e) ∙ get_or-append_seam all x [] no_need

elsewhere : (all : List Need) (k a : ℕ) (x : Need) → length all ≡ k → a ≢ k → need_at (all ++ x ∷ []) a ≡ need_at all a
elsewhere all k a x e other =
    let long : length (all ++ x ∷ []) ≡ length all + 1 = length-append all (x ∷ []) in
    elim (cases_lt a (length all)) [
      | inl lt ↦ get_or_append_left all (x ∷ []) no_need a lt
      | inr le ↦ get_or_past (all ++ x ∷ []) a no_need (omega (arith, le, other, e, long)) ∙ sym (get_or_past all a no_need le)
    ]

pub added_push : (old more all : List Need) (k : ℕ) (x : Need) → AreAdded old more all k → length all ≤ k → AreBoth no_need (need_at more k) x → AreAdded old more (all ++ x ∷ []) (k + 1)
added_push old more all k x h le both =
    let long = h.long in
    let end : length all ≡ k = omega (arith, le, long) in
    let all_long : length (all ++ x ∷ []) ≡ length all + 1 = length-append all (x ∷ []) in
    one_more old more all (all ++ x ∷ []) k x h (subst (λ n. AreBoth n (need_at more k) x) (sym (get_or_past all k no_need le)) both) (omega (arith, all_long, end)) (at_end all k x end) (λ a other. elsewhere all k a x end other)
