-- Entries that fit, and a region from one.
use Rattle.std.proofs.Common.{◌≡◌, ℕ, ◌+◌, ◌-◌, ◌≤◌, ℤ, pos, List, ◌++◌, length, drop, replicate, Option, Some, None, is_some, true, false, refl, ap, subst, ◌∙◌, arith}
use Rattle.std.specs.Prelude.{slice_get}
use Rattle.std.proofs.lemmas.List.{drop-replicate}
use Rattle.hx_tree.specs.declared.limits.TheConstants.{PRIVATE_LIMIT}
use Rattle.hx_code.specs.declared.word.Exit.{Exit}
use Rattle.hx_code.specs.Code.{CodeView, FuncView, region_of}
use Rattle.hx_code.specs.Valid.{IsValid, IsSmallFunction, privates_of}
use Rattle.hx_code.specs.Region.{RegionState, region_after}
use Rattle.hx_code.proofs.Rooms.{all_at}
use Rattle.hx_word.specs.Entry.{function_in, privates_in, padded}
use Rattle.hx_exec.proofs.RegionSteps.{region_then}
use Rattle.hx_word.proofs.RegionSteps.{region_stays}

pub privates_few : (code : CodeView) → IsValid code → (r : ℕ) → privates_in code r ≤ PRIVATE_LIMIT
privates_few code valid r = few (slice_get code.functions f) refl
  where
    f : ℕ
    f = function_in (slice_get code.spots (region_of code r).start)

    few : (o : Option FuncView) → slice_get code.functions f ≡ o → privates_of o ≤ PRIVATE_LIMIT
    few None is = omega arith
    few (Some g) is = (all_at IsSmallFunction code.functions f g valid.limits.small is).2

pub padded_is : (words xs locals : List ℤ) → words ≡ xs ++ drop (length xs) (replicate PRIVATE_LIMIT (pos 0)) → xs ≡ locals → words ≡ padded locals
padded_is words xs locals put is =
    put ∙ ap (λ ys. ys ++ drop (length ys) (replicate PRIVATE_LIMIT (pos 0))) is ∙ ap (λ ys. locals ++ ys) (drop-replicate (length locals) PRIVATE_LIMIT (pos 0))

-- what an option holds
pub held_by : (o : Option Exit) → is_some o ≡ true → (e : Exit) × (o ≡ Some e)
held_by None is = absurd cc
held_by (Some e) is = (e, refl)

pub none_there : (o : Option Exit) → is_some o ≡ false → o ≡ None
none_there None is = refl
none_there (Some e) is = absurd cc

-- a region that goes on has done all its words, and one that has ended stays
pub region_reaches : (code : CodeView) (n steps : ℕ) (z y : RegionState) → region_after code n z ≡ y → n ≤ steps → (y.exit ≡ None → n ≡ steps) → region_after code steps z ≡ y
region_reaches code n steps z y is le all = by_exit y.exit refl
  where
    by_exit : (o : Option Exit) → y.exit ≡ o → region_after code steps z ≡ y
    by_exit None none = subst (λ k. region_after code k z ≡ y) (all none) is
    by_exit (Some e) over =
        let sum : n + (steps - n) ≡ steps = omega arith in
        subst (λ k. region_after code k z ≡ y) sum (region_then code n (steps - n) z ∙ ap (region_after code (steps - n)) is ∙ region_stays code (steps - n) y e over)
