-- The loop of lists: what it reads, and that it reads each list that is spelled.
use Rattle.std.proofs.Common.{◌≡◌, ℕ, zero, suc, ◌<◌, ◌≤◌, max, true, List, [], ◌∷◌, length, Option, Some, None, Err, refl, sym, ap, arith}
use Rattle.hx_tree.specs.declared.token.Mark.{Mark}
use Rattle.hx_tree.specs.declared.token.Mark.TheVariants as mark
use Rattle.hx_tree.specs.Lexis.{Token}
use Rattle.hx_tree.specs.Grammar.{Phrase, The, Nothing, EachBehindComma, Listed, ◌⨾◌}
use Rattle.hx_tree.specs.Height.{greatest}
use Rattle.hx_grammar.specs.Reading.{TooDeep, Reader, same_mark, behind, Turn, Further, Ends, comma_turn, at_comma, mark_turn, until, until_end, turned, many, all_of, listed_from, listed}
use Rattle.hx_grammar.proofs.Readings.{behind_is, behind_here, Yields, yields, yields_none, yields_then, yields_more, Answers, answer, answer_then, at_height, Ended, ended}

-- ---- runs

-- the items of a list that goes on and ends as `next` says
abbrev pub Run : {X : Type 0} → (List Token → Turn) → (X → Phrase) → List X → Phrase
Run next P [] from to = next from ≡ Ends to
Run next P (x ∷ xs) from to = (a : List Token) × (b : List Token) × (next from ≡ Further a) × P x a b × Run next P xs b to

-- what is read is a run

turned_yields : {X : Type 0} {P : X → Phrase} (next : List Token → Turn) (item : Reader X) (go : Reader (List X)) (from : List Token) (t : Turn)
    → next from ≡ t
    → ((from : List Token) → Yields (item from) (λ x to. P x from to))
    → ((from : List Token) → Yields (go from) (λ xs to. Run next P xs from to))
    → Yields (turned item go t) (λ xs to. Run next P xs from to)
turned_yields next item go from (Ends to) is one others = yields is
turned_yields next item go from (Further a) is one others =
    yields_then _ _ (one a) (λ x b h. yields_then _ _ (others b) (λ xs to hs. yields (a, b, is, h, hs)))

pub many_yields : {X : Type 0} {P : X → Phrase} (next : List Token → Turn) (item : Reader X)
    → ((from : List Token) → Yields (item from) (λ x to. P x from to)) → (fuel : ℕ) (from : List Token)
    → Yields (many next item fuel from) (λ xs to. Run next P xs from to)
unfolding many
many_yields next item one zero = λ from. turned_yields next item (λ s. Err TooDeep) from (next from) refl one (λ s. yields_none)
many_yields next item one (suc fuel) =
    λ from. turned_yields next item (many next item fuel) from (next from) refl one (many_yields next item one fuel)

-- each run is read

pub record IsRead {X : Type 0} (room : ℕ) (height : X → ℕ) (item : Reader X) (P : X → Phrase) (x : X) : Type 0 where
  pub answers : (from to : List Token) → P x from to → Answers room (height x) (item from) x to
  pub shorter : (from to : List Token) → P x from to → length to < length from

abbrev pub Each : {X : Type 0} → (X → Type 0) → List X → Type 0
Each P [] = Unit {0}
Each P (x ∷ xs) = P x × Each P xs

-- a list goes on with no more tokens than it has
abbrev pub Onward : (List Token → Turn) → Type 0
Onward next = (from to : List Token) → next from ≡ Further to → length to ≤ length from

many_ends : {X : Type 0} (room : ℕ) (next : List Token → Turn) (item : Reader X) (fuel : ℕ) (from to : List Token) → next from ≡ Ends to
    → Answers room 0 (many next item fuel from) [] to
unfolding many
many_ends room next item zero from to is = rw is answer
many_ends room next item (suc fuel) from to is = rw is answer

many_further : {X : Type 0} (room h k : ℕ) (next : List Token → Turn) (item : Reader X) (fuel : ℕ) (x : X) (xs : List X) (from a b to : List Token)
    → next from ≡ Further a
    → Answers room h (item a) x b → Answers room k (many next item fuel b) xs to
    → Answers room (max h k) (many next item (suc fuel) from) (x ∷ xs) to
unfolding many
many_further room h k next item fuel x xs from a b to is one others =
    rw is (at_height (answer_then (item a) _ one (answer_then (many next item fuel b) _ others answer)) (max h k) (omega arith))

pub many_answers : {X : Type 0} (P : X → Phrase) (room : ℕ) (height : X → ℕ) (next : List Token → Turn) (item : Reader X) → Onward next
    → (xs : List X) → Each (IsRead room height item P) xs
    → (fuel : ℕ) (from to : List Token) → length from ≤ fuel → Run next P xs from to
    → Answers room (greatest height xs) (many next item fuel from) xs to
many_answers P room height next item on [] each fuel from to enough is = many_ends room next item fuel from to is
many_answers P room height next item on (x ∷ xs) each zero from to enough (a, b, is, h, hs) =
    let p = on from a is in let q = each.0.shorter a b h in absurd (omega arith)
many_answers P room height next item on (x ∷ xs) each (suc fuel) from to enough (a, b, is, h, hs) =
    let p = on from a is in
    let q = each.0.shorter a b h in
    many_further room (height x) (greatest height xs) next item fuel x xs from a b to is (each.0.answers a b h)
    (many_answers P room height next item on xs each.1 fuel b to (omega arith) hs)

-- ---- commas between

comma_cases : (from : List Token) (o : Option (List Token)) → behind mark.Comma from ≡ o → (to : List Token)
    → comma_turn from o ≡ Further to → The mark.Comma from to
comma_cases from None e to is = absurd cc
comma_cases from (Some rest) e to is = let r : rest ≡ to = cc in rw (← r) (behind_is mark.Comma from rest e)

pub at_comma_further : (from to : List Token) → at_comma from ≡ Further to → The mark.Comma from to
at_comma_further from to is = comma_cases from (behind mark.Comma from) refl to is

comma_none : (from : List Token) (o : Option (List Token)) → (to : List Token) → comma_turn from o ≡ Ends to → (o ≡ None) × (from ≡ to)
comma_none from None to is = (refl, cc)
comma_none from (Some rest) to is = absurd cc

pub at_comma_ends : (from to : List Token) → at_comma from ≡ Ends to → (behind mark.Comma from ≡ None) × (from ≡ to)
at_comma_ends from to is = comma_none from (behind mark.Comma from) to is

pub onward_comma : Onward at_comma
onward_comma from to is = let h = at_comma_further from to is in let e : length from ≡ suc (length to) = ap length h.1 in omega arith

abbrev pub NoComma : List Token → Type 0
NoComma to = behind mark.Comma to ≡ None

comma_run : {X : Type 0} (P : X → Phrase) (xs : List X) (from to : List Token) → Run at_comma P xs from to
    → EachBehindComma P xs from to × NoComma to
comma_run P [] from to is = let h = at_comma_ends from to is in (h.1, rw (h.1) at (h.0))
comma_run P (x ∷ xs) from to (a, b, is, h, hs) = let t = comma_run P xs b to hs in ((a, at_comma_further from a is, (b, h, t.0)), t.1)

-- a phrase that ends
abbrev pub BeforeEnd : {X : Type 0} → (X → Phrase) → X → Phrase
BeforeEnd P x from to = P x from to × Ended to

pub comma_first : {X : Type 0} (P : X → Phrase) (xs : List X) (from to : List Token) → EachBehindComma P xs from to → Ended to → Ended from
comma_first P [] from to is end = rw is end
comma_first P (x ∷ xs) from to (a, h, (b, i, hs)) end = ended mark.Comma from a (refl, refl, refl, refl, refl) h

run_comma : {X : Type 0} (P : X → Phrase) (xs : List X) (from to : List Token) → EachBehindComma P xs from to → Ended to → NoComma to
    → Run at_comma (BeforeEnd P) xs from to
run_comma P [] from to is end none = rw (is, none) refl
run_comma P (x ∷ xs) from to (a, h, (b, i, hs)) end none =
    (a, b, rw (behind_here mark.Comma from a refl h) refl, (i, comma_first P xs b to hs end), run_comma P xs b to hs end none)

pub listed_from_yields : {X : Type 0} {P : X → Phrase} (item : Reader X) → ((from : List Token) → Yields (item from) (λ x to. P x from to))
    → (x : X) (from : List Token)
    → Yields (listed_from item x from) (λ xs to. (ys : List X) × (xs ≡ x ∷ ys) × EachBehindComma P ys from to × NoComma to)
listed_from_yields item one x from =
    yields_then _ _ (many_yields at_comma item one (length from) from)
    (λ ys to h. (let t = comma_run _ ys from to h in yields (ys, refl, t.0, t.1)))

pub listed_yields : {X : Type 0} {P : X → Phrase} (item : Reader X) → ((from : List Token) → Yields (item from) (λ x to. P x from to))
    → (from : List Token)
    → Yields (listed item from) (λ xs to. Listed P xs from to × NoComma to)
listed_yields {X} {P} item one from =
    yields_then _ _ (one from) (λ x a h. yields_more (λ xs to f. rw (f.1) ((a, h, f.2), f.3)) (listed_from_yields item one x a))

pub listed_from_answers : {X : Type 0} (P : X → Phrase) (room : ℕ) (height : X → ℕ) (item : Reader X) (x : X) (xs : List X)
    → Each (IsRead room height item (BeforeEnd P)) xs
    → (from to : List Token) → EachBehindComma P xs from to → Ended to → NoComma to
    → Answers room (greatest height xs) (listed_from item x from) (x ∷ xs) to
listed_from_answers P room height item x xs each from to is end none =
    at_height
    (answer_then (all_of at_comma item from) _ (many_answers (BeforeEnd P) room height at_comma item onward_comma xs each (length from) from to (omega arith) (run_comma P xs from to is end none)) answer)
    (greatest height xs) (omega arith)

pub listed_answers : {X : Type 0} (P : X → Phrase) (room : ℕ) (height : X → ℕ) (item : Reader X) (xs : List X)
    → Each (IsRead room height item (BeforeEnd P)) xs
    → (from to : List Token) → Listed P xs from to → Ended to → NoComma to → Answers room (greatest height xs) (listed item from) xs to
listed_answers P room height item [] each from to is end none = absurd is
listed_answers P room height item (x ∷ xs) each from to (a, h, hs) end none =
    answer_then (item from) _ (each.0.answers from a (h, comma_first P xs a to hs end))
    (listed_from_answers P room height item x xs each.1 a to hs end none)

-- ---- up to a mark, or to the end

abbrev pub OneAfterOther : {X : Type 0} → (X → Phrase) → List X → Phrase
OneAfterOther P [] = Nothing
OneAfterOther P (x ∷ xs) = P x ⨾ OneAfterOther P xs

mark_cases : (m : Mark) (from : List Token) (o : Option (List Token)) → behind m from ≡ o → (to : List Token) → mark_turn from o ≡ Ends to
    → The m from to
mark_cases m from None e to is = absurd cc
mark_cases m from (Some rest) e to is = let r : rest ≡ to = cc in rw (← r) (behind_is m from rest e)

mark_none : (from : List Token) (o : Option (List Token)) → (to : List Token) → mark_turn from o ≡ Further to → (o ≡ None) × (from ≡ to)
mark_none from None to is = (refl, cc)
mark_none from (Some rest) to is = absurd cc

onward_mark : (m : Mark) → Onward (until m)
onward_mark m from to is = let h = mark_none from (behind m from) to is in let e : length from ≡ length to = ap length h.1 in omega arith

until_run : {X : Type 0} (P : X → Phrase) (m : Mark) (xs : List X) (from to : List Token) → Run (until m) P xs from to
    → (OneAfterOther P xs ⨾ The m) from to
until_run P m [] from to is = (from, refl, mark_cases m from (behind m from) refl to is)
until_run P m (x ∷ xs) from to (a, b, is, h, hs) =
    let t = until_run P m xs b to hs in
    let e = mark_none from (behind m from) a is in
    (t.0, (b, rw (e.1) h, t.1), t.2)

run_until : {X : Type 0} (P : X → Phrase) (m : Mark) (xs : List X) (from mid to : List Token) → same_mark m m ≡ true
    → OneAfterOther P xs from mid → The m mid to
    → ((x : X) (from to : List Token) → P x from to → behind m from ≡ None) → Run (until m) P xs from to
run_until P m [] from mid to same is end apart = rw (is, behind_here m mid to same end) refl
run_until P m (x ∷ xs) from mid to same (b, h, hs) end apart =
    (from, b, rw (apart x from b h) refl, h, run_until P m xs b mid to same hs end apart)

pub until_yields : {X : Type 0} {P : X → Phrase} (m : Mark) (item : Reader X)
    → ((from : List Token) → Yields (item from) (λ x to. P x from to)) → (from : List Token)
    → Yields (all_of (until m) item from) (λ xs to. (OneAfterOther P xs ⨾ The m) from to)
until_yields m item one from = yields_more (λ xs to h. until_run _ m xs from to h) (many_yields (until m) item one (length from) from)

pub until_answers : {X : Type 0} (P : X → Phrase) (m : Mark) (room : ℕ) (height : X → ℕ) (item : Reader X) (xs : List X)
    → Each (IsRead room height item P) xs → same_mark m m ≡ true
    → ((x : X) (from to : List Token) → P x from to → behind m from ≡ None)
    → (from mid to : List Token) → OneAfterOther P xs from mid → The m mid to
    → Answers room (greatest height xs) (all_of (until m) item from) xs to
until_answers P m room height item xs each same apart from mid to is end =
    many_answers P room height (until m) item (onward_mark m) xs each (length from) from to (omega arith)
    (run_until P m xs from mid to same is end apart)

end_ends : (from to : List Token) → until_end from ≡ Ends to → (from ≡ []) × (to ≡ [])
end_ends [] to is = (refl, (let r : [] ≡ to = cc in sym r))
end_ends (t ∷ rest) to is = absurd cc

end_further : (from to : List Token) → until_end from ≡ Further to → from ≡ to
end_further [] to is = absurd cc
end_further (t ∷ rest) to is = cc

end_run : {X : Type 0} (P : X → Phrase) (xs : List X) (from to : List Token) → Run until_end P xs from to → OneAfterOther P xs from []
end_run P [] from to is = (end_ends from to is).0
end_run P (x ∷ xs) from to (a, b, is, h, hs) = (b, rw (end_further from a is) h, end_run P xs b to hs)

pub end_yields : {X : Type 0} {P : X → Phrase} (item : Reader X) → ((from : List Token) → Yields (item from) (λ x to. P x from to))
    → (from : List Token)
    → Yields (all_of until_end item from) (λ xs to. OneAfterOther P xs from [])
end_yields item one from = yields_more (λ xs to h. end_run _ xs from to h) (many_yields until_end item one (length from) from)

onward_end : Onward until_end
onward_end from to is = let e : length from ≡ length to = ap length (end_further from to is) in omega arith

more_there : (from to : List Token) → length to < length from → until_end from ≡ Further from
more_there [] to less = absurd (omega arith)
more_there (t ∷ rest) to less = refl

run_end : {X : Type 0} (P : X → Phrase) (xs : List X) (from : List Token) → OneAfterOther P xs from []
    → ((x : X) (from to : List Token) → P x from to → length to < length from) → Run until_end P xs from []
run_end P [] from is shorter = rw is refl
run_end P (x ∷ xs) from (b, h, hs) shorter = (from, b, more_there from b (shorter x from b h), h, run_end P xs b hs shorter)

pub end_answers : {X : Type 0} (P : X → Phrase) (room : ℕ) (height : X → ℕ) (item : Reader X) (xs : List X)
    → Each (IsRead room height item P) xs
    → ((x : X) (from to : List Token) → P x from to → length to < length from) → (from : List Token) → OneAfterOther P xs from []
    → Answers room (greatest height xs) (all_of until_end item from) xs []
end_answers P room height item xs each shorter from is =
    many_answers P room height until_end item onward_end xs each (length from) from [] (omega arith) (run_end P xs from is shorter)
