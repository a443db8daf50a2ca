-- Names that stand once: each isn't among those before it, which is the same as not being among those behind it.
use Rattle.std.proofs.Common.{◌≡◌, ℕ, Bool, true, false, List, [], ◌∷◌, ◌++◌, refl, ap, sym, ◌∙◌, append_assoc, append-nil, subst, if◌then◌else◌}
use Rattle.std.specs.Prelude.{bytes_eq, Ok}
use Rattle.hx_tree.specs.Tree as tree
use Rattle.hx_tree.specs.Meaning.{texts_of}
use Rattle.hx_tree.specs.Accepted.{is_among, IsDistinct}
use Rattle.hx_check.specs.Reading.{check_distinct}
use Rattle.hx_check.proofs.Steps.{else_ok, else_at}
use Rattle.hx_check.proofs.Tables.{bytes_eq-sym}

-- none of these is among those before it, nor among `before`
abbrev pub Fresh : List (List ℕ) → List (List ℕ) → Type 0
Fresh before [] = Unit {0}
Fresh before (x ∷ xs) = (is_among x before ≡ false) × Fresh (before ++ x ∷ []) xs

-- none of `before` is among these
abbrev Apart : List (List ℕ) → List (List ℕ) → Type 0
Apart [] xs = Unit {0}
Apart (y ∷ before) xs = (is_among y xs ≡ false) × Apart before xs

both-false : (b c : Bool) → (if b then true else c) ≡ false → (b ≡ false) × (c ≡ false)
both-false true c h = cc
both-false false c h = (refl, h)

if-false : (b c : Bool) → b ≡ false → c ≡ false → (if b then true else c) ≡ false
if-false b c e h = ap (λ b'. if b' then true else c) e ∙ h

apart-none : (before : List (List ℕ)) → Apart before []
apart-none [] = tt
apart-none (y ∷ before) = (refl, apart-none before)

apart-push : (before : List (List ℕ)) (x : List ℕ) (xs : List (List ℕ)) → Apart before xs → is_among x xs ≡ false → Apart (before ++ x ∷ []) xs
apart-push [] x xs h e = (e, tt)
apart-push (y ∷ before) x xs h e = (h.0, apart-push before x xs h.1 e)

apart-pushed : (before : List (List ℕ)) (x : List ℕ) (xs : List (List ℕ)) → Apart (before ++ x ∷ []) xs → Apart before xs × (is_among x xs ≡ false)
apart-pushed [] x xs h = (tt, h.0)
apart-pushed (y ∷ before) x xs h = let r = apart-pushed before x xs h.1 in ((h.0, r.0), r.1)

apart-cons : (before : List (List ℕ)) (x : List ℕ) (xs : List (List ℕ)) → is_among x before ≡ false → Apart before xs → Apart before (x ∷ xs)
apart-cons [] x xs e h = tt
apart-cons (y ∷ before) x xs e h =
    let r = both-false (bytes_eq y x) (is_among x before) e in
    (if-false (bytes_eq x y) (is_among y xs) (bytes_eq-sym x y ∙ r.0) h.0, apart-cons before x xs r.1 h.1)

apart-uncons : (before : List (List ℕ)) (x : List ℕ) (xs : List (List ℕ)) → Apart before (x ∷ xs) → (is_among x before ≡ false) × Apart before xs
apart-uncons [] x xs h = (refl, tt)
apart-uncons (y ∷ before) x xs h =
    let here = both-false (bytes_eq x y) (is_among y xs) h.0 in
    let r = apart-uncons before x xs h.1 in
    (if-false (bytes_eq y x) (is_among x before) (bytes_eq-sym y x ∙ here.0) r.0, (here.1, r.1))

fresh-distinct : (before xs : List (List ℕ)) → Fresh before xs → IsDistinct xs × Apart before xs
fresh-distinct before [] h = (tt, apart-none before)
fresh-distinct before (x ∷ xs) h =
    let rest = fresh-distinct (before ++ x ∷ []) xs h.1 in
    let apart = apart-pushed before x xs rest.1 in
    ((apart.1, rest.0), apart-cons before x xs h.0 apart.0)

distinct-fresh : (before xs : List (List ℕ)) → IsDistinct xs → Apart before xs → Fresh before xs
distinct-fresh before [] d a = tt
distinct-fresh before (x ∷ xs) d a =
    let here = apart-uncons before x xs a in
    (here.0, distinct-fresh (before ++ x ∷ []) xs d.1 (apart-push before x xs here.1 d.0))

pub distinct_of : (xs : List (List ℕ)) → Fresh [] xs → IsDistinct xs
distinct_of xs h = (fresh-distinct [] xs h).0

pub fresh_of : (xs : List (List ℕ)) → IsDistinct xs → Fresh [] xs
fresh_of xs h = distinct-fresh [] xs h tt

-- ---- one list after another

pub fresh_append : (before xs ys : List (List ℕ)) → Fresh before xs → Fresh (before ++ xs) ys → Fresh before (xs ++ ys)
fresh_append before [] ys h k = subst (λ (l : List (List ℕ)). Fresh l ys) (append-nil before) k
fresh_append before (x ∷ xs) ys h k =
    (h.0, fresh_append (before ++ x ∷ []) xs ys h.1 (subst (λ (l : List (List ℕ)). Fresh l ys) (sym (append_assoc before (x ∷ []) xs)) k))

pub fresh_first : (before xs ys : List (List ℕ)) → Fresh before (xs ++ ys) → Fresh before xs
fresh_first before [] ys h = tt
fresh_first before (x ∷ xs) ys h = (h.0, fresh_first (before ++ x ∷ []) xs ys h.1)

pub fresh_second : (before xs ys : List (List ℕ)) → Fresh before (xs ++ ys) → Fresh (before ++ xs) ys
fresh_second before [] ys h = subst (λ (l : List (List ℕ)). Fresh l ys) (sym (append-nil before)) h
fresh_second before (x ∷ xs) ys h =
    subst (λ (l : List (List ℕ)). Fresh l ys) (append_assoc before (x ∷ []) xs) (fresh_second (before ++ x ∷ []) xs ys h.1)

-- ---- parameters

pub complete_distinct : (xs : List tree.Name) (before : List (List ℕ)) → Fresh before (texts_of xs) → check_distinct xs before ≡ Ok tt
complete_distinct [] before h = refl
complete_distinct (x ∷ xs) before h = else_at (is_among x.text before) _ _ h.0 ∙ complete_distinct xs (before ++ x.text ∷ []) h.1

pub sound_distinct : (xs : List tree.Name) (before : List (List ℕ)) (u : Unit {0}) → check_distinct xs before ≡ Ok u → Fresh before (texts_of xs)
sound_distinct [] before u h = tt
sound_distinct (x ∷ xs) before u h =
    let a = else_ok (is_among x.text before) (check_distinct xs (before ++ x.text ∷ [])) _ u h in
    (a.0, sound_distinct xs (before ++ x.text ∷ []) u a.1)
