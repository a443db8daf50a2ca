-- Local states that are the same are equal, and each is the same as itself: proofs, which stand among the definitions since a region
-- is made of them.
use Rattle.std.proofs.Common.{◌≡◌, ℕ, ℤ, pos, negsuc, List, [], ◌∷◌, Option, Some, None, Bool, true, ◌==◌, refl, ap, ap₂}
use Rattle.std.proofs.lemmas.Bool.{false≢true, eqb-true, eq-eqb, and_parts, and_from}
use Rattle.hx_code.specs.Call.{CallView}
use Rattle.hx_code.specs.Local.{LocalView}
use Rattle.hx_speculation.specs.Board.{same_value}
use Rattle.hx_regions.specs.Same.{same_list, same_call, same_region, same_local}

-- ---- what is the same is equal

pub same_value_holds : (x y : ℤ) → same_value x y ≡ true → x ≡ y
same_value_holds (pos m) (pos n) e = ap pos (eqb-true m n e)
same_value_holds (negsuc m) (negsuc n) e = ap negsuc (eqb-true m n e)
same_value_holds (pos m) (negsuc n) e = absurd (false≢true e)
same_value_holds (negsuc m) (pos n) e = absurd (false≢true e)

pub same_list_holds : {A : Type 0} (same : A → A → Bool) → ((x y : A) → same x y ≡ true → x ≡ y) → (xs ys : List A) → same_list same xs ys ≡ true → xs ≡ ys
same_list_holds same holds [] [] e = refl
same_list_holds same holds [] (y ∷ ys) e = absurd (false≢true e)
same_list_holds same holds (x ∷ xs) [] e = absurd (false≢true e)
same_list_holds same holds (x ∷ xs) (y ∷ ys) e =
    let h = and_parts (same x y) (same_list same xs ys) e in ap₂ ◌∷◌ (holds x y h.0) (same_list_holds same holds xs ys h.1)

pub same_call_holds : (c d : CallView) → same_call c d ≡ true → c ≡ d
same_call_holds c d e =
    let h = and_parts (c.place == d.place) _ e in
    let k = and_parts (same_list same_value c.privates d.privates) _ h.1 in
    let values = same_list_holds same_value same_value_holds in
    λ i. record { place = eqb-true c.place d.place h.0 i; privates = values c.privates d.privates k.0 i; operands = values c.operands d.operands k.1 i }

pub same_region_holds : (p q : Option ℕ) → same_region p q ≡ true → p ≡ q
same_region_holds None None e = refl
same_region_holds (Some r) (Some s) e = ap Some (eqb-true r s e)
same_region_holds None (Some s) e = absurd (false≢true e)
same_region_holds (Some r) None e = absurd (false≢true e)

pub same_local_holds : (p q : LocalView) → same_local p q ≡ true → p ≡ q
same_local_holds p q e =
    let h = and_parts (p.below == q.below) _ e in
    let k = and_parts (same_region p.region q.region) _ h.1 in
    let calls = same_list_holds same_call same_call_holds p.calls q.calls k.1 in
    λ i. record { below = eqb-true p.below q.below h.0 i; region = same_region_holds p.region q.region k.0 i; calls = calls i }

-- ---- each is the same as itself

pub same_value_itself : (v : ℤ) → same_value v v ≡ true
same_value_itself (pos n) = eq-eqb n n refl
same_value_itself (negsuc n) = eq-eqb n n refl

pub same_list_itself : {A : Type 0} (same : A → A → Bool) → ((x : A) → same x x ≡ true) → (xs : List A) → same_list same xs xs ≡ true
same_list_itself same itself [] = refl
same_list_itself same itself (x ∷ xs) = and_from _ _ (itself x) (same_list_itself same itself xs)

pub same_call_itself : (c : CallView) → same_call c c ≡ true
same_call_itself c =
    let values = same_list_itself same_value same_value_itself in
    and_from _ _ (eq-eqb c.place c.place refl) (and_from _ _ (values c.privates) (values c.operands))

pub same_region_itself : (r : Option ℕ) → same_region r r ≡ true
same_region_itself None = refl
same_region_itself (Some r) = eq-eqb r r refl

pub same_local_itself : (q : LocalView) → same_local q q ≡ true
same_local_itself q =
    and_from _ _ (eq-eqb q.below q.below refl) (and_from _ _ (same_region_itself q.region) (same_list_itself same_call same_call_itself q.calls))
