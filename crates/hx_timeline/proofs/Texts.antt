-- Texts, some behind others.
use Rattle.std.proofs.Common.{◌≡◌, ℕ, ◌+◌, ◌<◌, List, [], ◌∷◌, ◌++◌, length, get_or, take, ap, sym, ◌∙◌, append_assoc, Result, Ok, Err, OnOk, arith}
use Rattle.std.specs.Prelude.{is_ok, if◌then◌else◌, flat_map}
use Rattle.std.proofs.lemmas.List.{flat_map_more, take_more, map-id}
use Rattle.std.proofs.lemmas.List.FromFn.{map-range_with_len_more}
use Rattle.std.specs.List.{range_with_len}

-- what is put behind what was put
pub then_put : (old first mid new rest : List ℕ) → mid ≡ old ++ first → new ≡ mid ++ rest → new ≡ old ++ (first ++ rest)
then_put old first mid new rest put more = more ∙ ap (λ l. l ++ rest) put ∙ append_assoc old first rest

-- and the last, as its call answers
pub last_put : {A E : Type 0} (r : Result A E) (old mid new first rest : List ℕ) → mid ≡ old ++ first → new ≡ (if is_ok r then mid ++ rest else mid) → OnOk r (new ≡ old ++ (first ++ rest))
last_put (Ok a) old mid new first rest put more = then_put old first mid new rest put more
last_put (Err e) old mid new first rest put more = tt

-- one piece more of a list's
pub piece_put : {A : Type 0} (piece : A → List ℕ) (old text new : List ℕ) (xs : List A) (i : ℕ) (d : A) → i < length xs → text ≡ old ++ flat_map piece (take i xs) → new ≡ text ++ piece (get_or xs i d) → new ≡ old ++ flat_map piece (take (i + 1) xs)
piece_put piece old text new xs i d inside put more =
    more ∙ ap (λ l. l ++ piece (get_or xs i d)) put ∙ flat_map_more piece old (take i xs) (get_or xs i d) ∙ ap (λ l. old ++ flat_map piece l) (sym (take_more xs i d inside))

one_worker : (w : ℕ) → range_with_len 0 (w + 1) ≡ range_with_len 0 w ++ w ∷ []
one_worker w = sym (map-id (range_with_len 0 (w + 1))) ∙ map-range_with_len_more (λ (k : ℕ). k) 0 w w (omega arith) ∙ ap (λ l. l ++ w ∷ []) (map-id (range_with_len 0 w))

-- and one more of the workers'
pub worker_put : (piece : ℕ → List ℕ) (old text new : List ℕ) (w : ℕ) → text ≡ old ++ flat_map piece (range_with_len 0 w) → new ≡ text ++ piece w → new ≡ old ++ flat_map piece (range_with_len 0 (w + 1))
worker_put piece old text new w put more =
    more ∙ ap (λ l. l ++ piece w) put ∙ flat_map_more piece old (range_with_len 0 w) w ∙ ap (λ l. old ++ flat_map piece l) (sym (one_worker w))
