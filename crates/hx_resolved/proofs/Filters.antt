-- The numbers below a limit that pass a test.
use Rattle.std.proofs.Common.{◌≡◌, ℕ, ◌+◌, Bool, true, false, cond, List, [], ◌∷◌, ◌++◌, map, refl, ap, sym, ◌∙◌, arith, append-nil}
use Rattle.std.specs.List.{filter, range_with_len}
use Rattle.std.proofs.lemmas.List.FromFn.{filter_of_map_range_with_len_more}

map-same : (xs : List ℕ) → map (λ x. x) xs ≡ xs
map-same [] = refl
map-same (x ∷ xs) = ap (λ l. x ∷ l) (map-same xs)

pub filter_more : (p : ℕ → Bool) (n : ℕ) → filter p (range_with_len 0 (n + 1)) ≡ filter p (range_with_len 0 n) ++ cond (p n) (n ∷ []) []
filter_more p n =
    ap (filter p) (sym (map-same (range_with_len 0 (n + 1))))
    ∙ filter_of_map_range_with_len_more p (λ x. x) 0 n n (omega arith)
    ∙ ap (λ l. filter p l ++ cond (p n) (n ∷ []) []) (map-same (range_with_len 0 n))

pub filter_kept : (p : ℕ → Bool) (n : ℕ) (words : List ℕ) → p n ≡ true → words ≡ filter p (range_with_len 0 n) → words ++ n ∷ [] ≡ filter p (range_with_len 0 (n + 1))
filter_kept p n words t h = ap (λ l. l ++ n ∷ []) h ∙ sym (filter_more p n ∙ ap (λ b. filter p (range_with_len 0 n) ++ cond b (n ∷ []) []) t)

pub filter_left : (p : ℕ → Bool) (n : ℕ) (words : List ℕ) → p n ≡ false → words ≡ filter p (range_with_len 0 n) → words ≡ filter p (range_with_len 0 (n + 1))
filter_left p n words t h =
    h ∙ sym (append-nil (filter p (range_with_len 0 n))) ∙ sym (filter_more p n ∙ ap (λ b. filter p (range_with_len 0 n) ++ cond b (n ∷ []) []) t)
