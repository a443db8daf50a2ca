-- What is declared by a name first, one item after another.
use Rattle.std.proofs.Common.{◌≡◌, ℕ, suc, ◌+◌, ◌<◌, List, ◌∷◌, map, drop, length, slice_index_or, Option, Some, None, is_some, true, false, sym, ap, ◌∙◌, arith}
use Rattle.std.specs.Prelude.{flat_map, option_map, bytes_eq}
use Rattle.std.specs.Option.{option_or}
use Rattle.std.proofs.Math.Seq.{drop-cons}
use Rattle.std.proofs.lemmas.List.Folds.{find-append}
use Rattle.hx_tree.specs.Tree.{Item}
use Rattle.hx_case.specs.Names.{declares, named, text_of}

-- by the first of some items, or by the others
pub named_first : {X : Type 0} (view : X → Item) (name : List ℕ) (xs : List X) (i : ℕ) (x : X) → i < length xs → x ≡ slice_index_or xs i x
    → named name (flat_map declares (map view (drop i xs))) ≡ option_or (named name (declares (view x))) (named name (flat_map declares (map view (drop (i + 1) xs))))
named_first view name xs i x inside is =
    let one : i + 1 ≡ suc i = omega arith in
    let cut : drop i xs ≡ x ∷ drop (i + 1) xs = drop-cons xs i x inside ∙ ap (λ y. y ∷ drop (suc i) xs) (sym is) ∙ ap (λ k. x ∷ drop k xs) (sym one) in
    ap (λ l. named name (flat_map declares (map view l))) cut
    ∙ find-append (λ d. bytes_eq (text_of d) name) (declares (view x)) (flat_map declares (map view (drop (i + 1) xs)))

pub some_first : {A B : Type 0} (f : A → B) (r : Option A) (o other : Option B) → is_some r ≡ true → option_map f r ≡ o → option_map f r ≡ option_or o other
some_first f None o other some e = let no : false ≡ true = some in absurd cc
some_first f (Some a) o other some e = ap (λ p. option_or p other) e

pub none_first : {A B : Type 0} (f : A → B) (r : Option A) (o other : Option B) → is_some r ≡ false → option_map f r ≡ o → option_or o other ≡ other
none_first f None o other none e = ap (λ p. option_or p other) (sym e)
none_first f (Some a) o other none e = let no : true ≡ false = none in absurd cc
