-- The names of words one after another.
use Rattle.std.proofs.Common.{◌≡◌, ℕ, ◌+◌, List, [], ◌∷◌, ◌++◌, sum_by, refl, ap, ◌∙◌, arith}
use Rattle.std.specs.Prelude.{Option, Some, None, filter_map, option_to_list}
use Rattle.std.specs.List.{cons_option}
use Rattle.std.proofs.lemmas.List.Elements.{filter_map-append}
use Rattle.std.proofs.lemmas.List.Sums.{sum_by-cons}
use Rattle.hx_tree.specs.Tree.{GlobalDecl}
use Rattle.hx_tree.specs.Accepted.{shape_words}
use Rattle.hx_names.specs.Names.{Named, place, global_name, global_names, is_array}

abbrev pub words : List GlobalDecl → ℕ
words gs = sum_by (λ g. shape_words g.shape) gs

-- where only the places are told, numbers past the greatest place are one
pub name_at : (g : GlobalDecl) (m n : ℕ) → place m ≡ place n → global_name g m ≡ global_name g n
name_at g m n same =
    ap (λ base. let it : Named = record { base = base; length = shape_words g.shape; is_array = is_array g.shape; name = g.name.text } in it) same

pub names_at : (gs : List GlobalDecl) (m n : ℕ) → place m ≡ place n → global_names gs m ≡ global_names gs n
names_at [] m n same = refl
names_at (g ∷ gs) m n same =
    ap (λ it. it ∷ global_names gs (m + shape_words g.shape)) (name_at g m n same)
    ∙ ap (λ l. global_name g n ∷ l) (names_at gs (m + shape_words g.shape) (n + shape_words g.shape) (omega arith))

pub global_names-append : (xs ys : List GlobalDecl) (n : ℕ) → global_names (xs ++ ys) n ≡ global_names xs n ++ global_names ys (n + words xs)
global_names-append [] ys n = let e : n ≡ n + 0 = omega arith in ap (global_names ys) e
global_names-append (x ∷ xs) ys n =
    let e : (n + shape_words x.shape) + words xs ≡ n + words (x ∷ xs) = omega (arith, sum_by-cons (λ (g : GlobalDecl). shape_words g.shape) x xs) in
    ap (λ l. global_name x n ∷ l) (global_names-append xs ys (n + shape_words x.shape) ∙ ap (λ k. global_names xs (n + shape_words x.shape) ++ global_names ys k) e)

-- one global more
pub global_names_push : (xs : List GlobalDecl) (g : GlobalDecl) (n word : ℕ) → word ≡ place (n + words xs) → global_names (xs ++ g ∷ []) n ≡ global_names xs n ++ global_name g word ∷ []
global_names_push xs g n word is =
    let same : place (n + words xs) ≡ place word = omega arith in
    global_names-append xs (g ∷ []) n ∙ ap (λ x. global_names xs n ++ x ∷ []) (name_at g (n + words xs) word same)

-- more globals
pub global_names_more : (xs ys : List GlobalDecl) (word : ℕ) → word ≡ place (words xs) → global_names (xs ++ ys) 0 ≡ global_names xs 0 ++ global_names ys word
global_names_more xs ys word is =
    let same : place (0 + words xs) ≡ place word = omega arith in
    global_names-append xs ys 0 ∙ ap (λ l. global_names xs 0 ++ l) (names_at ys (0 + words xs) word same)

one-item : {Y : Type 0} (o : Option Y) → cons_option o [] ≡ option_to_list o
one-item None = refl
one-item (Some y) = refl

pub filter_map_push : {X Y : Type 0} (f : X → Option Y) (xs : List X) (x : X) → filter_map f (xs ++ x ∷ []) ≡ filter_map f xs ++ option_to_list (f x)
filter_map_push f xs x = filter_map-append f xs (x ∷ []) ∙ ap (λ l. filter_map f xs ++ l) (one-item (f x))
