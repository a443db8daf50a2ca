-- The store as a run begins is the world as it begins.
use Rattle.std.proofs.Common.{◌≡◌, ℕ, suc, ◌+◌, ◌-◌, ◌≤◌, Bool, true, false, List, [], ◌∷◌, ◌++◌, length, map, replicate, drop, Some, None, ℤ, pos, refl, sym, ap, subst, ◌∙◌, arith, if◌then◌else◌, length-append}
use Rattle.std.specs.Prelude.{bytes_eq, codes, flat_map, sum_by, option_map, All}
use Rattle.std.proofs.lemmas.List.{length-map, length-replicate, length-drop}
use Rattle.std.proofs.lemmas.List.Sums.{sum_by-cons}
use Rattle.hx_tree.specs.declared.limits.TheConstants.{CELL_LIMIT}
use Rattle.hx_tree.specs.Tree.{Program, Item, Globals, Function, GlobalDecl, Shape, Scalar, Array}
use Rattle.hx_tree.specs.Meaning.{room_for_input, item_globals, globals_of, opening_words, constant_value, filled, counted, words_at_start, array_words, opening_world, InputFits}
use Rattle.hx_tree.specs.Accepted.{AcceptsItem, AcceptsShape, IsAccepted, shape_words, is_among, IsDistinct}
use Rattle.hx_resolved.specs.declared.program.Words.{Words}
use Rattle.hx_resolved.specs.Symbols.{symbol_at}
use Rattle.hx_resolved.specs.Resolve.{resolve, int_word}
use Rattle.hx_resolved.specs.Resolve as resolve
use Rattle.hx_code.specs.Machine as code
use Rattle.hx_lowering.specs.Lines.{array_of}
use Rattle.hx_lowering.specs.Draft.{code_of}
use Rattle.hx_lowering.proofs.Globals.{store_from, words_in}
use Rattle.hx_lowering.proofs.At.{layout_of}
use Rattle.hx_lowering.proofs.Opening.{gname, opening, replaced, Fits, laid, told_array, told_int, first_array, first_int, first_by, by_symbol, distinct_names, same_text, fills, counts, none_counted}

-- ---- how many words each global has

opening_fits : (sh : Shape) → AcceptsShape sh → length (opening_words sh) ≡ shape_words sh
opening_fits (Scalar None) ok = refl
opening_fits (Scalar (Some c)) ok = refl
opening_fits (Array n cs) ok =
    let few = ok.2 in
    length-append (map constant_value cs) (replicate (n - length cs) (pos 0))
    ∙ omega (arith, length-map cs constant_value, length-replicate (n - length cs) (pos 0), few)

fits_globals : (gs : List GlobalDecl) → All (λ g. AcceptsShape g.shape) gs → Fits opening gs
fits_globals [] ok = tt
fits_globals (g ∷ gs) ok = (opening_fits g.shape (ok 0 g (omega arith)), fits_globals gs (λ k d lt. ok (suc k) d (omega (arith, lt))))

fits_append : (b : GlobalDecl → List ℤ) (gs hs : List GlobalDecl) → Fits b gs → Fits b hs → Fits b (gs ++ hs)
fits_append b [] hs f h = h
fits_append b (g ∷ gs) hs f h = (f.0, fits_append b gs hs f.1 h)

fits_items : (ks : _) (is : List Item) → All (AcceptsItem ks) is → Fits opening (flat_map item_globals is)
fits_items ks [] ok = tt
fits_items ks (Globals gs ∷ is) ok =
    fits_append opening gs (flat_map item_globals is) (fits_globals gs (ok 0 (Globals gs) (omega arith))) (fits_items ks is (λ k d lt. ok (suc k) d (omega (arith, lt))))
fits_items ks (Function f ∷ is) ok = fits_items ks is (λ k d lt. ok (suc k) d (omega (arith, lt)))

words_fit : (b : GlobalDecl → List ℤ) (gs : List GlobalDecl) → Fits b gs → length (flat_map b gs) ≡ words_in (map (λ g. (g.name.text, shape_words g.shape)) gs)
words_fit b [] f = refl
words_fit b (g ∷ gs) f = omega (arith, length-append (b g) (flat_map b gs), f.0, words_fit b gs f.1)

-- ---- the two replacements

abbrev with_input : List ℤ → GlobalDecl → List ℤ
with_input input = replaced (codes "in") (λ g. filled input g.shape) opening

abbrev with_count : List ℤ → GlobalDecl → List ℤ
with_count input = replaced (codes "n_in") (λ g. counted input g.shape) (with_input input)

not_both : (x : List ℕ) → bytes_eq x (codes "in") ≡ true → bytes_eq x (codes "n_in") ≡ true → ⊥
not_both x e f =
    let same : codes "in" ≡ codes "n_in" = sym (same_text x (codes "in") e) ∙ same_text x (codes "n_in") f in
    let n : 2 ≡ 4 = ap (λ (l : List ℕ). length l) same in absurd (omega (arith, n))

begins_so : (input : List ℤ) (g : GlobalDecl) → words_at_start input g.name.text g.shape ≡ with_count input g
begins_so input g = go (bytes_eq g.name.text (codes "in")) (bytes_eq g.name.text (codes "n_in")) refl refl
  where
    go : (a b : Bool) → bytes_eq g.name.text (codes "in") ≡ a → bytes_eq g.name.text (codes "n_in") ≡ b
        → (if a then filled input g.shape else if b then counted input g.shape else opening_words g.shape) ≡ (if b then counted input g.shape else if a then filled input g.shape else opening_words g.shape)
    go true true e f = absurd (not_both g.name.text e f)
    go true false e f = refl
    go false true e f = refl
    go false false e f = refl

same_words : (input : List ℤ) (g : GlobalDecl) → bytes_eq g.name.text (codes "n_in") ≡ true → with_input input g ≡ opening_words g.shape
same_words input g f = go (bytes_eq g.name.text (codes "in")) refl
  where
    go : (a : Bool) → bytes_eq g.name.text (codes "in") ≡ a → (if a then filled input g.shape else opening g) ≡ opening_words g.shape
    go true e = absurd (not_both g.name.text e f)
    go false e = refl

still_fits : (input : List ℤ) (gs : List GlobalDecl) → is_among (codes "in") (map gname gs) ≡ false → Fits opening gs → Fits (with_input input) gs
still_fits input [] e f = tt
still_fits input (g ∷ gs) e f = go (λ e'. still_fits input gs e' f.1) (bytes_eq g.name.text (codes "in")) e
  where
    go : (is_among (codes "in") (map gname gs) ≡ false → Fits (with_input input) gs) → (b : Bool) → (if b then true else is_among (codes "in") (map gname gs)) ≡ false
        → (length (if b then filled input g.shape else opening g) ≡ shape_words g.shape) × Fits (with_input input) gs
    go more true e = absurd cc
    go more false e = (f.0, more e)

filled_fits : (input : List ℤ) (gs : List GlobalDecl) → IsDistinct (map gname gs) → Fits opening gs → length input ≤ sum_by (λ g. if bytes_eq g.name.text (codes "in") then array_words g.shape else 0) gs → Fits (with_input input) gs
filled_fits input [] d f room = tt
filled_fits input (g ∷ gs) d f room =
    go (filled_fits input gs d.1 f.1) (bytes_eq g.name.text (codes "in")) refl
    (subst (λ n. length input ≤ n) (sum_by-cons (λ g. if bytes_eq g.name.text (codes "in") then array_words g.shape else 0) g gs) room)
  where
    go : (length input ≤ sum_by (λ g. if bytes_eq g.name.text (codes "in") then array_words g.shape else 0) gs → Fits (with_input input) gs) → (b : Bool) → bytes_eq g.name.text (codes "in") ≡ b
        → length input ≤ (if b then array_words g.shape else 0) + sum_by (λ g. if bytes_eq g.name.text (codes "in") then array_words g.shape else 0) gs
        → (length (if b then filled input g.shape else opening g) ≡ shape_words g.shape) × Fits (with_input input) gs
    go more false e room = (f.0, more (omega arith))
    go more true e room = (at_it g.shape refl, still_fits input gs others f.1)
      where
        others : is_among (codes "in") (map gname gs) ≡ false
        others = subst (λ y. is_among y (map gname gs) ≡ false) (same_text g.name.text (codes "in") e) d.0

        at_it : (sh : Shape) → g.shape ≡ sh → length (filled input sh) ≡ shape_words sh
        at_it (Scalar c) is = subst (λ sh. length (opening_words sh) ≡ shape_words sh) is f.0
        at_it (Array n cs) is =
            let whole : length (opening_words (Array n cs)) ≡ n = subst (λ sh. length (opening_words sh) ≡ shape_words sh) is f.0 in
            let few : length input ≤ n = omega (arith, ap array_words is, none_counted (codes "in") (λ g. array_words g.shape) gs others, room) in
            omega (arith, length-append input (drop (length input) (opening_words (Array n cs))), length-drop (length input) (opening_words (Array n cs)), whole, few)

counted_fits : (input : List ℤ) (gs : List GlobalDecl) → Fits (with_input input) gs → Fits (with_count input) gs
counted_fits input [] f = tt
counted_fits input (g ∷ gs) f = (go (bytes_eq g.name.text (codes "n_in")) refl, counted_fits input gs f.1)
  where
    at_it : (sh : Shape) → g.shape ≡ sh → bytes_eq g.name.text (codes "n_in") ≡ true → length (counted input sh) ≡ shape_words sh
    at_it (Scalar c) is e = refl
    at_it (Array n cs) is e =
        subst (λ sh. length (opening_words sh) ≡ shape_words sh) is (subst (λ ws. length ws ≡ shape_words g.shape) (same_words input g e) f.0)

    go : (b : Bool) → bytes_eq g.name.text (codes "n_in") ≡ b → length (if b then counted input g.shape else with_input input g) ≡ shape_words g.shape
    go true e = at_it g.shape refl e
    go false e = f.0

-- ---- where the input and its length go

seen_array : (sh : Shape) (a : ℕ) → resolve.array_words (Some (symbol_at sh a)) ≡ told_array sh a
seen_array (Scalar c) a = refl
seen_array (Array n cs) a = refl

seen_int : (sh : Shape) (a : ℕ) → int_word (Some (symbol_at sh a)) ≡ told_int sh a
seen_int (Scalar c) a = refl
seen_int (Array n cs) a = refl

-- the words that input can fill
room_first : (x : List ℕ) (gs : List GlobalDecl) (a : ℕ) → IsDistinct (map gname gs)
    → sum_by (λ g. if bytes_eq g.name.text x then array_words g.shape else 0) gs ≡ code.array_words (option_map array_of (first_array x gs a))
room_first x [] a d = refl
room_first x (g ∷ gs) a d =
    sum_by-cons (λ g. if bytes_eq g.name.text x then array_words g.shape else 0) g gs ∙ go (room_first x gs (a + shape_words g.shape) d.1) (bytes_eq g.name.text x) refl
  where
    at_it : (sh : Shape) (n : ℕ) → n ≡ 0 → array_words sh + n ≡ code.array_words (option_map array_of (told_array sh a))
    at_it (Scalar c) n z = omega (arith, z)
    at_it (Array k cs) n z = omega (arith, z)

    go : sum_by (λ g. if bytes_eq g.name.text x then array_words g.shape else 0) gs ≡ code.array_words (option_map array_of (first_array x gs (a + shape_words g.shape)))
        → (b : Bool) → bytes_eq g.name.text x ≡ b
        → (if b then array_words g.shape else 0) + sum_by (λ g. if bytes_eq g.name.text x then array_words g.shape else 0) gs
        ≡ code.array_words (option_map array_of (if b then told_array g.shape a else first_array x gs (a + shape_words g.shape)))
    go more true e = at_it g.shape _ (none_counted x (λ g. array_words g.shape) gs (subst (λ y. is_among y (map gname gs) ≡ false) (same_text g.name.text x e) d.0))
    go more false e = omega (arith, more)

array_first : (x : List ℕ) (gs : List GlobalDecl) (a : ℕ) → first_by Words told_array resolve.array_words seen_array (λ i r k. refl) refl x gs a ≡ first_array x gs a
array_first x [] a = refl
array_first x (g ∷ gs) a = ap (λ o. if bytes_eq g.name.text x then told_array g.shape a else o) (array_first x gs (a + shape_words g.shape))

int_first : (x : List ℕ) (gs : List GlobalDecl) (a : ℕ) → first_by ℕ told_int int_word seen_int (λ i r k. refl) refl x gs a ≡ first_int x gs a
int_first x [] a = refl
int_first x (g ∷ gs) a = ap (λ o. if bytes_eq g.name.text x then told_int g.shape a else o) (int_first x gs (a + shape_words g.shape))

map_same : (f g : GlobalDecl → List ℤ) (gs : List GlobalDecl) → ((d : GlobalDecl) → f d ≡ g d) → map {B = List ℕ × List ℤ} (λ d. (d.name.text, f d)) gs ≡ map {B = List ℕ × List ℤ} (λ d. (d.name.text, g d)) gs
map_same f g [] h = refl
map_same f g (d ∷ gs) h = ap (λ ws. (d.name.text, ws) ∷ map {B = List ℕ × List ℤ} (λ d. (d.name.text, f d)) gs) (h d) ∙ ap (λ rest. (d.name.text, g d) ∷ rest) (map_same f g gs h)

-- ---- the whole

module _ (p : Program) (accepted : IsAccepted p) where
  distinct : IsDistinct (map gname (globals_of p))
  distinct = distinct_names p.items accepted.distinct

  fits : Fits opening (globals_of p)
  fits = fits_items _ p.items accepted.items

  pub globals_are : (code_of (resolve p)).globals ≡ words_in (layout_of p)
  globals_are = words_fit opening (globals_of p) fits

  store_is : (input : List ℤ) → InputFits p input → code.opening_store (code_of (resolve p)) input ≡ flat_map (with_count input) (globals_of p) ++ replicate CELL_LIMIT (pos 0)
  store_is input room =
      let gs = globals_of p in
      let array : (resolve p).input ≡ first_array (codes "in") gs 0 = by_symbol Words told_array resolve.array_words seen_array (λ i r k. refl) refl p.items 0 0 (codes "in") accepted.distinct ∙ array_first (codes "in") gs 0 in
      let int : (resolve p).input_length ≡ first_int (codes "n_in") gs 0 = by_symbol ℕ told_int int_word seen_int (λ i r k. refl) refl p.items 0 0 (codes "n_in") accepted.distinct ∙ int_first (codes "n_in") gs 0 in
      let one : code.filled (option_map array_of (resolve p).input) input (flat_map opening gs) ≡ flat_map (with_input input) gs =
      ap (λ o. code.filled (option_map array_of o) input (flat_map opening gs)) array ∙ sym (fills input (codes "in") gs [] distinct fits room) in
      let two : code.counted (resolve p).input_length input (flat_map (with_input input) gs) ≡ flat_map (with_count input) gs =
      ap (λ o. code.counted o input (flat_map (with_input input) gs)) int ∙ sym (counts input (codes "n_in") (with_input input) gs [] distinct (filled_fits input gs distinct fits room) (same_words input)) in
      ap (λ ws. code.counted (resolve p).input_length input ws ++ replicate CELL_LIMIT (pos 0)) one ∙ ap (λ ws. ws ++ replicate CELL_LIMIT (pos 0)) two

  pub begins : (input : List ℤ) → InputFits p input → store_from (layout_of p) 0 (code.opening_store (code_of (resolve p)) input) ≡ (opening_world p input).store
  begins input room =
      let gs = globals_of p in
      ap (store_from (layout_of p) 0) (store_is input room)
      ∙ laid gs (with_count input) (counted_fits input gs (filled_fits input gs distinct fits room)) [] (replicate CELL_LIMIT (pos 0)) 0 refl
      ∙ sym (map_same (λ g. words_at_start input g.name.text g.shape) (with_count input) gs (begins_so input))

  pub has_room : (input : List ℤ) → InputFits p input → words_in (layout_of p) + CELL_LIMIT ≤ length (code.opening_store (code_of (resolve p)) input)
  has_room input room =
      let gs = globals_of p in
      let len = words_fit (with_count input) gs (counted_fits input gs (filled_fits input gs distinct fits room)) in
      omega (arith, ap length (store_is input room), length-append (flat_map (with_count input) gs) (replicate CELL_LIMIT (pos 0)), length-replicate CELL_LIMIT (pos 0), len)

  -- the same inputs fit
  pub room_is : room_for_input p ≡ code.room_for_input (code_of (resolve p))
  room_is =
      let gs = globals_of p in
      let array : (resolve p).input ≡ first_array (codes "in") gs 0 = by_symbol Words told_array resolve.array_words seen_array (λ i r k. refl) refl p.items 0 0 (codes "in") accepted.distinct ∙ array_first (codes "in") gs 0 in
      room_first (codes "in") gs 0 distinct ∙ sym (ap (λ o. code.array_words (option_map array_of o)) array)
