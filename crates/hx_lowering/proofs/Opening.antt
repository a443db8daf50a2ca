-- A program's globals as a run begins, by their names and in the store.
use Rattle.std.proofs.Common.{◌≡◌, ℕ, ◌+◌, ◌≤◌, Bool, true, false, List, [], ◌∷◌, ◌++◌, length, map, take, drop, Option, Some, None, ℤ, pos, refl, sym, ap, subst, ◌∙◌, arith, if◌then◌else◌, length-append, append_assoc, add_assoc}
use Rattle.std.specs.Prelude.{bytes_eq, flat_map, sum_by, slice_set, option_map}
use Rattle.std.proofs.lemmas.List.{drop-append-le, take_at, drop_at}
use Rattle.std.proofs.lemmas.List.Sums.{sum_by-cons}
use Rattle.std.proofs.lemmas.Slice.Eq.{bytes_eq-Decides}
use Rattle.std.proofs.Math.Seq.{take-append_seam, drop-append-add, set-append_seam}
use Rattle.hx_tree.specs.declared.tree.Returns.{Returns}
use Rattle.hx_tree.specs.Tree.{Program, Item, Globals, Function, GlobalDecl, Shape, Scalar, Array}
use Rattle.hx_tree.specs.World.{Map, look_up}
use Rattle.hx_tree.specs.Meaning.{item_globals, opening_words, filled, counted, array_words}
use Rattle.hx_tree.specs.Accepted.{Kind, item_kinds, kind_of_shape, shape_words, is_among, IsDistinct}
use Rattle.hx_resolved.specs.declared.program.Words.{Words}
use Rattle.hx_resolved.specs.declared.symbol.Symbol.{Symbol}
use Rattle.hx_resolved.specs.declared.symbol.Symbol.TheVariants as symbol
use Rattle.hx_resolved.specs.Symbols.{symbol_at, global_symbols, items_symbols}
use Rattle.hx_code.specs.Machine as code
use Rattle.hx_lowering.specs.Lines.{array_of}
use Rattle.hx_lowering.proofs.Globals.{store_from}

abbrev pub gname : GlobalDecl → List ℕ
gname g = g.name.text

abbrev pub entry : GlobalDecl → List ℕ × ℕ
entry g = (g.name.text, shape_words g.shape)

abbrev pub kind_entry : GlobalDecl → List ℕ × Kind
kind_entry g = (g.name.text, kind_of_shape g.shape)

abbrev pub firsts : Map Kind → List (List ℕ)
firsts ks = map (λ e. e.0) ks

-- ---- the globals' names are distinct, where all names are

among_globals : (gs : List GlobalDecl) (ks : Map Kind) (rest : List GlobalDecl) (x : List ℕ) → (is_among x (firsts ks) ≡ false → is_among x (map gname rest) ≡ false)
    → is_among x (firsts (map kind_entry gs ++ ks)) ≡ false → is_among x (map gname (gs ++ rest)) ≡ false
among_globals [] ks rest x next h = next h
among_globals (g ∷ gs) ks rest x next h = go (among_globals gs ks rest x next) (bytes_eq g.name.text x) h
  where
    go : (is_among x (firsts (map kind_entry gs ++ ks)) ≡ false → is_among x (map gname (gs ++ rest)) ≡ false) → (b : Bool)
        → (if b then true else is_among x (firsts (map kind_entry gs ++ ks))) ≡ false → (if b then true else is_among x (map gname (gs ++ rest))) ≡ false
    go more true e = e
    go more false e = more e

among_names : (is : List Item) (x : List ℕ) → is_among x (firsts (flat_map item_kinds is)) ≡ false → is_among x (map gname (flat_map item_globals is)) ≡ false
among_names [] x h = h
among_names (Globals gs ∷ is) x h = among_globals gs (flat_map item_kinds is) (flat_map item_globals is) x (among_names is x) h
among_names (Function f ∷ is) x h = go (among_names is x) (bytes_eq f.name.text x) h
  where
    go : (is_among x (firsts (flat_map item_kinds is)) ≡ false → is_among x (map gname (flat_map item_globals is)) ≡ false) → (b : Bool)
        → (if b then true else is_among x (firsts (flat_map item_kinds is))) ≡ false → is_among x (map gname (flat_map item_globals is)) ≡ false
    go more true e = absurd cc
    go more false e = more e

distinct_globals : (gs : List GlobalDecl) (ks : Map Kind) (rest : List GlobalDecl) → (IsDistinct (firsts ks) → IsDistinct (map gname rest))
    → ((x : List ℕ) → is_among x (firsts ks) ≡ false → is_among x (map gname rest) ≡ false) → IsDistinct (firsts (map kind_entry gs ++ ks)) → IsDistinct (map gname (gs ++ rest))
distinct_globals [] ks rest next second h = next h
distinct_globals (g ∷ gs) ks rest next second h = (among_globals gs ks rest g.name.text (second g.name.text) h.0, distinct_globals gs ks rest next second h.1)

pub distinct_names : (is : List Item) → IsDistinct (firsts (flat_map item_kinds is)) → IsDistinct (map gname (flat_map item_globals is))
distinct_names [] h = tt
distinct_names (Globals gs ∷ is) h = distinct_globals gs (flat_map item_kinds is) (flat_map item_globals is) (distinct_names is) (among_names is) h
distinct_names (Function f ∷ is) h = distinct_names is h.1

behind_globals : (gs : List GlobalDecl) (ks : Map Kind) → IsDistinct (firsts (map kind_entry gs ++ ks)) → IsDistinct (firsts ks)
behind_globals [] ks h = h
behind_globals (g ∷ gs) ks h = behind_globals gs ks h.1

pub same_text : (x y : List ℕ) → bytes_eq x y ≡ true → x ≡ y
same_text x y e = (bytes_eq-Decides x y).0 e

-- ---- the first global of a name, and its symbol

module _ (B : Type 0) (told : Shape → ℕ → Option B) (seen : Option Symbol → Option B)
    (same : (sh : Shape) (a : ℕ) → seen (Some (symbol_at sh a)) ≡ told sh a) (no_function : (i : ℕ) (r : Returns) (k : ℕ) → seen (Some (symbol.Function i r k)) ≡ None) (no_symbol : seen None ≡ None) where
  abbrev pub first_by : List ℕ → List GlobalDecl → ℕ → Option B
  first_by x [] a = None
  first_by x (g ∷ gs) a = if bytes_eq g.name.text x then told g.shape a else first_by x gs (a + shape_words g.shape)

  absent : (gs : List GlobalDecl) (a : ℕ) (x : List ℕ) → is_among x (map gname gs) ≡ false → first_by x gs a ≡ None
  absent [] a x h = refl
  absent (g ∷ gs) a x h = go (absent gs (a + shape_words g.shape) x) (bytes_eq g.name.text x) h
    where
      go : (is_among x (map gname gs) ≡ false → first_by x gs (a + shape_words g.shape) ≡ None) → (b : Bool) → (if b then true else is_among x (map gname gs)) ≡ false
          → (if b then told g.shape a else first_by x gs (a + shape_words g.shape)) ≡ None
      go more true e = absurd cc
      go more false e = more e

  past : (gs : List GlobalDecl) (a : ℕ) (x : List ℕ) (ss : Map Symbol) (rest : List GlobalDecl) → seen (look_up ss x) ≡ first_by x rest (a + sum_by (λ g. shape_words g.shape) gs)
      → seen (look_up (global_symbols gs a ++ ss) x) ≡ first_by x (gs ++ rest) a
  past [] a x ss rest h = let e : a + 0 ≡ a = omega arith in h ∙ ap (first_by x rest) e
  past (g ∷ gs) a x ss rest h =
      go (past gs (a + shape_words g.shape) x ss rest (h ∙ ap (first_by x rest) (ap (λ n. a + n) (sum_by-cons (λ g. shape_words g.shape) g gs) ∙ sym (add_assoc a (shape_words g.shape) (sum_by (λ g. shape_words g.shape) gs))))) (bytes_eq g.name.text x)
    where
      go : seen (look_up (global_symbols gs (a + shape_words g.shape) ++ ss) x) ≡ first_by x (gs ++ rest) (a + shape_words g.shape) → (b : Bool)
          → seen (if b then Some (symbol_at g.shape a) else look_up (global_symbols gs (a + shape_words g.shape) ++ ss) x) ≡ (if b then told g.shape a else first_by x (gs ++ rest) (a + shape_words g.shape))
      go more true = same g.shape a
      go more false = more

  pub by_symbol : (is : List Item) (a f : ℕ) (x : List ℕ) → IsDistinct (firsts (flat_map item_kinds is)) → seen (look_up (items_symbols is a f) x) ≡ first_by x (flat_map item_globals is) a
  by_symbol [] a f x h = no_symbol
  by_symbol (Globals gs ∷ is) a f x h =
      past gs a x (items_symbols is (a + sum_by (λ g. shape_words g.shape) gs) (f + 0)) (flat_map item_globals is) (by_symbol is (a + sum_by (λ g. shape_words g.shape) gs) (f + 0) x (behind_globals gs (flat_map item_kinds is) h))
  by_symbol (Function g ∷ is) a f x h = go (by_symbol is (a + 0) (f + 1) x h.1) (bytes_eq g.name.text x) refl
    where
      e0 : a + 0 ≡ a
      e0 = omega arith

      go : seen (look_up (items_symbols is (a + 0) (f + 1)) x) ≡ first_by x (flat_map item_globals is) (a + 0) → (b : Bool) → bytes_eq g.name.text x ≡ b
          → seen (if b then Some (symbol.Function f g.returns (length (Rattle.hx_tree.specs.Tree.param_names g.params))) else look_up (items_symbols is (a + 0) (f + 1)) x) ≡ first_by x (flat_map item_globals is) a
      go more true e =
          no_function f g.returns (length (Rattle.hx_tree.specs.Tree.param_names g.params))
          ∙ sym (absent (flat_map item_globals is) a x (among_names is x (subst (λ y. is_among y (firsts (flat_map item_kinds is)) ≡ false) (same_text g.name.text x e) h.0)))
      go more false e = more ∙ ap (first_by x (flat_map item_globals is)) e0

-- ---- the words of the globals, one behind another

-- each global has as many words as its shape says
abbrev pub Fits : (GlobalDecl → List ℤ) → List GlobalDecl → Type 0
Fits b [] = Unit {0}
Fits b (g ∷ gs) = (length (b g) ≡ shape_words g.shape) × Fits b gs

-- the first words lie where the globals do
pub laid : (gs : List GlobalDecl) (b : GlobalDecl → List ℤ) → Fits b gs → (before behind : List ℤ) (a : ℕ) → length before ≡ a
    → store_from (map entry gs) a (before ++ (flat_map b gs ++ behind)) ≡ map (λ g. (g.name.text, b g)) gs
laid [] b fits before behind a e = refl
laid (g ∷ gs) b fits before behind a e =
    let rest = flat_map b gs ++ behind in
    let flat : before ++ ((b g ++ flat_map b gs) ++ behind) ≡ before ++ (b g ++ rest) = ap (λ l. before ++ l) (append_assoc (b g) (flat_map b gs) behind) in
    let here : take (shape_words g.shape) (drop a (before ++ ((b g ++ flat_map b gs) ++ behind))) ≡ b g =
    ap (λ l. take (shape_words g.shape) (drop a l)) flat
    ∙ ap (take (shape_words g.shape)) (drop_at before (b g ++ rest) a e)
    ∙ take_at (b g) rest (shape_words g.shape) fits.0 in
    let further : store_from (map entry gs) (a + shape_words g.shape) (before ++ ((b g ++ flat_map b gs) ++ behind)) ≡ map (λ g. (g.name.text, b g)) gs =
    ap (store_from (map entry gs) (a + shape_words g.shape)) (flat ∙ sym (append_assoc before (b g) rest))
    ∙ laid gs b fits.1 (before ++ b g) behind (a + shape_words g.shape) (length-append before (b g) ∙ ap (λ n. n + length (b g)) e ∙ ap (λ n. a + n) fits.0) in
    ap (λ ws. (g.name.text, ws) ∷ store_from (map entry gs) (a + shape_words g.shape) (before ++ ((b g ++ flat_map b gs) ++ behind))) here
    ∙ ap (λ m. (g.name.text, b g) ∷ m) further

-- other words for the globals of a name
abbrev pub replaced : List ℕ → (GlobalDecl → List ℤ) → (GlobalDecl → List ℤ) → GlobalDecl → List ℤ
replaced x h b g = if bytes_eq g.name.text x then h g else b g

none_replaced : (x : List ℕ) (h b : GlobalDecl → List ℤ) (gs : List GlobalDecl) → is_among x (map gname gs) ≡ false → flat_map (replaced x h b) gs ≡ flat_map b gs
none_replaced x h b [] e = refl
none_replaced x h b (g ∷ gs) e = go (none_replaced x h b gs) (bytes_eq g.name.text x) e
  where
    go : (is_among x (map gname gs) ≡ false → flat_map (replaced x h b) gs ≡ flat_map b gs) → (t : Bool) → (if t then true else is_among x (map gname gs)) ≡ false
        → (if t then h g else b g) ++ flat_map (replaced x h b) gs ≡ b g ++ flat_map b gs
    go more true e = absurd cc
    go more false e = ap (λ l. b g ++ l) (more e)

pub none_counted : (x : List ℕ) (size : GlobalDecl → ℕ) (gs : List GlobalDecl) → is_among x (map gname gs) ≡ false → sum_by (λ g. if bytes_eq g.name.text x then size g else 0) gs ≡ 0
none_counted x size [] e = refl
none_counted x size (g ∷ gs) e = sum_by-cons (λ g. if bytes_eq g.name.text x then size g else 0) g gs ∙ go (none_counted x size gs) (bytes_eq g.name.text x) e
  where
    go : (is_among x (map gname gs) ≡ false → sum_by (λ g. if bytes_eq g.name.text x then size g else 0) gs ≡ 0) → (t : Bool) → (if t then true else is_among x (map gname gs)) ≡ false
        → (if t then size g else 0) + sum_by (λ g. if bytes_eq g.name.text x then size g else 0) gs ≡ 0
    go more true e = absurd cc
    go more false e = let z = more e in omega (arith, z)

-- ---- the input fills its array

abbrev pub told_array : Shape → ℕ → Option Words
told_array (Scalar c) a = None
told_array (Array n cs) a = Some (record { base = a; length = n })

abbrev pub opening : GlobalDecl → List ℤ
opening g = opening_words g.shape

abbrev pub first_array : List ℕ → List GlobalDecl → ℕ → Option Words
first_array x [] a = None
first_array x (g ∷ gs) a = if bytes_eq g.name.text x then told_array g.shape a else first_array x gs (a + shape_words g.shape)

pub fills : (input : List ℤ) (x : List ℕ) (gs : List GlobalDecl) (before : List ℤ) → IsDistinct (map gname gs) → Fits opening gs → length input ≤ sum_by (λ g. if bytes_eq g.name.text x then array_words g.shape else 0) gs
    → before ++ flat_map (replaced x (λ g. filled input g.shape) opening) gs ≡ code.filled (option_map array_of (first_array x gs (length before))) input (before ++ flat_map opening gs)
fills input x [] before d f room = refl
fills input x (g ∷ gs) before d f room =
    go (fills input x gs (before ++ opening g) d.1 f.1) (bytes_eq g.name.text x) refl (subst (λ n. length input ≤ n) (sum_by-cons (λ g. if bytes_eq g.name.text x then array_words g.shape else 0) g gs) room)
  where
    F : List ℤ
    F = flat_map opening gs

    R : List ℤ
    R = flat_map (replaced x (λ g. filled input g.shape) opening) gs

    len : length (before ++ opening g) ≡ length before + shape_words g.shape
    len = length-append before (opening g) ∙ ap (λ n. length before + n) f.0

    go : (length input ≤ sum_by (λ g. if bytes_eq g.name.text x then array_words g.shape else 0) gs
        → (before ++ opening g) ++ flat_map (replaced x (λ g. filled input g.shape) opening) gs ≡ code.filled (option_map array_of (first_array x gs (length (before ++ opening g)))) input ((before ++ opening g) ++ flat_map opening gs))
        → (b : Bool) → bytes_eq g.name.text x ≡ b → length input ≤ (if b then array_words g.shape else 0) + sum_by (λ g. if bytes_eq g.name.text x then array_words g.shape else 0) gs
        → before ++ ((if b then filled input g.shape else opening g) ++ flat_map (replaced x (λ g. filled input g.shape) opening) gs)
        ≡ code.filled (option_map array_of (if b then told_array g.shape (length before) else first_array x gs (length before + shape_words g.shape))) input (before ++ (opening g ++ flat_map opening gs))
    go more false e room =
        sym (append_assoc before (opening g) R) ∙ more (omega arith)
        ∙ ap (λ n. code.filled (option_map array_of (first_array x gs n)) input ((before ++ opening g) ++ F)) len
        ∙ ap (code.filled (option_map array_of (first_array x gs (length before + shape_words g.shape))) input) (append_assoc before (opening g) F)
    go more true e room = at_it g.shape refl
      where
        others : is_among x (map gname gs) ≡ false
        others = subst (λ y. is_among y (map gname gs) ≡ false) (same_text g.name.text x e) d.0

        unchanged : R ≡ F
        unchanged = none_replaced x (λ g. filled input g.shape) opening gs others

        at_it : (sh : Shape) → g.shape ≡ sh → before ++ (filled input sh ++ R) ≡ code.filled (option_map array_of (told_array sh (length before))) input (before ++ (opening_words sh ++ F))
        at_it (Scalar c) is = ap (λ l. before ++ (opening_words (Scalar c) ++ l)) unchanged
        at_it (Array n cs) is =
            let op = opening_words (Array n cs) in
            let whole : length op ≡ n = subst (λ sh. length (opening_words sh) ≡ shape_words sh) is f.0 in
            let room' : length input ≤ n = omega (arith, ap array_words is, none_counted x (λ g. array_words g.shape) gs others, room) in
            let rest : drop (length before + length input) (before ++ (op ++ F)) ≡ drop (length input) op ++ F =
            drop-append-add before (op ++ F) (length input) ∙ drop-append-le (length input) op F (omega (arith, whole, room')) in
            ap (λ l. before ++ ((input ++ drop (length input) op) ++ l)) unchanged
            ∙ ap (λ l. before ++ l) (append_assoc input (drop (length input) op) F)
            ∙ sym (append_assoc before input (drop (length input) op ++ F))
            ∙ ap (λ l. (before ++ input) ++ l) (sym rest)
            ∙ ap (λ l. (l ++ input) ++ drop (length before + length input) (before ++ (op ++ F))) (sym (take-append_seam before (op ++ F)))

-- ---- the input's length in its word

abbrev pub told_int : Shape → ℕ → Option ℕ
told_int (Scalar c) a = Some a
told_int (Array n cs) a = None

abbrev pub first_int : List ℕ → List GlobalDecl → ℕ → Option ℕ
first_int x [] a = None
first_int x (g ∷ gs) a = if bytes_eq g.name.text x then told_int g.shape a else first_int x gs (a + shape_words g.shape)

pub counts : (input : List ℤ) (x : List ℕ) (b : GlobalDecl → List ℤ) (gs : List GlobalDecl) (before : List ℤ) → IsDistinct (map gname gs) → Fits b gs
    → ((g : GlobalDecl) → bytes_eq g.name.text x ≡ true → b g ≡ opening_words g.shape)
    → before ++ flat_map (replaced x (λ g. counted input g.shape) b) gs ≡ code.counted (first_int x gs (length before)) input (before ++ flat_map b gs)
counts input x b [] before d f same = refl
counts input x b (g ∷ gs) before d f same =
    go (counts input x b gs (before ++ b g) d.1 f.1 same) (bytes_eq g.name.text x) refl
  where
    F : List ℤ
    F = flat_map b gs

    R : List ℤ
    R = flat_map (replaced x (λ g. counted input g.shape) b) gs

    len : length (before ++ b g) ≡ length before + shape_words g.shape
    len = length-append before (b g) ∙ ap (λ n. length before + n) f.0

    go : (before ++ b g) ++ flat_map (replaced x (λ g. counted input g.shape) b) gs ≡ code.counted (first_int x gs (length (before ++ b g))) input ((before ++ b g) ++ flat_map b gs)
        → (t : Bool) → bytes_eq g.name.text x ≡ t
        → before ++ ((if t then counted input g.shape else b g) ++ flat_map (replaced x (λ g. counted input g.shape) b) gs)
        ≡ code.counted (if t then told_int g.shape (length before) else first_int x gs (length before + shape_words g.shape)) input (before ++ (b g ++ flat_map b gs))
    go more false e =
        sym (append_assoc before (b g) R) ∙ more
        ∙ ap (λ n. code.counted (first_int x gs n) input ((before ++ b g) ++ F)) len
        ∙ ap (code.counted (first_int x gs (length before + shape_words g.shape)) input) (append_assoc before (b g) F)
    go more true e = at_it g.shape refl
      where
        others : is_among x (map gname gs) ≡ false
        others = subst (λ y. is_among y (map gname gs) ≡ false) (same_text g.name.text x e) d.0

        unchanged : R ≡ F
        unchanged = none_replaced x (λ g. counted input g.shape) b gs others

        at_it : (sh : Shape) → g.shape ≡ sh → before ++ (counted input sh ++ R) ≡ code.counted (told_int sh (length before)) input (before ++ (b g ++ F))
        at_it (Array n cs) is =
            ap (λ l. before ++ (opening_words (Array n cs) ++ l)) unchanged ∙ ap (λ l. before ++ (l ++ F)) (sym (same g e ∙ ap opening_words is))
        at_it (Scalar c) is = one (b g) (f.0 ∙ ap shape_words is)
          where
            one : (l : List ℤ) → length l ≡ 1 → before ++ (pos (length input) ∷ R) ≡ slice_set (before ++ (l ++ F)) (length before) (pos (length input))
            one [] h = absurd (omega arith)
            one (y ∷ []) h = ap (λ r. before ++ (pos (length input) ∷ r)) unchanged ∙ sym (set-append_seam before y F (pos (length input)))
            one (y ∷ (z ∷ zs)) h = absurd (omega arith)
