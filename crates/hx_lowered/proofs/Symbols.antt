-- What a global name of an accepted program is, and the words and parameters that it has.
use Rattle.std.proofs.Common.{◌≡◌, ℕ, suc, ◌+◌, ◌-◌, ◌≤◌, ◌<◌, Bool, true, false, List, [], ◌∷◌, ◌++◌, length, map, Option, Some, None, pos, refl, sym, ap, subst, ◌∙◌, arith, if◌then◌else◌, length-append, replicate}
use Rattle.std.specs.Prelude.{bytes_eq, flat_map, sum_by, slice_get}
use Rattle.std.specs.List.{AllByRecursion}
use Rattle.std.proofs.lemmas.List.{length-map, length-replicate}
use Rattle.std.proofs.lemmas.List.Sums.{sum_by-cons}
use Rattle.std.proofs.lemmas.List.Elements.{recursion_from_All}
use Rattle.hx_tree.specs.Tree.{Program, Item, Globals, Function, GlobalDecl, Shape, Scalar, Array, Func, param_names}
use Rattle.hx_tree.specs.World.{Map, look_up}
use Rattle.hx_tree.specs.Meaning.{item_globals, item_functions, functions_of, opening_words, constant_value}
use Rattle.hx_tree.specs.Accepted.{Kind, IntKind, ArrayKind, FunctionKind, item_kinds, kind_of_shape, kinds_of, shape_words, item_words, AcceptsShape, AcceptsItem}
use Rattle.hx_resolved.specs.declared.symbol.Symbol.{Symbol}
use Rattle.hx_resolved.specs.declared.symbol.Symbol.TheVariants as symbol
use Rattle.hx_resolved.specs.Symbols.{symbol_at, global_symbols, items_symbols, symbols_of}

-- ---- how many words the globals have

shape_length : (s : Shape) → AcceptsShape s → length (opening_words s) ≡ shape_words s
shape_length (Scalar None) h = refl
shape_length (Scalar (Some c)) h = refl
shape_length (Array n cs) h =
    omega (arith, h.2, length-append (map constant_value cs) (replicate (n - length cs) (pos 0)), length-map cs constant_value, length-replicate (n - length cs) (pos 0))

globals_length : (gs : List GlobalDecl) → AllByRecursion (λ g. AcceptsShape g.shape) gs → length (flat_map (λ (g : GlobalDecl). opening_words g.shape) gs) ≡ sum_by (λ (g : GlobalDecl). shape_words g.shape) gs
globals_length [] h = refl
globals_length (g ∷ gs) h =
    length-append (opening_words g.shape) (flat_map (λ (g : GlobalDecl). opening_words g.shape) gs)
    ∙ ap (λ n. n + length (flat_map (λ (g : GlobalDecl). opening_words g.shape) gs)) (shape_length g.shape h.0)
    ∙ ap (λ n. shape_words g.shape + n) (globals_length gs h.1)
    ∙ sym (sum_by-cons (λ (g : GlobalDecl). shape_words g.shape) g gs)

flat_length : (xs ys : List GlobalDecl) → length (flat_map (λ (g : GlobalDecl). opening_words g.shape) (xs ++ ys)) ≡ length (flat_map (λ (g : GlobalDecl). opening_words g.shape) xs) + length (flat_map (λ (g : GlobalDecl). opening_words g.shape) ys)
flat_length [] ys = omega arith
flat_length (x ∷ xs) ys =
    length-append (opening_words x.shape) (flat_map (λ (g : GlobalDecl). opening_words g.shape) (xs ++ ys))
    ∙ ap (λ n. length (opening_words x.shape) + n) (flat_length xs ys)
    ∙ join (length (opening_words x.shape)) (length (flat_map (λ (g : GlobalDecl). opening_words g.shape) xs)) (length (flat_map (λ (g : GlobalDecl). opening_words g.shape) ys))
    (length-append (opening_words x.shape) (flat_map (λ (g : GlobalDecl). opening_words g.shape) xs))
  where
    join : (a b c : ℕ) {d : ℕ} → d ≡ a + b → a + (b + c) ≡ d + c
    join a b c e = omega arith

pub items_length : (kinds : Map Kind) (is : List Item) → AllByRecursion (AcceptsItem kinds) is → length (flat_map (λ (g : GlobalDecl). opening_words g.shape) (flat_map item_globals is)) ≡ sum_by item_words is
items_length kinds [] h = refl
items_length kinds (Globals gs ∷ is) h =
    flat_length gs (flat_map item_globals is)
    ∙ ap (λ n. n + length (flat_map (λ (g : GlobalDecl). opening_words g.shape) (flat_map item_globals is))) (globals_length gs (recursion_from_All _ gs h.0))
    ∙ ap (λ n. sum_by (λ (g : GlobalDecl). shape_words g.shape) gs + n) (items_length kinds is h.1)
    ∙ sym (sum_by-cons item_words (Globals gs) is)
items_length kinds (Function f ∷ is) h = items_length kinds is h.1 ∙ sym (sum_by-cons item_words (Function f) is ∙ none (sum_by item_words is))
  where
    none : (n : ℕ) → 0 + n ≡ n
    none n = omega arith

-- ---- kinds and symbols

-- how many parameters each function has
abbrev pub param_counts : List Func → List ℕ
param_counts fs = map (λ (f : Func). length (param_names f.params)) fs

module _ (globals : ℕ) (params : List ℕ) where
  -- a kind and a symbol are those of one name, whose words or parameters are in the tables
  abbrev pub Agree : Option Kind → Option Symbol → Type 0
  Agree None s = s ≡ None
  Agree (Some IntKind) s = (a : ℕ) × (s ≡ Some (symbol.Int a)) × (a < globals)
  Agree (Some ArrayKind) s = (a : ℕ) × (n : ℕ) × (s ≡ Some (symbol.Array a n)) × (1 ≤ n) × (a + n ≤ globals)
  Agree (Some (FunctionKind r k)) s = (i : ℕ) × (s ≡ Some (symbol.Function i r k)) × (slice_get params i ≡ Some k)

  shape_agrees : (shape : Shape) (a : ℕ) → AcceptsShape shape → a + shape_words shape ≤ globals → Agree (Some (kind_of_shape shape)) (Some (symbol_at shape a))
  shape_agrees (Scalar c) a h le = (a, refl, omega arith)
  shape_agrees (Array n cs) a h le = (a, n, refl, h.0, le)

  globals_agree : (gs : List GlobalDecl) (a : ℕ) (x : List ℕ) (ks : Map Kind) (ss : Map Symbol) → AllByRecursion (λ g. AcceptsShape g.shape) gs
      → a + sum_by (λ (g : GlobalDecl). shape_words g.shape) gs ≤ globals → Agree (look_up ks x) (look_up ss x)
      → Agree (look_up (map (λ (g : GlobalDecl). (g.name.text, kind_of_shape g.shape)) gs ++ ks) x) (look_up (global_symbols gs a ++ ss) x)
  globals_agree [] a x ks ss h le later = later
  globals_agree (g ∷ gs) a x ks ss h le later = go (globals_agree gs (a + shape_words g.shape) x ks ss h.1 (omega (arith, size)) later) (bytes_eq g.name.text x)
    where
      size : sum_by (λ (g : GlobalDecl). shape_words g.shape) (g ∷ gs) ≡ shape_words g.shape + sum_by (λ (g : GlobalDecl). shape_words g.shape) gs
      size = sum_by-cons (λ (g : GlobalDecl). shape_words g.shape) g gs

      go : Agree (look_up (map (λ (g : GlobalDecl). (g.name.text, kind_of_shape g.shape)) gs ++ ks) x) (look_up (global_symbols gs (a + shape_words g.shape) ++ ss) x) → (b : Bool) → Agree (if b then Some (kind_of_shape g.shape) else (look_up (map (λ (g : GlobalDecl). (g.name.text, kind_of_shape g.shape)) gs ++ ks) x)) (if b then Some (symbol_at g.shape a) else (look_up (global_symbols gs (a + shape_words g.shape) ++ ss) x))
      go next true = shape_agrees g.shape a h.0 (omega (arith, size))
      go next false = next

  items_agree : (kinds : Map Kind) (is : List Item) (a f : ℕ) (x : List ℕ) → AllByRecursion (AcceptsItem kinds) is → a + sum_by item_words is ≤ globals
      → ((i k : ℕ) → slice_get (param_counts (flat_map item_functions is)) i ≡ Some k → slice_get params (f + i) ≡ Some k)
      → Agree (look_up (flat_map item_kinds is) x) (look_up (items_symbols is a f) x)
  items_agree kinds [] a f x h le table = refl
  items_agree kinds (Globals gs ∷ is) a f x h le table =
      let size = sum_by-cons item_words (Globals gs) is in
      globals_agree gs a x (flat_map item_kinds is) (items_symbols is (a + sum_by (λ (g : GlobalDecl). shape_words g.shape) gs) (f + 0)) (recursion_from_All _ gs h.0) (omega (arith, size))
      (items_agree kinds is (a + sum_by (λ (g : GlobalDecl). shape_words g.shape) gs) (f + 0) x h.1 (omega (arith, size))
      (λ i k e. same (omega arith) (table i k e)))
    where
      same : {i j k : ℕ} → i ≡ j → slice_get params i ≡ Some k → slice_get params j ≡ Some k
      same {i} {j} {k} e h = subst (λ n. slice_get params n ≡ Some k) e h
  items_agree kinds (Function g ∷ is) a f x h le table =
      go (items_agree kinds is (a + 0) (f + 1) x h.1 (omega (arith, size)) (λ i k e. same (shift f i) (table (suc i) k e))) (bytes_eq g.name.text x)
    where
      size : sum_by item_words (Function g ∷ is) ≡ 0 + sum_by item_words is
      size = sum_by-cons item_words (Function g) is

      shift : (f i : ℕ) → f + suc i ≡ f + 1 + i
      shift f i = omega arith

      same : {i j k : ℕ} → i ≡ j → slice_get params i ≡ Some k → slice_get params j ≡ Some k
      same {i} {j} {k} e h = subst (λ n. slice_get params n ≡ Some k) e h

      go : Agree (look_up (flat_map item_kinds is) x) (look_up (items_symbols is (a + 0) (f + 1)) x) → (b : Bool)
          → Agree (if b then Some (FunctionKind g.returns (length (param_names g.params))) else look_up (flat_map item_kinds is) x)
          (if b then Some (symbol.Function f g.returns (length (param_names g.params))) else look_up (items_symbols is (a + 0) (f + 1)) x)
      go next true = (f, refl, same (plus f) (table 0 (length (param_names g.params)) refl))
        where
          plus : (f : ℕ) → f + 0 ≡ f
          plus f = omega arith
      go next false = next

-- each name of an accepted program
pub agrees : (p : Program) (x : List ℕ) (globals : ℕ) → AllByRecursion (AcceptsItem (kinds_of p)) p.items → sum_by item_words p.items ≤ globals
    → Agree globals (param_counts (functions_of p)) (look_up (kinds_of p) x) (look_up (symbols_of p) x)
agrees p x globals h le = items_agree globals (param_counts (functions_of p)) (kinds_of p) p.items 0 0 x h (omega arith) (λ i k e. same i k (omega arith) e)
  where
    same : (i k : ℕ) {j : ℕ} → i ≡ j → slice_get (param_counts (functions_of p)) i ≡ Some k → slice_get (param_counts (functions_of p)) j ≡ Some k
    same i k e h = subst (λ n. slice_get (param_counts (functions_of p)) n ≡ Some k) e h
