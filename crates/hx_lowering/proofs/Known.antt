-- What a name of an accepted program stands for, and where it lies.
use Rattle.std.proofs.Common.{◌≡◌, ℕ, ◌+◌, Bool, true, false, List, [], ◌∷◌, ◌++◌, length, map, Option, Some, None, refl, sym, ap, subst, ◌∙◌, arith, if◌then◌else◌, add_assoc}
use Rattle.std.specs.Prelude.{bytes_eq, flat_map, sum_by}
use Rattle.std.proofs.lemmas.List.{map-append}
use Rattle.std.proofs.lemmas.List.Sums.{sum_by-cons}
use Rattle.hx_tree.specs.Tree.{Program, Item, Globals, Function, GlobalDecl, Shape, Scalar, Array, param_names}
use Rattle.hx_tree.specs.World.{Map, look_up}
use Rattle.hx_tree.specs.Meaning.{item_globals}
use Rattle.hx_tree.specs.Accepted.{Kind, IntKind, ArrayKind, FunctionKind, item_kinds, kind_of_shape, kinds_of, shape_words}
use Rattle.hx_resolved.specs.declared.program.Words.{Words}
use Rattle.hx_resolved.specs.declared.symbol.Symbol.{Symbol}
use Rattle.hx_resolved.specs.declared.symbol.Symbol.TheVariants as symbol
use Rattle.hx_resolved.specs.Symbols.{symbol_at, global_symbols, items_symbols, symbols_of}
use Rattle.hx_lowering.proofs.Globals.{Layout, place_of}
use Rattle.hx_lowering.proofs.At.{layout_of}

-- a kind, a symbol and a place are those of one name
abbrev pub Agree : Option Kind → Option Symbol → Option Words → Type 0
Agree None s w = Unit {0}
Agree (Some IntKind) s w = (a : ℕ) × (s ≡ Some (symbol.Int a)) × (w ≡ Some (record { base = a; length = 1 }))
Agree (Some ArrayKind) s w = (a : ℕ) × (n : ℕ) × (s ≡ Some (symbol.Array a n)) × (w ≡ Some (record { base = a; length = n }))
Agree (Some (FunctionKind r k)) s w = (i : ℕ) × (s ≡ Some (symbol.Function i r k))

abbrev entry : GlobalDecl → List ℕ × ℕ
entry g = (g.name.text, shape_words g.shape)

abbrev kind_entry : GlobalDecl → List ℕ × Kind
kind_entry g = (g.name.text, kind_of_shape g.shape)

shape_agrees : (shape : Shape) (a : ℕ) → Agree (Some (kind_of_shape shape)) (Some (symbol_at shape a)) (Some (record { base = a; length = shape_words shape }))
shape_agrees (Scalar c) a = (a, refl, refl)
shape_agrees (Array n cs) a = (a, n, refl, refl)

globals_agree : (gs : List GlobalDecl) (a : ℕ) (x : List ℕ) (ks : Map Kind) (ss : Map Symbol) (lay : Layout)
    → Agree (look_up ks x) (look_up ss x) (place_of lay (a + sum_by (λ g. shape_words g.shape) gs) x)
    → Agree (look_up (map kind_entry gs ++ ks) x) (look_up (global_symbols gs a ++ ss) x) (place_of (map entry gs ++ lay) a x)
globals_agree [] a x ks ss lay h = let e : a + 0 ≡ a = omega arith in subst (λ b. Agree (look_up ks x) (look_up ss x) (place_of lay b x)) e h
globals_agree (g ∷ gs) a x ks ss lay h =
    go (globals_agree gs (a + shape_words g.shape) x ks ss lay
    (subst (λ b. Agree (look_up ks x) (look_up ss x) (place_of lay b x)) (ap (λ n. a + n) (sum_by-cons (λ g. shape_words g.shape) g gs) ∙ sym (add_assoc a (shape_words g.shape) (sum_by (λ g. shape_words g.shape) gs))) h))
    (bytes_eq g.name.text x)
  where
    go : Agree (look_up (map kind_entry gs ++ ks) x) (look_up (global_symbols gs (a + shape_words g.shape) ++ ss) x) (place_of (map entry gs ++ lay) (a + shape_words g.shape) x)
        → (b : Bool)
        → Agree (if b then Some (kind_of_shape g.shape) else look_up (map kind_entry gs ++ ks) x)
        (if b then Some (symbol_at g.shape a) else look_up (global_symbols gs (a + shape_words g.shape) ++ ss) x)
        (if b then Some (record { base = a; length = shape_words g.shape }) else place_of (map entry gs ++ lay) (a + shape_words g.shape) x)
    go next true = shape_agrees g.shape a
    go next false = next

abbrev layout_of_items : List Item → Layout
layout_of_items is = map entry (flat_map item_globals is)

items_agree : (is : List Item) (a f : ℕ) (x : List ℕ) → Agree (look_up (flat_map item_kinds is) x) (look_up (items_symbols is a f) x) (place_of (layout_of_items is) a x)
items_agree [] a f x = tt
items_agree (Globals gs ∷ is) a f x =
    subst (λ lay. Agree (look_up (map kind_entry gs ++ flat_map item_kinds is) x) (look_up (global_symbols gs a ++ items_symbols is (a + sum_by (λ g. shape_words g.shape) gs) (f + 0)) x) (place_of lay a x))
    (sym (map-append entry gs (flat_map item_globals is)))
    (globals_agree gs a x _ _ (layout_of_items is) (items_agree is (a + sum_by (λ g. shape_words g.shape) gs) (f + 0) x))
items_agree (Function g ∷ is) a f x = go (items_agree is (a + 0) (f + 1) x) (bytes_eq g.name.text x)
  where
    go : Agree (look_up (flat_map item_kinds is) x) (look_up (items_symbols is (a + 0) (f + 1)) x) (place_of (layout_of_items is) (a + 0) x)
        → (b : Bool)
        → Agree (if b then Some (FunctionKind g.returns (length (param_names g.params))) else look_up (flat_map item_kinds is) x)
        (if b then Some (symbol.Function f g.returns (length (param_names g.params))) else look_up (items_symbols is (a + 0) (f + 1)) x)
        (place_of (layout_of_items is) a x)
    go next true = (f, refl)
    go next false = let e : a + 0 ≡ a = omega arith in
        subst (λ b. Agree (look_up (flat_map item_kinds is) x) (look_up (items_symbols is (a + 0) (f + 1)) x) (place_of (layout_of_items is) b x)) e next

-- each name of a program
pub agrees : (p : Program) (x : List ℕ) → Agree (look_up (kinds_of p) x) (look_up (symbols_of p) x) (place_of (layout_of p) 0 x)
agrees p x = items_agree p.items 0 0 x
