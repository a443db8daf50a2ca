-- Functions by their names and by their numbers, and where their words stand.
use Rattle.std.proofs.Common.{◌≡◌, ℕ, suc, ◌+◌, Bool, true, false, List, [], ◌∷◌, ◌++◌, length, map, Some, refl, sym, ap, subst, ◌∙◌, arith, if◌then◌else◌}
use Rattle.std.specs.Prelude.{bytes_eq, flat_map, find, slice_get, slice_index_or}
use Rattle.hx_tree.specs.declared.tree.Returns.{Returns}
use Rattle.hx_tree.specs.Tree.{Program, Item, Globals, Function, Func, GlobalDecl, param_names}
use Rattle.hx_tree.specs.World.{Map, look_up}
use Rattle.hx_tree.specs.Meaning.{item_functions, functions_of, function_named}
use Rattle.hx_tree.specs.Accepted.{Kind, IntKind, ArrayKind, FunctionKind, item_kinds, kind_of_shape, kinds_of}
use Rattle.hx_resolved.specs.declared.symbol.Symbol.{Symbol}
use Rattle.hx_resolved.specs.declared.symbol.Symbol.TheVariants as symbol
use Rattle.hx_resolved.specs.Symbols.{symbol_at, global_symbols, items_symbols, symbols_of}

-- ---- by name and by number

-- a function that is found by its name: its number, counted from f, and the function itself
pub record IsFunction (x : List ℕ) (fs : List Func) (ss : Map Symbol) (f : ℕ) (r : Returns) (k : ℕ) : Type 0 where
  pub number : ℕ
  pub it : Func
  pub symbol_is : look_up ss x ≡ Some (symbol.Function (f + number) r k)
  pub at : slice_get fs number ≡ Some it
  pub named : function_named x fs ≡ Some it
  pub returns_is : it.returns ≡ r
  pub parameters_are : length (param_names it.params) ≡ k

abbrev kind_entry : GlobalDecl → List ℕ × Kind
kind_entry g = (g.name.text, kind_of_shape g.shape)

is_kind : (shape : _) (r : Returns) (k : ℕ) → Some (kind_of_shape shape) ≡ Some (FunctionKind r k) → ⊥
is_kind (Rattle.hx_tree.specs.Tree.Scalar c) r k h = absurd cc
is_kind (Rattle.hx_tree.specs.Tree.Array n cs) r k h = absurd cc

past_globals : (gs : List GlobalDecl) (a f : ℕ) (x : List ℕ) (r : Returns) (k : ℕ) (ks : Map Kind) (ss : Map Symbol) (fs : List Func)
    → (look_up ks x ≡ Some (FunctionKind r k) → IsFunction x fs ss f r k)
    → look_up (map kind_entry gs ++ ks) x ≡ Some (FunctionKind r k) → IsFunction x fs (global_symbols gs a ++ ss) f r k
past_globals [] a f x r k ks ss fs next h = next h
past_globals (g ∷ gs) a f x r k ks ss fs next h = go (past_globals gs _ f x r k ks ss fs next) (bytes_eq g.name.text x) refl h
  where
    go : (look_up (map kind_entry gs ++ ks) x ≡ Some (FunctionKind r k) → IsFunction x fs (global_symbols gs (a + Rattle.hx_tree.specs.Accepted.shape_words g.shape) ++ ss) f r k)
        → (b : Bool) → bytes_eq g.name.text x ≡ b → (if b then Some (kind_of_shape g.shape) else look_up (map kind_entry gs ++ ks) x) ≡ Some (FunctionKind r k)
        → IsFunction x fs (global_symbols (g ∷ gs) a ++ ss) f r k
    go more true e h = absurd (is_kind g.shape r k h)
    go more false e h =
        let i = more h in
        record {
          number = i.number;
          it = i.it;
          symbol_is = ap (λ b. if b then Some (symbol_at g.shape a) else look_up (global_symbols gs (a + Rattle.hx_tree.specs.Accepted.shape_words g.shape) ++ ss) x) e ∙ i.symbol_is;
          at = i.at;
          named = i.named;
          returns_is = i.returns_is;
          parameters_are = i.parameters_are;
        }

items_function : (is : List Item) (a f : ℕ) (x : List ℕ) (r : Returns) (k : ℕ) → look_up (flat_map item_kinds is) x ≡ Some (FunctionKind r k) → IsFunction x (flat_map item_functions is) (items_symbols is a f) f r k
items_function [] a f x r k h = absurd cc
items_function (Globals gs ∷ is) a f x r k h =
    let e : f + 0 ≡ f = omega arith in
    past_globals gs a f x r k (flat_map item_kinds is) (items_symbols is _ (f + 0)) (flat_map item_functions is)
    (λ h'. subst (λ n. IsFunction x (flat_map item_functions is) (items_symbols is (a + Rattle.std.specs.Prelude.sum_by (λ g. Rattle.hx_tree.specs.Accepted.shape_words g.shape) gs) (f + 0)) n r k) e (items_function is _ (f + 0) x r k h')) h
items_function (Function g ∷ is) a f x r k h = go (items_function is (a + 0) (f + 1) x r k) (bytes_eq g.name.text x) refl h
  where
    go : (look_up (flat_map item_kinds is) x ≡ Some (FunctionKind r k) → IsFunction x (flat_map item_functions is) (items_symbols is (a + 0) (f + 1)) (f + 1) r k)
        → (b : Bool) → bytes_eq g.name.text x ≡ b
        → (if b then Some (FunctionKind g.returns (length (param_names g.params))) else look_up (flat_map item_kinds is) x) ≡ Some (FunctionKind r k)
        → IsFunction x (g ∷ flat_map item_functions is) (items_symbols (Function g ∷ is) a f) f r k
    go more true e h =
        let same : FunctionKind g.returns (length (param_names g.params)) ≡ FunctionKind r k = cc in
        let rs : g.returns ≡ r = cc in
        let ks : length (param_names g.params) ≡ k = cc in
        let zero_on : f + 0 ≡ f = omega arith in
        record {
          number = 0;
          it = g;
          symbol_is = ap (λ b. if b then Some (symbol.Function f g.returns (length (param_names g.params))) else look_up (items_symbols is (a + 0) (f + 1)) x) e
              ∙ ap (λ r'. Some (symbol.Function f r' (length (param_names g.params)))) rs ∙ ap (λ k'. Some (symbol.Function f r k')) ks ∙ ap (λ n. Some (symbol.Function n r k)) (sym zero_on);
          at = refl;
          named = ap (λ b. if b then Some g else function_named x (flat_map item_functions is)) e;
          returns_is = rs;
          parameters_are = ks;
        }
    go more false e h =
        let i = more h in
        let on : f + 1 + i.number ≡ f + suc i.number = omega arith in
        record {
          number = suc i.number;
          it = i.it;
          symbol_is = ap (λ b. if b then Some (symbol.Function f g.returns (length (param_names g.params))) else look_up (items_symbols is (a + 0) (f + 1)) x) e ∙ i.symbol_is ∙ ap (λ n. Some (symbol.Function n r k)) on;
          at = i.at;
          named = ap (λ b. if b then Some g else function_named x (flat_map item_functions is)) e ∙ i.named;
          returns_is = i.returns_is;
          parameters_are = i.parameters_are;
        }

-- a function of a program
pub function_is : (p : Program) (x : List ℕ) (r : Returns) (k : ℕ) → look_up (kinds_of p) x ≡ Some (FunctionKind r k) → IsFunction x (functions_of p) (symbols_of p) 0 r k
function_is p x r k h = items_function p.items 0 0 x r k h
