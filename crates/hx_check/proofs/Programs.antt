-- The checker's reading is right exactly on the accepted programs, and then gives the resolved program.
use Rattle.std.proofs.Common.{◌≡◌, ℕ, ◌+◌, ◌≤◌, List, [], ◌∷◌, ◌++◌, length, map, refl, ap, sym, ◌∙◌, subst, append_assoc, append-nil, arith}
use Rattle.std.specs.Prelude.{Option, Some, None, Ok, Err, nat_le, nat_eq, flat_map, sum_by, codes, option_map, All}
use Rattle.std.specs.List.{AllByRecursion}
use Rattle.std.proofs.lemmas.Bool.{leb-true, le-leb, eqb-true, eq-eqb}
use Rattle.std.proofs.lemmas.List.Elements.{All-from_recursion, recursion_from_All}
use Rattle.hx_tree.specs.declared.limits.TheConstants.{HEIGHT_LIMIT, FUNCTION_LIMIT, GLOBAL_LIMIT}
use Rattle.hx_tree.specs.declared.tree.Returns.TheVariants as returns
use Rattle.hx_tree.specs.Tree as tree
use Rattle.hx_tree.specs.World.{Map, look_up}
use Rattle.hx_tree.specs.Meaning.{item_functions, functions_of}
use Rattle.hx_tree.specs.Height.{program_height}
use Rattle.hx_tree.specs.Accepted.{Kind, FunctionKind, IsAccepted, AcceptsItem, AcceptsShape, IsDistinct, kinds_of, item_words}
use Rattle.hx_tree.specs.declared.tree.GlobalDecl.{GlobalDecl}
use Rattle.hx_tree.specs.declared.tree.Item.{Item}
use Rattle.hx_tree.specs.declared.tree.Item.TheVariants as item
use Rattle.hx_tree.specs.View.{global_of, shape_of, item_of}
use Rattle.hx_check.specs.declared.error.CheckError.{CheckError}
use Rattle.hx_check.specs.declared.error.CheckError.TheVariants as error
use Rattle.hx_check.specs.declared.error.CheckError.TheVariants.{NoMain, TooLarge}
use Rattle.hx_check.specs.Opening.{GlobalsFit}
use Rattle.hx_check.specs.Refusals.{Refuses}
use Rattle.hx_resolved.specs.declared.symbol.Symbol.{Symbol}
use Rattle.hx_resolved.specs.declared.symbol.Symbol.TheVariants as symbol
use Rattle.hx_resolved.specs.Resolved.{Function, Program}
use Rattle.hx_resolved.specs.Symbols.{Declared, symbols_of}
use Rattle.hx_resolved.specs.Resolve.{or_else, function_number, resolve, resolve_function}
use Rattle.hx_check.specs.Reading.{IsFault, unless, declare_items, nothing_declared, main_of, check_main, check_functions, check_function, check_program}
use Rattle.hx_check.proofs.Steps.{bind_ok, bind_at, if_ok, if_at, same_ok}
use Rattle.hx_check.proofs.WhatIsNamed.{kind_of_symbol, kinds, look_up_kinds}
use Rattle.hx_check.proofs.Assignments.{unless_at, unless_ok}
use Rattle.hx_check.proofs.Distinct.{distinct_of, fresh_of}
use Rattle.hx_check.proofs.Functions.{complete_function, sound_function}
use Rattle.hx_check.proofs.Items.{ItemFits, Fit, names_of, functions_in, after_items, complete_items, sound_items, kinds_are, names_are}

-- ---- main

main_at : (s : Option Symbol) → option_map kind_of_symbol s ≡ Some (FunctionKind returns.Int 0) → main_of s ≡ Ok (or_else (function_number s) 0)
main_at None h = cc
main_at (Some (symbol.Int word)) h = cc
main_at (Some (symbol.Array base n)) h = cc
main_at (Some (symbol.Function number returns.Int parameters)) h =
    let same : parameters ≡ 0 = cc in
    if_at (nat_eq parameters 0) _ _ (eq-eqb parameters 0 same)
main_at (Some (symbol.Function number returns.Void parameters)) h = cc

main_known : (s : Option Symbol) (n : ℕ) → main_of s ≡ Ok n → option_map kind_of_symbol s ≡ Some (FunctionKind returns.Int 0)
main_known None n h = cc
main_known (Some (symbol.Int word)) n h = cc
main_known (Some (symbol.Array base m)) n h = cc
main_known (Some (symbol.Function number returns.Int parameters)) n h =
    ap (λ k. Some (FunctionKind returns.Int k)) (eqb-true parameters 0 (if_ok (nat_eq parameters 0) (Ok number) NoMain n h).0)
main_known (Some (symbol.Function number returns.Void parameters)) n h = cc

-- ---- functions

abbrev Accepts : Map Symbol → tree.Item → Type 0
Accepts symbols i = AcceptsItem (kinds symbols) i

complete_functions : (is : List tree.Item) (symbols : Map Symbol) (done : List Function) → AllByRecursion (Accepts symbols) is → check_functions is symbols done ≡ Ok (done ++ map (resolve_function symbols) (flat_map item_functions is))
complete_functions [] symbols done h = ap (λ l. Ok l) (sym (append-nil done))
complete_functions (tree.Globals gs ∷ is) symbols done h = complete_functions is symbols done h.1
complete_functions (tree.Function f ∷ is) symbols done h =
    bind_at _ _ _ _ (complete_function f symbols h.0)
    (complete_functions is symbols (done ++ resolve_function symbols f ∷ []) h.1
    ∙ ap (λ l. Ok l) (append_assoc done (resolve_function symbols f ∷ []) (map (resolve_function symbols) (flat_map item_functions is))))

sound_functions : (is : List tree.Item) (symbols : Map Symbol) (done r : List Function) → AllByRecursion ItemFits is → check_functions is symbols done ≡ Ok r → AllByRecursion (Accepts symbols) is
sound_functions [] symbols done r fits h = tt
sound_functions (tree.Globals gs ∷ is) symbols done r fits h =
    (All-from_recursion (λ (g : tree.GlobalDecl). AcceptsShape g.shape) gs fits.0, sound_functions is symbols done r fits.1 h)
sound_functions (tree.Function f ∷ is) symbols done r fits h =
    let a = bind_ok (check_function f symbols) _ r h in
    (sound_function f symbols a.0 fits.0 a.1, sound_functions is symbols (done ++ a.0 ∷ []) r fits.1 a.2)

fits_of : (kinds : Map Kind) (is : List tree.Item) → AllByRecursion (AcceptsItem kinds) is → AllByRecursion ItemFits is
fits_of kinds [] h = tt
fits_of kinds (tree.Globals gs ∷ is) h = (recursion_from_All (λ (g : tree.GlobalDecl). AcceptsShape g.shape) gs h.0, fits_of kinds is h.1)
fits_of kinds (tree.Function f ∷ is) h = (h.0.few_params, fits_of kinds is h.1)

-- ---- whole programs

kinds_same : (p : tree.Program) → kinds (symbols_of p) ≡ kinds_of p
kinds_same p = kinds_are p.items 0 0

fit_of : (p : tree.Program) → IsAccepted p → Fit p.items nothing_declared
fit_of p h =
    let words : sum_by item_words p.items ≤ GLOBAL_LIMIT = h.few_words in
    let functions : length (functions_of p) ≤ FUNCTION_LIMIT = h.few_functions in
    record {
      fresh = fresh_of (names_of p.items) (subst (λ (l : List (List ℕ)). IsDistinct l) (names_are p.items) h.distinct);
      fits = fits_of (kinds_of p) p.items (recursion_from_All (AcceptsItem (kinds_of p)) p.items h.items);
      words = omega arith;
      functions = omega arith;
    }

pub complete_program : (p : tree.Program) → IsAccepted p → check_program p ≡ Ok (resolve p)
complete_program p h =
    let symbols = symbols_of p in
    let low : program_height p ≤ HEIGHT_LIMIT = h.is_low in
    let main = sym (look_up_kinds symbols (codes "main")) ∙ ap (λ (k : Map Kind). look_up k (codes "main")) (kinds_same p) ∙ h.has_main in
    let all : AllByRecursion (Accepts symbols) p.items =
    subst (λ (k : Map Kind). AllByRecursion (AcceptsItem k) p.items) (sym (kinds_same p)) (recursion_from_All (AcceptsItem (kinds_of p)) p.items h.items) in
    bind_at _ _ _ _ (unless_at (nat_le (program_height p) HEIGHT_LIMIT) TooLarge (le-leb (program_height p) HEIGHT_LIMIT low))
    (bind_at _ _ _ _ (complete_items p.items nothing_declared (fit_of p h))
    (bind_at _ _ _ _ (main_at (look_up symbols (codes "main")) main)
    (bind_at _ _ _ _ (complete_functions p.items symbols [] all) refl)))

pub sound_program : (p : tree.Program) (r : Program) → check_program p ≡ Ok r → IsAccepted p
sound_program p r h =
    let symbols = symbols_of p in
    let a = bind_ok (unless (nat_le (program_height p) HEIGHT_LIMIT) TooLarge) _ r h in
    let b = bind_ok (declare_items p.items nothing_declared) _ r a.2 in
    let fit = sound_items p.items nothing_declared b.0 (omega arith) (omega arith) b.1 in
    let same = same_ok (declare_items p.items nothing_declared) b.0 (after_items p.items nothing_declared) b.1 (complete_items p.items nothing_declared fit) in
    let c = bind_ok (check_main b.0.symbols) _ r b.2 in
    let d = bind_ok (check_functions p.items b.0.symbols []) _ r c.2 in
    let main = subst (λ (e : Declared). check_main e.symbols ≡ Ok c.0) same c.1 in
    let functions = subst (λ (e : Declared). check_functions p.items e.symbols [] ≡ Ok d.0) same d.1 in
    let all = sound_functions p.items symbols [] d.0 fit.fits functions in
    let words : 0 + sum_by item_words p.items ≤ GLOBAL_LIMIT = fit.words in
    let few : 0 + functions_in p.items ≤ FUNCTION_LIMIT = fit.functions in
    record {
      is_low = leb-true (program_height p) HEIGHT_LIMIT (unless_ok (nat_le (program_height p) HEIGHT_LIMIT) TooLarge a.0 a.1);
      distinct = subst (λ (l : List (List ℕ)). IsDistinct l) (sym (names_are p.items)) (distinct_of (names_of p.items) fit.fresh);
      has_main =
          ap (λ (k : Map Kind). look_up k (codes "main")) (sym (kinds_same p))
          ∙ look_up_kinds symbols (codes "main")
          ∙ main_known (look_up symbols (codes "main")) c.0 main;
      items = All-from_recursion (AcceptsItem (kinds_of p)) p.items (subst (λ (k : Map Kind). AllByRecursion (AcceptsItem k) p.items) (kinds_same p) all);
      few_words = omega arith;
      few_functions = omega arith;
    }

-- a program with another answer isn't accepted
pub refused_program : (p : tree.Program) (e : _) → check_program p ≡ Err e → IsAccepted p → ⊥
refused_program p e h accepted = let ok = complete_program p accepted in cc

pub refuses_program : (p : tree.Program) (e : CheckError) → IsFault (check_program p) e → Refuses e (IsAccepted p)
refuses_program p (error.UnknownName pos) h = refused_program p (error.UnknownName pos) h
refuses_program p (error.DoubledName pos) h = refused_program p (error.DoubledName pos) h
refuses_program p (error.WrongKind pos) h = refused_program p (error.WrongKind pos) h
refuses_program p (error.WrongCount pos) h = refused_program p (error.WrongCount pos) h
refuses_program p (error.OutsideLoop pos) h = refused_program p (error.OutsideLoop pos) h
refuses_program p error.NoMain h = refused_program p error.NoMain h
refuses_program p (error.LimitPassed pos) h = refused_program p (error.LimitPassed pos) h
refuses_program p error.TooLarge h = refused_program p error.TooLarge h
refuses_program p error.Memory h = tt

-- ---- the globals of a program whose items are declared

shapes_in : (gs : List GlobalDecl) → AllByRecursion (λ (g : tree.GlobalDecl). AcceptsShape g.shape) (map global_of gs) → AllByRecursion (λ (g : GlobalDecl). AcceptsShape (shape_of g.shape)) gs
shapes_in [] h = tt
shapes_in (g ∷ gs) h = (h.0, shapes_in gs h.1)

globals_in : (i : Item) → ItemFits (item_of i) → GlobalsFit i
globals_in (item.Globals gs) h = All-from_recursion (λ (g : GlobalDecl). AcceptsShape (shape_of g.shape)) gs.items (shapes_in gs.items h)
globals_in (item.Function f) h = tt

items_in : (is : List Item) → AllByRecursion ItemFits (map item_of is) → AllByRecursion GlobalsFit is
items_in [] h = tt
items_in (i ∷ is) h = (globals_in i h.0, items_in is h.1)

pub globals_fit : (is : List Item) (d : Declared) → declare_items (map item_of is) nothing_declared ≡ Ok d → All GlobalsFit is
globals_fit is d h =
    All-from_recursion GlobalsFit is (items_in is (sound_items (map item_of is) nothing_declared d (omega arith) (omega arith) h).fits)
