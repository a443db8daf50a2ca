-- A program of profile 1 means what today's means.
use Rattle.std.proofs.Common.{◌≡◌, ℕ, zero, suc, ◌-◌, ◌≤◌, Bool, true, false, if◌then◌else◌, List, [], ◌∷◌, ◌++◌, length, Option, Some, None, ℤ, map, refl, sym, ap, subst, ◌∙◌}
use Rattle.std.specs.Prelude.{cond, flat_map, option_map, bytes_eq, codes, zip, sum_by}
use Rattle.hx_tree.specs.declared.limits.TheConstants.{CALL_LIMIT}
use Rattle.hx_tree.specs.Tree.{Name, GlobalDecl, param_names}
use Rattle.hx_tree.specs.World.{World}
use Rattle.hx_tree.specs.Effect.{Context}
use Rattle.hx_tree.specs.Meaning.{texts_of, words_at_start, array_words, ending_of_main, Ending}
use Rattle.hx_tree.specs.Meaning as new
use Rattle.hx_profile1.specs.Tree.{Func, Item, Globals, Function, Program}
use Rattle.hx_profile1.specs.Meaning as old
use Rattle.hx_profile1.specs.Lifted.{lift_func, lift_item, lifted}
use Rattle.hx_profile1.specs.Promises.{KeepsInputs, KeepsMeaning}
use Rattle.hx_profile1.proofs.Runs.{both, same_effects}

-- ---- functions

pub lifted_functions : (is : List Item) → flat_map new.item_functions (map lift_item is) ≡ map lift_func (flat_map old.item_functions is)
lifted_functions [] = refl
lifted_functions (Globals gs ∷ is) = lifted_functions is
lifted_functions (Function f ∷ is) = ap (λ fs. lift_func f ∷ fs) (lifted_functions is)

pub same_globals : (is : List Item) → flat_map new.item_globals (map lift_item is) ≡ flat_map old.item_globals is
same_globals [] = refl
same_globals (Globals gs ∷ is) = ap (λ l. gs ++ l) (same_globals is)
same_globals (Function f ∷ is) = same_globals is

found : (x : List ℕ) (fs : List Func) → new.function_named x (map lift_func fs) ≡ option_map lift_func (old.function_named x fs)
found x [] = refl
found x (f ∷ fs) =
    elim (bytes_eq f.name.text x) as (λ b. cond b (Some (lift_func f)) (new.function_named x (map lift_func fs)) ≡ option_map lift_func (cond b (Some f) (old.function_named x fs))) [
      | true ↦ refl
      | false ↦ found x fs
    ]

named : (x : List ℕ) (p : Program) → new.function_named x (new.functions_of (lifted p)) ≡ option_map lift_func (old.function_named x (old.functions_of p))
named x p = ap (λ fs. new.function_named x fs) (lifted_functions p.items) ∙ found x (old.functions_of p)

same_run : (f : Option Func) (vs : List ℤ) (c : Context) → new.run_function (option_map lift_func f) vs c ≡ old.run_function f vs c
same_run None vs c = refl
same_run (Some f) vs c = both (same_effects f.body c (zip (texts_of (param_names f.params)) vs ∷ [])) (λ out. refl)

same_calls : (left : ℕ) (p : Program) (n : ℕ) → new.calls left (lifted p) n ≡ old.calls left p n
same_calls zero p n = refl
same_calls (suc left) p n =
    let same : (active : Bool) (f : Name) (vs : List ℤ) → new.calls (suc left) (lifted p) n active f vs ≡ old.calls (suc left) p n active f vs =
    λ active f vs.
    ap (λ g. new.run_function g vs (record { calls = new.calls left (lifted p) n; turns = n; is_active = active })) (named f.text p)
    ∙ ap (λ calls. new.run_function (option_map lift_func (old.function_named f.text (old.functions_of p))) vs (record { calls = calls; turns = n; is_active = active })) (same_calls left p n)
    ∙ same_run (old.function_named f.text (old.functions_of p)) vs (record { calls = old.calls left p n; turns = n; is_active = active })
    in λ i active f vs. same active f vs i

-- ---- whole runs

-- main's first call, where so many calls may be made inside it
same_main : (left : ℕ) (p : Program) (n : ℕ) → new.run_function (new.main_of (lifted p)) [] (record { calls = new.calls left (lifted p) n; turns = n; is_active = false }) ≡ old.run_function (old.main_of p) [] (record { calls = old.calls left p n; turns = n; is_active = false })
same_main left p n =
    ap (λ f. new.run_function f [] (record { calls = new.calls left (lifted p) n; turns = n; is_active = false })) (named (codes "main") p)
    ∙ ap (λ calls. new.run_function (option_map lift_func (old.main_of p)) [] (record { calls = calls; turns = n; is_active = false })) (same_calls left p n)
    ∙ same_run (old.main_of p) [] (record { calls = old.calls left p n; turns = n; is_active = false })

abbrev world_of : List ℤ → List GlobalDecl → World
world_of input gs = record { store = map (λ g. (g.name.text, words_at_start input g.name.text g.shape)) gs; text = []; turns = 0 }

same_world : (p : Program) (input : List ℤ) → new.opening_world (lifted p) input ≡ old.opening_world p input
same_world p input = ap (world_of input) (same_globals p.items)

same_meaning : (p : Program) (input : List ℤ) (n : ℕ) → new.meaning (lifted p) input n ≡ old.meaning p input n
same_meaning p input n = λ i. ending_of_main (same_main (CALL_LIMIT - 1) p n i (same_world p input i))

pub keeps_meaning : (p : Program) → KeepsMeaning p (lifted p)
keeps_meaning p input r =
    ((λ h. (h.0, same_meaning p input h.0 ∙ h.1)), (λ h. (h.0, sym (same_meaning p input h.0) ∙ h.1)))

abbrev room_of : List GlobalDecl → ℕ
room_of gs = sum_by (λ g. if bytes_eq g.name.text (codes "in") then array_words g.shape else 0) gs

pub keeps_inputs : (p : Program) → KeepsInputs p (lifted p)
keeps_inputs p input =
    let same : new.room_for_input (lifted p) ≡ old.room_for_input p =
    ap room_of (same_globals p.items)
    in (subst (λ room. length input ≤ room) (sym same), subst (λ room. length input ≤ room) same)
