-- Profile 1: what a program means: its functions, its opening world and its whole run.
use Rattle.std.specs.Prelude.{◌≡◌, ℕ, zero, suc, ◌-◌, Bool, false, if◌then◌else◌, List, [], ◌∷◌, length, map, flat_map, zip, find, codes, bytes_eq, sum_by, ℤ, pos, Option, Some, None, ◌≤◌}
use Rattle.hx_tree.specs.declared.outcome.FaultKind.TheVariants.{CallTooDeep}
use Rattle.hx_tree.specs.declared.limits.TheConstants.{CALL_LIMIT}
use Rattle.hx_tree.specs.Tree.{GlobalDecl, param_names}
use Rattle.hx_profile1.specs.Tree.{Program, Item, Globals, Function, Func}
use Rattle.hx_tree.specs.World.{World, Run, ◌>>=◌, gives, faults}
use Rattle.hx_tree.specs.Value.{Calling}
use Rattle.hx_tree.specs.Effect.{Context}
use Rattle.hx_profile1.specs.Effect.{effects}
use Rattle.hx_tree.specs.Meaning.{texts_of, returned, words_at_start, array_words, Ending, ending_of_main}

-- ---- functions

abbrev pub item_functions : Item → List Func
item_functions (Globals gs) = []
item_functions (Function f) = f ∷ []

abbrev pub item_globals : Item → List GlobalDecl
item_globals (Globals gs) = gs
item_globals (Function f) = []

abbrev pub functions_of : Program → List Func
functions_of p = flat_map item_functions p.items

abbrev pub globals_of : Program → List GlobalDecl
globals_of p = flat_map item_globals p.items

abbrev pub function_named : List ℕ → List Func → Option Func
function_named x fs = find (λ f. bytes_eq f.name.text x) fs

-- the body, in one scope with the parameters; an unknown function, which no accepted program calls, gives 0
abbrev pub run_function : Option Func → List ℤ → Context → Run ℤ
run_function None vs c = gives (pos 0)
run_function (Some f) vs c = do
  (exit, env) ← effects f.body c (zip (texts_of (param_names f.params)) vs ∷ [])
  gives (returned exit)

-- a call where this many calls may be made inside one another, and each loop takes so many turns
abbrev pub calls : ℕ → Program → ℕ → Bool → Calling
calls zero p turns active f vs = faults CallTooDeep f.pos
calls (suc left) p turns active f vs =
    run_function (function_named f.text (functions_of p)) vs (record { calls = calls left p turns; turns = turns; is_active = active })

-- ---- the opening world

abbrev pub opening_world : Program → List ℤ → World
opening_world p input =
    record { store = map (λ g. (g.name.text, words_at_start input g.name.text g.shape)) (globals_of p); text = []; turns = 0 }

abbrev pub room_for_input : Program → ℕ
room_for_input p = sum_by (λ g. if bytes_eq g.name.text (codes "in") then array_words g.shape else 0) (globals_of p)

-- the input isn't longer than the array `in`; without one only the empty input fits
abbrev pub InputFits : Program → List ℤ → Type 0
InputFits p input = length input ≤ room_for_input p

-- ---- whole runs

abbrev pub main_of : Program → Option Func
main_of p = function_named (codes "main") (functions_of p)

-- main's first call
abbrev pub main_context : Program → ℕ → Context
main_context p turns = record { calls = calls (CALL_LIMIT - 1) p turns; turns = turns; is_active = false }

-- the whole run, or none where some loop would take more turns than said
abbrev pub meaning : Program → List ℤ → ℕ → Option Ending
meaning p input turns = ending_of_main (run_function (main_of p) [] (main_context p turns) (opening_world p input))

-- the program ends so
abbrev pub Means : Program → List ℤ → Ending → Type 0
Means p input r = (n : ℕ) × (meaning p input n ≡ Some r)
