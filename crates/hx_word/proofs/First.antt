-- The machine as a run begins.
use Rattle.std.proofs.Common.{◌≡◌, ℕ, ◌≤◌, ℤ, pos, List, [], ◌∷◌, length, replicate, Option, Some, None, refl, ap, sym, subst, ◌∙◌, arith, length-set, length-append, length-take, length-drop}
use Rattle.std.proofs.lemmas.Option.{get_or_from_slice_get}
use Rattle.hx_tree.specs.declared.limits.TheConstants.{CELL_LIMIT}
use Rattle.hx_code.specs.declared.word.Array.{Array}
use Rattle.hx_code.specs.Code.{CodeView, FuncView, main_of, store_words}
use Rattle.hx_code.specs.Valid.{IsValid, IsArrayOrNone}
use Rattle.hx_code.specs.Local.{LocalView, begun, blank}
use Rattle.hx_code.specs.Fits.{FitsIn, FitsLocal, region_in}
use Rattle.hx_code.specs.Machine.{first_local, opening_store, filled, counted, array_words, InputFits}
use Rattle.hx_word.specs.Plain.{RunsOutside}

length-filled : (code : CodeView) (a : Option Array) (input words : List ℤ) → IsArrayOrNone code.globals a → length words ≡ code.globals → length input ≤ array_words a → length (filled a input words) ≡ code.globals
length-filled code None input words there long fits = long
length-filled code (Some a) input words there long fits =
    simp (length-append, length-take, length-drop) (omega arith)

length-counted : (a : Option ℕ) (input words : List ℤ) → length (counted a input words) ≡ length words
length-counted None input words = refl
length-counted (Some a) input words = length-set words a (pos (length input))

pub length-opening : (code : CodeView) → IsValid code → (input : List ℤ) → InputFits code input → length (opening_store code input) ≡ store_words code
length-opening code valid input fits =
    let globals = counted code.input_length input (filled code.input input code.opening) in
    let one = length-counted code.input_length input (filled code.input input code.opening) in
    let two = length-filled code code.input input code.opening valid.limits.input valid.limits.opening fits in
    length-append globals (replicate CELL_LIMIT (pos 0)) ∙ omega (arith, one, two)

pub first_runs : (code : CodeView) → IsValid code → RunsOutside code (first_local code)
first_runs code valid =
    let main = valid.limits.main in
    let is : main_of code ≡ main.0 = get_or_from_slice_get code.functions code.main main.0 (record { name = []; entry = 0; parameters = 0; privates = 0 }) main.1 in
    let entry = valid.functions code.main main.0 main.1 in
    let one : FitsIn code None (begun main.0.entry blank) = (record { spot = record { function = code.main; region = None; height = 0 }; at = entry; operands = refl; privates = refl }, ap region_in entry) in
    let made : FuncView → LocalView = λ g. record { below = 0; region = None; calls = begun g.entry blank ∷ [] } in
    let fits : FitsLocal code (made main.0) = record { deep = omega arith; calls = (one, tt) } in
    record { local = subst (λ g. FitsLocal code (made g)) (sym is) fits; below = refl; region = refl }
