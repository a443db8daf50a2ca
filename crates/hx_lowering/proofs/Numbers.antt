-- A run of lowered code has numbers of 32 bits alone, where its input has.
use Rattle.std.proofs.Common.{ℕ, ◌+◌, ◌-◌, ◌≤◌, Bool, true, false, List, [], ◌∷◌, ◌++◌, length, map, drop, take, replicate, Option, Some, None, ℤ, pos, w32, FitsSigned, arith, if◌then◌else◌}
use Rattle.std.specs.Prelude.{All, bytes_eq, codes, flat_map, sum_by}
use Rattle.std.specs.List.{AllByRecursion}
use Rattle.std.proofs.lemmas.List.Elements.{recursion_from_All}
use Rattle.std.proofs.lemmas.List.Sums.{sum_by-cons}
use Rattle.hx_tree.specs.declared.tree.Constant.{Constant}
use Rattle.hx_tree.specs.declared.tree.UnaryOp.TheVariants.{Negate}
use Rattle.hx_tree.specs.declared.limits.TheConstants.{CELL_LIMIT, PRIVATE_LIMIT}
use Rattle.hx_tree.specs.Numbers.{unary_value}
use Rattle.hx_tree.specs.Tree.{Program, Item, Globals, Function, GlobalDecl, Shape, Scalar, Array}
use Rattle.hx_tree.specs.Accepted.{AcceptsItem, AcceptsShape, AcceptsConstant, IsAccepted, shape_words, item_words}
use Rattle.hx_tree.specs.Meaning.{item_globals, globals_of, opening_words, constant_value, array_words, InputFits}
use Rattle.hx_resolved.specs.Resolve.{resolve}
use Rattle.hx_code.specs.declared.word.Array as code_array
use Rattle.hx_code.specs.Machine.{opening_machine, filled, counted}
use Rattle.hx_lowering.specs.Draft.{code_of}
use Rattle.hx_lowering.proofs.Follow.{Always}
use Rattle.hx_lowering.proofs.Ranged.{IsNumber, AreNumbers, small_number, unary_number, numbers_set, numbers_drop, numbers_take, numbers_and, zeros}
use Rattle.hx_lowering.proofs.Kept.{stays_so}
use Rattle.hx_lowering.proofs.Constants.{code_small}

-- ---- the opening store

constant_number : (c : Constant) → AcceptsConstant c → IsNumber (constant_value c)
constant_number c ok = go c.is_negated
  where
    go : (b : Bool) → IsNumber (if b then unary_value Negate (pos c.number) else pos c.number)
    go true = unary_number Negate (pos c.number) (small_number c.number ok)
    go false = small_number c.number ok

constants_numbers : (cs : List Constant) → AllByRecursion AcceptsConstant cs → AreNumbers (map constant_value cs)
constants_numbers [] ok = tt
constants_numbers (c ∷ cs) ok = (constant_number c ok.0, constants_numbers cs ok.1)

shape_numbers : (sh : Shape) → AcceptsShape sh → AreNumbers (opening_words sh)
shape_numbers (Scalar None) ok = (small_number 0 (omega arith), tt)
shape_numbers (Scalar (Some c)) ok = (constant_number c ok, tt)
shape_numbers (Array n cs) ok = numbers_and (map constant_value cs) (replicate (n - length cs) (pos 0)) (constants_numbers cs (recursion_from_All AcceptsConstant cs ok.3)) (zeros (n - length cs))

abbrev Shaped : List GlobalDecl → Type 0
Shaped gs = AllByRecursion (λ (g : GlobalDecl). AcceptsShape g.shape) gs

shaped_and : (gs hs : List GlobalDecl) → Shaped gs → Shaped hs → Shaped (gs ++ hs)
shaped_and [] hs f h = h
shaped_and (g ∷ gs) hs f h = (f.0, shaped_and gs hs f.1 h)

items_shaped : (ks : _) (is : List Item) → AllByRecursion (AcceptsItem ks) is → Shaped (flat_map item_globals is)
items_shaped ks [] ok = tt
items_shaped ks (Globals gs ∷ is) ok = shaped_and gs (flat_map item_globals is) (recursion_from_All _ gs ok.0) (items_shaped ks is ok.1)
items_shaped ks (Function f ∷ is) ok = items_shaped ks is ok.1

globals_numbers : (gs : List GlobalDecl) → Shaped gs → AreNumbers (flat_map (λ (g : GlobalDecl). opening_words g.shape) gs)
globals_numbers [] h = tt
globals_numbers (g ∷ gs) h = numbers_and (opening_words g.shape) _ (shape_numbers g.shape h.0) (globals_numbers gs h.1)

-- ---- the input

filled_numbers : (o : Option code_array.Array) (input words : List ℤ) → AreNumbers input → AreNumbers words → AreNumbers (filled o input words)
filled_numbers None input words i w = w
filled_numbers (Some a) input words i w = numbers_and (take a.base words ++ input) (drop (a.base + length input) words) (numbers_and (take a.base words) input (numbers_take a.base words w) i) (numbers_drop (a.base + length input) words w)

counted_numbers : (o : Option ℕ) (input words : List ℤ) → length input ≤ 2147483647 → AreNumbers words → AreNumbers (counted o input words)
counted_numbers None input words few w = w
counted_numbers (Some a) input words few w = numbers_set words a (pos (length input)) w (small_number (length input) few)

input_numbers : (input : List ℤ) → AllByRecursion (FitsSigned w32) input → AreNumbers input
input_numbers [] h = tt
input_numbers (x ∷ xs) h = (h.0, input_numbers xs h.1)

-- ---- an input that fits is short

room_of : GlobalDecl → ℕ
room_of g = if bytes_eq g.name.text (codes "in") then array_words g.shape else 0

one_room : (g : GlobalDecl) → room_of g ≤ shape_words g.shape
unfolding room_of
one_room g = go (bytes_eq g.name.text (codes "in")) g.shape
  where
    go : (b : Bool) (sh : Shape) → (if b then array_words sh else 0) ≤ shape_words sh
    go true (Scalar c) = omega arith
    go true (Array n cs) = omega arith
    go false sh = omega arith

rooms_and : (gs rest : List GlobalDecl) (n : ℕ) → sum_by room_of rest ≤ n → sum_by room_of (gs ++ rest) ≤ sum_by (λ (g : GlobalDecl). shape_words g.shape) gs + n
rooms_and [] rest n h = omega (arith, h)
rooms_and (g ∷ gs) rest n h =
    omega (arith, sum_by-cons room_of g (gs ++ rest), sum_by-cons (λ (q : GlobalDecl). shape_words q.shape) g gs, one_room g, rooms_and gs rest n h)

items_room : (is : List Item) → sum_by room_of (flat_map item_globals is) ≤ sum_by item_words is
items_room [] = omega arith
items_room (Globals gs ∷ is) = omega (arith, sum_by-cons item_words (Globals gs) is, rooms_and gs (flat_map item_globals is) (sum_by item_words is) (items_room is))
items_room (Function f ∷ is) = omega (arith, sum_by-cons item_words (Function f) is, items_room is)

is_short : (p : Program) (accepted : IsAccepted p) (input : List ℤ) → InputFits p input → length input ≤ 2147483647
unfolding room_of
is_short p accepted input fits = omega (arith, fits, items_room p.items, accepted.few_words)

pub always_numbers : (p : Program) (accepted : IsAccepted p) (input : List ℤ) → All (FitsSigned w32) input → InputFits p input → Always (code_of (resolve p)) (opening_machine (code_of (resolve p)) input)
always_numbers p accepted input numbers fits k =
    let few = is_short p accepted input fits in
    let code = code_of (resolve p) in
    let opening = globals_numbers (globals_of p) (items_shaped _ p.items (recursion_from_All _ p.items accepted.items)) in
    let given = input_numbers input (recursion_from_All (FitsSigned w32) input numbers) in
    stays_so code (code_small p accepted) (opening_machine code input)
    (record {
      store = numbers_and _ (replicate CELL_LIMIT (pos 0)) (counted_numbers code.input_length input _ few (filled_numbers code.input input code.opening given opening)) (zeros CELL_LIMIT);
      calls = ((zeros PRIVATE_LIMIT, tt), tt);
      within = tt;
    }) k
