-- The items of a program are declared exactly where they are accepted, and the global names are then those of the program.
use Rattle.std.proofs.Common.{◌≡◌, ℕ, ◌+◌, ◌≤◌, Bool, true, false, List, [], ◌∷◌, ◌++◌, length, map, refl, ap, sym, ◌∙◌, subst, append_assoc, append-nil, add-zero, add_assoc, length-append, arith, if◌then◌else◌}
use Rattle.std.specs.Prelude.{Option, Some, None, Ok, is_some, nat_le, nat_lt, bytes_eq, flat_map, sum_by}
use Rattle.std.specs.List.{AllByRecursion}
use Rattle.std.proofs.lemmas.Bool.{leb-true, le-leb, ltb-true, lt-ltb}
use Rattle.std.proofs.lemmas.List.{map-append}
use Rattle.std.proofs.lemmas.List.Sums.{sum_by-cons}
use Rattle.std.proofs.lemmas.List.Elements.{All-from_recursion, recursion_from_All}
use Rattle.hx_tree.specs.declared.limits.TheConstants.{CONSTANT_LIMIT, FUNCTION_LIMIT, PARAMETER_LIMIT, GLOBAL_LIMIT, ARRAY_LIMIT}
use Rattle.hx_tree.specs.declared.tree.Constant.{Constant}
use Rattle.hx_tree.specs.Tree as tree
use Rattle.hx_tree.specs.World.{Map, look_up}
use Rattle.hx_tree.specs.Meaning.{item_functions}
use Rattle.hx_tree.specs.Accepted.{Kind, kind_of_shape, item_kinds, is_among, shape_words, item_words, AcceptsConstant, AcceptsShape}
use Rattle.hx_check.specs.declared.error.CheckError.TheVariants.{LimitPassed}
use Rattle.hx_resolved.specs.declared.symbol.Symbol.{Symbol}
use Rattle.hx_resolved.specs.declared.symbol.Symbol.TheVariants as symbol
use Rattle.hx_resolved.specs.Symbols.{Declared, symbol_at, global_symbols, item_symbols, items_symbols}
use Rattle.hx_check.specs.Reading.{unless, check_free, constants_fit, shape_fits, declare_global, declare_globals, declare_item, declare_items}
use Rattle.hx_check.proofs.Steps.{bind_ok, bind_at, else_ok, else_at, same_ok}
use Rattle.hx_check.proofs.WhatIsNamed.{kind_of_symbol, kinds}
use Rattle.hx_check.proofs.Assignments.{unless_at, unless_ok}
use Rattle.hx_check.proofs.Distinct.{Fresh, fresh_append, fresh_first, fresh_second}

-- ---- names that are declared

abbrev pub names_in : Map Symbol → List (List ℕ)
names_in symbols = map (λ entry. entry.0) symbols

among-step : (b t : Bool) (s : Symbol) (o : Option Symbol) → t ≡ is_some o → (if b then true else t) ≡ is_some (if b then Some s else o)
among-step true t s o h = refl
among-step false t s o h = h

is_declared : (x : List ℕ) (symbols : Map Symbol) → is_among x (names_in symbols) ≡ is_some (look_up symbols x)
is_declared x [] = refl
is_declared x (entry ∷ rest) = among-step (bytes_eq entry.0 x) (is_among x (names_in rest)) entry.1 (look_up rest x) (is_declared x rest)

free_at : (x : tree.Name) (d : Declared) → is_among x.text (names_in d.symbols) ≡ false → check_free x d ≡ Ok tt
free_at x d h = else_at (is_some (look_up d.symbols x.text)) _ _ (sym (is_declared x.text d.symbols) ∙ h)

free_known : (x : tree.Name) (d : Declared) (u : Unit {0}) → check_free x d ≡ Ok u → is_among x.text (names_in d.symbols) ≡ false
free_known x d u h = is_declared x.text d.symbols ∙ (else_ok (is_some (look_up d.symbols x.text)) _ _ u h).0

-- ---- shapes

split : (b c : Bool) → (if b then c else false) ≡ true → (b ≡ true) × (c ≡ true)
split true c h = (refl, h)
split false c h = cc

join : (b c : Bool) → b ≡ true → c ≡ true → (if b then c else false) ≡ true
join b c h k = ap (λ b'. if b' then c else false) h ∙ k

constants_at : (cs : List Constant) → AllByRecursion AcceptsConstant cs → constants_fit cs ≡ true
constants_at [] h = refl
constants_at (c ∷ cs) h = join (nat_le c.number CONSTANT_LIMIT) (constants_fit cs) (le-leb c.number CONSTANT_LIMIT h.0) (constants_at cs h.1)

constants_known : (cs : List Constant) → constants_fit cs ≡ true → AllByRecursion AcceptsConstant cs
constants_known [] h = tt
constants_known (c ∷ cs) h =
    let a = split (nat_le c.number CONSTANT_LIMIT) (constants_fit cs) h in
    (leb-true c.number CONSTANT_LIMIT a.0, constants_known cs a.1)

shape_at : (s : tree.Shape) → AcceptsShape s → shape_fits s ≡ true
shape_at (tree.Scalar None) h = refl
shape_at (tree.Scalar (Some c)) h = le-leb c.number CONSTANT_LIMIT h
shape_at (tree.Array n cs) h =
    join (nat_le 1 n) _ (le-leb 1 n h.0)
    (join (nat_le n ARRAY_LIMIT) _ (le-leb n ARRAY_LIMIT h.1)
    (join (nat_le (length cs) n) _ (le-leb (length cs) n h.2) (constants_at cs (recursion_from_All AcceptsConstant cs h.3))))

shape_known : (s : tree.Shape) → shape_fits s ≡ true → AcceptsShape s
shape_known (tree.Scalar None) h = tt
shape_known (tree.Scalar (Some c)) h = leb-true c.number CONSTANT_LIMIT h
shape_known (tree.Array n cs) h =
    let a = split (nat_le 1 n) _ h in
    let b = split (nat_le n ARRAY_LIMIT) _ a.1 in
    let c = split (nat_le (length cs) n) (constants_fit cs) b.1 in
    (leb-true 1 n a.0, leb-true n ARRAY_LIMIT b.0, leb-true (length cs) n c.0, All-from_recursion AcceptsConstant cs (constants_known cs c.1))

-- ---- one global

abbrev after_global : tree.GlobalDecl → Declared → Declared
after_global g d = record { symbols = d.symbols ++ (g.name.text, symbol_at g.shape d.words) ∷ []; words = d.words + shape_words g.shape; functions = d.functions }

complete_global : (g : tree.GlobalDecl) (d : Declared) → is_among g.name.text (names_in d.symbols) ≡ false → AcceptsShape g.shape → d.words + shape_words g.shape ≤ GLOBAL_LIMIT → declare_global g d ≡ Ok (after_global g d)
complete_global g d free fits room =
    bind_at _ _ _ _ (free_at g.name d free)
    (bind_at _ _ _ _ (unless_at (shape_fits g.shape) (LimitPassed g.name.pos) (shape_at g.shape fits))
    (bind_at _ _ _ _ (unless_at (nat_le (d.words + shape_words g.shape) GLOBAL_LIMIT) (LimitPassed g.name.pos) (le-leb (d.words + shape_words g.shape) GLOBAL_LIMIT room)) refl))

sound_global : (g : tree.GlobalDecl) (d r : Declared) → declare_global g d ≡ Ok r → (is_among g.name.text (names_in d.symbols) ≡ false) × AcceptsShape g.shape × (d.words + shape_words g.shape ≤ GLOBAL_LIMIT)
sound_global g d r h =
    let a = bind_ok (check_free g.name d) _ r h in
    let b = bind_ok (unless (shape_fits g.shape) (LimitPassed g.name.pos)) _ r a.2 in
    let c = bind_ok (unless (nat_le (d.words + shape_words g.shape) GLOBAL_LIMIT) (LimitPassed g.name.pos)) _ r b.2 in (
      free_known g.name d a.0 a.1,
      shape_known g.shape (unless_ok (shape_fits g.shape) (LimitPassed g.name.pos) b.0 b.1),
      leb-true (d.words + shape_words g.shape) GLOBAL_LIMIT (unless_ok (nat_le (d.words + shape_words g.shape) GLOBAL_LIMIT) (LimitPassed g.name.pos) c.0 c.1),
    )

-- ---- a declaration of globals

abbrev global_names : List tree.GlobalDecl → List (List ℕ)
global_names gs = map (λ g. g.name.text) gs

abbrev words_of : List tree.GlobalDecl → ℕ
words_of gs = sum_by (λ g. shape_words g.shape) gs

abbrev Shapes : List tree.GlobalDecl → Type 0
Shapes gs = AllByRecursion (λ g. AcceptsShape g.shape) gs

abbrev after_globals : List tree.GlobalDecl → Declared → Declared
after_globals gs d = record { symbols = d.symbols ++ global_symbols gs d.words; words = d.words + words_of gs; functions = d.functions }

names-push : (symbols : Map Symbol) (x : List ℕ) (s : Symbol) → names_in (symbols ++ (x, s) ∷ []) ≡ names_in symbols ++ x ∷ []
names-push symbols x s = map-append (λ entry. entry.0) symbols ((x, s) ∷ [])

complete_globals : (gs : List tree.GlobalDecl) (d : Declared) → Fresh (names_in d.symbols) (global_names gs) → Shapes gs → d.words + words_of gs ≤ GLOBAL_LIMIT → declare_globals gs d ≡ Ok (after_globals gs d)
complete_globals [] d fresh fits room =
    ap (λ s. Ok (record { symbols = s; words = d.words; functions = d.functions })) (sym (append-nil d.symbols))
    ∙ ap (λ n. Ok (record { symbols = d.symbols ++ []; words = n; functions = d.functions })) (sym (add-zero d.words))
complete_globals (g ∷ gs) d fresh fits room =
    let s : List ℕ × Symbol = (g.name.text, symbol_at g.shape d.words) in
    let sum : words_of (g ∷ gs) ≡ shape_words g.shape + words_of gs = sum_by-cons (λ (x : tree.GlobalDecl). shape_words x.shape) g gs in
    let n = shape_words g.shape in
    let later = subst (λ (l : List (List ℕ)). Fresh l (global_names gs)) (sym (names-push d.symbols g.name.text (symbol_at g.shape d.words))) fresh.1 in
    bind_at _ _ _ _ (complete_global g d fresh.0 fits.0 (omega arith))
    (complete_globals gs (after_global g d) later fits.1 (omega arith)
    ∙ ap (λ l. Ok (record { symbols = l; words = (d.words + n) + words_of gs; functions = d.functions })) (append_assoc d.symbols (s ∷ []) (global_symbols gs (d.words + n)))
    ∙ ap (λ m. Ok (record { symbols = d.symbols ++ global_symbols (g ∷ gs) d.words; words = m; functions = d.functions })) (add_assoc d.words n (words_of gs) ∙ ap (λ k. d.words + k) (sym sum)))

sound_globals : (gs : List tree.GlobalDecl) (d r : Declared) → d.words ≤ GLOBAL_LIMIT → declare_globals gs d ≡ Ok r → Fresh (names_in d.symbols) (global_names gs) × Shapes gs × (d.words + words_of gs ≤ GLOBAL_LIMIT)
sound_globals [] d r low h = (tt, tt, omega arith)
sound_globals (g ∷ gs) d r low h =
    let sum : words_of (g ∷ gs) ≡ shape_words g.shape + words_of gs = sum_by-cons (λ (x : tree.GlobalDecl). shape_words x.shape) g gs in
    let a = bind_ok (declare_global g d) _ r h in
    let here = sound_global g d a.0 a.1 in
    let same = same_ok (declare_global g d) a.0 (after_global g d) a.1 (complete_global g d here.0 here.1 here.2) in
    let go = subst (λ (d' : Declared). declare_globals gs d' ≡ Ok r) same a.2 in
    let rest = sound_globals gs (after_global g d) r here.2 go in (
      (here.0, subst (λ (l : List (List ℕ)). Fresh l (global_names gs)) (names-push d.symbols g.name.text (symbol_at g.shape d.words)) rest.0),
      (here.1, rest.1),
      (let room : (d.words + shape_words g.shape) + words_of gs ≤ GLOBAL_LIMIT = rest.2 in omega arith),
    )

-- ---- items

abbrev pub item_names : tree.Item → List (List ℕ)
item_names (tree.Globals gs) = global_names gs
item_names (tree.Function f) = f.name.text ∷ []

abbrev pub ItemFits : tree.Item → Type 0
ItemFits (tree.Globals gs) = Shapes gs
ItemFits (tree.Function f) = length (tree.param_names f.params) ≤ PARAMETER_LIMIT

abbrev after_item : tree.Item → Declared → Declared
after_item i d = record { symbols = d.symbols ++ item_symbols i d.words d.functions; words = d.words + item_words i; functions = d.functions + length (item_functions i) }

global_symbols-names : (gs : List tree.GlobalDecl) (word : ℕ) → names_in (global_symbols gs word) ≡ global_names gs
global_symbols-names [] word = refl
global_symbols-names (g ∷ gs) word = ap (λ l. g.name.text ∷ l) (global_symbols-names gs (word + shape_words g.shape))

item_symbols-names : (i : tree.Item) (word function : ℕ) → names_in (item_symbols i word function) ≡ item_names i
item_symbols-names (tree.Globals gs) word function = global_symbols-names gs word
item_symbols-names (tree.Function f) word function = refl

names-after : (i : tree.Item) (d : Declared) → names_in (after_item i d).symbols ≡ names_in d.symbols ++ item_names i
names-after i d =
    map-append (λ entry. entry.0) d.symbols (item_symbols i d.words d.functions)
    ∙ ap (λ l. names_in d.symbols ++ l) (item_symbols-names i d.words d.functions)

complete_item : (i : tree.Item) (d : Declared) → Fresh (names_in d.symbols) (item_names i) → ItemFits i → d.words + item_words i ≤ GLOBAL_LIMIT → d.functions + length (item_functions i) ≤ FUNCTION_LIMIT → declare_item i d ≡ Ok (after_item i d)
complete_item (tree.Globals gs) d fresh fits words functions =
    complete_globals gs d fresh fits words
    ∙ ap (λ n. Ok (record { symbols = d.symbols ++ global_symbols gs d.words; words = d.words + words_of gs; functions = n })) (sym (add-zero d.functions))
complete_item (tree.Function f) d fresh fits words functions =
    let symbols = d.symbols ++ (f.name.text, symbol.Function d.functions f.returns (length (tree.param_names f.params))) ∷ [] in
    bind_at _ _ _ _ (free_at f.name d fresh.0)
    (bind_at _ _ _ _ (unless_at (nat_lt d.functions FUNCTION_LIMIT) (LimitPassed f.name.pos) (lt-ltb d.functions FUNCTION_LIMIT (omega arith)))
    (bind_at _ _ _ _ (unless_at (nat_le (length (tree.param_names f.params)) PARAMETER_LIMIT) (LimitPassed f.name.pos) (le-leb (length (tree.param_names f.params)) PARAMETER_LIMIT fits))
    (ap (λ n. Ok (record { symbols = symbols; words = n; functions = d.functions + 1 })) (sym (add-zero d.words)))))

sound_item : (i : tree.Item) (d r : Declared) → d.words ≤ GLOBAL_LIMIT → d.functions ≤ FUNCTION_LIMIT → declare_item i d ≡ Ok r → Fresh (names_in d.symbols) (item_names i) × ItemFits i × (d.words + item_words i ≤ GLOBAL_LIMIT) × (d.functions + length (item_functions i) ≤ FUNCTION_LIMIT)
sound_item (tree.Globals gs) d r low few h = let a = sound_globals gs d r low h in (a.0, a.1, a.2, omega arith)
sound_item (tree.Function f) d r low few h =
    let a = bind_ok (check_free f.name d) _ r h in
    let b = bind_ok (unless (nat_lt d.functions FUNCTION_LIMIT) (LimitPassed f.name.pos)) _ r a.2 in
    let c = bind_ok (unless (nat_le (length (tree.param_names f.params)) PARAMETER_LIMIT) (LimitPassed f.name.pos)) _ r b.2 in
    let room = ltb-true d.functions FUNCTION_LIMIT (unless_ok (nat_lt d.functions FUNCTION_LIMIT) (LimitPassed f.name.pos) b.0 b.1) in (
      (free_known f.name d a.0 a.1, tt),
      leb-true (length (tree.param_names f.params)) PARAMETER_LIMIT (unless_ok (nat_le (length (tree.param_names f.params)) PARAMETER_LIMIT) (LimitPassed f.name.pos) c.0 c.1),
      omega arith,
      omega arith,
    )

-- ---- all items

abbrev pub names_of : List tree.Item → List (List ℕ)
names_of is = flat_map item_names is

abbrev pub functions_in : List tree.Item → ℕ
functions_in is = length (flat_map item_functions is)

abbrev pub after_items : List tree.Item → Declared → Declared
after_items is d = record { symbols = d.symbols ++ items_symbols is d.words d.functions; words = d.words + sum_by item_words is; functions = d.functions + functions_in is }

-- what is asked of items behind these
pub record Fit (is : List tree.Item) (d : Declared) : Type 0 where
  pub fresh : Fresh (names_in d.symbols) (names_of is)
  pub fits : AllByRecursion ItemFits is
  pub words : d.words + sum_by item_words is ≤ GLOBAL_LIMIT
  pub functions : d.functions + functions_in is ≤ FUNCTION_LIMIT

functions-cons : (i : tree.Item) (is : List tree.Item) → functions_in (i ∷ is) ≡ length (item_functions i) + functions_in is
functions-cons i is = length-append (item_functions i) (flat_map item_functions is)

pub complete_items : (is : List tree.Item) (d : Declared) → Fit is d → declare_items is d ≡ Ok (after_items is d)
complete_items [] d h =
    ap (λ s. Ok (record { symbols = s; words = d.words; functions = d.functions })) (sym (append-nil d.symbols))
    ∙ ap (λ n. Ok (record { symbols = d.symbols ++ []; words = n; functions = d.functions })) (sym (add-zero d.words))
    ∙ ap (λ n. Ok (record { symbols = d.symbols ++ []; words = d.words + 0; functions = n })) (sym (add-zero d.functions))
complete_items (i ∷ is) d h =
    let count = functions-cons i is in
    let sum : sum_by item_words (i ∷ is) ≡ item_words i + sum_by item_words is = sum_by-cons item_words i is in
    let words : d.words + sum_by item_words (i ∷ is) ≤ GLOBAL_LIMIT = h.words in
    let functions : d.functions + functions_in (i ∷ is) ≤ FUNCTION_LIMIT = h.functions in
    let n = length (item_functions i) in
    let later : Fit is (after_item i d) = record {
      fresh = subst (λ (l : List (List ℕ)). Fresh l (names_of is)) (sym (names-after i d)) (fresh_second (names_in d.symbols) (item_names i) (names_of is) h.fresh);
      fits = h.fits.1;
      words = omega arith;
      functions = omega arith;
    } in
    let total : (d.functions + n) + functions_in is ≡ d.functions + functions_in (i ∷ is) = omega arith in
    bind_at _ _ _ _ (complete_item i d (fresh_first (names_in d.symbols) (item_names i) (names_of is) h.fresh) h.fits.0 (omega arith) (omega arith))
    (complete_items is (after_item i d) later
    ∙ ap (λ l. Ok (record { symbols = l; words = (d.words + item_words i) + sum_by item_words is; functions = (d.functions + n) + functions_in is }))
    (append_assoc d.symbols (item_symbols i d.words d.functions) (items_symbols is (d.words + item_words i) (d.functions + n)))
    ∙ ap (λ m. Ok (record { symbols = d.symbols ++ items_symbols (i ∷ is) d.words d.functions; words = m; functions = (d.functions + n) + functions_in is }))
    (add_assoc d.words (item_words i) (sum_by item_words is) ∙ ap (λ k. d.words + k) (sym sum))
    ∙ ap (λ m. Ok (record { symbols = d.symbols ++ items_symbols (i ∷ is) d.words d.functions; words = d.words + sum_by item_words (i ∷ is); functions = m })) total)

pub sound_items : (is : List tree.Item) (d r : Declared) → d.words ≤ GLOBAL_LIMIT → d.functions ≤ FUNCTION_LIMIT → declare_items is d ≡ Ok r → Fit is d
sound_items [] d r low few h = record { fresh = tt; fits = tt; words = omega arith; functions = omega arith }
sound_items (i ∷ is) d r low few h =
    let a = bind_ok (declare_item i d) _ r h in
    let here = sound_item i d a.0 low few a.1 in
    let same = same_ok (declare_item i d) a.0 (after_item i d) a.1 (complete_item i d here.0 here.1 here.2 here.3) in
    let go = subst (λ (d' : Declared). declare_items is d' ≡ Ok r) same a.2 in
    let rest = sound_items is (after_item i d) r here.2 here.3 go in
    let later = subst (λ (l : List (List ℕ)). Fresh l (names_of is)) (names-after i d) rest.fresh in
    let count = functions-cons i is in
    let sum : sum_by item_words (i ∷ is) ≡ item_words i + sum_by item_words is = sum_by-cons item_words i is in
    let words : (d.words + item_words i) + sum_by item_words is ≤ GLOBAL_LIMIT = rest.words in
    let functions : (d.functions + length (item_functions i)) + functions_in is ≤ FUNCTION_LIMIT = rest.functions in
    record {
      fresh = fresh_append (names_in d.symbols) (item_names i) (names_of is) here.0 later;
      fits = (here.1, rest.fits);
      words = omega arith;
      functions = omega arith;
    }

-- ---- the kinds of the program

shape-kind : (s : tree.Shape) (word : ℕ) → kind_of_symbol (symbol_at s word) ≡ kind_of_shape s
shape-kind (tree.Scalar c) word = refl
shape-kind (tree.Array n cs) word = refl

global_symbols-kinds : (gs : List tree.GlobalDecl) (word : ℕ) → kinds (global_symbols gs word) ≡ map (λ g. (g.name.text, kind_of_shape g.shape)) gs
global_symbols-kinds [] word = refl
global_symbols-kinds (g ∷ gs) word =
    ap (λ k. (g.name.text, k) ∷ kinds (global_symbols gs (word + shape_words g.shape))) (shape-kind g.shape word)
    ∙ ap (λ l. (g.name.text, kind_of_shape g.shape) ∷ l) (global_symbols-kinds gs (word + shape_words g.shape))

item_symbols-kinds : (i : tree.Item) (word function : ℕ) → kinds (item_symbols i word function) ≡ item_kinds i
item_symbols-kinds (tree.Globals gs) word function = global_symbols-kinds gs word
item_symbols-kinds (tree.Function f) word function = refl

pub kinds_are : (is : List tree.Item) (word function : ℕ) → kinds (items_symbols is word function) ≡ flat_map item_kinds is
kinds_are [] word function = refl
kinds_are (i ∷ is) word function =
    let rest = items_symbols is (word + item_words i) (function + length (item_functions i)) in
    map-append (λ entry. (entry.0, kind_of_symbol entry.1)) (item_symbols i word function) rest
    ∙ ap (λ l. l ++ kinds rest) (item_symbols-kinds i word function)
    ∙ ap (λ l. item_kinds i ++ l) (kinds_are is (word + item_words i) (function + length (item_functions i)))

globals-names : (gs : List tree.GlobalDecl) → map (λ (entry : List ℕ × Kind). entry.0) (map (λ (g : tree.GlobalDecl). (g.name.text, kind_of_shape g.shape)) gs) ≡ global_names gs
globals-names [] = refl
globals-names (g ∷ gs) = ap (λ l. g.name.text ∷ l) (globals-names gs)

item_kinds-names : (i : tree.Item) → map (λ entry. entry.0) (item_kinds i) ≡ item_names i
item_kinds-names (tree.Globals gs) = globals-names gs
item_kinds-names (tree.Function f) = refl

pub names_are : (is : List tree.Item) → map (λ entry. entry.0) (flat_map item_kinds is) ≡ names_of is
names_are [] = refl
names_are (i ∷ is) =
    map-append (λ entry. entry.0) (item_kinds i) (flat_map item_kinds is)
    ∙ ap (λ l. l ++ map (λ entry. entry.0) (flat_map item_kinds is)) (item_kinds-names i)
    ∙ ap (λ l. item_names i ++ l) (names_are is)
