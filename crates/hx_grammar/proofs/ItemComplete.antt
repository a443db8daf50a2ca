-- Globals, functions and programs that are spelled are read, at any room, or they're too deep.
use Rattle.std.proofs.Common.{◌≡◌, ℕ, suc, ◌+◌, ◌<◌, ◌≤◌, Bool, true, false, List, [], ◌∷◌, length, Some, None, Ok, Err, ◌⊎◌, inl, inr, refl, ap, subst, arith}
use Rattle.hx_tree.specs.declared.token.Mark.TheVariants as mark
use Rattle.hx_tree.specs.declared.tree.Constant.{Constant}
use Rattle.hx_tree.specs.declared.tree.Returns.{Returns}
use Rattle.hx_tree.specs.declared.tree.Returns.TheVariants as returns
use Rattle.hx_tree.specs.Tree.{Name, Shape, Scalar, Array, GlobalDecl, Params, NoParams, VoidParams, NamedParams, Parts, Func, Item, Globals, Function, Program}
use Rattle.hx_tree.specs.Lexis.{Token}
use Rattle.hx_tree.specs.Grammar.{The, Named, Numeral, Sign, EachBehindComma, IsConstant, AreValues, IsShape, IsGlobal, IsParams, returns_mark, AreParts, IsItem, AreItems, IsProgram, ◌⨾◌}
use Rattle.hx_tree.specs.Height.{greatest, parts_height, item_height, program_height}
use Rattle.hx_grammar.specs.Reading.{TooDeep, behind, listed, listed_from, constant_turn, constant_at, values_turn, values_at, shape_turn, shape_at, global_at, globals_at, param_at, params_turn, params_at, parts_at, stmt_at, function_at, int_turn, int_item_at, void_item_at, item_turn, item_at, program_at}
use Rattle.hx_grammar.proofs.Readings.{behind_other, behind_number, the_shorter, named_shorter, numeral_shorter, Answers, answer, answer_as, answer_at, answer_then, answer_behind, answer_there, answer_absent, answer_name, answer_one_name, answer_number, at_height, node, Ended, ended}
use Rattle.hx_grammar.proofs.Lists.{Each, IsRead, BeforeEnd, OneAfterOther, comma_first, listed_answers, listed_from_answers, end_answers}
use Rattle.hx_grammar.proofs.StmtShape.{parts_length}
use Rattle.hx_grammar.proofs.StmtComplete.{parts_list, parts_answers}

-- what holds no expression takes no room
abbrev flat : {X : Type 0} → X → ℕ
flat x = 0

greatest_flat : {X : Type 0} (xs : List X) → greatest flat xs ≡ 0
greatest_flat [] = refl
greatest_flat (x ∷ xs) = let h = greatest_flat xs in omega arith

-- ---- constants

constant_case : (is_negated : Bool) (i n : ℕ) (from to : List Token) → (Sign is_negated ⨾ Numeral i) from to
    → Answers n 0 (constant_at from) (record { is_negated = is_negated; number = i }) to
unfolding constant_at
constant_case false i n from to (a, h, is) =
    let num : Numeral i from to = rw h is in
    answer_absent mark.Minus from (constant_turn from) (behind_number mark.Minus i from to num) (answer_number i from _ num answer)
constant_case true i n from to (a, h, is) = answer_there mark.Minus from (constant_turn from) refl h (answer_number i a _ is answer)

constant_shorter : (is_negated : Bool) (i : ℕ) (from to : List Token) → (Sign is_negated ⨾ Numeral i) from to → length to < length from
constant_shorter false i from to (a, h, is) =
    let p = numeral_shorter i a to is in let e : length from ≡ length a = ap length h in omega arith
constant_shorter true i from to (a, h, is) = let p = the_shorter mark.Minus from a h in let q = numeral_shorter i a to is in omega arith

constants_read : (cs : List Constant) (n : ℕ) → Each (IsRead n flat constant_at (BeforeEnd IsConstant)) cs
constants_read [] n = tt
constants_read (c ∷ cs) n =
    (record { answers = λ from to h. constant_case c.is_negated c.number n from to h.0; shorter = λ from to h. constant_shorter c.is_negated c.number from to h.0 }, constants_read cs n)

-- ---- globals

values_case : (cs : List Constant) (n : ℕ) (from to : List Token) → AreValues cs from to → Ended to → Answers n 0 (values_at from) cs to
unfolding values_at
values_case [] n from to is end = answer_absent mark.Assign from (values_turn from) (rw is (end.initialiser)) (answer_at is)
values_case (c ∷ cs) n from to (a, h, (b, i, (d, j, k))) end =
    answer_there mark.Assign from (values_turn from) refl h
    (answer_behind mark.OpenBrace a _ refl i
    (at_height (answer_then (listed constant_at b) _
    (listed_answers IsConstant n flat constant_at (c ∷ cs) (constants_read (c ∷ cs) n) b d j (ended mark.CloseBrace d to (refl, refl, refl, refl, refl) k) (behind_other mark.Comma mark.CloseBrace d to refl k))
    (answer_behind mark.CloseBrace d _ refl k answer)) 0 (let e = greatest_flat (c ∷ cs) in omega arith)))

constants_length : (cs : List Constant) (from to : List Token) → EachBehindComma IsConstant cs from to → length to ≤ length from
constants_length [] from to h = let e : length from ≡ length to = ap length h in omega arith
constants_length (c ∷ cs) from to (a, h, (b, i, j)) =
    let p = the_shorter mark.Comma from a h in let q = constant_shorter c.is_negated c.number a b i in let r = constants_length cs b to j in
    omega arith

values_length : (cs : List Constant) (from to : List Token) → AreValues cs from to → length to ≤ length from
values_length [] from to h = let e : length from ≡ length to = ap length h in omega arith
values_length (c ∷ cs) from to (a, h, (b, i, (d, (e, j, k), l))) =
    let p = the_shorter mark.Assign from a h in let q = the_shorter mark.OpenBrace a b i in
    let r = constant_shorter c.is_negated c.number b e j in
    let s = constants_length cs e d k in let t = the_shorter mark.CloseBrace d to l in omega arith

shape_case : (s : Shape) (n : ℕ) (from to : List Token) → IsShape s from to → Ended to → Answers n 0 (shape_at from) s to
unfolding shape_at
shape_case (Scalar None) n from to is end =
    answer_absent mark.OpenBracket from (λ o. shape_turn from o (behind mark.Assign from)) (rw is (end.index))
    (answer_absent mark.Assign from (shape_turn from None) (rw is (end.initialiser)) (answer_at is))
shape_case (Scalar (Some c)) n from to (a, h, is) end =
    answer_absent mark.OpenBracket from (λ o. shape_turn from o (behind mark.Assign from))
    (behind_other mark.OpenBracket mark.Assign from a refl h)
    (answer_there mark.Assign from (shape_turn from None) refl h
    (at_height (answer_then (constant_at a) _ (constant_case c.is_negated c.number n a to is) answer) 0 refl))
shape_case (Array i cs) n from to (a, h, (b, num, (c, close, values))) end =
    answer_there mark.OpenBracket from (λ o. shape_turn from o (behind mark.Assign from)) refl h
    (answer_number i a _ num (answer_behind mark.CloseBracket b _ refl close
    (at_height (answer_then (values_at c) _ (values_case cs n c to values end) answer) 0 refl)))

shape_length : (s : Shape) (from to : List Token) → IsShape s from to → length to ≤ length from
shape_length (Scalar None) from to h = let e : length from ≡ length to = ap length h in omega arith
shape_length (Scalar (Some c)) from to (a, h, is) =
    let p = the_shorter mark.Assign from a h in let q = constant_shorter c.is_negated c.number a to is in omega arith
shape_length (Array i cs) from to (a, h, (b, num, (c, close, values))) =
    let p = the_shorter mark.OpenBracket from a h in let q = numeral_shorter i a b num in let r = the_shorter mark.CloseBracket b c close in
    let s = values_length cs c to values in omega arith

-- no `(` follows the name of a global
shape_no_call : (s : Shape) (from to : List Token) → IsShape s from to → Ended to → behind mark.OpenParen from ≡ None
shape_no_call (Scalar None) from to is end = rw is (end.arguments)
shape_no_call (Scalar (Some c)) from to (a, h, is) end = behind_other mark.OpenParen mark.Assign from a refl h
shape_no_call (Array i cs) from to (a, h, is) end = behind_other mark.OpenParen mark.OpenBracket from a refl h

global_case : (g : GlobalDecl) (n : ℕ) (from to : List Token) → IsGlobal g from to → Ended to → Answers n 0 (global_at from) g to
unfolding global_at
global_case g n from to (a, h, is) end =
    answer_name g.name from _ h (at_height (answer_then (shape_at a) _ (shape_case g.shape n a to is end) answer) 0 refl)

global_shorter : (g : GlobalDecl) (from to : List Token) → IsGlobal g from to → length to < length from
global_shorter g from to (a, h, is) = let p = named_shorter g.name from a h in let q = shape_length g.shape a to is in omega arith

globals_read : (gs : List GlobalDecl) (n : ℕ) → Each (IsRead n flat global_at (BeforeEnd IsGlobal)) gs
globals_read [] n = tt
globals_read (g ∷ gs) n =
    (record { answers = λ from to h. global_case g n from to h.0 h.1; shorter = λ from to h. global_shorter g from to h.0 }, globals_read gs n)

globals_length : (gs : List GlobalDecl) (from to : List Token) → EachBehindComma IsGlobal gs from to → length to ≤ length from
globals_length [] from to h = let e : length from ≡ length to = ap length h in omega arith
globals_length (g ∷ gs) from to (a, h, (b, i, j)) =
    let p = the_shorter mark.Comma from a h in let q = global_shorter g a b i in let r = globals_length gs b to j in omega arith

globals_case : (g : GlobalDecl) (gs : List GlobalDecl) (n room : ℕ) (from a b c to : List Token) → Named g.name from a → IsShape g.shape a b
    → EachBehindComma IsGlobal gs b c → The mark.Semicolon c to
    → Answers n 0 (int_item_at room from) (Globals (g ∷ gs)) to
unfolding int_item_at globals_at
globals_case g gs n room from a b c to name shape more end =
    let last = ended mark.Semicolon c to (refl, refl, refl, refl, refl) end in
    let follows = comma_first IsGlobal gs b c more last in
    answer_name g.name from _ name
    (answer_absent mark.OpenParen a (int_turn room g.name a) (shape_no_call g.shape a b shape follows)
    (at_height (answer_then (shape_at a) _ (shape_case g.shape n a b shape follows)
    (answer_then (listed_from global_at g b) _
    (listed_from_answers IsGlobal n flat global_at g gs (globals_read gs n) b c more last (behind_other mark.Comma mark.Semicolon c to refl end))
    (answer_behind mark.Semicolon c _ refl end answer))) 0 (let e = greatest_flat gs in omega arith)))

-- ---- parameters

abbrev IsParam : Name → List Token → List Token → Type 0
IsParam x = The mark.Int ⨾ Named x

param_case : (x : Name) (n : ℕ) (from to : List Token) → IsParam x from to → Answers n 0 (param_at from) x to
unfolding param_at
param_case x n from to (a, h, is) = answer_behind mark.Int from _ refl h (answer_one_name x a is)

param_shorter : (x : Name) (from to : List Token) → IsParam x from to → length to < length from
param_shorter x from to (a, h, is) = let p = the_shorter mark.Int from a h in let q = named_shorter x a to is in omega arith

params_read : (xs : List Name) (n : ℕ) → Each (IsRead n flat param_at (BeforeEnd IsParam)) xs
params_read [] n = tt
params_read (x ∷ xs) n =
    (record { answers = λ from to h. param_case x n from to h.0; shorter = λ from to h. param_shorter x from to h.0 }, params_read xs n)

named_params_length : (xs : List Name) (from to : List Token) → EachBehindComma IsParam xs from to → length to ≤ length from
named_params_length [] from to h = let e : length from ≡ length to = ap length h in omega arith
named_params_length (x ∷ xs) from to (a, h, (b, i, j)) =
    let p = the_shorter mark.Comma from a h in let q = param_shorter x a b i in let r = named_params_length xs b to j in omega arith

params_length : (ps : Params) (from to : List Token) → IsParams ps from to → length to ≤ length from
params_length NoParams from to h = let e : length from ≡ length to = ap length h in omega arith
params_length VoidParams from to h = let p = the_shorter mark.Void from to h in omega arith
params_length (NamedParams []) from to h = absurd h
params_length (NamedParams (x ∷ xs)) from to (a, h, i) =
    let p = param_shorter x from a h in let q = named_params_length xs a to i in omega arith

params_case : (ps : Params) (n : ℕ) (from mid to : List Token) → IsParams ps from mid → The mark.CloseParen mid to
    → Answers n 0 (params_at from) ps to
unfolding params_at
params_case NoParams n from mid to is end =
    answer_there mark.CloseParen from (λ o. params_turn from o (behind mark.Void from)) refl (rw is end) answer
params_case VoidParams n from mid to is end =
    answer_absent mark.CloseParen from (λ o. params_turn from o (behind mark.Void from))
    (behind_other mark.CloseParen mark.Void from mid refl is)
    (answer_there mark.Void from (params_turn from None) refl is (answer_behind mark.CloseParen mid _ refl end answer))
params_case (NamedParams []) n from mid to is end = absurd is
params_case (NamedParams (x ∷ xs)) n from mid to (a, (b, int, name), more) end =
    answer_absent mark.CloseParen from (λ o. params_turn from o (behind mark.Void from))
    (behind_other mark.CloseParen mark.Int from b refl int)
    (answer_absent mark.Void from (params_turn from None) (behind_other mark.Void mark.Int from b refl int)
    (at_height (answer_then (listed param_at from) _
    (listed_answers IsParam n flat param_at (x ∷ xs) (params_read (x ∷ xs) n) from mid (a, (b, int, name), more) (ended mark.CloseParen mid to (refl, refl, refl, refl, refl) end)
    (behind_other mark.Comma mark.CloseParen mid to refl end))
    (answer_behind mark.CloseParen mid _ refl end answer)) 0 (let e = greatest_flat (x ∷ xs) in omega arith)))

-- ---- functions

-- what stands behind the `(` of a function
abbrev Rest : Params → Parts → List Token → List Token → Type 0
Rest ps body = IsParams ps ⨾ The mark.CloseParen ⨾ The mark.OpenBrace ⨾ AreParts body ⨾ The mark.CloseBrace

function_case : (room : ℕ) (f : Func) (from to : List Token) → Rest f.params f.body from to
    → Answers room (parts_height f.body) (function_at room f.returns f.name from) (Function f) to
unfolding function_at
function_case room f from to (a, params, (b, close, (c, brace, (d, body, end)))) =
    at_height (answer_then (params_at from) _ (params_case f.params room from a b params close)
    (answer_behind mark.OpenBrace b _ refl brace
    (answer_then (parts_at room (stmt_at room) c) _ (parts_answers f.body room c d to body end)
    (answer_as (ap (λ (x : Parts). Function (record { returns = f.returns; name = f.name; params = f.params; body = x })) (parts_list f.body))))))
    (parts_height f.body) (omega arith)

void_case : (room : ℕ) (x : Name) (i : Item) (h : ℕ) (from a b to : List Token) → Named x from a → The mark.OpenParen a b
    → Answers room h (function_at room returns.Void x b) i to → Answers room h (void_item_at room from) i to
unfolding void_item_at
void_case room x i h from a b to name call is = answer_name x from _ name (answer_behind mark.OpenParen a _ refl call is)

int_case : (room : ℕ) (x : Name) (i : Item) (h : ℕ) (from a b to : List Token) → Named x from a → The mark.OpenParen a b
    → Answers room h (function_at room returns.Int x b) i to → Answers room h (int_item_at room from) i to
unfolding int_item_at
int_case room x i h from a b to name call is = answer_name x from _ name (answer_there mark.OpenParen a (int_turn room x a) refl call is)

-- ---- items

begins_int : (n room h : ℕ) (i : Item) (from a to : List Token) → The mark.Int from a → Answers n h (int_item_at room a) i to
    → Answers n h (item_at room from) i to
unfolding item_at
begins_int n room h i from a to int is = answer_there mark.Int from (λ o. item_turn room from o (behind mark.Void from)) refl int is

begins_void : (n room h : ℕ) (i : Item) (from a to : List Token) → The mark.Void from a → Answers n h (void_item_at room a) i to
    → Answers n h (item_at room from) i to
unfolding item_at
begins_void n room h i from a to void is =
    answer_absent mark.Int from (λ o. item_turn room from o (behind mark.Void from)) (behind_other mark.Int mark.Void from a refl void)
    (answer_there mark.Void from (item_turn room from None) refl void is)

-- a function by what it returns
by_returns : (room : ℕ) (r : Returns) (f : Func) (from a b c to : List Token) → f.returns ≡ r → The (returns_mark r) from a
    → Named f.name a b → The mark.OpenParen b c → Rest f.params f.body c to
    → Answers room (parts_height f.body) (item_at room from) (Function f) to
by_returns room returns.Int f from a b c to e h name call rest =
    let is : Answers room (parts_height f.body) (function_at room returns.Int f.name c) (Function f) to =
    subst (λ (s : Returns). Answers room (parts_height f.body) (function_at room s f.name c) (Function f) to) e
    (function_case room f c to rest) in
    begins_int room room (parts_height f.body) (Function f) from a to h
    (int_case room f.name (Function f) (parts_height f.body) a b c to name call is)
by_returns room returns.Void f from a b c to e h name call rest =
    let is : Answers room (parts_height f.body) (function_at room returns.Void f.name c) (Function f) to =
    subst (λ (s : Returns). Answers room (parts_height f.body) (function_at room s f.name c) (Function f) to) e
    (function_case room f c to rest) in
    begins_void room room (parts_height f.body) (Function f) from a to h
    (void_case room f.name (Function f) (parts_height f.body) a b c to name call is)

item_answers : (i : Item) (room : ℕ) (from to : List Token) → IsItem i from to
    → Answers (suc (suc room)) (item_height i) (item_at room from) i to
item_answers (Globals []) room from to (a, int, (b, is, end)) = absurd is
item_answers (Globals (g ∷ gs)) room from to (a, int, (b, (c, (d, name, shape), more), end)) =
    node
    (begins_int (suc room) room 0 (Globals (g ∷ gs)) from a to int (globals_case g gs (suc room) room a d c b to name shape more end)) 1 refl
item_answers (Function f) room from to (a, h, (b, name, (c, call, rest))) =
    node (node (by_returns room f.returns f from a b c to refl h name call rest) (suc (parts_height f.body)) refl)
    (item_height (Function f)) (omega arith)

item_shorter : (i : Item) (from to : List Token) → IsItem i from to → length to < length from
item_shorter (Globals []) from to (a, int, (b, is, end)) = absurd is
item_shorter (Globals (g ∷ gs)) from to (a, int, (b, (c, i, more), end)) =
    let p = the_shorter mark.Int from a int in let q = global_shorter g a c i in let r = globals_length gs c b more in
    let s = the_shorter mark.Semicolon b to end in omega arith
item_shorter (Function f) from to (a, h, (b, name, (c, call, (d, params, (e, close, (g, brace, (i, body, end))))))) =
    let p = the_shorter (returns_mark f.returns) from a h in let q = named_shorter f.name a b name in
    let r = the_shorter mark.OpenParen b c call in let s = params_length f.params c d params in
    let t = the_shorter mark.CloseParen d e close in let u = the_shorter mark.OpenBrace e g brace in let v = parts_length f.body g i body in
    let w = the_shorter mark.CloseBrace i to end in omega arith

-- ---- programs

items_read : (is : List Item) (room : ℕ) → Each (IsRead (suc (suc room)) item_height (item_at room) IsItem) is
items_read [] room = tt
items_read (i ∷ is) room = (record { answers = item_answers i room; shorter = item_shorter i }, items_read is room)

one_after_other : (is : List Item) (from to : List Token) → AreItems is from to → OneAfterOther IsItem is from to
one_after_other [] from to h = h
one_after_other (i ∷ is) from to (a, h, hs) = (a, h, one_after_other is a to hs)

-- a program that is spelled is read, or it's too deep
pub program_complete : (room : ℕ) (tokens : List Token) (p : Program) → IsProgram p tokens
    → ((program_height p ≤ room + 3) × (program_at room tokens ≡ Ok p)) ⊎ ((room + 3 < program_height p) × (program_at room tokens ≡ Err TooDeep))
unfolding program_at
program_complete room tokens p is =
    let a = end_answers IsItem (suc (suc room)) item_height (item_at room) p.items (items_read p.items room) item_shorter tokens
    (one_after_other p.items tokens [] is) in
    elim (a.or_deep) [
      | inl (fits, h) ↦ inl (omega arith, rw h refl)
      | inr (deep, h) ↦ inr (omega arith, rw h refl)
    ]
