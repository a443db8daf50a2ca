-- Globals, functions and programs that are read are spelled so.
use Rattle.std.proofs.Common.{◌≡◌, ℕ, List, [], ◌∷◌, None, Result, Ok, Err, refl, subst}
use Rattle.hx_tree.specs.declared.token.Mark.TheVariants as mark
use Rattle.hx_tree.specs.declared.tree.Constant.{Constant}
use Rattle.hx_tree.specs.declared.tree.Returns.{Returns}
use Rattle.hx_tree.specs.declared.tree.Returns.TheVariants as returns
use Rattle.hx_tree.specs.Tree.{Name, Item, Program}
use Rattle.hx_tree.specs.Lexis.{Token}
use Rattle.hx_tree.specs.Grammar.{The, Named, Listed, IsConstant, AreValues, IsShape, IsGlobal, IsParams, returns_mark, IsItem, AreItems, IsProgram, ◌⨾◌}
use Rattle.hx_grammar.specs.Reading.{Refusal, ◌>>=◌, Reading, behind, all_of, until_end, constant_turn, constant_at, values_turn, values_at, shape_turn, shape_at, global_at, globals_at, param_at, params_turn, params_at, function_at, int_turn, int_item_at, void_item_at, item_turn, item_at, stmt_at, program_at}
use Rattle.hx_grammar.proofs.Readings.{made_is, Yields, yields, yields_none, yields_then, yields_behind, yields_if, yields_more, yields_name, yields_number}
use Rattle.hx_grammar.proofs.Lists.{OneAfterOther, end_yields, listed_yields, listed_from_yields}
use Rattle.hx_grammar.proofs.StmtSound.{parts_yields, stmt_yields}

-- ---- globals

constant_yields : (from : List Token) → Yields (constant_at from) (λ c to. IsConstant c from to)
unfolding constant_at
constant_yields from =
    yields_if mark.Minus from (constant_turn from)
    (λ a h. yields_then _ _ (yields_number a) (λ n to i. yields (a, h, i)))
    (λ none. yields_then _ _ (yields_number from) (λ n to i. yields (from, refl, i)))

values_are : (cs : List Constant) (from a b c to : List Token) → The mark.Assign from a → The mark.OpenBrace a b → Listed IsConstant cs b c
    → The mark.CloseBrace c to → AreValues cs from to
values_are [] from a b c to h i j k = absurd j
values_are (x ∷ xs) from a b c to h i j k = (a, h, (b, i, (c, j, k)))

values_yields : (from : List Token) → Yields (values_at from) (λ cs to. AreValues cs from to)
unfolding values_at
values_yields from =
    yields_if mark.Assign from (values_turn from)
    (λ a h. yields_behind _ _ _ (λ b i. yields_then _ _ (listed_yields {P = IsConstant} _ constant_yields b) (λ cs c j. yields_behind _ _ _ (λ to k. yields (values_are cs from a b c to h i j.0 k)))))
    (λ none. yields refl)

shape_yields : (from : List Token) → Yields (shape_at from) (λ s to. IsShape s from to)
unfolding shape_at
shape_yields from =
    yields_if mark.OpenBracket from (λ o. shape_turn from o (behind mark.Assign from))
    (λ a h. yields_then _ _ (yields_number a) (λ n b i. yields_behind _ _ _ (λ c j. yields_then _ _ (values_yields c) (λ cs to k. yields (a, h, (b, i, (c, j, k)))))))
    (λ none. yields_if mark.Assign from (shape_turn from None)
    (λ a h. yields_then _ _ (constant_yields a) (λ c to i. yields (a, h, i)))
    (λ none. yields refl))

global_yields : (from : List Token) → Yields (global_at from) (λ g to. IsGlobal g from to)
unfolding global_at
global_yields from = yields_then _ _ (yields_name from) (λ x a h. yields_then _ _ (shape_yields a) (λ s to i. yields (a, h, i)))

globals_yields : (x : Name) (begin from : List Token) → Named x begin from
    → Yields (globals_at x from) (λ i to. (all : List Token) → The mark.Int all begin → IsItem i all to)
unfolding globals_at
globals_yields x begin from named =
    yields_then _ _ (shape_yields from)
    (λ s a h. yields_then _ _ (listed_from_yields {P = IsGlobal} _ global_yields _ a) (λ gs b i. yields_behind _ _ _ (λ to c.
    yields (λ all int. rw (i.1) (begin, int, (b, (a, (from, named, h), i.2), c))))))

-- ---- functions

param_yields : (from : List Token) → Yields (param_at from) (λ x to. (The mark.Int ⨾ Named x) from to)
unfolding param_at
param_yields from = yields_behind _ _ _ (λ a h. yields_more (λ x to i. (a, h, i)) (yields_name a))

params_yields : (from : List Token) → Yields (params_at from) (λ ps to. (IsParams ps ⨾ The mark.CloseParen) from to)
unfolding params_at
params_yields from =
    yields_if mark.CloseParen from (λ o. params_turn from o (behind mark.Void from)) (λ to h. yields (from, refl, h))
    (λ none. yields_if mark.Void from (params_turn from None)
    (λ a h. yields_behind _ _ _ (λ to c. yields (a, h, c)))
    (λ none. yields_then _ _ (listed_yields {P = λ x. The mark.Int ⨾ Named x} _ param_yields from) (λ xs a h. yields_behind _ _ _ (λ to c. yields (a, h.0, c)))))

function_yields : (room : ℕ) (r : Returns) (x : Name) (begin a b from : List Token) → The (returns_mark r) begin a → Named x a b
    → The mark.OpenParen b from
    → Yields (function_at room r x from) (λ i to. IsItem i begin to)
unfolding function_at
function_yields room r x begin a b from h i j =
    yields_then _ _ (params_yields from)
    (λ ps c k. yields_behind _ _ _ (λ d l. yields_then _ _ (parts_yields room (stmt_at room) (stmt_yields room) d) (λ body to m.
    yields (a, h, (b, i, (from, j, (k.0, k.1, (c, k.2, (d, l, m)))))))))

int_item_yields : (room : ℕ) (begin from : List Token) → The mark.Int begin from
    → Yields (int_item_at room from) (λ i to. IsItem i begin to)
unfolding int_item_at
int_item_yields room begin from int =
    yields_then _ _ (yields_name from) (λ x a h. yields_if mark.OpenParen a (int_turn room x a)
    (λ b i. function_yields room returns.Int x begin from a b int h i)
    (λ none. yields_more (λ i to f. f begin int) (globals_yields x from a h)))

void_item_yields : (room : ℕ) (begin from : List Token) → The mark.Void begin from
    → Yields (void_item_at room from) (λ i to. IsItem i begin to)
unfolding void_item_at
void_item_yields room begin from void =
    yields_then _ _ (yields_name from) (λ x a h. yields_behind _ _ _ (λ b i. function_yields room returns.Void x begin from a b void h i))

item_yields : (room : ℕ) (from : List Token) → Yields (item_at room from) (λ i to. IsItem i from to)
unfolding item_at
item_yields room from =
    yields_if mark.Int from (λ o. item_turn room from o (behind mark.Void from)) (λ a h. int_item_yields room from a h)
    (λ none. yields_if mark.Void from (item_turn room from None) (λ a h. void_item_yields room from a h) (λ none. yields_none))

-- ---- programs

items_are : (is : List Item) (from to : List Token) → OneAfterOther IsItem is from to → AreItems is from to
items_are [] from to h = h
items_are (i ∷ is) from to (a, h, hs) = (a, h, items_are is a to hs)

abbrev program_of : Reading (List Item) → Result Program Refusal
program_of read = read >>= λ is. Ok (record { items = is.0 })

program_ok : (tokens : List Token) (p : Program) (read : Reading (List Item)) → Yields read (λ is to. AreItems is tokens [])
    → program_of read ≡ Ok p → AreItems p.items tokens []
program_ok tokens p (Ok x) h e =
    let q : Program = record { items = x.0 } in
    let qp : q ≡ p = made_is q p e in
    subst (λ (r : Program). AreItems r.items tokens []) qp (h.of x.0 x.1 refl)
program_ok tokens p (Err f) h e = absurd cc

pub program_sound : (room : ℕ) (tokens : List Token) (p : Program) → program_at room tokens ≡ Ok p → IsProgram p tokens
unfolding program_at
program_sound room tokens p e =
    program_ok tokens p (all_of until_end (item_at room) tokens)
    (yields_more (λ is to h. items_are is tokens [] h) (end_yields {P = IsItem} (item_at room) (item_yields room) tokens)) e
