-- What global names and locals stand for. ISO/IEC 9899:2011, 6.2.1 (scopes).
use Rattle.std.specs.Prelude.{ℕ, ◌+◌, Bool, false, List, [], ◌∷◌, ◌++◌, length, Option, None, is_some}
use Rattle.hx_tree.specs.Tree.{Name, LocalDecl, Init, NoInit, InitLocals, InitAssign, Shape, Scalar, Array, GlobalDecl, param_names, Item, Globals, Function, Program}
use Rattle.hx_tree.specs.World.{Map, look_up, first_of}
use Rattle.hx_tree.specs.Meaning.{item_functions}
use Rattle.hx_tree.specs.Accepted.{shape_words, item_words}
use Rattle.hx_resolved.specs.declared.symbol.Symbol.{Symbol}
use Rattle.hx_resolved.specs.declared.symbol.Symbol.TheVariants as symbol

-- ---- globals and functions

-- the global with its first store word
abbrev pub symbol_at : Shape → ℕ → Symbol
symbol_at (Scalar c) word = symbol.Int word
symbol_at (Array n cs) word = symbol.Array word n

-- the globals of a declaration, in source order from a store word on
abbrev pub global_symbols : List GlobalDecl → ℕ → Map Symbol
global_symbols [] word = []
global_symbols (g ∷ gs) word = (g.name.text, symbol_at g.shape word) ∷ global_symbols gs (word + shape_words g.shape)

abbrev pub item_symbols : Item → (word function : ℕ) → Map Symbol
item_symbols (Globals gs) word function = global_symbols gs word
item_symbols (Function f) word function = (f.name.text, symbol.Function function f.returns (length (param_names f.params))) ∷ []

abbrev pub items_symbols : List Item → (word function : ℕ) → Map Symbol
items_symbols [] word function = []
items_symbols (i ∷ is) word function =
    item_symbols i word function ++ items_symbols is (word + item_words i) (function + length (item_functions i))

abbrev pub symbols_of : Program → Map Symbol
symbols_of p = items_symbols p.items 0 0

-- the global names that are declared so far, and how many store words and functions they have
pub record Declared : Type 0 where
  pub symbols : Map Symbol
  pub words : ℕ
  pub functions : ℕ

-- ---- locals

-- the private word of each local that is known, a map for each scope, the innermost first
abbrev pub Scopes : Type 0
Scopes = List (Map ℕ)

-- the locals that are known at a place, and the next private word
pub record Known : Type 0 where
  pub scopes : Scopes
  pub next : ℕ

-- a name that the innermost scope has
abbrev pub is_in_scope : List ℕ → Scopes → Bool
is_in_scope x [] = false
is_in_scope x (scope ∷ outer) = is_some (look_up scope x)

abbrev pub private_word : Scopes → List ℕ → Option ℕ
private_word [] x = None
private_word (scope ∷ outer) x = first_of (look_up scope x) (private_word outer x)

-- a new local in the innermost scope
abbrev pub with_word : Scopes → List ℕ → ℕ → Scopes
with_word [] x k = []
with_word (scope ∷ outer) x k = ((x, k) ∷ scope) ∷ outer

-- the locals of a declaration, in source order from a private word on
abbrev pub with_words : List LocalDecl → Scopes → ℕ → Scopes
with_words [] scopes k = scopes
with_words (d ∷ ds) scopes k = with_words ds (with_word scopes d.name.text k) (k + 1)

abbrev pub words_after_init : Init → Scopes → ℕ → Scopes
words_after_init NoInit scopes k = scopes
words_after_init (InitLocals ds) scopes k = with_words ds scopes k
words_after_init (InitAssign a) scopes k = scopes

-- names in source order from a private word on
abbrev pub numbered : List Name → ℕ → Map ℕ
numbered [] k = []
numbered (x ∷ xs) k = (x.text, k) ∷ numbered xs (k + 1)
