-- What the words of a region are called: the globals of its program, and the private words that it carries in cells behind them.
use Rattle.std.specs.Prelude.{ℕ, ◌+◌, ◌-◌, ◌^◌, min, Bool, true, false, List, [], ◌∷◌, ◌++◌, map, filter_map, Option, option_map, option_and_then, slice_get}
use Rattle.std.specs.Option.{option_map_or}
use Rattle.hx_tree.specs.Tree.{Name, LocalDecl, Init, NoInit, InitLocals, InitAssign, Stmt, Block, If, IfElse, While, DoWhile, For, Part, Locals, Statement, Parts, no_parts, part_and, Shape, Scalar, Array, GlobalDecl, Func, param_names, Program}
use Rattle.hx_tree.specs.Meaning.{functions_of, globals_of, texts_of}
use Rattle.hx_tree.specs.Accepted.{shape_words}
use Rattle.hx_code.specs.Code.{CodeView, RegionView}
use Rattle.hx_code.specs.declared.table.Carried.{Carried}
use Rattle.hx_trace.specs.declared.telling.Called.{Called}

-- so many words of the store from a base on, and their name
pub record Named : Type 0 where
  pub base : ℕ
  pub length : ℕ
  pub is_array : Bool
  pub name : List ℕ

abbrev pub named : Called → Named
named c = record { base = c.base; length = c.length; is_array = c.is_array; name = c.name.items }

-- a place in the store, where it fits 32 bits, and else the greatest number that does
abbrev pub place : ℕ → ℕ
place n = min n (2 ^ 32 - 1)

-- ---- globals

abbrev pub is_array : Shape → Bool
is_array (Scalar c) = false
is_array (Array n cs) = true

-- a global behind so many words
abbrev pub global_name : GlobalDecl → ℕ → Named
global_name g before = record { base = place before; length = shape_words g.shape; is_array = is_array g.shape; name = g.name.text }

-- globals in source order, the first behind so many words
abbrev pub global_names : List GlobalDecl → ℕ → List Named
global_names [] before = []
global_names (g ∷ gs) before = global_name g before ∷ global_names gs (before + shape_words g.shape)

-- ---- private words

abbrev pub declared_names : List LocalDecl → List Name
declared_names ds = map (λ d. d.name) ds

abbrev pub init_names : Init → List Name
init_names NoInit = []
init_names (InitLocals ds) = declared_names ds
init_names (InitAssign a) = []

-- the locals that are declared in a statement, in source order
abbrev mutual
  pub stmt_names : Stmt → List Name
  stmt_names (Block ps) = parts_names ps
  stmt_names (If test s) = stmt_names s
  stmt_names (IfElse test s other) = stmt_names s ++ stmt_names other
  stmt_names (While marked test s) = stmt_names s
  stmt_names (DoWhile s test) = stmt_names s
  stmt_names (For marked h s) = init_names h.init ++ stmt_names s
  stmt_names _ = []

  pub part_names : Part → List Name
  part_names (Locals ds) = declared_names ds
  part_names (Statement s) = stmt_names s

  pub parts_names : Parts → List Name
  parts_names no_parts = []
  parts_names (part_and p ps) = part_names p ++ parts_names ps

-- a function's private words by their numbers: its parameters, and then its locals in source order
abbrev pub private_names : Func → List (List ℕ)
private_names f = texts_of (param_names f.params ++ parts_names f.body)

-- ---- regions

-- one of these private words in its cell, where the cells stand behind so many words
abbrev pub carried_name : List (List ℕ) → ℕ → Carried → Option Named
carried_name privates globals c =
    option_map (λ x. record { base = place (globals + c.cell); length = 1; is_array = false; name = x }) (slice_get privates c.private)

-- the function of the word at which a region's iterations begin
abbrev pub function_of : Program → CodeView → RegionView → Option Func
function_of p code r = option_and_then (λ spot. slice_get (functions_of p) spot.function) (slice_get code.spots r.start)

abbrev pub carried_names : Program → CodeView → RegionView → List Named
carried_names p code r = option_map_or (λ f. filter_map (carried_name (private_names f) code.globals) r.carried) (function_of p code r) []

-- the globals, and then what the region of this number carries, where there is one
abbrev pub names : Program → CodeView → ℕ → List Named
names p code region = global_names (globals_of p) 0 ++ option_map_or (carried_names p code) (slice_get code.regions region) []
