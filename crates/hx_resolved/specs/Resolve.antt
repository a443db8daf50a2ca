-- The resolved program of an accepted tree: each name is what it stands for, by the scopes that it stands in. Of a name that
-- an accepted program can't have where it stands, nothing is meant.
use Rattle.std.specs.Prelude.{ℕ, ◌+◌, Bool, true, false, not, ◌&&◌, ◌||◌, List, [], ◌∷◌, length, map, flat_map, codes, Option, Some, None, option_map}
use Rattle.hx_tree.specs.declared.tree.Operator.TheVariants.{Add, Sub}
use Rattle.hx_tree.specs.Tree as tree
use Rattle.hx_tree.specs.World.{Map, look_up}
use Rattle.hx_tree.specs.Effect.{no_place}
use Rattle.hx_tree.specs.Meaning.{functions_of, globals_of, opening_words}
use Rattle.hx_tree.specs.Need.{function_need}
use Rattle.hx_tree.specs.Accepted.{init_locals, stmt_locals, part_locals, private_words}
use Rattle.hx_resolved.specs.declared.program.Words.{Words}
use Rattle.hx_resolved.specs.declared.symbol.Symbol.{Symbol}
use Rattle.hx_resolved.specs.declared.symbol.Symbol.TheVariants as symbol
use Rattle.hx_resolved.specs.Resolved.{Expr, Number, Private, Word, Element, Call, Unary, Binary, Conditional, Exprs, no_exprs, expr_and, Place, ToPrivate, ToWord, ToElement, Assignment, Set, Update, Simple, Declare, Assign, Clauses, LoopKind, Plain, IsRegion, Stmt, Block, Do, CallStatement, Print, Emit, If, IfElse, Loop, DoWhile, Break, Continue, Return, Stmts, no_stmts, stmt_and, Function, Program}
use Rattle.hx_resolved.specs.Counts.{step_counts}
use Rattle.hx_resolved.specs.Carried.{region_of}
use Rattle.hx_resolved.specs.Symbols.{Scopes, private_word, with_word, with_words, words_after_init, numbered, symbols_of}

-- ---- what a symbol is where it is used

-- the store word of an int
abbrev pub int_word : Option Symbol → Option ℕ
int_word (Some (symbol.Int word)) = Some word
int_word _ = None

-- the words of an array
abbrev pub array_words : Option Symbol → Option Words
array_words (Some (symbol.Array base n)) = Some (record { base = base; length = n })
array_words _ = None

-- the number of a function
abbrev pub function_number : Option Symbol → Option ℕ
function_number (Some (symbol.Function number returns parameters)) = Some number
function_number _ = None

-- what is there, or else this
abbrev pub or_else : {X : Type 0} → Option X → X → X
or_else (Some x) other = x
or_else None other = other

abbrev pub no_words : Words
no_words = record { base = 0; length = 0 }

abbrev pub words_named : tree.Name → Map Symbol → Words
words_named x symbols = or_else (array_words (look_up symbols x.text)) no_words

abbrev pub function_at : tree.Name → Map Symbol → ℕ
function_at f symbols = or_else (function_number (look_up symbols f.text)) 0

abbrev pub word_named : tree.Name → Map Symbol → ℕ
word_named x symbols = or_else (int_word (look_up symbols x.text)) 0

-- ---- expressions

-- a local, or else a global
abbrev pub variable : Option ℕ → ℕ → Expr
variable (Some k) word = Private k
variable None word = Word word

abbrev mutual
  pub resolve_expr : tree.Expr → Map Symbol → Scopes → Expr
  resolve_expr (tree.Number n) symbols scopes = Number n
  resolve_expr (tree.Variable x) symbols scopes = variable (private_word scopes x.text) (word_named x symbols)
  resolve_expr (tree.Element x e) symbols scopes = Element (words_named x symbols) x.pos (resolve_expr e symbols scopes)
  resolve_expr (tree.Call f es) symbols scopes = Call (function_at f symbols) f.pos (resolve_exprs es symbols scopes)
  resolve_expr (tree.Paren e) symbols scopes = resolve_expr e symbols scopes
  resolve_expr (tree.Unary op e) symbols scopes = Unary op (resolve_expr e symbols scopes)
  resolve_expr (tree.Binary op pos l r) symbols scopes = Binary op pos (resolve_expr l symbols scopes) (resolve_expr r symbols scopes)
  resolve_expr (tree.Conditional test chosen other) symbols scopes =
      Conditional (resolve_expr test symbols scopes) (resolve_expr chosen symbols scopes) (resolve_expr other symbols scopes)

  pub resolve_exprs : tree.Exprs → Map Symbol → Scopes → Exprs
  resolve_exprs tree.no_exprs symbols scopes = no_exprs
  resolve_exprs (tree.expr_and e es) symbols scopes = expr_and (resolve_expr e symbols scopes) (resolve_exprs es symbols scopes)

-- ---- what statements are made of

abbrev pub to_variable : Option ℕ → ℕ → Place
to_variable (Some k) word = ToPrivate k
to_variable None word = ToWord word

abbrev pub resolve_place : tree.Place → Map Symbol → Scopes → Place
resolve_place (tree.ToVariable x) symbols scopes = to_variable (private_word scopes x.text) (word_named x symbols)
resolve_place (tree.ToElement x e) symbols scopes = ToElement (words_named x symbols) x.pos (resolve_expr e symbols scopes)

-- `p++` and `p--` are updates by 1
abbrev pub resolve_assignment : tree.Assignment → Map Symbol → Scopes → Assignment
resolve_assignment (tree.Set p e) symbols scopes = Set (resolve_place p symbols scopes) (resolve_expr e symbols scopes)
resolve_assignment (tree.Update p op pos e) symbols scopes = Update (resolve_place p symbols scopes) op pos (resolve_expr e symbols scopes)
resolve_assignment (tree.Increment p) symbols scopes = Update (resolve_place p symbols scopes) Add no_place (Number 1)
resolve_assignment (tree.Decrement p) symbols scopes = Update (resolve_place p symbols scopes) Sub no_place (Number 1)

-- a value that may be absent: then it is 0
abbrev pub expr_or_zero : Option tree.Expr → Map Symbol → Scopes → Expr
expr_or_zero None symbols scopes = Number 0
expr_or_zero (Some e) symbols scopes = resolve_expr e symbols scopes

-- a local is known from after its own initialiser
abbrev pub resolve_locals : List tree.LocalDecl → Map Symbol → Scopes → ℕ → List Simple
resolve_locals [] symbols scopes k = []
resolve_locals (d ∷ ds) symbols scopes k =
    Declare k (expr_or_zero d.init symbols scopes) ∷ resolve_locals ds symbols (with_word scopes d.name.text k) (k + 1)

abbrev pub resolve_init : tree.Init → Map Symbol → Scopes → ℕ → List Simple
resolve_init tree.NoInit symbols scopes k = []
resolve_init (tree.InitLocals ds) symbols scopes k = resolve_locals ds symbols scopes k
resolve_init (tree.InitAssign a) symbols scopes k = Assign (resolve_assignment a symbols scopes) ∷ []

-- test and step are in the scope that the first clause opens
abbrev pub resolve_clauses : tree.ForClauses → Map Symbol → Scopes → ℕ → Clauses
resolve_clauses h symbols scopes k = record {
  init = resolve_init h.init symbols scopes k;
  test = option_map (λ e. resolve_expr e symbols (words_after_init h.init scopes k)) h.test;
  step = option_map (λ a. resolve_assignment a symbols (words_after_init h.init scopes k)) h.step;
  counts = step_counts h.step (words_after_init h.init scopes k);
}

-- ---- statements

-- where a statement stands: the global names, the private words of its function, and whether a marked loop of the function is
-- around it
pub record Around : Type 0 where
  pub symbols : Map Symbol
  pub privates : ℕ
  pub is_marked : Bool

abbrev pub inside : Bool → Around → Around
inside marked around = record around { is_marked = around.is_marked || marked }

abbrev pub kind_if : Bool → ℕ → Clauses → Stmt → LoopKind
kind_if true privates c body = IsRegion (region_of privates c body)
kind_if false privates c body = Plain

-- a loop, which is a region where it is marked and no marked loop is around it
abbrev pub loop_in : Bool → Around → Clauses → Stmt → Stmt
loop_in marked around c body = Loop (kind_if (marked && not around.is_marked) around.privates c body) c body

abbrev pub while_clauses : Expr → Clauses
while_clauses test = record { init = []; test = Some test; step = None; counts = None }

-- declarations and then the rest of a block
abbrev pub simples_then : List Simple → Stmts → Stmts
simples_then [] rest = rest
simples_then (s ∷ ss) rest = stmt_and (Do s) (simples_then ss rest)

-- the scopes after a part of a block
abbrev pub words_after_part : tree.Part → Scopes → ℕ → Scopes
words_after_part (tree.Locals ds) scopes k = with_words ds scopes k
words_after_part (tree.Statement s) scopes k = scopes

-- the locals of a statement are numbered from k on
abbrev mutual
  pub resolve_stmt : tree.Stmt → Around → Scopes → ℕ → Stmt
  resolve_stmt (tree.Block ps) around scopes k = Block (resolve_parts ps around ([] ∷ scopes) k)
  resolve_stmt tree.Empty around scopes k = Block no_stmts
  resolve_stmt (tree.Assign a) around scopes k = Do (Assign (resolve_assignment a around.symbols scopes))
  resolve_stmt (tree.CallStatement f es) around scopes k =
      CallStatement (function_at f around.symbols) f.pos (resolve_exprs es around.symbols scopes)
  resolve_stmt (tree.Print pos e) around scopes k = Print pos (resolve_expr e around.symbols scopes)
  resolve_stmt (tree.Emit pos e) around scopes k = Emit pos (resolve_expr e around.symbols scopes)
  resolve_stmt (tree.If test s) around scopes k = If (resolve_expr test around.symbols scopes) (resolve_stmt s around scopes k)
  resolve_stmt (tree.IfElse test s other) around scopes k =
      IfElse (resolve_expr test around.symbols scopes) (resolve_stmt s around scopes k) (resolve_stmt other around scopes (k + stmt_locals s))
  resolve_stmt (tree.While marked test s) around scopes k =
      loop_in marked around (while_clauses (resolve_expr test around.symbols scopes)) (resolve_stmt s (inside marked around) scopes k)
  resolve_stmt (tree.DoWhile s test) around scopes k = DoWhile (resolve_stmt s around scopes k) (resolve_expr test around.symbols scopes)
  resolve_stmt (tree.For marked h s) around scopes k =
      loop_in marked around (resolve_clauses h around.symbols ([] ∷ scopes) k)
      (resolve_stmt s (inside marked around) (words_after_init h.init ([] ∷ scopes) k) (k + init_locals h.init))
  resolve_stmt (tree.Break pos) around scopes k = Break
  resolve_stmt (tree.Continue pos) around scopes k = Continue
  resolve_stmt (tree.Return pos e) around scopes k = Return (expr_or_zero e around.symbols scopes)

  pub resolve_part_then : tree.Part → Around → Scopes → ℕ → Stmts → Stmts
  resolve_part_then (tree.Locals ds) around scopes k rest = simples_then (resolve_locals ds around.symbols scopes k) rest
  resolve_part_then (tree.Statement s) around scopes k rest = stmt_and (resolve_stmt s around scopes k) rest

  pub resolve_parts : tree.Parts → Around → Scopes → ℕ → Stmts
  resolve_parts tree.no_parts around scopes k = no_stmts
  resolve_parts (tree.part_and p ps) around scopes k =
      resolve_part_then p around scopes k (resolve_parts ps around (words_after_part p scopes k) (k + part_locals p))

-- ---- whole programs

abbrev pub around_function : Map Symbol → tree.Func → Around
around_function symbols f = record { symbols = symbols; privates = private_words f; is_marked = false }

-- parameters and the outermost block are one scope
abbrev pub resolve_function : Map Symbol → tree.Func → Function
resolve_function symbols f = record {
  name = f.name.text;
  parameters = length (tree.param_names f.params);
  privates = private_words f;
  need = function_need f;
  body = resolve_parts f.body (around_function symbols f) (numbered (tree.param_names f.params) 0 ∷ []) (length (tree.param_names f.params));
}

abbrev pub resolve : tree.Program → Program
resolve p = record {
  functions = map (resolve_function (symbols_of p)) (functions_of p);
  main = or_else (function_number (look_up (symbols_of p) (codes "main"))) 0;
  opening = flat_map (λ g. opening_words g.shape) (globals_of p);
  input = array_words (look_up (symbols_of p) (codes "in"));
  input_length = int_word (look_up (symbols_of p) (codes "n_in"));
}
