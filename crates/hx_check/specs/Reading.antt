-- The checker as functions on trees: the resolved tree, or the first fault. The code does just this, and the theory says what
-- its answers mean.
use Rattle.std.specs.Prelude.{◌≡◌, ℕ, ◌+◌, Bool, true, false, not, ◌&&◌, ◌||◌, if◌then◌else◌, nat_eq, nat_le, nat_lt, List, [], ◌∷◌, ◌++◌, length, drop, map, flat_map, codes, Option, Some, None, is_some, Result, Ok, Err}
use Rattle.hx_tree.specs.declared.token.Pos.{Pos}
use Rattle.hx_tree.specs.declared.limits.TheConstants.{CONSTANT_LIMIT, HEIGHT_LIMIT, FUNCTION_LIMIT, PARAMETER_LIMIT, PRIVATE_LIMIT, OPERAND_LIMIT, GLOBAL_LIMIT, ARRAY_LIMIT}
use Rattle.hx_tree.specs.declared.tree.Constant.{Constant}
use Rattle.hx_tree.specs.declared.tree.Returns.{Returns}
use Rattle.hx_tree.specs.declared.tree.Returns.TheVariants as returns
use Rattle.hx_tree.specs.declared.tree.Operator.TheVariants.{Add, Sub}
use Rattle.hx_tree.specs.Tree as tree
use Rattle.hx_tree.specs.World.{Map, look_up}
use Rattle.hx_tree.specs.Effect.{no_place}
use Rattle.hx_tree.specs.Meaning.{globals_of, opening_words}
use Rattle.hx_tree.specs.Need.{function_need}
use Rattle.hx_tree.specs.Height.{program_height}
use Rattle.hx_tree.specs.Accepted.{is_among, count, private_words, shape_words}
use Rattle.hx_check.specs.declared.error.CheckError.{CheckError}
use Rattle.hx_check.specs.declared.error.CheckError.TheVariants.{UnknownName, DoubledName, WrongKind, WrongCount, OutsideLoop, NoMain, LimitPassed, TooLarge, Memory}
use Rattle.hx_check.specs.declared.here.Here.{Here}
use Rattle.hx_check.specs.declared.names.Variable.{Variable}
use Rattle.hx_check.specs.declared.names.Variable.TheVariants as variable
use Rattle.hx_resolved.specs.declared.program.Words.{Words}
use Rattle.hx_resolved.specs.declared.symbol.Symbol.{Symbol}
use Rattle.hx_resolved.specs.declared.symbol.Symbol.TheVariants as symbol
use Rattle.hx_resolved.specs.Resolved.{Expr, Number, Private, Word, Element, Call, Unary, Binary, Conditional, exprs, Place, ToPrivate, ToWord, ToElement, Assignment, Set, Update, Simple, Declare, Assign, Clauses, Stmt, Block, Do, CallStatement, Print, Emit, If, IfElse, Loop, DoWhile, Break, Continue, Return, no_stmts, stmts, Function, Program}
use Rattle.hx_resolved.specs.Symbols.{Declared, Known, Scopes, private_word, with_word, symbol_at, is_in_scope, numbered}
use Rattle.hx_resolved.specs.Counts.{step_counts}
use Rattle.hx_resolved.specs.Resolve.{int_word, array_words, kind_if, while_clauses}

-- ---- one check after another

abbrev pub Checks : Type 0 → Type 0
Checks A = Result A CheckError

-- `x ← m` in a `do` goes on with the answer of m as x, and a fault ends it
infixr 1 ◌>>=◌
abbrev pub ◌>>=◌ : {A B : Type 0} → Checks A → (A → Checks B) → Checks B
◌>>=◌ (Ok a) f = f a
◌>>=◌ (Err e) f = Err e

-- a result of the code, seen by view, is what a reading gives, unless memory ran out
abbrev pub IsFault : {A : Type 0} → Checks A → CheckError → Type 0
IsFault reading Memory = Unit {0}
IsFault reading e = reading ≡ Err e

abbrev pub IsReading : {A B : Type 0} → Checks A → (B → A) → Result B CheckError → Type 0
IsReading reading view (Ok b) = reading ≡ Ok (view b)
IsReading reading view (Err e) = IsFault reading e

-- the same, beside what is known afterwards
abbrev pub IsReadingNow : {A B : Type 0} → Checks (A × Known) → (B → A) → Known → Result B CheckError → Type 0
IsReadingNow reading view after (Ok b) = reading ≡ Ok (view b, after)
IsReadingNow reading view after (Err e) = IsFault reading e

-- the same, where only what is declared afterwards is wanted
abbrev pub IsReadingNext : {A B : Type 0} → Checks A → A → Result B CheckError → Type 0
IsReadingNext reading after (Ok b) = reading ≡ Ok after
IsReadingNext reading after (Err e) = IsFault reading e

-- a number that is seen as it is
abbrev pub same : ℕ → ℕ
same n = n

abbrev pub unless : Bool → CheckError → Checks (Unit {0})
unless true e = Ok tt
unless false e = Err e

-- ---- names: a local, or else a global

abbrev pub int_named : tree.Name → Option ℕ → Option Symbol → Checks Variable
int_named x (Some k) symbol = Ok (variable.Private k)
int_named x None (Some (symbol.Int word)) = Ok (variable.Word word)
int_named x None (Some (symbol.Array base n)) = Err (WrongKind x.pos)
int_named x None (Some (symbol.Function number returns parameters)) = Err (WrongKind x.pos)
int_named x None None = Err (UnknownName x.pos)

abbrev pub array_named : tree.Name → Option ℕ → Option Symbol → Checks Words
array_named x (Some k) symbol = Err (WrongKind x.pos)
array_named x None (Some (symbol.Int word)) = Err (WrongKind x.pos)
array_named x None (Some (symbol.Array base n)) = Ok (record { base = base; length = n })
array_named x None (Some (symbol.Function number returns parameters)) = Err (WrongKind x.pos)
array_named x None None = Err (UnknownName x.pos)

-- a function gives a value, where one is wanted
abbrev pub gives_value : (is_value : Bool) → Returns → Bool
gives_value true returns.Int = true
gives_value true returns.Void = false
gives_value false r = true

abbrev pub called_with : Bool → tree.Name → ℕ → ℕ → Returns → ℕ → Checks ℕ
called_with is_value f n number r parameters =
    if gives_value is_value r then (if nat_eq parameters n then Ok number else Err (WrongCount f.pos)) else Err (WrongKind f.pos)

-- the number of a function that is called with so many arguments
abbrev pub function_named : Bool → tree.Name → ℕ → Option ℕ → Option Symbol → Checks ℕ
function_named is_value f n (Some k) symbol = Err (WrongKind f.pos)
function_named is_value f n None (Some (symbol.Int word)) = Err (WrongKind f.pos)
function_named is_value f n None (Some (symbol.Array base length)) = Err (WrongKind f.pos)
function_named is_value f n None (Some (symbol.Function number r parameters)) = called_with is_value f n number r parameters
function_named is_value f n None None = Err (UnknownName f.pos)

abbrev pub check_variable : tree.Name → Map Symbol → Scopes → Checks Variable
check_variable x symbols scopes = int_named x (private_word scopes x.text) (look_up symbols x.text)

abbrev pub check_array : tree.Name → Map Symbol → Scopes → Checks Words
check_array x symbols scopes = array_named x (private_word scopes x.text) (look_up symbols x.text)

abbrev pub check_callee : Bool → tree.Name → ℕ → Map Symbol → Scopes → Checks ℕ
check_callee is_value f n symbols scopes = function_named is_value f n (private_word scopes f.text) (look_up symbols f.text)

-- ---- expressions

abbrev pub read : Variable → Expr
read (variable.Private k) = Private k
read (variable.Word a) = Word a

abbrev mutual
  pub check_expr : tree.Expr → Map Symbol → Scopes → Checks Expr
  check_expr (tree.Number n) symbols scopes = if nat_le n CONSTANT_LIMIT then Ok (Number n) else Err TooLarge
  check_expr (tree.Variable x) symbols scopes = do
    v ← check_variable x symbols scopes
    Ok (read v)
  check_expr (tree.Element x e) symbols scopes = do
    words ← check_array x symbols scopes
    index ← check_expr e symbols scopes
    Ok (Element words x.pos index)
  check_expr (tree.Call f es) symbols scopes = do
    number ← check_callee true f (count es) symbols scopes
    arguments ← check_exprs es symbols scopes []
    Ok (Call number f.pos (exprs arguments))
  check_expr (tree.Paren e) symbols scopes = check_expr e symbols scopes
  check_expr (tree.Unary op e) symbols scopes = do
    operand ← check_expr e symbols scopes
    Ok (Unary op operand)
  check_expr (tree.Binary op pos l r) symbols scopes = do
    left ← check_expr l symbols scopes
    right ← check_expr r symbols scopes
    Ok (Binary op pos left right)
  check_expr (tree.Conditional test chosen other) symbols scopes = do
    test' ← check_expr test symbols scopes
    chosen' ← check_expr chosen symbols scopes
    other' ← check_expr other symbols scopes
    Ok (Conditional test' chosen' other')

  -- what is done so far, and then these
  pub check_exprs : tree.Exprs → Map Symbol → Scopes → List Expr → Checks (List Expr)
  check_exprs tree.no_exprs symbols scopes done = Ok done
  check_exprs (tree.expr_and e es) symbols scopes done = do
    e' ← check_expr e symbols scopes
    check_exprs es symbols scopes (done ++ e' ∷ [])

-- ---- what statements are made of

abbrev pub write : Variable → Place
write (variable.Private k) = ToPrivate k
write (variable.Word a) = ToWord a

abbrev pub check_place : tree.Place → Map Symbol → Scopes → Checks Place
check_place (tree.ToVariable x) symbols scopes = do
  v ← check_variable x symbols scopes
  Ok (write v)
check_place (tree.ToElement x e) symbols scopes = do
  words ← check_array x symbols scopes
  index ← check_expr e symbols scopes
  Ok (ToElement words x.pos index)

abbrev pub check_assignment : tree.Assignment → Map Symbol → Scopes → Checks Assignment
check_assignment (tree.Set p e) symbols scopes = do
  place ← check_place p symbols scopes
  right ← check_expr e symbols scopes
  Ok (Set place right)
check_assignment (tree.Update p op pos e) symbols scopes = do
  place ← check_place p symbols scopes
  right ← check_expr e symbols scopes
  Ok (Update place op pos right)
check_assignment (tree.Increment p) symbols scopes = do
  place ← check_place p symbols scopes
  Ok (Update place Add no_place (Number 1))
check_assignment (tree.Decrement p) symbols scopes = do
  place ← check_place p symbols scopes
  Ok (Update place Sub no_place (Number 1))

abbrev pub check_or_zero : Option tree.Expr → Map Symbol → Scopes → Checks Expr
check_or_zero None symbols scopes = Ok (Number 0)
check_or_zero (Some e) symbols scopes = check_expr e symbols scopes

abbrev pub check_test : Option tree.Expr → Map Symbol → Scopes → Checks (Option Expr)
check_test None symbols scopes = Ok None
check_test (Some e) symbols scopes = do
  test ← check_expr e symbols scopes
  Ok (Some test)

abbrev pub check_step : Option tree.Assignment → Map Symbol → Scopes → Checks (Option Assignment)
check_step None symbols scopes = Ok None
check_step (Some a) symbols scopes = do
  step ← check_assignment a symbols scopes
  Ok (Some step)

-- a local gets the next private word
abbrev pub declare : tree.Name → Known → Checks (ℕ × Known)
declare x known =
    if nat_lt known.next PRIVATE_LIMIT
    then Ok (known.next, record { scopes = with_word known.scopes x.text known.next; next = known.next + 1 })
    else Err (LimitPassed x.pos)

abbrev pub check_new : tree.Name → Known → Checks (Unit {0})
check_new x known = if is_in_scope x.text known.scopes then Err (DoubledName x.pos) else Ok tt

abbrev pub check_locals : List tree.LocalDecl → Map Symbol → Known → List Simple → Checks (List Simple × Known)
check_locals [] symbols known done = Ok (done, known)
check_locals (d ∷ ds) symbols known done = do
  new ← check_new d.name known
  value ← check_or_zero d.init symbols known.scopes
  (k, known') ← declare d.name known
  check_locals ds symbols known' (done ++ Declare k value ∷ [])

abbrev pub check_init : tree.Init → Map Symbol → Known → Checks (List Simple × Known)
check_init tree.NoInit symbols known = Ok ([], known)
check_init (tree.InitLocals ds) symbols known = check_locals ds symbols known []
check_init (tree.InitAssign a) symbols known = do
  a' ← check_assignment a symbols known.scopes
  Ok (Assign a' ∷ [], known)

-- what stands between the parentheses of a `for`
abbrev pub check_clauses : tree.ForClauses → Map Symbol → Known → Checks (Clauses × Known)
check_clauses h symbols known = do
  (init, within) ← check_init h.init symbols known
  test ← check_test h.test symbols within.scopes
  step ← check_step h.step symbols within.scopes
  Ok (record { init = init; test = test; step = step; counts = step_counts h.step within.scopes }, within)

abbrev pub in_scope : Known → Known
in_scope known = record { scopes = [] ∷ known.scopes; next = known.next }

abbrev pub out_of_scope : Known → Known
out_of_scope known = record { scopes = drop 1 known.scopes; next = known.next }

-- ---- statements

abbrev pub inside : Bool → Here → Here
inside marked here = record here { in_loop = true; is_marked = here.is_marked || marked }

-- the body of a `do`, which is never marked
abbrev pub within_loop : Here → Here
within_loop here = record here { in_loop = true }

abbrev pub make_loop : Bool → Here → Clauses → Stmt → Stmt
make_loop marked here c body = Loop (kind_if (marked && not here.is_marked) here.privates c body) c body

abbrev pub check_return : Pos → Returns → Option tree.Expr → Map Symbol → Scopes → Checks Expr
check_return pos returns.Int None symbols scopes = Err (WrongKind pos)
check_return pos returns.Int (Some e) symbols scopes = check_expr e symbols scopes
check_return pos returns.Void None symbols scopes = Ok (Number 0)
check_return pos returns.Void (Some e) symbols scopes = Err (WrongKind pos)

abbrev mutual
  pub check_stmt : tree.Stmt → Map Symbol → Here → Known → Checks (Stmt × Known)
  check_stmt (tree.Block ps) symbols here known = do
    (ss, after) ← check_parts ps symbols here (in_scope known) []
    Ok (Block (stmts ss), out_of_scope after)
  check_stmt tree.Empty symbols here known = Ok (Block no_stmts, known)
  check_stmt (tree.Assign a) symbols here known = do
    a' ← check_assignment a symbols known.scopes
    Ok (Do (Assign a'), known)
  check_stmt (tree.CallStatement f es) symbols here known = do
    number ← check_callee false f (count es) symbols known.scopes
    arguments ← check_exprs es symbols known.scopes []
    Ok (CallStatement number f.pos (exprs arguments), known)
  check_stmt (tree.Print pos e) symbols here known = do
    e' ← check_expr e symbols known.scopes
    Ok (Print pos e', known)
  check_stmt (tree.Emit pos e) symbols here known = do
    e' ← check_expr e symbols known.scopes
    Ok (Emit pos e', known)
  check_stmt (tree.If test s) symbols here known = do
    test' ← check_expr test symbols known.scopes
    (s', after) ← check_stmt s symbols here known
    Ok (If test' s', after)
  check_stmt (tree.IfElse test s other) symbols here known = do
    test' ← check_expr test symbols known.scopes
    (s', between) ← check_stmt s symbols here known
    (other', after) ← check_stmt other symbols here between
    Ok (IfElse test' s' other', after)
  check_stmt (tree.While marked test s) symbols here known = do
    test' ← check_expr test symbols known.scopes
    (s', after) ← check_stmt s symbols (inside marked here) known
    Ok (make_loop marked here (while_clauses test') s', after)
  check_stmt (tree.DoWhile s test) symbols here known = do
    (s', after) ← check_stmt s symbols (within_loop here) known
    test' ← check_expr test symbols after.scopes
    Ok (DoWhile s' test', after)
  check_stmt (tree.For marked h s) symbols here known = do
    (init, within) ← check_init h.init symbols (in_scope known)
    test ← check_test h.test symbols within.scopes
    step ← check_step h.step symbols within.scopes
    (s', after) ← check_stmt s symbols (inside marked here) within
    Ok (make_loop marked here (record { init = init; test = test; step = step; counts = step_counts h.step within.scopes }) s', out_of_scope after)
  check_stmt (tree.Break pos) symbols here known = do
    inside ← unless here.in_loop (OutsideLoop pos)
    Ok (Break, known)
  check_stmt (tree.Continue pos) symbols here known = do
    inside ← unless here.in_loop (OutsideLoop pos)
    Ok (Continue, known)
  check_stmt (tree.Return pos e) symbols here known = do
    e' ← check_return pos here.returns e symbols known.scopes
    Ok (Return e', known)

  -- what is done so far, and then this part
  pub check_part : tree.Part → Map Symbol → Here → Known → List Stmt → Checks (List Stmt × Known)
  check_part (tree.Locals ds) symbols here known done = do
    (declared, after) ← check_locals ds symbols known []
    Ok (done ++ map Do declared, after)
  check_part (tree.Statement s) symbols here known done = do
    (s', after) ← check_stmt s symbols here known
    Ok (done ++ s' ∷ [], after)

  pub check_parts : tree.Parts → Map Symbol → Here → Known → List Stmt → Checks (List Stmt × Known)
  check_parts tree.no_parts symbols here known done = Ok (done, known)
  check_parts (tree.part_and p ps) symbols here known done = do
    (done', after) ← check_part p symbols here known done
    check_parts ps symbols here after done'

-- ---- the items

abbrev pub check_free : tree.Name → Declared → Checks (Unit {0})
check_free x d = if is_some (look_up d.symbols x.text) then Err (DoubledName x.pos) else Ok tt

abbrev pub constants_fit : List Constant → Bool
constants_fit [] = true
constants_fit (c ∷ cs) = if nat_le c.number CONSTANT_LIMIT then constants_fit cs else false

abbrev pub shape_fits : tree.Shape → Bool
shape_fits (tree.Scalar None) = true
shape_fits (tree.Scalar (Some c)) = nat_le c.number CONSTANT_LIMIT
shape_fits (tree.Array n cs) =
    if nat_le 1 n then (if nat_le n ARRAY_LIMIT then (if nat_le (length cs) n then constants_fit cs else false) else false) else false

abbrev pub declare_global : tree.GlobalDecl → Declared → Checks Declared
declare_global g d = do
  new ← check_free g.name d
  fits ← unless (shape_fits g.shape) (LimitPassed g.name.pos)
  room ← unless (nat_le (d.words + shape_words g.shape) GLOBAL_LIMIT) (LimitPassed g.name.pos)
  Ok (record { symbols = d.symbols ++ (g.name.text, symbol_at g.shape d.words) ∷ []; words = d.words + shape_words g.shape; functions = d.functions })

abbrev pub declare_function : tree.Func → Declared → Checks Declared
declare_function f d = do
  new ← check_free f.name d
  few ← unless (nat_lt d.functions FUNCTION_LIMIT) (LimitPassed f.name.pos)
  parameters ← unless (nat_le (length (tree.param_names f.params)) PARAMETER_LIMIT) (LimitPassed f.name.pos)
  Ok (record { symbols = d.symbols ++ (f.name.text, symbol.Function d.functions f.returns (length (tree.param_names f.params))) ∷ []; words = d.words; functions = d.functions + 1 })

abbrev pub declare_globals : List tree.GlobalDecl → Declared → Checks Declared
declare_globals [] d = Ok d
declare_globals (g ∷ gs) d = do
  d' ← declare_global g d
  declare_globals gs d'

abbrev pub declare_item : tree.Item → Declared → Checks Declared
declare_item (tree.Globals gs) d = declare_globals gs d
declare_item (tree.Function f) d = declare_function f d

abbrev pub declare_items : List tree.Item → Declared → Checks Declared
declare_items [] d = Ok d
declare_items (i ∷ is) d = do
  d' ← declare_item i d
  declare_items is d'

abbrev pub nothing_declared : Declared
nothing_declared = record { symbols = []; words = 0; functions = 0 }

abbrev pub main_of : Option Symbol → Checks ℕ
main_of (Some (symbol.Function number returns.Int parameters)) = if nat_eq parameters 0 then Ok number else Err NoMain
main_of (Some (symbol.Function number returns.Void parameters)) = Err NoMain
main_of (Some (symbol.Int word)) = Err NoMain
main_of (Some (symbol.Array base n)) = Err NoMain
main_of None = Err NoMain

abbrev pub check_main : Map Symbol → Checks ℕ
check_main symbols = main_of (look_up symbols (codes "main"))

-- ---- functions

-- a number up to a limit
abbrev pub limited : ℕ → ℕ → CheckError → Checks ℕ
limited n limit e = if nat_le n limit then Ok n else Err e

-- names of which none is among these, nor among those before it
abbrev pub check_distinct : List tree.Name → List (List ℕ) → Checks (Unit {0})
check_distinct [] before = Ok tt
check_distinct (x ∷ xs) before =
    if is_among x.text before then Err (DoubledName x.pos) else check_distinct xs (before ++ x.text ∷ [])

abbrev pub with_parameters : List tree.Name → Known
with_parameters xs = record { scopes = numbered xs 0 ∷ []; next = length xs }

abbrev pub check_function : tree.Func → Map Symbol → Checks Function
check_function f symbols = do
  privates ← limited (private_words f) PRIVATE_LIMIT (LimitPassed f.name.pos)
  need ← limited (function_need f) OPERAND_LIMIT (LimitPassed f.name.pos)
  distinct ← check_distinct (tree.param_names f.params) []
  (body, after) ← check_parts f.body symbols (record { returns = f.returns; privates = privates; in_loop = false; is_marked = false }) (with_parameters (tree.param_names f.params)) []
  Ok (record { name = f.name.text; parameters = length (tree.param_names f.params); privates = privates; need = need; body = stmts body })

abbrev pub check_functions : List tree.Item → Map Symbol → List Function → Checks (List Function)
check_functions [] symbols done = Ok done
check_functions (tree.Globals gs ∷ is) symbols done = check_functions is symbols done
check_functions (tree.Function f ∷ is) symbols done = do
  f' ← check_function f symbols
  check_functions is symbols (done ++ f' ∷ [])

-- ---- whole programs

abbrev pub check_program : tree.Program → Checks Program
check_program p = do
  low ← unless (nat_le (program_height p) HEIGHT_LIMIT) TooLarge
  d ← declare_items p.items nothing_declared
  main ← check_main d.symbols
  functions ← check_functions p.items d.symbols []
  Ok (record {
    functions = functions;
    main = main;
    opening = flat_map (λ g. opening_words g.shape) (globals_of p);
    input = array_words (look_up d.symbols (codes "in"));
    input_length = int_word (look_up d.symbols (codes "n_in"));
  })
