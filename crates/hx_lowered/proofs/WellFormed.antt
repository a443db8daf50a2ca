-- What a resolved program keeps, where it comes from an accepted tree: names are in their tables, operands are few, jumps stand
-- in loops, and regions in no region.
use Rattle.std.proofs.Common.{◌≡◌, ◌≢◌, ℕ, ◌+◌, ◌≤◌, ◌<◌, Bool, true, false, List, [], ◌∷◌, length, map, Option, Some, None}
use Rattle.std.specs.Prelude.{slice_get, IsTrue, IsFalse}
use Rattle.std.specs.List.{AllByRecursion}
use Rattle.hx_tree.specs.declared.limits.TheConstants.{FUNCTION_LIMIT, PARAMETER_LIMIT, PRIVATE_LIMIT, OPERAND_LIMIT, GLOBAL_LIMIT, CELL_LIMIT}
use Rattle.hx_tree.specs.declared.tree.BinaryOp.TheVariants.{Strict, And, Or}
use Rattle.hx_resolved.specs.declared.program.Words.{Words}
use Rattle.hx_resolved.specs.declared.program.Induct.{Induct}
use Rattle.hx_resolved.specs.Resolved.{Expr, Number, Private, Word, Element, Call, Unary, Binary, Conditional, Exprs, no_exprs, expr_and, ToPrivate, ToWord, ToElement, Assignment, Set, Update, Simple, Declare, Assign, Clauses, Region, LoopKind, Plain, IsRegion, Stmt, Block, Do, CallStatement, Print, Emit, If, IfElse, Loop, DoWhile, Break, Continue, Return, Stmts, no_stmts, stmt_and, Function, Program}
use Rattle.hx_lowering.specs.Lines.{count}

-- how many private words the function has, how many words the globals have, and how many parameters each function has
pub record Context : Type 0 where
  pub privates : ℕ
  pub globals : ℕ
  pub parameters : List ℕ

-- words within the globals
abbrev pub FitsWords : Context → Words → Type 0
FitsWords c words = (1 ≤ words.length) × (words.base + words.length ≤ c.globals)

-- an expression, where so many operands stand before it
abbrev mutual
  pub FitsExpr : Context → ℕ → Expr → Type 0
  FitsExpr c h (Number n) = h < OPERAND_LIMIT
  FitsExpr c h (Private k) = (h < OPERAND_LIMIT) × (k < c.privates)
  FitsExpr c h (Word a) = (h < OPERAND_LIMIT) × (a < c.globals)
  FitsExpr c h (Element words pos e) = FitsWords c words × FitsExpr c h e
  FitsExpr c h (Call f pos es) = (h < OPERAND_LIMIT) × (slice_get c.parameters f ≡ Some (count es)) × FitsExprs c h es
  FitsExpr c h (Unary op e) = FitsExpr c h e
  FitsExpr c h (Binary (Strict op) pos l r) = FitsExpr c h l × FitsExpr c (h + 1) r
  FitsExpr c h (Binary And pos l r) = FitsExpr c h l × FitsExpr c h r
  FitsExpr c h (Binary Or pos l r) = FitsExpr c h l × FitsExpr c h r
  FitsExpr c h (Conditional test chosen other) = FitsExpr c h test × FitsExpr c h chosen × FitsExpr c h other

  pub FitsExprs : Context → ℕ → Exprs → Type 0
  FitsExprs c h no_exprs = Unit {0}
  FitsExprs c h (expr_and e es) = FitsExpr c h e × FitsExprs c (h + 1) es

abbrev pub FitsAssignment : Context → Assignment → Type 0
FitsAssignment c (Set (ToPrivate k) e) = (k < c.privates) × FitsExpr c 0 e
FitsAssignment c (Set (ToWord a) e) = (a < c.globals) × FitsExpr c 0 e
FitsAssignment c (Set (ToElement words pos i) e) = FitsWords c words × FitsExpr c 0 i × FitsExpr c 1 e
FitsAssignment c (Update (ToPrivate k) op at e) = (k < c.privates) × FitsExpr c 1 e
FitsAssignment c (Update (ToWord a) op at e) = (a < c.globals) × FitsExpr c 1 e
FitsAssignment c (Update (ToElement words pos i) op at e) = FitsWords c words × FitsExpr c 0 i × FitsExpr c 2 e

abbrev pub FitsSimple : Context → Simple → Type 0
FitsSimple c (Declare k e) = (k < c.privates) × FitsExpr c 0 e
FitsSimple c (Assign a) = FitsAssignment c a

abbrev pub FitsSimples : Context → List Simple → Type 0
FitsSimples c [] = Unit {0}
FitsSimples c (s ∷ ss) = FitsSimple c s × FitsSimples c ss

abbrev pub FitsTest : Context → Option Expr → Type 0
FitsTest c None = Unit {0}
FitsTest c (Some e) = FitsExpr c 0 e

abbrev pub FitsStep : Context → Option Assignment → Type 0
FitsStep c None = Unit {0}
FitsStep c (Some a) = FitsAssignment c a

abbrev pub FitsClauses : Context → Clauses → Type 0
FitsClauses c h = FitsSimples c h.init × FitsTest c h.test × FitsStep c h.step

-- f rises along the list
abbrev pub RisesBy : {A : Type 0} → (A → ℕ) → List A → Type 0
RisesBy f [] = Unit {0}
RisesBy f (x ∷ xs) = AllByRecursion (λ y. f x < f y) xs × RisesBy f xs

-- numbers in rising order
abbrev pub IsRising : List ℕ → Type 0
IsRising xs = RisesBy (λ k. k) xs

-- no number is in both lists
abbrev pub ShareNone : List ℕ → List ℕ → Type 0
ShareNone xs ys = AllByRecursion (λ x. AllByRecursion (λ y. y ≢ x) ys) xs

-- an induction local is a private word of the function, and in neither list
abbrev pub FitsInduct : Context → Option Induct → (carried copied : List ℕ) → Type 0
FitsInduct c None carried copied = Unit {0}
FitsInduct c (Some i) carried copied = (i.private < c.privates) × AllByRecursion (λ k. k ≢ i.private) carried × AllByRecursion (λ k. k ≢ i.private) copied

-- the private words of a region are distinct ones of the function, and the carried ones have a cell each
pub record FitsRegion (c : Context) (r : Region) : Type 0 where
  pub carried_rise : IsRising r.carried
  pub copied_rise : IsRising r.copied
  pub apart : ShareNone r.carried r.copied
  pub carried : AllByRecursion (λ k. k < c.privates) r.carried
  pub copied : AllByRecursion (λ k. k < c.privates) r.copied
  pub few : length r.carried ≤ CELL_LIMIT
  pub induct : FitsInduct c r.induct r.carried r.copied

-- a region stands in no region
abbrev pub FitsKind : Context → (marked : Bool) → LoopKind → Type 0
FitsKind c marked Plain = Unit {0}
FitsKind c marked (IsRegion r) = IsFalse marked × FitsRegion c r

abbrev pub marked_in : Bool → LoopKind → Bool
marked_in marked Plain = marked
marked_in marked (IsRegion r) = true

-- a statement, in a loop or not, in a region or not
abbrev mutual
  pub FitsStmt : Context → (in_loop marked : Bool) → Stmt → Type 0
  FitsStmt c l m (Block ss) = FitsStmts c l m ss
  FitsStmt c l m (Do s) = FitsSimple c s
  FitsStmt c l m (CallStatement f pos es) = (slice_get c.parameters f ≡ Some (count es)) × FitsExprs c 0 es
  FitsStmt c l m (Print pos e) = FitsExpr c 0 e
  FitsStmt c l m (Emit pos e) = FitsExpr c 0 e
  FitsStmt c l m (If test s) = FitsExpr c 0 test × FitsStmt c l m s
  FitsStmt c l m (IfElse test s other) = FitsExpr c 0 test × FitsStmt c l m s × FitsStmt c l m other
  FitsStmt c l m (Loop kind h s) = FitsClauses c h × FitsKind c m kind × FitsStmt c true (marked_in m kind) s
  FitsStmt c l m (DoWhile s test) = FitsStmt c true m s × FitsExpr c 0 test
  FitsStmt c l m Break = IsTrue l
  FitsStmt c l m Continue = IsTrue l
  FitsStmt c l m (Return e) = FitsExpr c 0 e

  pub FitsStmts : Context → (in_loop marked : Bool) → Stmts → Type 0
  FitsStmts c l m no_stmts = Unit {0}
  FitsStmts c l m (stmt_and s ss) = FitsStmt c l m s × FitsStmts c l m ss

-- ---- whole programs

abbrev pub parameters_of : List Function → List ℕ
parameters_of fs = map (λ (f : Function). f.parameters) fs

pub record FitsFunction (globals : ℕ) (parameters : List ℕ) (f : Function) : Type 0 where
  pub few_parameters : f.parameters ≤ PARAMETER_LIMIT
  pub are_private : f.parameters ≤ f.privates
  pub few_privates : f.privates ≤ PRIVATE_LIMIT
  pub body : FitsStmts (record { privates = f.privates; globals = globals; parameters = parameters }) false false f.body

abbrev pub FitsInput : ℕ → Option Words → Type 0
FitsInput globals None = Unit {0}
FitsInput globals (Some words) = words.base + words.length ≤ globals

abbrev pub FitsInputLength : ℕ → Option ℕ → Type 0
FitsInputLength globals None = Unit {0}
FitsInputLength globals (Some a) = a < globals

pub record IsWellFormed (p : Program) : Type 0 where
  pub few_functions : length p.functions ≤ FUNCTION_LIMIT
  pub functions : AllByRecursion (FitsFunction (length p.opening) (parameters_of p.functions)) p.functions
  pub few_words : length p.opening ≤ GLOBAL_LIMIT
  pub main : slice_get (parameters_of p.functions) p.main ≡ Some 0
  pub input : FitsInput (length p.opening) p.input
  pub input_length : FitsInputLength (length p.opening) p.input_length
