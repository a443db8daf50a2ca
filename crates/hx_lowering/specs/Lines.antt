-- The words of expressions and assignments, put behind those that stand already.
use Rattle.std.specs.Prelude.{ℕ, ◌+◌, if◌then◌else◌, nat_eq, List, [], ◌∷◌, ◌++◌, length, pos, Option, Some, None}
use Rattle.hx_tree.specs.declared.tree.BinaryOp.TheVariants.{Strict, And, Or}
use Rattle.hx_resolved.specs.declared.program.Words.{Words}
use Rattle.hx_resolved.specs.Resolved as resolved
use Rattle.hx_resolved.specs.Resolved.{Expr, Exprs, Assignment, Simple}
use Rattle.hx_code.specs.declared.word.Array.{Array}
use Rattle.hx_code.specs.declared.word.Word.{Word}
use Rattle.hx_code.specs.declared.word.Word.TheVariants.{Const, Priv, SetPriv, Glob, SetGlob, Elem, SetElem, Dup, Unary, Binary, Jump, JumpFalse, JumpTrue, Call}
use Rattle.hx_code.specs.declared.table.Carried.{Carried}
use Rattle.hx_lowering.specs.declared.line.Line.{Line}
use Rattle.hx_lowering.specs.Size.{expr_size}

-- which version of a function's words is written: the function's number, how many words the globals have, the region that it
-- is the version of, if any, and the private words that are carried in cells there
pub record Version : Type 0 where
  pub function : ℕ
  pub globals : ℕ
  pub region : Option ℕ
  pub carried : List Carried

-- a word behind the others, where so many operands stand
abbrev pub put : Version → ℕ → Word → List Line → List Line
put v height w lines = lines ++ record { word = w; spot = record { function = v.function; region = v.region; height = height } } ∷ []

-- the cell of a private word that is carried
abbrev pub cell_of : List Carried → ℕ → Option ℕ
cell_of [] k = None
cell_of (c ∷ rest) k = if nat_eq c.private k then Some c.cell else cell_of rest k

-- cells stand behind the globals
abbrev pub get_at : Option ℕ → ℕ → ℕ → Word
get_at None globals k = Priv k
get_at (Some cell) globals k = Glob (globals + cell)

abbrev pub set_at : Option ℕ → ℕ → ℕ → Word
set_at None globals k = SetPriv k
set_at (Some cell) globals k = SetGlob (globals + cell)

abbrev pub get_private : Version → ℕ → Word
get_private v k = get_at (cell_of v.carried k) v.globals k

abbrev pub set_private : Version → ℕ → Word
set_private v k = set_at (cell_of v.carried k) v.globals k

abbrev pub array_of : Words → Array
array_of words = record { base = words.base; length = words.length }

abbrev pub count : Exprs → ℕ
count resolved.no_exprs = 0
count (resolved.expr_and e es) = count es + 1

-- an expression leaves its value behind the operands that stand before it
abbrev mutual
  pub expr_lines : Expr → Version → ℕ → List Line → List Line
  expr_lines (resolved.Number n) v h lines = put v h (Const (pos n)) lines
  expr_lines (resolved.Private k) v h lines = put v h (get_private v k) lines
  expr_lines (resolved.Word a) v h lines = put v h (Glob a) lines
  expr_lines (resolved.Element words at e) v h lines = put v (h + 1) (Elem (array_of words) at) (expr_lines e v h lines)
  expr_lines (resolved.Call f at es) v h lines = put v (h + count es) (Call f at) (exprs_lines es v h lines)
  expr_lines (resolved.Unary op e) v h lines = put v (h + 1) (Unary op) (expr_lines e v h lines)
  expr_lines (resolved.Binary (Strict op) at l r) v h lines = put v (h + 2) (Binary op at) (expr_lines r v (h + 1) (expr_lines l v h lines))
  expr_lines (resolved.Binary And at l r) v h lines =
      let zero_at = length lines + expr_size l + 1 + expr_size r + 3 in
      put v h (Const (pos 0)) (put v (h + 1) (Jump (zero_at + 1)) (put v h (Const (pos 1))
      (put v (h + 1) (JumpFalse zero_at) (expr_lines r v h
      (put v (h + 1) (JumpFalse zero_at) (expr_lines l v h lines))))))
  expr_lines (resolved.Binary Or at l r) v h lines =
      let one_at = length lines + expr_size l + 1 + expr_size r + 3 in
      put v h (Const (pos 1)) (put v (h + 1) (Jump (one_at + 1)) (put v h (Const (pos 0))
      (put v (h + 1) (JumpTrue one_at) (expr_lines r v h
      (put v (h + 1) (JumpTrue one_at) (expr_lines l v h lines))))))
  expr_lines (resolved.Conditional c a b) v h lines =
      let other_at = length lines + expr_size c + 1 + expr_size a + 1 in
      expr_lines b v h
      (put v (h + 1) (Jump (other_at + expr_size b)) (expr_lines a v h
      (put v (h + 1) (JumpFalse other_at) (expr_lines c v h lines))))

  pub exprs_lines : Exprs → Version → ℕ → List Line → List Line
  exprs_lines resolved.no_exprs v h lines = lines
  exprs_lines (resolved.expr_and e es) v h lines = exprs_lines es v (h + 1) (expr_lines e v h lines)

abbrev pub assignment_lines : Assignment → Version → List Line → List Line
assignment_lines (resolved.Set (resolved.ToPrivate k) e) v lines = put v 1 (set_private v k) (expr_lines e v 0 lines)
assignment_lines (resolved.Set (resolved.ToWord a) e) v lines = put v 1 (SetGlob a) (expr_lines e v 0 lines)
assignment_lines (resolved.Set (resolved.ToElement words at i) e) v lines =
    put v 2 (SetElem (array_of words) at) (expr_lines e v 1 (expr_lines i v 0 lines))
assignment_lines (resolved.Update (resolved.ToPrivate k) op at e) v lines =
    put v 1 (set_private v k) (put v 2 (Binary op at) (expr_lines e v 1 (put v 0 (get_private v k) lines)))
assignment_lines (resolved.Update (resolved.ToWord a) op at e) v lines =
    put v 1 (SetGlob a) (put v 2 (Binary op at) (expr_lines e v 1 (put v 0 (Glob a) lines)))
assignment_lines (resolved.Update (resolved.ToElement words place i) op at e) v lines =
    put v 2 (SetElem (array_of words) place) (put v 3 (Binary op at) (expr_lines e v 2
    (put v 2 (Elem (array_of words) place) (put v 1 Dup (expr_lines i v 0 lines)))))

abbrev pub simple_lines : Simple → Version → List Line → List Line
simple_lines (resolved.Declare k e) v lines = put v 1 (set_private v k) (expr_lines e v 0 lines)
simple_lines (resolved.Assign a) v lines = assignment_lines a v lines

abbrev pub simples_lines : List Simple → Version → List Line → List Line
simples_lines [] v lines = lines
simples_lines (s ∷ ss) v lines = simples_lines ss v (simple_lines s v lines)

-- a test, which jumps where it fails; an absent one never does
abbrev pub test_lines : Option Expr → ℕ → Version → List Line → List Line
test_lines None exit v lines = lines
test_lines (Some e) exit v lines = put v 1 (JumpFalse exit) (expr_lines e v 0 lines)

abbrev pub step_lines : Option Assignment → Version → List Line → List Line
step_lines None v lines = lines
step_lines (Some a) v lines = assignment_lines a v lines
