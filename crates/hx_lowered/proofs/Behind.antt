-- How many words assignments, tests and steps put behind the others, which stay.
use Rattle.std.proofs.Common.{◌≡◌, ℕ, ◌+◌, List, [], ◌∷◌, length, Option, Some, None, refl, arith}
use Rattle.hx_resolved.specs.Resolved as resolved
use Rattle.hx_resolved.specs.Resolved.{Expr, Assignment, Simple}
use Rattle.hx_code.specs.declared.word.Word.TheVariants.{SetGlob, Glob, Elem, SetElem, Dup, Binary, JumpFalse}
use Rattle.hx_code.specs.declared.word.Word.{Word}
use Rattle.hx_code.specs.Code.{CodeView}
use Rattle.hx_lowering.specs.declared.line.Line.{Line}
use Rattle.hx_lowering.specs.Size.{expr_size, assignment_size, simple_size, simples_size, test_size, step_size}
use Rattle.hx_lowering.specs.Lines.{Version, put, get_private, set_private, array_of, expr_lines, assignment_lines, simple_lines, simples_lines, test_lines, step_lines}
use Rattle.hx_lowering.proofs.Stand.{Has, has_before, has_expr, length-put, length-expr}

-- so many lines are put behind others, and code that begins with them all begins with those
pub record Behind (code : CodeView) (a : List Line) (n : ℕ) (b : List Line) : Type 0 where
  pub long : length b ≡ length a + n
  pub has : Has code b → Has code a

module _ (code : CodeView) where
  pub behind_none : (a : List Line) → Behind code a 0 a
  behind_none a = record { long = omega arith; has = λ h. h }

  pub behind_and : (a b c : List Line) (n m k : ℕ) → n + m ≡ k → Behind code a n b → Behind code b m c → Behind code a k c
  behind_and a b c n m k e f g = record { long = omega (arith, f.long, g.long); has = λ h. f.has (g.has h) }

  pub behind_put : (v : Version) (h : ℕ) (w : Word) (lines : List Line) → Behind code lines 1 (put v h w lines)
  behind_put v h w lines = record { long = length-put v h w lines; has = has_before code v h w lines }

  pub behind_expr : (e : Expr) (v : Version) (h : ℕ) (lines : List Line) → Behind code lines (expr_size e) (expr_lines e v h lines)
  behind_expr e v h lines = record { long = length-expr e v h lines; has = has_expr code e v h lines }

  pub behind_assignment : (a : Assignment) (v : Version) (lines : List Line) → Behind code lines (assignment_size a) (assignment_lines a v lines)
  behind_assignment (resolved.Set (resolved.ToPrivate k) e) v lines =
      behind_and _ _ _ _ _ _ refl (behind_expr e v 0 lines) (behind_put v 1 (set_private v k) _)
  behind_assignment (resolved.Set (resolved.ToWord a) e) v lines =
      behind_and _ _ _ _ _ _ refl (behind_expr e v 0 lines) (behind_put v 1 (SetGlob a) _)
  behind_assignment (resolved.Set (resolved.ToElement words at i) e) v lines =
      behind_and _ _ _ _ _ _ refl (behind_and _ _ _ _ _ _ refl (behind_expr i v 0 lines) (behind_expr e v 1 _)) (behind_put v 2 (SetElem (array_of words) at) _)
  behind_assignment (resolved.Update (resolved.ToPrivate k) op at e) v lines =
      behind_and _ _ _ (1 + expr_size e) _ _ refl (behind_and _ _ _ _ _ _ refl (behind_put v 0 (get_private v k) lines) (behind_expr e v 1 _))
      (behind_and _ _ _ 1 1 2 refl (behind_put v 2 (Binary op at) _) (behind_put v 1 (set_private v k) _))
  behind_assignment (resolved.Update (resolved.ToWord a) op at e) v lines =
      behind_and _ _ _ (1 + expr_size e) _ _ refl (behind_and _ _ _ _ _ _ refl (behind_put v 0 (Glob a) lines) (behind_expr e v 1 _))
      (behind_and _ _ _ 1 1 2 refl (behind_put v 2 (Binary op at) _) (behind_put v 1 (SetGlob a) _))
  behind_assignment (resolved.Update (resolved.ToElement words place i) op at e) v lines =
      behind_and _ _ _ (expr_size i + 2 + expr_size e) 2 _ refl
      (behind_and _ _ _ (expr_size i + 2) (expr_size e) _ refl
      (behind_and _ _ _ (expr_size i) 2 _ refl (behind_expr i v 0 lines) (behind_and _ _ _ 1 1 2 refl (behind_put v 1 Dup _) (behind_put v 2 (Elem (array_of words) place) _)))
      (behind_expr e v 2 _))
      (behind_and _ _ _ 1 1 2 refl (behind_put v 3 (Binary op at) _) (behind_put v 2 (SetElem (array_of words) place) _))

  pub behind_simple : (s : Simple) (v : Version) (lines : List Line) → Behind code lines (simple_size s) (simple_lines s v lines)
  behind_simple (resolved.Declare k e) v lines = behind_and _ _ _ _ _ _ refl (behind_expr e v 0 lines) (behind_put v 1 (set_private v k) _)
  behind_simple (resolved.Assign a) v lines = behind_assignment a v lines

  pub behind_simples : (ss : List Simple) (v : Version) (lines : List Line) → Behind code lines (simples_size ss) (simples_lines ss v lines)
  behind_simples [] v lines = behind_none lines
  behind_simples (s ∷ ss) v lines = behind_and _ _ _ _ _ _ refl (behind_simple s v lines) (behind_simples ss v (simple_lines s v lines))

  pub behind_test : (t : Option Expr) (exit : ℕ) (v : Version) (lines : List Line) → Behind code lines (test_size t) (test_lines t exit v lines)
  behind_test None exit v lines = behind_none lines
  behind_test (Some e) exit v lines = behind_and _ _ _ _ _ _ refl (behind_expr e v 0 lines) (behind_put v 1 (JumpFalse exit) _)

  pub behind_step : (s : Option Assignment) (v : Version) (lines : List Line) → Behind code lines (step_size s) (step_lines s v lines)
  behind_step None v lines = behind_none lines
  behind_step (Some a) v lines = behind_assignment a v lines
