-- A tree of profile 1 does what today's does.
use Rattle.std.proofs.Common.{◌≡◌, ℕ, Bool, if◌then◌else◌, List, [], ◌∷◌, Option, Some, None, ℤ, pos, map, refl}
use Rattle.std.specs.Prelude.{not, option_map}
use Rattle.hx_tree.specs.declared.token.Pos.{Pos}
use Rattle.hx_tree.specs.declared.tree.BinaryOp.TheVariants.{Strict, And, Or}
use Rattle.hx_tree.specs.declared.tree.Operator.{Operator}
use Rattle.hx_tree.specs.declared.tree.Operator.TheVariants.{Add, Sub}
use Rattle.hx_tree.specs.Numbers.{is_zero}
use Rattle.hx_tree.specs.World.{Run, ◌>>=◌, and_then, gives, Environment, declare, enter_scope}
use Rattle.hx_tree.specs.Value.{Calling}
use Rattle.hx_tree.specs.Value as new_value
use Rattle.hx_tree.specs.Effect.{Effect, Context, goes_on, call_in, inside, is_counted, no_place, loop, go_on}
use Rattle.hx_tree.specs.Effect as new
use Rattle.hx_profile1.specs.Tree.{Expr, Number, Variable, Element, Call, Paren, Unary, Binary, Exprs, no_exprs, expr_and, LocalDecl, Place, ToVariable, ToElement, Assignment, Set, Update, Increment, Decrement, Init, NoInit, InitLocals, InitAssign, Stmt, Block, Empty, Assign, CallStatement, Print, Emit, If, IfElse, While, For, Break, Continue, Return, Part, Locals, Statement, Parts, no_parts, part_and}
use Rattle.hx_profile1.specs.Value as old_value
use Rattle.hx_profile1.specs.Effect as old
use Rattle.hx_profile1.specs.Lifted.{lift_expr, lift_exprs, lift_local, lift_place, lift_assignment, lift_init, lift_stmt, lift_part, lift_parts}

-- one part after another
pub both : {A B : Type 0} {m m' : Run A} {f f' : A → Run B} → m ≡ m' → ((x : A) → f x ≡ f' x) → (m >>= f) ≡ (m' >>= f')
both h k = λ i w. and_then (h i w) (λ x. k x i)

either : {A : Type 0} (b : Bool) {x x' y y' : Run A} → x ≡ x' → y ≡ y' → (if b then x else y) ≡ (if b then x' else y')
either b h k = λ i. if b then h i else k i

-- ---- expressions

mutual
  same_value : (e : Expr) (call : Calling) (env : Environment) → new_value.value (lift_expr e) call env ≡ old_value.value e call env
  same_value (Number n) call env = refl
  same_value (Variable x) call env = refl
  same_value (Element x e) call env = both (same_value e call env) (λ i. refl)
  same_value (Call f es) call env = both (same_values es call env) (λ vs. refl)
  same_value (Paren e) call env = same_value e call env
  same_value (Unary o e) call env = both (same_value e call env) (λ x. refl)
  same_value (Binary (Strict o) place l r) call env = both (same_value l call env) (λ x. both (same_value r call env) (λ y. refl))
  same_value (Binary And place l r) call env =
      both (same_value l call env) (λ x. either (is_zero x) refl (both (same_value r call env) (λ y. refl)))
  same_value (Binary Or place l r) call env =
      both (same_value l call env) (λ x. either (not (is_zero x)) refl (both (same_value r call env) (λ y. refl)))

  same_values : (es : Exprs) (call : Calling) (env : Environment) → new_value.values (lift_exprs es) call env ≡ old_value.values es call env
  same_values no_exprs call env = refl
  same_values (expr_and e es) call env = both (same_value e call env) (λ v. both (same_values es call env) (λ vs. refl))

-- ---- what statements are made of

same_value_or : (z : ℤ) (e : Option Expr) (call : Calling) (env : Environment) → new.value_or z (option_map lift_expr e) call env ≡ old.value_or z e call env
same_value_or z None call env = refl
same_value_or z (Some e) call env = same_value e call env

same_set : (p : Place) (right right' : Run ℤ) → right ≡ right' → (call : Calling) (env : Environment) → new.set_place (lift_place p) right call env ≡ old.set_place p right' call env
same_set (ToVariable x) right right' h call env = both h (λ v. refl)
same_set (ToElement x e) right right' h call env = both (same_value e call env) (λ i. both h (λ v. refl))

same_update : (p : Place) (o : Operator) (place : Pos) (right right' : Run ℤ) → right ≡ right' → (call : Calling) (env : Environment) → new.update_place (lift_place p) o place right call env ≡ old.update_place p o place right' call env
same_update (ToVariable x) o place right right' h call env = both refl (λ before. both h (λ v. refl))
same_update (ToElement x e) o place right right' h call env =
    both (same_value e call env) (λ i. both refl (λ before. both h (λ v. refl)))

same_assign : (a : Assignment) (call : Calling) (env : Environment) → new.assign (lift_assignment a) call env ≡ old.assign a call env
same_assign (Set p e) call env = same_set p _ _ (same_value e call env) call env
same_assign (Update p o place e) call env = same_update p o place _ _ (same_value e call env) call env
same_assign (Increment p) call env = same_update p Add no_place (gives (pos 1)) (gives (pos 1)) refl call env
same_assign (Decrement p) call env = same_update p Sub no_place (gives (pos 1)) (gives (pos 1)) refl call env

same_declare : (ds : List LocalDecl) (call : Calling) (env : Environment) → new.declare_all (map lift_local ds) call env ≡ old.declare_all ds call env
same_declare [] call env = refl
same_declare (d ∷ ds) call env =
    both (same_value_or (pos 0) d.init call env) (λ v. same_declare ds call (declare env d.name.text v))

same_begin : (i : Init) (call : Calling) (env : Environment) → new.begin (lift_init i) call env ≡ old.begin i call env
same_begin NoInit call env = refl
same_begin (InitLocals ds) call env = same_declare ds call env
same_begin (InitAssign a) call env = same_assign a call env

same_step : (a : Option Assignment) (call : Calling) (env : Environment) → new.step_of (option_map lift_assignment a) call env ≡ old.step_of a call env
same_step None call env = refl
same_step (Some a) call env = same_assign a call env

-- ---- statements

same_loop : (n : ℕ) (counted : Bool) {test test' : Environment → Run ℤ} {body body' : Environment → Effect} {step step' : Environment → Run Environment} → ((env : Environment) → test env ≡ test' env) → ((env : Environment) → body env ≡ body' env) → ((env : Environment) → step env ≡ step' env) → (env : Environment) → loop n counted test body step env ≡ loop n counted test' body' step' env
same_loop n counted h k l env = λ i. loop n counted (λ e. h e i) (λ e. k e i) (λ e. l e i) env

mutual
  same_effect : (s : Stmt) (c : Context) (env : Environment) → new.effect (lift_stmt s) c env ≡ old.effect s c env
  same_effect (Block ps) c env = both (same_effects ps c (enter_scope env)) (λ out. refl)
  same_effect Empty c env = refl
  same_effect (Assign a) c env = both (same_assign a (call_in c) env) (λ env'. refl)
  same_effect (CallStatement f es) c env = both (same_values es (call_in c) env) (λ vs. refl)
  same_effect (Print place e) c env = both (same_value e (call_in c) env) (λ v. refl)
  same_effect (Emit place e) c env = both (same_value e (call_in c) env) (λ v. refl)
  same_effect (If test s) c env = both (same_value test (call_in c) env) (λ v. either (is_zero v) refl (same_effect s c env))
  same_effect (IfElse test s other) c env =
      both (same_value test (call_in c) env) (λ v. either (is_zero v) (same_effect other c env) (same_effect s c env))
  same_effect (While marked test s) c env =
      same_loop c.turns (is_counted marked c)
      (λ e. same_value test (call_in (inside marked c)) e) (λ e. same_effect s (inside marked c) e) (λ e. refl) env
  same_effect (For marked head s) c env =
      both (same_begin head.init (call_in c) (enter_scope env)) (λ env'.
      both (same_loop c.turns (is_counted marked c)
      (λ e. same_value_or (pos 1) head.test (call_in (inside marked c)) e) (λ e. same_effect s (inside marked c) e)
      (λ e. same_step head.step (call_in (inside marked c)) e) env') (λ out. refl))
  same_effect (Break place) c env = refl
  same_effect (Continue place) c env = refl
  same_effect (Return place e) c env = both (same_value_or (pos 0) e (call_in c) env) (λ v. refl)

  same_part : (p : Part) (c : Context) (env : Environment) → new.part_effect (lift_part p) c env ≡ old.part_effect p c env
  same_part (Locals ds) c env = both (same_declare ds (call_in c) env) (λ env'. refl)
  same_part (Statement s) c env = same_effect s c env

  pub same_effects : (ps : Parts) (c : Context) (env : Environment) → new.effects (lift_parts ps) c env ≡ old.effects ps c env
  same_effects no_parts c env = refl
  same_effects (part_and p ps) c env =
      both (same_part p c env) (λ out. λ i. go_on out.0 (λ e. same_effects ps c e i) out.1)
