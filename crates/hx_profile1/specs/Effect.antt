-- Profile 1: the effect of a statement. How a statement ends, where it stands and what a loop is are those of today.
use Rattle.std.specs.Prelude.{◌%◌, if◌then◌else◌, List, [], ◌∷◌, ◌++◌, ℤ, pos, Option, Some, None}
use Rattle.std.specs.Int.{w32, cast_unsigned}
use Rattle.std.specs.Fmt.{signed_decimal}
use Rattle.hx_tree.specs.declared.token.Pos.{Pos}
use Rattle.hx_tree.specs.declared.tree.Operator.{Operator}
use Rattle.hx_tree.specs.declared.tree.Operator.TheVariants.{Add, Sub}
use Rattle.hx_profile1.specs.Tree.{Expr, LocalDecl, Place, ToVariable, ToElement, Assignment, Set, Update, Increment, Decrement, Init, NoInit, InitLocals, InitAssign, Stmt, Block, Empty, Assign, CallStatement, Print, Emit, If, IfElse, While, For, Break, Continue, Return, Part, Locals, Statement, Parts, no_parts, part_and}
use Rattle.hx_tree.specs.Numbers.{is_zero}
use Rattle.hx_tree.specs.World.{Environment, Run, ◌>>=◌, gives, declare, enter_scope, leave_scope, read_element, write_element, print_bytes}
use Rattle.hx_tree.specs.Value.{Calling, read_variable, operate}
use Rattle.hx_profile1.specs.Value.{value, values}
use Rattle.hx_tree.specs.Effect.{Breaks, Continues, Returns, Effect, goes_on, Context, call_in, inside, is_counted, write_variable, no_place, loop, go_on}

-- ---- assignments and declarations

-- `p = e`: an index comes before the right side, and its range test after it
abbrev pub set_place : Place → Run ℤ → Calling → Environment → Run Environment
set_place (ToVariable x) right call env = do
  v ← right
  write_variable x v env
set_place (ToElement x e) right call env = do
  i ← value e call env
  v ← right
  done ← write_element x i v
  gives env

-- `p += e` and its kin: the old value is read before the right side
abbrev pub update_place : Place → Operator → Pos → Run ℤ → Calling → Environment → Run Environment
update_place (ToVariable x) o place right call env = do
  old ← read_variable x env
  v ← right
  new ← operate o place old v
  write_variable x new env
update_place (ToElement x e) o place right call env = do
  i ← value e call env
  old ← read_element x i
  v ← right
  new ← operate o place old v
  done ← write_element x i new
  gives env

abbrev pub assign : Assignment → Calling → Environment → Run Environment
assign (Set p e) call env = set_place p (value e call env) call env
assign (Update p o place e) call env = update_place p o place (value e call env) call env
assign (Increment p) call env = update_place p Add no_place (gives (pos 1)) call env
assign (Decrement p) call env = update_place p Sub no_place (gives (pos 1)) call env

-- the value of an expression that may be absent
abbrev pub value_or : ℤ → Option Expr → Calling → Environment → Run ℤ
value_or absent None call env = gives absent
value_or absent (Some e) call env = value e call env

-- a local without an initialiser becomes 0
abbrev pub declare_all : List LocalDecl → Calling → Environment → Run Environment
declare_all [] call env = gives env
declare_all (d ∷ rest) call env = do
  v ← value_or (pos 0) d.init call env
  declare_all rest call (declare env d.name.text v)

abbrev pub begin : Init → Calling → Environment → Run Environment
begin NoInit call env = gives env
begin (InitLocals ds) call env = declare_all ds call env
begin (InitAssign a) call env = assign a call env

abbrev pub step_of : Option Assignment → Calling → Environment → Run Environment
step_of None call env = gives env
step_of (Some a) call env = assign a call env

-- ---- statements

abbrev mutual
  pub effect : Stmt → Context → Environment → Effect
  effect (Block ps) c env = do
    (exit, env') ← effects ps c (enter_scope env)
    gives (exit, leave_scope env')
  effect Empty c env = goes_on env
  effect (Assign a) c env = do
    env' ← assign a (call_in c) env
    goes_on env'
  effect (CallStatement f es) c env = do
    vs ← values es (call_in c) env
    v ← call_in c f vs
    goes_on env
  effect (Print place e) c env = do
    v ← value e (call_in c) env
    done ← print_bytes place (signed_decimal v ++ 10 ∷ [])
    goes_on env
  effect (Emit place e) c env = do
    v ← value e (call_in c) env
    done ← print_bytes place (cast_unsigned w32 v % 256 ∷ [])
    goes_on env
  effect (If test s) c env = do
    v ← value test (call_in c) env
    if is_zero v then goes_on env else effect s c env
  effect (IfElse test s other) c env = do
    v ← value test (call_in c) env
    if is_zero v then effect other c env else effect s c env
  effect (While marked test s) c env =
      loop c.turns (is_counted marked c) (value test (call_in (inside marked c))) (effect s (inside marked c)) gives env
  effect (For marked h s) c env = do
    env' ← begin h.init (call_in c) (enter_scope env)
    (exit, env'') ← loop c.turns (is_counted marked c) (value_or (pos 1) h.test (call_in (inside marked c))) (effect s (inside marked c)) (step_of h.step (call_in (inside marked c))) env'
    gives (exit, leave_scope env'')
  effect (Break place) c env = gives (Breaks, env)
  effect (Continue place) c env = gives (Continues, env)
  effect (Return place e) c env = do
    v ← value_or (pos 0) e (call_in c) env
    gives (Returns v, env)

  pub part_effect : Part → Context → Environment → Effect
  part_effect (Locals ds) c env = do
    env' ← declare_all ds (call_in c) env
    goes_on env'
  part_effect (Statement s) c env = effect s c env

  -- one part after another, until one doesn't go on
  pub effects : Parts → Context → Environment → Effect
  effects no_parts c env = goes_on env
  effects (part_and p ps) c env = do
    (exit, env') ← part_effect p c env
    go_on exit (effects ps c) env'
