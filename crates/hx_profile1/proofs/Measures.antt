-- A tree of profile 1 has the measures of today's.
use Rattle.std.proofs.Common.{◌≡◌, ℕ, ◌+◌, max, List, [], ◌∷◌, length, Option, Some, None, map, refl, ap}
use Rattle.std.specs.Prelude.{option_map}
use Rattle.std.proofs.lemmas.List.{length-map}
use Rattle.hx_tree.specs.declared.tree.BinaryOp.TheVariants.{Strict, And, Or}
use Rattle.hx_tree.specs.Tree as tree
use Rattle.hx_tree.specs.Tree.{param_names}
use Rattle.hx_tree.specs.Height.{greatest, if_there}
use Rattle.hx_tree.specs.Height as new_height
use Rattle.hx_tree.specs.Need as new_need
use Rattle.hx_tree.specs.Accepted as new_accepted
use Rattle.hx_profile1.specs.Tree.{Expr, Number, Variable, Element, Call, Paren, Unary, Binary, Exprs, no_exprs, expr_and, LocalDecl, Place, ToVariable, ToElement, Assignment, Set, Update, Increment, Decrement, Init, NoInit, InitLocals, InitAssign, ForClauses, Stmt, Block, Empty, Assign, CallStatement, Print, Emit, If, IfElse, While, For, Break, Continue, Return, Part, Locals, Statement, Parts, no_parts, part_and, Func, Item, Globals, Function, Program}
use Rattle.hx_profile1.specs.Height as old_height
use Rattle.hx_profile1.specs.Need as old_need
use Rattle.hx_profile1.specs.Accepted as old_accepted
use Rattle.hx_profile1.specs.Lifted.{lift_expr, lift_exprs, lift_local, lift_place, lift_assignment, lift_init, lift_clauses, lift_stmt, lift_part, lift_parts, lift_func, lift_item, lifted}

-- ---- sums and greatest numbers

maxes : {a a' b b' : ℕ} → a ≡ a' → b ≡ b' → max a b ≡ max a' b'
maxes h k = λ i. max (h i) (k i)

next : {a b : ℕ} → a ≡ b → 1 + a ≡ 1 + b
next h = ap (λ n. 1 + n) h

same_there : {X Y : Type 0} (f : Y → ℕ) (g : X → ℕ) (lift : X → Y) → ((x : X) → f (lift x) ≡ g x) → (o : Option X) → if_there f (option_map lift o) ≡ if_there g o
same_there f g lift each None = refl
same_there f g lift each (Some x) = each x

same_greatest : {X Y : Type 0} (f : Y → ℕ) (g : X → ℕ) (lift : X → Y) → ((x : X) → f (lift x) ≡ g x) → (xs : List X) → greatest f (map lift xs) ≡ greatest g xs
same_greatest f g lift each [] = refl
same_greatest f g lift each (x ∷ xs) = maxes (each x) (same_greatest f g lift each xs)

-- ---- heights

mutual
  same_height : (e : Expr) → new_height.height (lift_expr e) ≡ old_height.height e
  same_height (Number n) = refl
  same_height (Variable x) = refl
  same_height (Element x e) = next (same_height e)
  same_height (Call f es) = next (same_heights es)
  same_height (Paren e) = next (same_height e)
  same_height (Unary o e) = next (same_height e)
  same_height (Binary o place l r) = next (maxes (same_height l) (same_height r))

  same_heights : (es : Exprs) → new_height.heights (lift_exprs es) ≡ old_height.heights es
  same_heights no_exprs = refl
  same_heights (expr_and e es) = maxes (same_height e) (same_heights es)

place_height : (p : Place) → new_height.place_height (lift_place p) ≡ old_height.place_height p
place_height (ToVariable x) = refl
place_height (ToElement x e) = same_height e

assignment_height : (a : Assignment) → new_height.assignment_height (lift_assignment a) ≡ old_height.assignment_height a
assignment_height (Set p e) = next (maxes (place_height p) (same_height e))
assignment_height (Update p o place e) = next (maxes (place_height p) (same_height e))
assignment_height (Increment p) = next (place_height p)
assignment_height (Decrement p) = next (place_height p)

abbrev new_init_height : tree.LocalDecl → ℕ
new_init_height d = if_there new_height.height d.init

abbrev old_init_height : LocalDecl → ℕ
old_init_height d = if_there old_height.height d.init

locals_height : (ds : List LocalDecl) → new_height.locals_height (map lift_local ds) ≡ old_height.locals_height ds
locals_height ds =
    next (same_greatest new_init_height old_init_height lift_local
    (λ d. same_there new_height.height old_height.height lift_expr same_height d.init) ds)

init_height : (i : Init) → new_height.init_height (lift_init i) ≡ old_height.init_height i
init_height NoInit = refl
init_height (InitLocals ds) = locals_height ds
init_height (InitAssign a) = assignment_height a

head_height : (h : ForClauses) → new_height.head_height (lift_clauses h) ≡ old_height.head_height h
head_height h =
    maxes (init_height h.init) (maxes (same_there new_height.height old_height.height lift_expr same_height h.test)
    (same_there new_height.assignment_height old_height.assignment_height lift_assignment assignment_height h.step))

mutual
  stmt_height : (s : Stmt) → new_height.stmt_height (lift_stmt s) ≡ old_height.stmt_height s
  stmt_height (Block ps) = next (parts_height ps)
  stmt_height Empty = refl
  stmt_height (Assign a) = next (assignment_height a)
  stmt_height (CallStatement f es) = next (same_heights es)
  stmt_height (Print place e) = next (same_height e)
  stmt_height (Emit place e) = next (same_height e)
  stmt_height (If test s) = next (maxes (same_height test) (stmt_height s))
  stmt_height (IfElse test s other) = next (maxes (same_height test) (maxes (stmt_height s) (stmt_height other)))
  stmt_height (While marked test s) = next (maxes (same_height test) (stmt_height s))
  stmt_height (For marked h s) = next (maxes (head_height h) (stmt_height s))
  stmt_height (Break place) = refl
  stmt_height (Continue place) = refl
  stmt_height (Return place e) = next (same_there new_height.height old_height.height lift_expr same_height e)

  part_height : (p : Part) → new_height.part_height (lift_part p) ≡ old_height.part_height p
  part_height (Locals ds) = locals_height ds
  part_height (Statement s) = stmt_height s

  parts_height : (ps : Parts) → new_height.parts_height (lift_parts ps) ≡ old_height.parts_height ps
  parts_height no_parts = refl
  parts_height (part_and p ps) = maxes (part_height p) (parts_height ps)

item_height : (i : Item) → new_height.item_height (lift_item i) ≡ old_height.item_height i
item_height (Globals gs) = refl
item_height (Function f) = ap (λ n. 2 + n) (parts_height f.body)

pub program_height : (p : Program) → new_height.program_height (lifted p) ≡ old_height.program_height p
program_height p = next (same_greatest new_height.item_height old_height.item_height lift_item item_height p.items)

-- ---- needs

mutual
  same_need : (e : Expr) → new_need.need (lift_expr e) ≡ old_need.need e
  same_need (Number n) = refl
  same_need (Variable x) = refl
  same_need (Element x e) = same_need e
  same_need (Call f es) = maxes refl (same_needs es 0)
  same_need (Paren e) = same_need e
  same_need (Unary o e) = same_need e
  same_need (Binary (Strict o) place l r) = maxes (same_need l) (next (same_need r))
  same_need (Binary And place l r) = maxes refl (maxes (same_need l) (same_need r))
  same_need (Binary Or place l r) = maxes refl (maxes (same_need l) (same_need r))

  same_needs : (es : Exprs) (before : ℕ) → new_need.needs (lift_exprs es) before ≡ old_need.needs es before
  same_needs no_exprs before = refl
  same_needs (expr_and e es) before = maxes (ap (λ n. before + n) (same_need e)) (same_needs es (before + 1))

set_need : (p : Place) (right right' : ℕ) → right ≡ right' → new_need.set_need (lift_place p) right ≡ old_need.set_need p right'
set_need (ToVariable x) right right' h = h
set_need (ToElement x e) right right' h = maxes (same_need e) (next h)

update_need : (p : Place) (right right' : ℕ) → right ≡ right' → new_need.update_need (lift_place p) right ≡ old_need.update_need p right'
update_need (ToVariable x) right right' h = next h
update_need (ToElement x e) right right' h = maxes (same_need e) (ap (λ n. 2 + n) h)

assignment_need : (a : Assignment) → new_need.assignment_need (lift_assignment a) ≡ old_need.assignment_need a
assignment_need (Set p e) = set_need p _ _ (same_need e)
assignment_need (Update p o place e) = update_need p _ _ (same_need e)
assignment_need (Increment p) = update_need p 1 1 refl
assignment_need (Decrement p) = update_need p 1 1 refl

abbrev new_init_need : tree.LocalDecl → ℕ
new_init_need d = if_there new_need.need d.init

abbrev old_init_need : LocalDecl → ℕ
old_init_need d = if_there old_need.need d.init

locals_need : (ds : List LocalDecl) → new_need.locals_need (map lift_local ds) ≡ old_need.locals_need ds
locals_need ds =
    same_greatest new_init_need old_init_need lift_local
    (λ d. same_there new_need.need old_need.need lift_expr same_need d.init) ds

init_need : (i : Init) → new_need.init_need (lift_init i) ≡ old_need.init_need i
init_need NoInit = refl
init_need (InitLocals ds) = locals_need ds
init_need (InitAssign a) = assignment_need a

head_need : (h : ForClauses) → new_need.head_need (lift_clauses h) ≡ old_need.head_need h
head_need h =
    maxes (init_need h.init) (maxes (same_there new_need.need old_need.need lift_expr same_need h.test)
    (same_there new_need.assignment_need old_need.assignment_need lift_assignment assignment_need h.step))

mutual
  stmt_need : (s : Stmt) → new_need.stmt_need (lift_stmt s) ≡ old_need.stmt_need s
  stmt_need (Block ps) = parts_need ps
  stmt_need Empty = refl
  stmt_need (Assign a) = assignment_need a
  stmt_need (CallStatement f es) = same_needs es 0
  stmt_need (Print place e) = same_need e
  stmt_need (Emit place e) = same_need e
  stmt_need (If test s) = maxes (same_need test) (stmt_need s)
  stmt_need (IfElse test s other) = maxes (same_need test) (maxes (stmt_need s) (stmt_need other))
  stmt_need (While marked test s) = maxes (same_need test) (stmt_need s)
  stmt_need (For marked h s) = maxes (head_need h) (stmt_need s)
  stmt_need (Break place) = refl
  stmt_need (Continue place) = refl
  stmt_need (Return place e) = same_there new_need.need old_need.need lift_expr same_need e

  part_need : (p : Part) → new_need.part_need (lift_part p) ≡ old_need.part_need p
  part_need (Locals ds) = locals_need ds
  part_need (Statement s) = stmt_need s

  parts_need : (ps : Parts) → new_need.parts_need (lift_parts ps) ≡ old_need.parts_need ps
  parts_need no_parts = refl
  parts_need (part_and p ps) = maxes (part_need p) (parts_need ps)

pub function_need : (f : Func) → new_need.function_need (lift_func f) ≡ old_need.function_need f
function_need f = maxes refl (parts_need f.body)

-- ---- private words

pub sums : {a a' b b' : ℕ} → a ≡ a' → b ≡ b' → a + b ≡ a' + b'
sums h k = λ i. h i + k i

init_locals : (i : Init) → new_accepted.init_locals (lift_init i) ≡ old_accepted.init_locals i
init_locals NoInit = refl
init_locals (InitLocals ds) = length-map ds lift_local
init_locals (InitAssign a) = refl

mutual
  stmt_locals : (s : Stmt) → new_accepted.stmt_locals (lift_stmt s) ≡ old_accepted.stmt_locals s
  stmt_locals (Block ps) = parts_locals ps
  stmt_locals Empty = refl
  stmt_locals (Assign a) = refl
  stmt_locals (CallStatement f es) = refl
  stmt_locals (Print place e) = refl
  stmt_locals (Emit place e) = refl
  stmt_locals (If test s) = stmt_locals s
  stmt_locals (IfElse test s other) = sums (stmt_locals s) (stmt_locals other)
  stmt_locals (While marked test s) = stmt_locals s
  stmt_locals (For marked h s) = sums (init_locals h.init) (stmt_locals s)
  stmt_locals (Break place) = refl
  stmt_locals (Continue place) = refl
  stmt_locals (Return place e) = refl

  part_locals : (p : Part) → new_accepted.part_locals (lift_part p) ≡ old_accepted.part_locals p
  part_locals (Locals ds) = length-map ds lift_local
  part_locals (Statement s) = stmt_locals s

  parts_locals : (ps : Parts) → new_accepted.parts_locals (lift_parts ps) ≡ old_accepted.parts_locals ps
  parts_locals no_parts = refl
  parts_locals (part_and p ps) = sums (part_locals p) (parts_locals ps)

pub private_words : (f : Func) → new_accepted.private_words (lift_func f) ≡ old_accepted.private_words f
private_words f = ap (λ n. length (param_names f.params) + n) (parts_locals f.body)
