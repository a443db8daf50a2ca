-- A program of profile 1 that is accepted is accepted today.
use Rattle.std.proofs.Common.{◌≡◌, ℕ, ◌+◌, ◌≤◌, List, [], ◌∷◌, ◌++◌, length, Option, Some, None, map, refl, sym, ap, subst, ◌∙◌, arith}
use Rattle.std.specs.Prelude.{option_map, flat_map, sum_by, slice_index_or, All, codes}
use Rattle.std.proofs.lemmas.List.{length-map}
use Rattle.std.proofs.lemmas.List.Elements.{All-map}
use Rattle.std.proofs.lemmas.List.Sums.{sum_by-cons}
use Rattle.hx_tree.specs.declared.limits.TheConstants.{HEIGHT_LIMIT, FUNCTION_LIMIT, PRIVATE_LIMIT, OPERAND_LIMIT}
use Rattle.hx_tree.specs.declared.tree.Returns.{Returns}
use Rattle.hx_tree.specs.declared.tree.Returns.TheVariants as returns
use Rattle.hx_tree.specs.Tree.{Shape, Scalar, Array}
use Rattle.hx_tree.specs.World.{Map, look_up}
use Rattle.hx_tree.specs.Accepted.{Kind, FunctionKind, Surroundings, IfThere, IsDistinct, in_scope, inside_loop}
use Rattle.hx_tree.specs.Accepted as new
use Rattle.hx_profile1.specs.Tree.{Expr, Number, Variable, Element, Call, Paren, Unary, Binary, Exprs, no_exprs, expr_and, LocalDecl, Place, ToVariable, ToElement, Assignment, Set, Update, Increment, Decrement, Init, NoInit, InitLocals, InitAssign, Stmt, Block, Empty, Assign, CallStatement, Print, Emit, If, IfElse, While, For, Break, Continue, Return, Part, Locals, Statement, Parts, no_parts, part_and, Func, Item, Globals, Function, Program}
use Rattle.hx_profile1.specs.Accepted as old
use Rattle.hx_profile1.specs.Meaning as old_meaning
use Rattle.hx_profile1.specs.Lifted.{lift_expr, lift_exprs, lift_local, lift_place, lift_assignment, lift_init, lift_stmt, lift_part, lift_parts, lift_func, lift_item, lifted}
use Rattle.hx_profile1.specs.Promises.{KeepsAcceptance}
use Rattle.hx_profile1.proofs.Measures.{program_height, function_need, private_words, sums}
use Rattle.hx_profile1.proofs.Meanings.{lifted_functions}

-- ---- expressions

same_count : (es : Exprs) → new.count (lift_exprs es) ≡ old.count es
same_count no_exprs = refl
same_count (expr_and e es) = ap (λ n. 1 + n) (same_count es)

mutual
  accepts_expr : (e : Expr) (here : Surroundings) → old.AcceptsExpr e here → new.AcceptsExpr (lift_expr e) here
  accepts_expr (Number n) here h = h
  accepts_expr (Variable x) here h = h
  accepts_expr (Element x e) here (h, k) = (h, accepts_expr e here k)
  accepts_expr (Call f es) here (h, k) = (h ∙ ap (λ n. Some (FunctionKind returns.Int n)) (sym (same_count es)), accepts_exprs es here k)
  accepts_expr (Paren e) here h = accepts_expr e here h
  accepts_expr (Unary o e) here h = accepts_expr e here h
  accepts_expr (Binary o place l r) here (h, k) = (accepts_expr l here h, accepts_expr r here k)

  accepts_exprs : (es : Exprs) (here : Surroundings) → old.AcceptsExprs es here → new.AcceptsExprs (lift_exprs es) here
  accepts_exprs no_exprs here h = tt
  accepts_exprs (expr_and e es) here (h, k) = (accepts_expr e here h, accepts_exprs es here k)

there : {X Y : Type 0} (P : X → Surroundings → Type 0) (Q : Y → Surroundings → Type 0) (f : X → Y) → ((x : X) (here : Surroundings) → P x here → Q (f x) here) → (o : Option X) (here : Surroundings) → IfThere P o here → IfThere Q (option_map f o) here
there P Q f each None here h = tt
there P Q f each (Some x) here h = each x here h

-- ---- what statements are made of

accepts_place : (p : Place) (here : Surroundings) → old.AcceptsPlace p here → new.AcceptsPlace (lift_place p) here
accepts_place (ToVariable x) here h = h
accepts_place (ToElement x e) here (h, k) = (h, accepts_expr e here k)

accepts_assignment : (a : Assignment) (here : Surroundings) → old.AcceptsAssignment a here → new.AcceptsAssignment (lift_assignment a) here
accepts_assignment (Set p e) here (h, k) = (accepts_place p here h, accepts_expr e here k)
accepts_assignment (Update p o place e) here (h, k) = (accepts_place p here h, accepts_expr e here k)
accepts_assignment (Increment p) here h = accepts_place p here h
accepts_assignment (Decrement p) here h = accepts_place p here h

accepts_locals : (ds : List LocalDecl) (here : Surroundings) → old.AcceptsLocals ds here → new.AcceptsLocals (map lift_local ds) here
accepts_locals [] here h = tt
accepts_locals (d ∷ ds) here (h, k, l) =
    (there old.AcceptsExpr new.AcceptsExpr lift_expr accepts_expr d.init here h, k, accepts_locals ds (old.with_local d here) l)

same_locals : (ds : List LocalDecl) (here : Surroundings) → new.with_locals (map lift_local ds) here ≡ old.with_locals ds here
same_locals [] here = refl
same_locals (d ∷ ds) here = same_locals ds (old.with_local d here)

accepts_init : (i : Init) (here : Surroundings) → old.AcceptsInit i here → new.AcceptsInit (lift_init i) here
accepts_init NoInit here h = tt
accepts_init (InitLocals ds) here h = accepts_locals ds here h
accepts_init (InitAssign a) here h = accepts_assignment a here h

after_init : (i : Init) (here : Surroundings) → new.after_init (lift_init i) here ≡ old.after_init i here
after_init NoInit here = refl
after_init (InitLocals ds) here = same_locals ds here
after_init (InitAssign a) here = refl

accepts_return : (r : Returns) (e : Option Expr) (here : Surroundings) → old.AcceptsReturn r e here → new.AcceptsReturn r (option_map lift_expr e) here
accepts_return returns.Int None here h = h
accepts_return returns.Int (Some e) here h = accepts_expr e here h
accepts_return returns.Void None here h = h
accepts_return returns.Void (Some e) here h = h

-- ---- statements

after_part : (p : Part) (here : Surroundings) → new.after_part (lift_part p) here ≡ old.after_part p here
after_part (Locals ds) here = same_locals ds here
after_part (Statement s) here = refl

mutual
  accepts_stmt : (s : Stmt) (here : Surroundings) → old.AcceptsStmt s here → new.AcceptsStmt (lift_stmt s) here
  accepts_stmt (Block ps) here h = accepts_parts ps (in_scope here) h
  accepts_stmt Empty here h = tt
  accepts_stmt (Assign a) here h = accepts_assignment a here h
  accepts_stmt (CallStatement f es) here ((r, h), k) =
      ((r, h ∙ ap (λ n. Some (FunctionKind r n)) (sym (same_count es))), accepts_exprs es here k)
  accepts_stmt (Print place e) here h = accepts_expr e here h
  accepts_stmt (Emit place e) here h = accepts_expr e here h
  accepts_stmt (If test s) here (h, k) = (accepts_expr test here h, accepts_stmt s here k)
  accepts_stmt (IfElse test s other) here (h, k, l) = (accepts_expr test here h, accepts_stmt s here k, accepts_stmt other here l)
  accepts_stmt (While marked test s) here (h, k) = (accepts_expr test here h, accepts_stmt s (inside_loop here) k)
  accepts_stmt (For marked head s) here (h, k, l, m) =
      let same : old.after_init head.init (in_scope here) ≡ new.after_init (lift_init head.init) (in_scope here) = sym (after_init head.init (in_scope here))
      in (
        accepts_init head.init (in_scope here) h,
        subst (λ inner. IfThere new.AcceptsExpr (option_map lift_expr head.test) inner) same (there old.AcceptsExpr new.AcceptsExpr lift_expr accepts_expr head.test (old.after_init head.init (in_scope here)) k),
        subst (λ inner. IfThere new.AcceptsAssignment (option_map lift_assignment head.step) inner) same (there old.AcceptsAssignment new.AcceptsAssignment lift_assignment accepts_assignment head.step (old.after_init head.init (in_scope here)) l),
        subst (λ inner. new.AcceptsStmt (lift_stmt s) (inside_loop inner)) same (accepts_stmt s (inside_loop (old.after_init head.init (in_scope here))) m),
      )
  accepts_stmt (Break place) here h = h
  accepts_stmt (Continue place) here h = h
  accepts_stmt (Return place e) here h = accepts_return here.returns e here h

  accepts_part : (p : Part) (here : Surroundings) → old.AcceptsPart p here → new.AcceptsPart (lift_part p) here
  accepts_part (Locals ds) here h = accepts_locals ds here h
  accepts_part (Statement s) here h = accepts_stmt s here h

  accepts_parts : (ps : Parts) (here : Surroundings) → old.AcceptsParts ps here → new.AcceptsParts (lift_parts ps) here
  accepts_parts no_parts here h = tt
  accepts_parts (part_and p ps) here (h, k) =
      (accepts_part p here h, subst (λ inner. new.AcceptsParts (lift_parts ps) inner) (sym (after_part p here)) (accepts_parts ps (old.after_part p here) k))

-- ---- whole programs

accepts_shape : (s : Shape) → old.AcceptsShape s → new.AcceptsShape s
accepts_shape (Scalar None) h = tt
accepts_shape (Scalar (Some c)) h = h
accepts_shape (Array n cs) (h, k, l, m) = (h, omega arith, l, m)

accepts_function : (kinds : Map Kind) (f : Func) → old.AcceptsFunction kinds f → new.AcceptsFunction kinds (lift_func f)
accepts_function kinds f h = record {
  distinct = h.distinct;
  body = accepts_parts f.body (old.at_start kinds f) h.body;
  few_params = h.few_params;
  few_private = subst (λ n. n ≤ PRIVATE_LIMIT) (sym (private_words f)) h.few_private;
  few_operands = subst (λ n. n ≤ OPERAND_LIMIT) (sym (function_need f)) h.few_operands;
}

accepts_item : (kinds : Map Kind) (i : Item) → old.AcceptsItem kinds i → new.AcceptsItem kinds (lift_item i)
accepts_item kinds (Globals gs) h = λ k d lt. accepts_shape (slice_index_or gs k d).shape (h k d lt)
accepts_item kinds (Function f) h = accepts_function kinds f h

same_kinds : (is : List Item) → flat_map new.item_kinds (map lift_item is) ≡ flat_map old.item_kinds is
same_kinds [] = refl
same_kinds (Globals gs ∷ is) = ap (λ l. old.item_kinds (Globals gs) ++ l) (same_kinds is)
same_kinds (Function f ∷ is) = ap (λ l. old.item_kinds (Function f) ++ l) (same_kinds is)

item_words : (i : Item) → new.item_words (lift_item i) ≡ old.item_words i
item_words (Globals gs) = refl
item_words (Function f) = refl

same_words : (is : List Item) → sum_by new.item_words (map lift_item is) ≡ sum_by old.item_words is
same_words [] = refl
same_words (i ∷ is) =
    sum_by-cons new.item_words (lift_item i) (map lift_item is) ∙ sums (item_words i) (same_words is) ∙ sym (sum_by-cons old.item_words i is)

accepts_items : (p : Program) → All (old.AcceptsItem (old.kinds_of p)) p.items → All (new.AcceptsItem (new.kinds_of (lifted p))) (map lift_item p.items)
accepts_items p h =
    subst (λ kinds. All (new.AcceptsItem kinds) (map lift_item p.items)) (sym (same_kinds p.items))
    (All-map (new.AcceptsItem (old.kinds_of p)) lift_item p.items (λ k d lt. accepts_item (old.kinds_of p) (slice_index_or p.items k d) (h k d lt)))

few_words : (n m : ℕ) → n ≡ m → m ≤ 65536 → n ≤ 262144
few_words n m e h = omega arith

abbrev names_in : Map Kind → List (List ℕ)
names_in kinds = map (λ entry. entry.0) kinds

abbrev main_in : Map Kind → Option Kind
main_in kinds = look_up kinds (codes "main")

pub keeps_acceptance : (p : Program) → KeepsAcceptance p (lifted p)
keeps_acceptance p h = record {
  is_low = subst (λ n. n ≤ HEIGHT_LIMIT) (sym (program_height p)) h.is_low;
  distinct = subst (λ kinds. IsDistinct (names_in kinds)) (sym (same_kinds p.items)) h.distinct;
  has_main = ap main_in (same_kinds p.items) ∙ h.has_main;
  items = accepts_items p h.items;
  few_words = few_words _ _ (same_words p.items) h.few_words;
  few_functions = subst (λ n. n ≤ FUNCTION_LIMIT) (sym (ap length (lifted_functions p.items) ∙ length-map (old_meaning.functions_of p) lift_func)) h.few_functions;
}
