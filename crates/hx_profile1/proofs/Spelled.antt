-- Tokens that spell a tree of profile 1 spell today's.
use Rattle.std.proofs.Common.{◌≡◌, ℕ, ◌-◌, List, [], ◌∷◌, Option, Some, None, map, refl, ◌∙◌, arith}
use Rattle.std.specs.Prelude.{option_map}
use Rattle.hx_tree.specs.Lexis.{Token}
use Rattle.hx_tree.specs.declared.token.Mark.TheVariants as mark
use Rattle.hx_tree.specs.Grammar.{Phrase, ◌⨾◌, The, Optional, EachBehindComma, Listed}
use Rattle.hx_tree.specs.Grammar as new
use Rattle.hx_tree.specs.Tree as tree
use Rattle.hx_tree.proofs.Phrases.{weaken}
use Rattle.hx_profile1.specs.Grammar as old
use Rattle.hx_profile1.specs.Tree.{Expr, Number, Variable, Element, Call, Paren, Unary, Binary, Exprs, no_exprs, expr_and, LocalDecl, Place, ToVariable, ToElement, Assignment, Set, Update, Increment, Decrement, Init, NoInit, InitLocals, InitAssign, ForClauses, Stmt, Block, Empty, Assign, CallStatement, Print, Emit, If, IfElse, While, For, Break, Continue, Return, Part, Locals, Statement, Parts, no_parts, part_and, Item, Globals, Function, Program}
use Rattle.hx_profile1.specs.Lifted.{lift_expr, lift_exprs, lift_local, lift_place, lift_assignment, lift_init, lift_clauses, lift_stmt, lift_part, lift_parts, lift_item, lifted}
use Rattle.hx_profile1.specs.Promises.{KeepsSources}
use Rattle.hx_profile1.proofs.Tokens.{same_tokens}

-- ---- expressions

-- an expression of the layer `||` stands where one of the layer of `?:` may
up : (e : tree.Expr) (from to : List Token) → new.IsExprOf 10 e from to → new.IsExprOf 11 e from to
up e from to h = weaken e 10 11 (omega arith) from to h

mutual
  expr_spelled : (e : Expr) (k : ℕ) (from to : List Token) → old.IsExprOf k e from to → new.IsExprOf k (lift_expr e) from to
  expr_spelled (Number n) k from to h = h
  expr_spelled (Variable x) k from to h = h
  expr_spelled (Element x e) k from to (a, h, (b, i, (c, j, l))) = (a, h, (b, i, (c, up (lift_expr e) b c (expr_spelled e 10 b c j), l)))
  expr_spelled (Call f es) k from to (a, h, (b, i, (c, j, l))) = (a, h, (b, i, (c, arguments_spelled es b c j, l)))
  expr_spelled (Paren e) k from to (a, h, (b, i, l)) = (a, h, (b, up (lift_expr e) a b (expr_spelled e 10 a b i), l))
  expr_spelled (Unary o e) k from to (a, h, i) = (a, h, expr_spelled e 0 a to i)
  expr_spelled (Binary o place l r) k from to (fits, (a, h, (b, i, j))) =
      (fits, (a, expr_spelled l (new.layer o) from a h, (b, i, expr_spelled r (new.layer o - 1) b to j)))

  arguments_spelled : (es : Exprs) (from to : List Token) → old.AreArguments es from to → new.AreArguments (lift_exprs es) from to
  arguments_spelled no_exprs from to h = h
  arguments_spelled (expr_and e es) from to (a, h, i) = (a, up (lift_expr e) from a (expr_spelled e 10 from a h), more_spelled es a to i)

  more_spelled : (es : Exprs) (from to : List Token) → old.AreMoreArguments es from to → new.AreMoreArguments (lift_exprs es) from to
  more_spelled no_exprs from to h = h
  more_spelled (expr_and e es) from to (a, h, (b, i, j)) =
      (a, h, (b, up (lift_expr e) a b (expr_spelled e 10 a b i), more_spelled es b to j))

spelled : (e : Expr) (from to : List Token) → old.IsExpr e from to → new.IsExpr (lift_expr e) from to
spelled e from to h = up (lift_expr e) from to (expr_spelled e 10 from to h)

-- ---- lists

optional : {X Y : Type 0} (P : X → Phrase) (Q : Y → Phrase) (f : X → Y) → ((x : X) (from to : List Token) → P x from to → Q (f x) from to) → (o : Option X) (from to : List Token) → Optional P o from to → Optional Q (option_map f o) from to
optional P Q f each None from to h = h
optional P Q f each (Some x) from to h = each x from to h

behind_commas : {X Y : Type 0} (P : X → Phrase) (Q : Y → Phrase) (f : X → Y) → ((x : X) (from to : List Token) → P x from to → Q (f x) from to) → (xs : List X) (from to : List Token) → EachBehindComma P xs from to → EachBehindComma Q (map f xs) from to
behind_commas P Q f each [] from to h = h
behind_commas P Q f each (x ∷ xs) from to (a, h, (b, i, j)) = (a, h, (b, each x a b i, behind_commas P Q f each xs b to j))

listed : {X Y : Type 0} (P : X → Phrase) (Q : Y → Phrase) (f : X → Y) → ((x : X) (from to : List Token) → P x from to → Q (f x) from to) → (xs : List X) (from to : List Token) → Listed P xs from to → Listed Q (map f xs) from to
listed P Q f each [] from to h = h
listed P Q f each (x ∷ xs) from to (a, h, i) = (a, each x from a h, behind_commas P Q f each xs a to i)

-- ---- what statements are made of

value_spelled : (e : Expr) (from to : List Token) → (The mark.Assign ⨾ old.IsExpr e) from to → (The mark.Assign ⨾ new.IsExpr (lift_expr e)) from to
value_spelled e from to (b, j, k) = (b, j, spelled e b to k)

local_spelled : (d : LocalDecl) (from to : List Token) → old.IsLocal d from to → new.IsLocal (lift_local d) from to
local_spelled d from to (a, h, i) =
    (a, h, optional (λ e. The mark.Assign ⨾ old.IsExpr e) (λ e. The mark.Assign ⨾ new.IsExpr e) lift_expr value_spelled d.init a to i)

locals_spelled : (ds : List LocalDecl) (from to : List Token) → old.AreLocals ds from to → new.AreLocals (map lift_local ds) from to
locals_spelled ds from to (a, h, i) = (a, h, listed old.IsLocal new.IsLocal lift_local local_spelled ds a to i)

place_spelled : (p : Place) (from to : List Token) → old.IsPlace p from to → new.IsPlace (lift_place p) from to
place_spelled (ToVariable x) from to h = h
place_spelled (ToElement x e) from to (a, h, (b, i, (c, j, l))) = (a, h, (b, i, (c, spelled e b c j, l)))

assignment_spelled : (a : Assignment) (from to : List Token) → old.IsAssignment a from to → new.IsAssignment (lift_assignment a) from to
assignment_spelled (Set p e) from to (a, h, (b, i, j)) = (a, place_spelled p from a h, (b, i, spelled e b to j))
assignment_spelled (Update p o place e) from to (a, h, (b, i, j)) = (a, place_spelled p from a h, (b, i, spelled e b to j))
assignment_spelled (Increment p) from to (a, h, i) = (a, place_spelled p from a h, i)
assignment_spelled (Decrement p) from to (a, h, i) = (a, place_spelled p from a h, i)

init_spelled : (i : Init) (from to : List Token) → old.IsInit i from to → new.IsInit (lift_init i) from to
init_spelled NoInit from to h = h
init_spelled (InitLocals ds) from to h = locals_spelled ds from to h
init_spelled (InitAssign a) from to h = assignment_spelled a from to h

clauses_spelled : (h : ForClauses) (from to : List Token) → old.AreForClauses h from to → new.AreForClauses (lift_clauses h) from to
clauses_spelled head from to (a, h, (b, i, (c, j, (d, k, (e, l, (f, m, n)))))) =
    (a, h, (b, init_spelled head.init a b i, (c, j, (d, optional old.IsExpr new.IsExpr lift_expr spelled head.test c d k, (e, l, (f, optional old.IsAssignment new.IsAssignment lift_assignment assignment_spelled head.step e f m, n))))))

in_parens : (e : Expr) (from to : List Token) → old.InParens e from to → new.InParens (lift_expr e) from to
in_parens e from to (a, h, (b, i, j)) = (a, h, (b, spelled e a b i, j))

-- ---- statements

same_end : (s : Stmt) → new.ends_open (lift_stmt s) ≡ old.ends_open s
same_end (Block ps) = refl
same_end Empty = refl
same_end (Assign a) = refl
same_end (CallStatement f es) = refl
same_end (Print place e) = refl
same_end (Emit place e) = refl
same_end (If e s) = refl
same_end (IfElse e s t) = same_end t
same_end (While marked e s) = same_end s
same_end (For marked h s) = same_end s
same_end (Break place) = refl
same_end (Continue place) = refl
same_end (Return place e) = refl

mutual
  stmt_spelled : (s : Stmt) (from to : List Token) → old.IsStmt s from to → new.IsStmt (lift_stmt s) from to
  stmt_spelled (Block ps) from to (a, h, (b, i, j)) = (a, h, (b, parts_spelled ps a b i, j))
  stmt_spelled Empty from to h = h
  stmt_spelled (Assign a) from to (b, h, i) = (b, assignment_spelled a from b h, i)
  stmt_spelled (CallStatement f es) from to (a, h, (b, i, (c, j, k))) = (a, h, (b, i, (c, arguments_spelled es b c j, k)))
  stmt_spelled (Print place e) from to (a, h, (b, i, j)) = (a, h, (b, in_parens e a b i, j))
  stmt_spelled (Emit place e) from to (a, h, (b, i, j)) = (a, h, (b, in_parens e a b i, j))
  stmt_spelled (If e s) from to (a, h, (b, i, j)) = (a, h, (b, in_parens e a b i, stmt_spelled s b to j))
  stmt_spelled (IfElse e s t) from to (closed, (a, h, (b, i, (c, j, (d, k, l))))) =
      (same_end s ∙ closed, (a, h, (b, in_parens e a b i, (c, stmt_spelled s b c j, (d, k, stmt_spelled t d to l)))))
  stmt_spelled (While marked e s) from to (a, h, (b, i, j)) = (a, h, (b, in_parens e a b i, stmt_spelled s b to j))
  stmt_spelled (For marked head s) from to (a, h, (b, i, j)) = (a, h, (b, clauses_spelled head a b i, stmt_spelled s b to j))
  stmt_spelled (Break place) from to h = h
  stmt_spelled (Continue place) from to h = h
  stmt_spelled (Return place e) from to (a, h, (b, i, j)) = (a, h, (b, optional old.IsExpr new.IsExpr lift_expr spelled e a b i, j))

  part_spelled : (p : Part) (from to : List Token) → old.IsPart p from to → new.IsPart (lift_part p) from to
  part_spelled (Locals ds) from to (a, h, i) = (a, locals_spelled ds from a h, i)
  part_spelled (Statement s) from to h = stmt_spelled s from to h

  parts_spelled : (ps : Parts) (from to : List Token) → old.AreParts ps from to → new.AreParts (lift_parts ps) from to
  parts_spelled no_parts from to h = h
  parts_spelled (part_and p ps) from to (a, h, i) = (a, part_spelled p from a h, parts_spelled ps a to i)

-- ---- programs

item_spelled : (i : Item) (from to : List Token) → old.IsItem i from to → new.IsItem (lift_item i) from to
item_spelled (Globals gs) from to h = h
item_spelled (Function f) from to (a, h, (b, i, (c, j, (d, k, (e, l, (g, m, (n, o, p))))))) =
    (a, h, (b, i, (c, j, (d, k, (e, l, (g, m, (n, parts_spelled f.body g n o, p)))))))

items_spelled : (is : List Item) (from to : List Token) → old.AreItems is from to → new.AreItems (map lift_item is) from to
items_spelled [] from to h = h
items_spelled (i ∷ is) from to (a, h, j) = (a, item_spelled i from a h, items_spelled is a to j)

pub keeps_sources : (p : Program) → KeepsSources p (lifted p)
keeps_sources p bytes source free = record {
  is_short = source.is_short;
  tokens = source.tokens;
  are_tokens = same_tokens bytes source.tokens source.are_tokens free;
  is_program = items_spelled p.items source.tokens [] source.is_program;
}
