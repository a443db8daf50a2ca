-- Nodes of the tree that hold a list of nodes, as the reading sees them.
use Rattle.std.proofs.Common.{Global, ◌≡◌, Bool, true, false, List, [], ◌∷◌, map, length, refl, ap, ◌∙◌, arith}
use Rattle.std.specs.Prelude.{Vec, Ok, Err}
use Rattle.std.proofs.lemmas.List.{length-map}
use Rattle.hx_tree.specs.declared.tree.Name.{Name}
use Rattle.hx_tree.specs.declared.tree.Expr as code
use Rattle.hx_tree.specs.declared.tree.Expr.TheVariants as expr
use Rattle.hx_tree.specs.Tree as tree
use Rattle.hx_tree.specs.View.{name_of, expr_of, part_of, stmt_of}
use Rattle.hx_tree.specs.World.{Map}
use Rattle.hx_tree.specs.Accepted.{count}
use Rattle.hx_tree.specs.declared.tree.Part as code_part
use Rattle.hx_tree.specs.declared.tree.Stmt as code_stmt
use Rattle.hx_tree.specs.declared.tree.Stmt.TheVariants as stmt
use Rattle.hx_tree.proofs.View.{call_is, block_is}
use Rattle.hx_resolved.specs.declared.symbol.Symbol.{Symbol}
use Rattle.hx_resolved.specs.Resolved.{Call, exprs, CallStatement}
use Rattle.hx_resolved.specs.Symbols.{Known, Scopes}
use Rattle.hx_resolved.specs.Counts.{step_counts}
use Rattle.hx_check.specs.Reading.{Checks, ◌>>=◌, check_expr, check_exprs, check_callee, check_test, check_step, check_init, check_clauses, check_stmt, in_scope, out_of_scope, inside, make_loop}
use Rattle.hx_check.specs.declared.here.Here.{Here}

count_exprs : (es : List tree.Expr) → count (tree.exprs es) ≡ length es
count_exprs [] = refl
count_exprs (e ∷ es) = let h = count_exprs es in omega (arith, h)

pub count_items : (es : List code.Expr) → count (tree.exprs (map expr_of es)) ≡ length es
count_items es = count_exprs (map expr_of es) ∙ length-map es expr_of

pub call_at : (e : code.Expr) (f : Name) (args : Vec code.Expr Global) (symbols : Map Symbol) (scopes : Scopes) → e ≡ expr.Call f args
    → check_expr (expr_of e) symbols scopes
    ≡ (check_callee true (name_of f) (length args.items) symbols scopes
    >>= (λ number. check_exprs (tree.exprs (map expr_of args.items)) symbols scopes [] >>= (λ arguments. Ok (Call number f.pos (exprs arguments)))))
call_at e f args symbols scopes is =
    ap (λ e'. check_expr (expr_of e') symbols scopes) is
    ∙ ap (λ t. check_expr t symbols scopes) (call_is f args)
    ∙ ap (λ n. check_callee true (name_of f) n symbols scopes >>= (λ number. check_exprs (tree.exprs (map expr_of args.items)) symbols scopes [] >>= (λ arguments. Ok (Call number f.pos (exprs arguments))))) (count_items args.items)

pub block_of : (s : code_stmt.Stmt) (ps : Vec code_part.Part Global) → s ≡ stmt.Block ps → stmt_of s ≡ tree.Block (tree.parts (map part_of ps.items))
block_of s ps is = ap stmt_of is ∙ block_is ps

-- ---- the clauses of a `for`, read before its body

after_step : {A B C : Type 0} (m : Checks A) (f : A → B) (g : B → Checks C) → (m >>= (λ a. g (f a))) ≡ ((m >>= (λ a. Ok (f a))) >>= g)
after_step (Ok a) f g = refl
after_step (Err e) f g = refl

after_test : {A B C D : Type 0} (m : Checks A) (n : Checks B) (f : A → B → C) (g : C → Checks D) → (m >>= (λ a. n >>= (λ b. g (f a b)))) ≡ ((m >>= (λ a. n >>= (λ b. Ok (f a b)))) >>= g)
after_test (Ok a) n f g = after_step n (f a) g
after_test (Err e) n f g = refl

after_init : {A B C D E : Type 0} (m : Checks A) (n : A → Checks B) (o : A → Checks C) (f : A → B → C → D) (g : D → Checks E) → (m >>= (λ a. n a >>= (λ b. o a >>= (λ c. g (f a b c))))) ≡ ((m >>= (λ a. n a >>= (λ b. o a >>= (λ c. Ok (f a b c))))) >>= g)
after_init (Ok a) n o f g = after_test (n a) (o a) (f a) g
after_init (Err e) n o f g = refl

pub for_at : (marked : Bool) (h : tree.ForClauses) (s : tree.Stmt) (symbols : Map Symbol) (here : Here) (known : Known)
    → check_stmt (tree.For marked h s) symbols here known
    ≡ (check_clauses h symbols (in_scope known)
    >>= (λ r. check_stmt s symbols (inside marked here) r.1 >>= (λ q. Ok (make_loop marked here r.0 q.0, out_of_scope q.1))))
for_at marked h s symbols here known =
    after_init (check_init h.init symbols (in_scope known)) (λ i. check_test h.test symbols i.1.scopes) (λ i. check_step h.step symbols i.1.scopes)
    (λ i test step. (record { init = i.0; test = test; step = step; counts = step_counts h.step i.1.scopes }, i.1))
    (λ r. check_stmt s symbols (inside marked here) r.1 >>= (λ q. Ok (make_loop marked here r.0 q.0, out_of_scope q.1)))
