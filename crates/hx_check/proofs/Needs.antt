-- Measures of nodes that hold a list of nodes, and measures told up to a limit.
use Rattle.std.proofs.Common.{Global, ◌≡◌, ℕ, ◌+◌, ◌≤◌, min, max, map, ap, ◌∙◌, arith}
use Rattle.std.specs.Prelude.{Vec}
use Rattle.hx_tree.specs.declared.tree.Name.{Name}
use Rattle.hx_tree.specs.declared.tree.Expr as code
use Rattle.hx_tree.specs.declared.tree.Expr.TheVariants as expr
use Rattle.hx_tree.specs.declared.tree.Part as code_part
use Rattle.hx_tree.specs.declared.tree.Stmt as code_stmt
use Rattle.hx_tree.specs.declared.tree.Stmt.TheVariants as stmt
use Rattle.hx_tree.specs.Tree as tree
use Rattle.hx_tree.specs.View.{expr_of, part_of, stmt_of}
use Rattle.hx_tree.specs.Height.{height, heights, assignment_height, stmt_height, parts_height}
use Rattle.hx_tree.specs.Need.{need, needs, set_need, update_need, stmt_need, parts_need}
use Rattle.hx_tree.specs.Accepted.{stmt_locals, parts_locals}
use Rattle.hx_tree.proofs.View.{call_is, block_is}
use Rattle.hx_check.specs.declared.need.TheConstants.{MANY}

-- ---- heights

pub height_positive : (e : tree.Expr) → 1 ≤ height e
height_positive (tree.Number n) = omega arith
height_positive (tree.Variable x) = omega arith
height_positive (tree.Element x e) = omega arith
height_positive (tree.Call f es) = omega arith
height_positive (tree.Paren e) = omega arith
height_positive (tree.Unary o e) = omega arith
height_positive (tree.Binary o place l r) = omega arith
height_positive (tree.Conditional c a b) = omega arith

pub assignment_height_positive : (a : tree.Assignment) → 1 ≤ assignment_height a
assignment_height_positive (tree.Set p e) = omega arith
assignment_height_positive (tree.Update p o place e) = omega arith
assignment_height_positive (tree.Increment p) = omega arith
assignment_height_positive (tree.Decrement p) = omega arith

pub stmt_height_positive : (s : tree.Stmt) → 1 ≤ stmt_height s
stmt_height_positive (tree.Block ps) = omega arith
stmt_height_positive tree.Empty = omega arith
stmt_height_positive (tree.Assign a) = omega arith
stmt_height_positive (tree.CallStatement f es) = omega arith
stmt_height_positive (tree.Print pos e) = omega arith
stmt_height_positive (tree.Emit pos e) = omega arith
stmt_height_positive (tree.If test s) = omega arith
stmt_height_positive (tree.IfElse test s other) = omega arith
stmt_height_positive (tree.While marked test s) = omega arith
stmt_height_positive (tree.DoWhile s test) = omega arith
stmt_height_positive (tree.For marked h s) = omega arith
stmt_height_positive (tree.Break pos) = omega arith
stmt_height_positive (tree.Continue pos) = omega arith
stmt_height_positive (tree.Return pos e) = omega arith

pub height_of_call : (e : code.Expr) (f : Name) (args : Vec code.Expr Global) → e ≡ expr.Call f args → height (expr_of e) ≡ 1 + heights (tree.exprs (map expr_of args.items))
height_of_call e f args is = ap (λ e'. height (expr_of e')) is ∙ ap height (call_is f args)

pub height_of_block : (s : code_stmt.Stmt) (ps : Vec code_part.Part Global) → s ≡ stmt.Block ps → stmt_height (stmt_of s) ≡ 1 + parts_height (tree.parts (map part_of ps.items))
height_of_block s ps is = ap (λ s'. stmt_height (stmt_of s')) is ∙ ap stmt_height (block_is ps)

-- ---- needs

pub need_of_call : (e : code.Expr) (f : Name) (args : Vec code.Expr Global) → e ≡ expr.Call f args → need (expr_of e) ≡ max 1 (needs (tree.exprs (map expr_of args.items)) 0)
need_of_call e f args is = ap (λ e'. need (expr_of e')) is ∙ ap need (call_is f args)

pub need_of_block : (s : code_stmt.Stmt) (ps : Vec code_part.Part Global) → s ≡ stmt.Block ps → stmt_need (stmt_of s) ≡ parts_need (tree.parts (map part_of ps.items))
need_of_block s ps is = ap (λ s'. stmt_need (stmt_of s')) is ∙ ap stmt_need (block_is ps)

pub set_capped : (p : tree.Place) (n : ℕ) → min (set_need p (min n MANY)) MANY ≡ min (set_need p n) MANY
set_capped (tree.ToVariable x) n = omega arith
set_capped (tree.ToElement x e) n = omega arith

pub update_capped : (p : tree.Place) (n : ℕ) → min (update_need p (min n MANY)) MANY ≡ min (update_need p n) MANY
update_capped (tree.ToVariable x) n = omega arith
update_capped (tree.ToElement x e) n = omega arith

-- ---- locals

pub locals_of_block : (s : code_stmt.Stmt) (ps : Vec code_part.Part Global) → s ≡ stmt.Block ps → stmt_locals (stmt_of s) ≡ parts_locals (tree.parts (map part_of ps.items))
locals_of_block s ps is = ap (λ s'. stmt_locals (stmt_of s')) is ∙ ap stmt_locals (block_is ps)
