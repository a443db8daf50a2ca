-- There are as many names as private words.
use Rattle.std.proofs.Common.{◌≡◌, ◌++◌, length, refl, arith, length-append}
use Rattle.std.proofs.lemmas.List.{length-map}
use Rattle.hx_tree.specs.Tree as tree
use Rattle.hx_tree.specs.Tree.{Name, param_names}
use Rattle.hx_tree.specs.Accepted.{init_locals, stmt_locals, part_locals, parts_locals, private_words}
use Rattle.hx_names.specs.Names.{init_names, stmt_names, part_names, parts_names, private_names}

init_count : (i : tree.Init) → length (init_names i) ≡ init_locals i
init_count tree.NoInit = refl
init_count (tree.InitLocals ds) = length-map ds (λ (d : tree.LocalDecl). d.name)
init_count (tree.InitAssign a) = refl

mutual
  stmt_count : (s : tree.Stmt) → length (stmt_names s) ≡ stmt_locals s
  stmt_count (tree.Block ps) = parts_count ps
  stmt_count (tree.If test s) = stmt_count s
  stmt_count (tree.IfElse test s other) = omega (arith, length-append (stmt_names s) (stmt_names other), stmt_count s, stmt_count other)
  stmt_count (tree.While marked test s) = stmt_count s
  stmt_count (tree.DoWhile s test) = stmt_count s
  stmt_count (tree.For marked h s) = omega (arith, length-append (init_names h.init) (stmt_names s), init_count h.init, stmt_count s)
  stmt_count _ = refl

  part_count : (p : tree.Part) → length (part_names p) ≡ part_locals p
  part_count (tree.Locals ds) = length-map ds (λ (d : tree.LocalDecl). d.name)
  part_count (tree.Statement s) = stmt_count s

  parts_count : (ps : tree.Parts) → length (parts_names ps) ≡ parts_locals ps
  parts_count tree.no_parts = refl
  parts_count (tree.part_and p ps) = omega (arith, length-append (part_names p) (parts_names ps), part_count p, parts_count ps)

pub private_count : (f : tree.Func) → length (private_names f) ≡ private_words f
private_count f =
    omega (arith, length-map (param_names f.params ++ parts_names f.body) (λ (x : Name). x.text), length-append (param_names f.params) (parts_names f.body), parts_count f.body)
