-- A statement that stands in a marked loop has no region.
use Rattle.std.proofs.Common.{◌≡◌, ℕ, ◌+◌, true, false, List, [], ◌∷◌, refl, ◌∙◌}
use Rattle.hx_tree.specs.Tree as tree
use Rattle.hx_tree.specs.World.{Map}
use Rattle.hx_tree.specs.Accepted.{init_locals, stmt_locals, part_locals}
use Rattle.hx_resolved.specs.declared.symbol.Symbol.{Symbol}
use Rattle.hx_resolved.specs.Resolved as resolved
use Rattle.hx_resolved.specs.Symbols.{Scopes, words_after_init}
use Rattle.hx_resolved.specs.Resolve.{Around, resolve_stmt, resolve_parts, resolve_locals, simples_then, words_after_part}
use Rattle.hx_lowering.specs.Lines.{Version}
use Rattle.hx_lowering.specs.Draft.{Draft, Targets, stmt_draft, stmts_draft}

abbrev FlatStmts : resolved.Stmts → Type 0
FlatStmts ss = (v : Version) (to : Targets) (d : Draft) → (stmts_draft ss v to d).regions ≡ d.regions

abbrev marked : Map Symbol → ℕ → Around
marked symbols privates = record { symbols = symbols; privates = privates; is_marked = true }

flat_simples : (ss : List resolved.Simple) (rest : resolved.Stmts) → FlatStmts rest → FlatStmts (simples_then ss rest)
flat_simples [] rest h v to d = h v to d
flat_simples (s ∷ ss) rest h v to d = flat_simples ss rest h v to _

mutual
  pub flat_stmt : (s : tree.Stmt) (symbols : Map Symbol) (privates : ℕ) (scopes : Scopes) (k : ℕ) (v : Version) (to : Targets) (d : Draft) → (stmt_draft (resolve_stmt s (marked symbols privates) scopes k) v to d).regions ≡ d.regions
  flat_stmt (tree.Block ps) symbols privates scopes k v to d = flat_parts ps symbols privates ([] ∷ scopes) k v to d
  flat_stmt tree.Empty symbols privates scopes k v to d = refl
  flat_stmt (tree.Assign a) symbols privates scopes k v to d = refl
  flat_stmt (tree.CallStatement f es) symbols privates scopes k v to d = refl
  flat_stmt (tree.Print place e) symbols privates scopes k v to d = refl
  flat_stmt (tree.Emit place e) symbols privates scopes k v to d = refl
  flat_stmt (tree.If test s) symbols privates scopes k v to d = flat_stmt s symbols privates scopes k v to _
  flat_stmt (tree.IfElse test s other) symbols privates scopes k v to d = flat_stmt other symbols privates scopes (k + stmt_locals s) v to _ ∙ flat_stmt s symbols privates scopes k v to _
  flat_stmt (tree.While true test s) symbols privates scopes k v to d = flat_stmt s symbols privates scopes k v _ _
  flat_stmt (tree.While false test s) symbols privates scopes k v to d = flat_stmt s symbols privates scopes k v _ _
  flat_stmt (tree.DoWhile s test) symbols privates scopes k v to d = flat_stmt s symbols privates scopes k v _ d
  flat_stmt (tree.For true h s) symbols privates scopes k v to d = flat_stmt s symbols privates (words_after_init h.init ([] ∷ scopes) k) (k + init_locals h.init) v _ _
  flat_stmt (tree.For false h s) symbols privates scopes k v to d = flat_stmt s symbols privates (words_after_init h.init ([] ∷ scopes) k) (k + init_locals h.init) v _ _
  flat_stmt (tree.Break place) symbols privates scopes k v to d = refl
  flat_stmt (tree.Continue place) symbols privates scopes k v to d = refl
  flat_stmt (tree.Return place e) symbols privates scopes k v to d = refl

  flat_parts : (ps : tree.Parts) (symbols : Map Symbol) (privates : ℕ) (scopes : Scopes) (k : ℕ) → FlatStmts (resolve_parts ps (marked symbols privates) scopes k)
  flat_parts tree.no_parts symbols privates scopes k v to d = refl
  flat_parts (tree.part_and (tree.Locals ds) ps) symbols privates scopes k v to d =
      flat_simples (resolve_locals ds symbols scopes k) _ (flat_parts ps symbols privates (words_after_part (tree.Locals ds) scopes k) (k + part_locals (tree.Locals ds))) v to d
  flat_parts (tree.part_and (tree.Statement s) ps) symbols privates scopes k v to d =
      flat_parts ps symbols privates scopes (k + part_locals (tree.Statement s)) v to _ ∙ flat_stmt s symbols privates scopes k v to d
