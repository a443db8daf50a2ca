-- Which private words a statement declares, and what declarations come to among statements.
use Rattle.std.proofs.Common.{◌≡◌, ℕ, ◌+◌, ◌<◌, Bool, true, false, List, [], ◌∷◌, length, refl, sym, ap, ◌∙◌, arith}
use Rattle.std.specs.Prelude.{nat_eq, ◌||◌, ◌&&◌}
use Rattle.std.proofs.lemmas.Bool.Decides.{Decides-eqb}
use Rattle.hx_tree.specs.Tree as tree
use Rattle.hx_tree.specs.World.{Map}
use Rattle.hx_tree.specs.Accepted.{init_locals, stmt_locals}
use Rattle.hx_resolved.specs.declared.symbol.Symbol.{Symbol}
use Rattle.hx_resolved.specs.Resolved as resolved
use Rattle.hx_resolved.specs.Symbols.{Scopes, with_word, with_words, words_after_init}
use Rattle.hx_resolved.specs.Carried.{stmts_read, stmts_assign, stmt_declares, stmts_declare, simple_reads, simple_assigns, simple_declares, any_of}
use Rattle.hx_resolved.specs.Resolve.{Around, resolve_stmt, resolve_parts, resolve_locals, resolve_init, simples_then}
use Rattle.hx_lowering.specs.Lines.{Version, simples_lines}
use Rattle.hx_lowering.specs.Draft.{Draft, Targets, with_lines, stmts_draft}

or_assoc : (a b c : Bool) → ((a || b) || c) ≡ (a || (b || c))
or_assoc true b c = refl
or_assoc false b c = refl

and_assoc : (a b c : Bool) → ((a && b) && c) ≡ (a && (b && c))
and_assoc true b c = refl
and_assoc false b c = refl

-- ---- declarations, and then the rest

pub reads_then : (ss : List resolved.Simple) (rest : resolved.Stmts) (j : ℕ) → (any_of (simple_reads j) ss || stmts_read j rest) ≡ stmts_read j (simples_then ss rest)
reads_then [] rest j = refl
reads_then (s ∷ ss) rest j = or_assoc (simple_reads j s) (any_of (simple_reads j) ss) (stmts_read j rest) ∙ ap (λ b. simple_reads j s || b) (reads_then ss rest j)

pub assigns_then : (ss : List resolved.Simple) (rest : resolved.Stmts) (j : ℕ) → (any_of (simple_assigns j) ss || stmts_assign j rest) ≡ stmts_assign j (simples_then ss rest)
assigns_then [] rest j = refl
assigns_then (s ∷ ss) rest j = or_assoc (simple_assigns j s) (any_of (simple_assigns j) ss) (stmts_assign j rest) ∙ ap (λ b. simple_assigns j s || b) (assigns_then ss rest j)

pub declares_then : (ss : List resolved.Simple) (rest : resolved.Stmts) (j : ℕ) → (any_of (simple_declares j) ss || stmts_declare j rest) ≡ stmts_declare j (simples_then ss rest)
declares_then [] rest j = refl
declares_then (s ∷ ss) rest j = or_assoc (simple_declares j s) (any_of (simple_declares j) ss) (stmts_declare j rest) ∙ ap (λ b. simple_declares j s || b) (declares_then ss rest j)

pub draft_then : (ss : List resolved.Simple) (rest : resolved.Stmts) (v : Version) (to : Targets) (d : Draft) → stmts_draft (simples_then ss rest) v to d ≡ stmts_draft rest v to (with_lines d (simples_lines ss v d.lines))
draft_then [] rest v to d = refl
draft_then (s ∷ ss) rest v to d = draft_then ss rest v to _

-- ---- a statement declares from its number on

neither : (a b : Bool) → a ≡ false → b ≡ false → (a || b) ≡ false
neither true b e f = e
neither false b e f = f

differ : (i j : ℕ) → j < i → nat_eq i j ≡ false
differ i j lt = go (nat_eq i j) refl
  where
    go : (b : Bool) → nat_eq i j ≡ b → b ≡ false
    go true e = let same = (Decides-eqb i j).0 e in absurd (omega arith)
    go false e = refl

locals_from : (ds : List tree.LocalDecl) (symbols : Map Symbol) (scopes : Scopes) (k j : ℕ) → j < k → any_of (simple_declares j) (resolve_locals ds symbols scopes k) ≡ false
locals_from [] symbols scopes k j lt = refl
locals_from (d ∷ ds) symbols scopes k j lt = neither (nat_eq k j) _ (differ k j lt) (locals_from ds symbols (with_word scopes d.name.text k) (k + 1) j (omega arith))

init_from : (i : tree.Init) (symbols : Map Symbol) (scopes : Scopes) (k j : ℕ) → j < k → any_of (simple_declares j) (resolve_init i symbols scopes k) ≡ false
init_from tree.NoInit symbols scopes k j lt = refl
init_from (tree.InitLocals ds) symbols scopes k j lt = locals_from ds symbols scopes k j lt
init_from (tree.InitAssign a) symbols scopes k j lt = refl

mutual
  pub declares_from : (s : tree.Stmt) (around : Around) (scopes : Scopes) (k j : ℕ) → j < k → stmt_declares j (resolve_stmt s around scopes k) ≡ false
  declares_from (tree.Block ps) around scopes k j lt = parts_from ps around ([] ∷ scopes) k j lt
  declares_from tree.Empty around scopes k j lt = refl
  declares_from (tree.Assign a) around scopes k j lt = refl
  declares_from (tree.CallStatement f es) around scopes k j lt = refl
  declares_from (tree.Print place e) around scopes k j lt = refl
  declares_from (tree.Emit place e) around scopes k j lt = refl
  declares_from (tree.If test s) around scopes k j lt = declares_from s around scopes k j lt
  declares_from (tree.IfElse test s other) around scopes k j lt = neither _ _ (declares_from s around scopes k j lt) (declares_from other around scopes (k + stmt_locals s) j (omega arith))
  declares_from (tree.While marked test s) around scopes k j lt = declares_from s _ scopes k j lt
  declares_from (tree.DoWhile s test) around scopes k j lt = declares_from s around scopes k j lt
  declares_from (tree.For marked h s) around scopes k j lt =
      neither _ _ (init_from h.init around.symbols ([] ∷ scopes) k j lt) (declares_from s _ (words_after_init h.init ([] ∷ scopes) k) (k + init_locals h.init) j (omega arith))
  declares_from (tree.Break place) around scopes k j lt = refl
  declares_from (tree.Continue place) around scopes k j lt = refl
  declares_from (tree.Return place e) around scopes k j lt = refl

  parts_from : (ps : tree.Parts) (around : Around) (scopes : Scopes) (k j : ℕ) → j < k → stmts_declare j (resolve_parts ps around scopes k) ≡ false
  parts_from tree.no_parts around scopes k j lt = refl
  parts_from (tree.part_and (tree.Locals ds) ps) around scopes k j lt =
      sym (declares_then (resolve_locals ds around.symbols scopes k) _ j)
      ∙ neither _ _ (locals_from ds around.symbols scopes k j lt) (parts_from ps around (with_words ds scopes k) (k + length ds) j (omega arith))
  parts_from (tree.part_and (tree.Statement s) ps) around scopes k j lt = neither _ _ (declares_from s around scopes k j lt) (parts_from ps around scopes (k + stmt_locals s) j (omega arith))
