-- Blocks, which hold a list of parts.
use Rattle.std.proofs.Common.{Global, ◌≡◌, ◌++◌, List, map, sym, ap, ◌∙◌, subst}
use Rattle.std.specs.Prelude.{Vec, Bool, OnOk, Result}
use Rattle.hx_tree.specs.declared.tree.Part.{Part}
use Rattle.hx_tree.specs.declared.tree.Stmt.{Stmt}
use Rattle.hx_tree.specs.declared.tree.Stmt.TheVariants as stmt
use Rattle.hx_tree.specs.Tree.{parts}
use Rattle.hx_tree.specs.View.{part_of, stmt_of}
use Rattle.hx_tree.specs.Meaning.{texts_of}
use Rattle.hx_tree.proofs.View.{block_is}
use Rattle.hx_names.specs.Names.{stmt_names, parts_names}
use Rattle.hx_names.specs.Lines.{stmt_marks, parts_marks}

-- what was appended may be told otherwise
pub appended : {E X : Type 0} (r : Result (Unit {0}) E) (all before : List X) {a b : List X} → a ≡ b → OnOk r (all ≡ before ++ a) → OnOk r (all ≡ before ++ b)
appended r all before e h = subst (λ x. OnOk r (all ≡ before ++ x)) e h

pub names_of_block : (s : Stmt) (ps : Vec Part Global) (items : List Part) → s ≡ stmt.Block ps → items ≡ ps.items → texts_of (parts_names (parts (map part_of items))) ≡ texts_of (stmt_names (stmt_of s))
names_of_block s ps items is same =
    ap (λ l. texts_of (parts_names (parts (map part_of l)))) same ∙ sym (ap (λ s'. texts_of (stmt_names (stmt_of s'))) is ∙ ap (λ s'. texts_of (stmt_names s')) (block_is ps))

pub marks_of_block : (s : Stmt) (ps : Vec Part Global) (items : List Part) (is_inside : Bool) → s ≡ stmt.Block ps → items ≡ ps.items → parts_marks (parts (map part_of items)) is_inside ≡ stmt_marks (stmt_of s) is_inside
marks_of_block s ps items is_inside is same =
    ap (λ l. parts_marks (parts (map part_of l)) is_inside) same ∙ sym (ap (λ s'. stmt_marks (stmt_of s') is_inside) is ∙ ap (λ s'. stmt_marks s' is_inside) (block_is ps))
