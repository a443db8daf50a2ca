-- The lines of a program's regions: of its marked loops, those of the loops that stand in no other.
use Rattle.std.specs.Prelude.{◌≡◌, ℕ, Bool, false, not, ◌||◌, List, [], ◌∷◌, ◌++◌, flat_map, if◌then◌else◌}
use Rattle.std.specs.List.{items_where_true}
use Rattle.hx_tree.specs.declared.token.Mark.TheVariants.{MarkedFor, MarkedWhile}
use Rattle.hx_tree.specs.Lexis.{Token, MarkToken, AreTokens}
use Rattle.hx_tree.specs.Tree.{Stmt, Block, If, IfElse, While, DoWhile, For, Part, Locals, Statement, Parts, no_parts, part_and, Program}
use Rattle.hx_tree.specs.Meaning.{functions_of}

-- the line of a word that marks a loop, `pfor` or `pwhile`
abbrev pub token_lines : Token → List ℕ
token_lines (MarkToken MarkedFor pos) = pos.line ∷ []
token_lines (MarkToken MarkedWhile pos) = pos.line ∷ []
token_lines _ = []

-- of a loop, if it is marked, whether it stands in no other marked one
abbrev pub loop_marks : (is_marked is_inside : Bool) → List Bool
loop_marks is_marked is_inside = if is_marked then not is_inside ∷ [] else []

-- of each marked loop of a statement, in source order, whether it stands in no other, where the statement may stand in one
abbrev mutual
  pub stmt_marks : Stmt → (is_inside : Bool) → List Bool
  stmt_marks (Block ps) is_inside = parts_marks ps is_inside
  stmt_marks (If test s) is_inside = stmt_marks s is_inside
  stmt_marks (IfElse test s other) is_inside = stmt_marks s is_inside ++ stmt_marks other is_inside
  stmt_marks (While marked test s) is_inside = loop_marks marked is_inside ++ stmt_marks s (is_inside || marked)
  stmt_marks (DoWhile s test) is_inside = stmt_marks s is_inside
  stmt_marks (For marked h s) is_inside = loop_marks marked is_inside ++ stmt_marks s (is_inside || marked)
  stmt_marks _ is_inside = []

  pub part_marks : Part → (is_inside : Bool) → List Bool
  part_marks (Locals ds) is_inside = []
  part_marks (Statement s) is_inside = stmt_marks s is_inside

  pub parts_marks : Parts → (is_inside : Bool) → List Bool
  parts_marks no_parts is_inside = []
  parts_marks (part_and p ps) is_inside = part_marks p is_inside ++ parts_marks ps is_inside

abbrev pub program_marks : Program → List Bool
program_marks p = flat_map (λ f. parts_marks f.body false) (functions_of p)

-- the lines of those words among the tokens whose loops stand in no other
abbrev pub outer_lines : List Token → Program → List ℕ
outer_lines tokens p = items_where_true (program_marks p) (flat_map token_lines tokens)

-- these are the lines of a program's marked loops that stand in no other, in the source that it is of
abbrev pub AreLines : List ℕ → Program → List ℕ → Type 0
AreLines source p lines = (tokens : List Token) × AreTokens source tokens × (lines ≡ outer_lines tokens p)
