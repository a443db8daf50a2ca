-- The lines of the final globals.
use Rattle.std.specs.Prelude.{ℕ, ℤ, List, [], ◌∷◌, ◌++◌, take, drop, flat_map, codes}
use Rattle.std.specs.Fmt.{signed_decimal}
use Rattle.hx_tree.specs.Tree.{GlobalDecl, Program}
use Rattle.hx_tree.specs.Accepted.{shape_words}
use Rattle.hx_tree.specs.Meaning.{globals_of}

-- a name, its words in decimal with a blank before each, and a line feed
abbrev pub global_line : List ℕ → List ℤ → List ℕ
global_line name words = name ++ flat_map (λ v. codes " " ++ signed_decimal v) words ++ 10 ∷ []

-- each global has its words behind those of the globals before it
abbrev pub global_lines : List GlobalDecl → List ℤ → List ℕ
global_lines [] words = []
global_lines (g ∷ gs) words = global_line g.name.text (take (shape_words g.shape) words) ++ global_lines gs (drop (shape_words g.shape) words)

-- the words behind those of some globals
abbrev pub words_behind : List GlobalDecl → List ℤ → List ℤ
words_behind [] words = words
words_behind (g ∷ gs) words = words_behind gs (drop (shape_words g.shape) words)

-- THE lines of a program's globals, in source order
abbrev pub globals_text : Program → List ℤ → List ℕ
globals_text p words = global_lines (globals_of p) words
