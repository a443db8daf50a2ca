-- Looking up in a table of texts, each with the mark that it spells.
use Rattle.std.specs.Prelude.{ℕ, List, length, Option, option_map, find, bytes_eq, nat_eq}
use Rattle.std.specs.List.{starts_with}
use Rattle.hx_tree.specs.declared.token.Mark.{Mark}

abbrev pub Table : Type 0
Table = List (List ℕ × Mark)

-- the mark of the first text that is this one
abbrev pub keyword_in : Table → List ℕ → Option Mark
keyword_in table text = option_map (λ entry. entry.1) (find (λ entry. bytes_eq entry.0 text) table)

-- the mark and the length of the first text that the bytes begin with
abbrev pub punctuator_in : Table → List ℕ → Option (Mark × ℕ)
punctuator_in table bytes = option_map (λ entry. (entry.1, length entry.0)) (find (λ entry. starts_with nat_eq bytes entry.0) table)
