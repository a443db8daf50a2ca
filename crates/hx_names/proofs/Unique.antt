-- The lines of a source's marked loops are told in one way.
use Rattle.std.proofs.Common.{◌≡◌, ℕ, List, sym, ap, ◌∙◌}
use Rattle.hx_tree.specs.Lexis as lexis
use Rattle.hx_tree.specs.Tree.{Program}
use Rattle.hx_lex.specs.Answer.{NoOthers}
use Rattle.hx_names.specs.Lines.{AreLines, outer_lines}

pub only_lines : (source : List ℕ) (p : Program) (tokens : List lexis.Token) (lines : List ℕ) → NoOthers source tokens → lines ≡ outer_lines tokens p → (others : List ℕ) → AreLines source p others → others ≡ lines
only_lines source p tokens lines no_others is others (told, are, told_is) =
    told_is ∙ ap (λ ts. outer_lines ts p) (no_others told are) ∙ sym is
