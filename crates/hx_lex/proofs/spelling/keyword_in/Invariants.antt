use Rattle.std.proofs.Common.{◌≡◌, map, drop}
use Rattle.hx_lex.specs.Spelling.{keyword_in}
use Rattle.hx_lex.proofs.spelling.keyword_in.Given as goal

abbrev pub invariant-loop-entry : goal.invariant-loop-entry
invariant-loop-entry l =
    keyword_in (map (λ entry. (entry.0.now, entry.1)) (drop l.entry-index l.table)) l.text
    ≡ keyword_in (map (λ entry. (entry.0.now, entry.1)) l.table) l.text
