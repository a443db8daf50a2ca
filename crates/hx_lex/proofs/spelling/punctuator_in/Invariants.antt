use Rattle.std.proofs.Common.{◌≡◌, map, drop}
use Rattle.hx_lex.specs.Spelling.{punctuator_in}
use Rattle.hx_lex.proofs.spelling.punctuator_in.Given as goal

abbrev pub invariant-loop-entry : goal.invariant-loop-entry
invariant-loop-entry l =
    punctuator_in (map (λ entry. (entry.0.now, entry.1)) (drop l.entry-index l.table)) l.bytes
    ≡ punctuator_in (map (λ entry. (entry.0.now, entry.1)) l.table) l.bytes
