use Rattle.std.proofs.Common.{◌≡◌, ◌≤◌, drop}
use Rattle.hx_tree.specs.Lexis.{digits}
use Rattle.hx_lex.proofs.piece.constant_of.Given as goal

abbrev pub invariant-loop-b : goal.invariant-loop-b
invariant-loop-b l = record {
  reads : digits (drop l.b-index l.text) l.n ≡ digits l.text 0;
  small : l.n ≤ 2147483647;
}
