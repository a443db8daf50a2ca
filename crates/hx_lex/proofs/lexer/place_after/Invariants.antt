use Rattle.std.proofs.Common.{◌≡◌, ◌<◌, ◌≤◌, ◌+◌, drop}
use Rattle.hx_tree.specs.Lexis as lexis
use Rattle.hx_lex.proofs.lexer.place_after.Given as goal

abbrev pub invariant-loop-b : goal.invariant-loop-b
invariant-loop-b l = record {
  reads : lexis.place_after l.pos (drop l.b-index l.text) ≡ lexis.place_after l.fn.start l.text;
  line : l.pos.line ≤ l.fn.start.line + l.b-index;
  col : l.pos.col ≤ l.fn.start.col + l.b-index;
  first : 0 < l.pos.col;
}
