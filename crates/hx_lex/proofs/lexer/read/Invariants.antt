use Rattle.std.proofs.Common.{◌≡◌, ◌<◌, ◌≤◌, ◌+◌, ◌-◌, length, take}
use Rattle.hx_tree.specs.Lexis as lexis
use Rattle.hx_lex.specs.View.{tokens_of}
use Rattle.hx_lex.specs.Answer.{AreCut}
use Rattle.hx_lex.proofs.Loop.{Lexed}
use Rattle.hx_lex.proofs.lexer.read.Given as goal

abbrev pub invariant-loop-at : goal.invariant-loop-at
invariant-loop-at l = record {
  lexed : Lexed l.source (tokens_of l.tokens.items) l.pos l.at;
  cut : AreCut l.source 0 l.tokens.items l.at;
  place : l.pos ≡ lexis.place_after lexis.first_place (take l.at l.source);
  within : l.at ≤ length l.source;
  line : l.pos.line ≤ l.at + 1;
  col : l.pos.col ≤ l.at + 1;
  first : 0 < l.pos.col;
}

abbrev pub decreases-loop-at : goal.decreases-loop-at
decreases-loop-at l = length l.source - l.at
