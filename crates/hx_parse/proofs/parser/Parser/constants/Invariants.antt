use Rattle.std.proofs.Common.{◌<◌, length, map}
use Rattle.hx_grammar.specs.Reading.{at_comma, listed, constant_at}
use Rattle.hx_parse.specs.Gives.{itself}
use Rattle.hx_parse.proofs.Loops.{Goes}
use Rattle.hx_parse.proofs.parser.Parser.constants.Given as goal

abbrev pub invariant-loop-all : goal.invariant-loop-all
invariant-loop-all l = record {
  goes : Goes at_comma constant_at (listed constant_at l.fn.self) (map itself l.all.items) l.self;
  is_shorter : length l.self < length l.fn.self;
}

abbrev pub decreases-loop-all : goal.decreases-loop-all
decreases-loop-all l = length l.self
