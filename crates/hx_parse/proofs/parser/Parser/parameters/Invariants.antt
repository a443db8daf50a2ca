use Rattle.std.proofs.Common.{◌<◌, length, map}
use Rattle.hx_tree.specs.View.{name_of}
use Rattle.hx_grammar.specs.Reading.{at_comma, listed, param_at}
use Rattle.hx_parse.proofs.Loops.{Goes}
use Rattle.hx_parse.proofs.parser.Parser.parameters.Given as goal

abbrev pub invariant-loop-all : goal.invariant-loop-all
invariant-loop-all l = record {
  goes : Goes at_comma param_at (listed param_at l.fn.self) (map name_of l.all.items) l.self;
  is_shorter : length l.self < length l.fn.self;
}

abbrev pub decreases-loop-all : goal.decreases-loop-all
decreases-loop-all l = length l.self
