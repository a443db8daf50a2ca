use Rattle.std.proofs.Common.{◌<◌, ◌-◌, length, map}
use Rattle.hx_tree.specs.View.{local_of}
use Rattle.hx_grammar.specs.Reading.{at_comma, listed, local_at}
use Rattle.hx_parse.proofs.Loops.{Goes}
use Rattle.hx_parse.proofs.parser.Parser.locals.Given as goal

abbrev pub invariant-loop-all : goal.invariant-loop-all
invariant-loop-all l = record {
  goes : Goes at_comma (local_at (l.room - 1)) (listed (local_at (l.room - 1)) l.fn.self) (map local_of l.all.items) l.self;
  is_shorter : length l.self < length l.fn.self;
  is_room : 0 < l.room;
}

abbrev pub decreases-loop-all : goal.decreases-loop-all
decreases-loop-all l = length l.self
