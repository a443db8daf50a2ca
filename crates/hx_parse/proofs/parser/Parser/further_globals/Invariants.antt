use Rattle.std.proofs.Common.{◌≤◌, length, map}
use Rattle.hx_tree.specs.View.{global_of}
use Rattle.hx_grammar.specs.Reading.{at_comma, listed_from, global_at}
use Rattle.hx_parse.proofs.Loops.{Goes}
use Rattle.hx_parse.proofs.parser.Parser.further_globals.Given as goal

abbrev pub invariant-loop-all : goal.invariant-loop-all
invariant-loop-all l = record {
  goes : Goes at_comma global_at (listed_from global_at (global_of l.fn.first) l.fn.self) (map global_of l.all.items) l.self;
  is_shorter : length l.self ≤ length l.fn.self;
}

abbrev pub decreases-loop-all : goal.decreases-loop-all
decreases-loop-all l = length l.self
