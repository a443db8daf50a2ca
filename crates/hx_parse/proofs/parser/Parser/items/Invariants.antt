use Rattle.std.proofs.Common.{length, map}
use Rattle.hx_tree.specs.View.{item_of}
use Rattle.hx_grammar.specs.Reading.{until_end, all_of, item_at}
use Rattle.hx_parse.proofs.Loops.{Goes}
use Rattle.hx_parse.proofs.parser.Parser.items.Given as goal

abbrev pub invariant-loop-all : goal.invariant-loop-all
invariant-loop-all l = Goes until_end (item_at l.room) (all_of until_end (item_at l.room) l.fn.self) (map item_of l.all.items) l.self

abbrev pub decreases-loop-all : goal.decreases-loop-all
decreases-loop-all l = length l.self
