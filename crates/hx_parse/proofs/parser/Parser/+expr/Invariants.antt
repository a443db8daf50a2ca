use Rattle.std.proofs.Common.{◌≡◌, ◌<◌, ◌≤◌, ◌+◌, ◌*◌, ◌-◌, length, map}
use Rattle.hx_tree.specs.View.{expr_of}
use Rattle.hx_tree.specs.Tree.{exprs}
use Rattle.hx_tree.specs.Height.{height, heights}
use Rattle.hx_grammar.specs.Reading.{expr_at, at_comma, listed}
use Rattle.hx_parse.proofs.Loops.{Chained, Goes}
use Rattle.hx_parse.proofs.parser.Parser.+expr.Given as goal

abbrev pub decreases-expr : goal.decreases-expr
decreases-expr l = 7 * l.room + 2

abbrev pub decreases-chained : goal.decreases-chained
decreases-chained l = 7 * l.room

abbrev pub decreases-arms : goal.decreases-arms
decreases-arms l = 7 * l.room + 3

abbrev pub decreases-operand : goal.decreases-operand
decreases-operand l = 7 * l.room + 6

abbrev pub decreases-named : goal.decreases-named
decreases-named l = 7 * l.room + 5

abbrev pub decreases-marked : goal.decreases-marked
decreases-marked l = 7 * l.room + 5

abbrev pub decreases-unary : goal.decreases-unary
decreases-unary l = 7 * l.room + 3

abbrev pub decreases-arguments : goal.decreases-arguments
decreases-arguments l = 7 * l.room + 3

abbrev pub invariant-arguments-loop-self : goal.invariant-arguments-loop-self
invariant-arguments-loop-self l = record {
  goes : Goes at_comma (expr_at l.room 11) (listed (expr_at l.room 11) l.fn.self) (map expr_of l.all.items) l.self;
  is_height : l.height ≡ heights (exprs (map expr_of l.all.items));
  is_low : l.height ≤ l.room;
  is_shorter : length l.self ≤ length l.fn.self;
}

abbrev pub decreases-arguments-loop-self : goal.decreases-arguments-loop-self
decreases-arguments-loop-self l = length l.self

abbrev pub invariant-chained-loop-op : goal.invariant-chained-loop-op
invariant-chained-loop-op l = record {
  chained : Chained l.room l.layer l.fn.self (expr_of l.left.expr) l.self;
  is_height : l.left.height ≡ height (expr_of l.left.expr);
  is_low : l.left.height ≤ l.room;
  is_shorter : length l.self < length l.fn.self;
  is_room : 0 < l.room;
}

abbrev pub decreases-chained-loop-op : goal.decreases-chained-loop-op
decreases-chained-loop-op l = l.room - l.left.height
