use Rattle.std.proofs.Common.{◌≤◌, ◌+◌, ◌*◌, length, map}
use Rattle.hx_tree.specs.declared.token.Mark.TheVariants as mark
use Rattle.hx_tree.specs.View.{part_of}
use Rattle.hx_grammar.specs.Reading.{until, all_of, part_at, stmt_at}
use Rattle.hx_parse.proofs.Loops.{Goes}
use Rattle.hx_parse.proofs.parser.Parser.+stmt.Given as goal

abbrev pub decreases-statement : goal.decreases-statement
decreases-statement l = 6 * l.room

abbrev pub decreases-some_statement : goal.decreases-some_statement
decreases-some_statement l = 6 * l.room + 5

abbrev pub decreases-marked_statement : goal.decreases-marked_statement
decreases-marked_statement l = 6 * l.room + 4

abbrev pub decreases-parts : goal.decreases-parts
decreases-parts l = 6 * l.room + 2

abbrev pub decreases-part : goal.decreases-part
decreases-part l = 6 * l.room + 1

abbrev pub decreases-choice : goal.decreases-choice
decreases-choice l = 6 * l.room + 3

abbrev pub decreases-choice_behind : goal.decreases-choice_behind
decreases-choice_behind l = 6 * l.room + 2

abbrev pub decreases-while_loop : goal.decreases-while_loop
decreases-while_loop l = 6 * l.room + 2

abbrev pub decreases-do_loop : goal.decreases-do_loop
decreases-do_loop l = 6 * l.room + 2

abbrev pub decreases-for_loop : goal.decreases-for_loop
decreases-for_loop l = 6 * l.room + 2

abbrev pub decreases-body : goal.decreases-body
decreases-body l = 6 * l.room + 1

abbrev pub invariant-parts-loop-all : goal.invariant-parts-loop-all
invariant-parts-loop-all l = record {
  goes : Goes (until mark.CloseBrace) (part_at l.room (stmt_at l.room)) (all_of (until mark.CloseBrace) (part_at l.room (stmt_at l.room)) l.fn.self) (map part_of l.all.items) l.self;
  is_shorter : length l.self ≤ length l.fn.self;
}

abbrev pub decreases-parts-loop-all : goal.decreases-parts-loop-all
decreases-parts-loop-all l = length l.self
