use Rattle.std.proofs.Common.{◌≡◌, ◌++◌, length, drop}
use Rattle.std.specs.List.{items_where_true}
use Rattle.hx_names.proofs.loops.chosen.Given as goal

abbrev pub invariant-loop-line : goal.invariant-loop-line
invariant-loop-line l =
    l.chosen.items ++ items_where_true (drop (length l.yielded) l.is_chosen) (drop (length l.yielded) l.lines) ≡ items_where_true l.is_chosen l.lines
