use Rattle.std.proofs.Common.{◌≡◌, ◌≤◌, ◌+◌, ◌-◌, ◌*◌, ◌++◌, []}
use Rattle.std.specs.List.{range_with_len}
use Rattle.hx_timeline.specs.Columns.{blanks_ahead, cell_ahead, lanes_from, head_words}
use Rattle.hx_timeline.proofs.columns.put_heads.Given as goal

abbrev pub invariant-loop-worker : goal.invariant-loop-worker
invariant-loop-worker l = record {
  few : l.blanks ≤ 28 * (l.worker + 1);
  text : l.text.items ++ blanks_ahead l.blanks (lanes_from head_words (range_with_len l.worker (l.lanes - l.worker))) ≡ l.initial.text.items ++ cell_ahead 6 [] (lanes_from head_words (range_with_len 0 l.lanes));
}
