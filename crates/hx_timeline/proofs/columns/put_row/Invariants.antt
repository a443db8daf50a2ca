use Rattle.std.proofs.Common.{◌≡◌, ◌≤◌, ◌<◌, ◌^◌, ◌+◌, ◌-◌, ◌*◌, ◌++◌}
use Rattle.std.specs.Prelude.{decimal}
use Rattle.std.specs.List.{range_with_len}
use Rattle.hx_timeline.specs.Columns.{blanks_ahead, cell_ahead, lanes_from, lane_words}
use Rattle.hx_timeline.proofs.columns.put_row.Given as goal

abbrev pub invariant-loop-worker : goal.invariant-loop-worker
invariant-loop-worker l =
    let words = lane_words l.names l.printed l.chart.attempts.items l.row l.event in
    record {
      few : l.blanks ≤ 28 * (l.worker + 1);
      text : l.row < 2 ^ 64 - 1 → l.text.items ++ blanks_ahead l.blanks (lanes_from words (range_with_len l.worker (l.chart.lanes - l.worker))) ≡ l.fn.text.items ++ cell_ahead 6 (decimal (l.row + 1)) (lanes_from words (range_with_len 0 l.chart.lanes));
    }
