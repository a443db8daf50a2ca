use Rattle.std.proofs.Common.{◌≡◌, ◌++◌, ap, ◌∙◌, arith}
use Rattle.hx_timeline.specs.Columns.{lane_words}
use Rattle.hx_timeline.proofs.Cells.{lane_put, lanes_put}
use Rattle.hx_timeline.proofs.Texts.{last_put}
use Rattle.hx_timeline.proofs.columns.put_row.Goals as goal

pub loop-worker-preserved : goal.loop-worker-preserved
loop-worker-preserved c =
    let few = c.loop-worker.invariant.few in
    let puts = c.in_ok-blanks-2.ensures (omega arith) in
    let words = lane_words c.args.names.now c.args.printed.now c.args.chart.now.attempts.items c.args.row c.args.event in
    let cell : c.deref-in-loop-worker.result.now ≡ words c.loop-worker.worker = c.deref-in-loop-worker.ensures.value ∙ c.in_ok-put_words.ensures ∙ ap (λ l. l ++ words c.loop-worker.worker) c.new-cell.ensures.items in
    record {
      few = omega (arith, puts.few);
      text = λ fits. lane_put words c.args.chart.now.lanes c.loop-worker.worker _ c.loop-worker.text.items c.put_cell-in-loop-worker.new.text.items c.deref-in-loop-worker.result.now c.loop-worker.blanks c.in_ok-blanks-2.blanks c.loop-worker-test.true cell puts (c.loop-worker.invariant.text fits);
    }

pub returns : goal.returns
returns c fits =
    let words = lane_words c.args.names.now c.args.printed.now c.args.chart.now.attempts.items c.args.row c.args.event in
    let whole = lanes_put words c.args.chart.now.lanes c.loop-worker.worker _ c.loop-worker.text.items c.loop-worker.blanks c.loop-worker-test.false (c.loop-worker.invariant.text fits) in
    last_put c.extend_from_slice.result c.args.text.now.items c.loop-worker.text.items c.extend_from_slice.new.self.items _ _ whole c.extend_from_slice.ensures.items
