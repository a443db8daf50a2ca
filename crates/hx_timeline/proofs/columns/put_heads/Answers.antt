use Rattle.std.proofs.Common.{◌≡◌, arith}
use Rattle.hx_timeline.specs.Columns.{head_words}
use Rattle.hx_timeline.proofs.Cells.{lane_put}
use Rattle.hx_timeline.proofs.columns.put_heads.Goals as goal

pub loop-worker-preserved : goal.loop-worker-preserved
loop-worker-preserved c =
    let few = c.loop-worker.invariant.few in
    let puts = c.in_ok-blanks.ensures (omega arith) in
    let head : c.deref.result.now ≡ head_words c.loop-worker.worker = cc (c.in_ok-put_head.ensures, c.new-cell.ensures.items, c.deref.ensures.value) in
    record {
      few = omega (arith, puts.few);
      text = lane_put head_words c.args.lanes c.loop-worker.worker _ c.loop-worker.text.items c.put_cell.new.text.items c.deref.result.now c.loop-worker.blanks c.in_ok-blanks.blanks c.loop-worker-test.true head puts c.loop-worker.invariant.text;
    }
