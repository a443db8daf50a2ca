use Rattle.std.proofs.Common.{rules, arith}
use Rattle.hx_slots.proofs.Counting.{seen_more}
use Rattle.hx_slots.proofs.places.seen.Goals as goal

pub loop-k-preserved : goal.loop-k-preserved
loop-k-preserved c =
    let more = seen_more c.args.word c.args.committed c.seen_past-seen.result c.args.active.now c.loop-k.k c.index-active-k.result (omega arith) c.index-active-k.is (search rules) in
    search rules
