use Rattle.std.proofs.Common.{◌*◌, ◌%◌, ◌^◌, bit_or, slice_index}
use Rattle.hx_slots.proofs.Bits.{row_changed, or_same, or_other}
use Rattle.hx_slots.proofs.index.set.Goals as goal

pub returns-then-worker-lt-WORKERS : goal.returns-then-worker-lt-WORKERS
returns-then-worker-lt-WORKERS c =
    let rows = c.args.rows.now in
    let row = slice_index rows c.args.word in
    row_changed 1 c.args.word c.args.worker (bit_or row (1 * 2 ^ c.args.worker % 65536)) rows (or_same row c.args.worker c.if-worker-lt-WORKERS.true)
    (λ w lt n. or_other row c.args.worker w c.if-worker-lt-WORKERS.true n) c.if-place-rows.true
