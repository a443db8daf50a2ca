use Rattle.std.proofs.Common.{◌*◌, ◌-◌, ◌%◌, ◌^◌, w16, bit_and, slice_index}
use Rattle.std.proofs.lemmas.Nat.Bits.{bit_at_clear_same, bit_at_clear_other}
use Rattle.hx_slots.proofs.Bits.{row_changed}
use Rattle.hx_slots.proofs.index.clear.Goals as goal

pub returns-then-place-rows : goal.returns-then-place-rows
returns-then-place-rows c =
    let rows = c.args.rows.now in
    let row = slice_index rows c.args.word in
    row_changed 0 c.args.word c.args.worker (bit_and row (65535 - 1 * 2 ^ c.args.worker % 65536)) rows (bit_at_clear_same w16 row c.args.worker c.requires)
    (λ w lt n. bit_at_clear_other w16 row c.args.worker c.requires w lt n) c.if-place-rows.true
