use Rattle.std.proofs.Common.{arith, rules, to_z, of_z, w32, ◌≡◌, pos}
use Rattle.std.specs.Prelude.{slice_index_or}
use Rattle.hx_table.proofs.Slots.{private_is_slot}
use Rattle.hx_single.proofs.single.private.Goals as goal

pub returns : goal.returns
returns c =
    let e : to_z w32 (of_z w32 (slice_index_or c.args.slots.now c.args.k (pos 0))) ≡ slice_index_or c.args.slots.now c.args.k (pos 0) = search rules in
    rw e (private_is_slot c.args.slots.now c.args.k c.requires (omega arith))
