use Rattle.std.proofs.Common.{arith, rules, to_z, of_z, w32, ◌≡◌, ◌+◌, ◌<◌, length}
use Rattle.hx_table.proofs.Slots.{operand_put, privates_stay}
use Rattle.hx_single.proofs.single.put.Goals as goal

pub returns-clause-operands : goal.returns-clause-operands
returns-clause-operands c =
    let e : to_z w32 (of_z w32 c.args.value) ≡ c.args.value = search rules in
    let room : 64 + c.args.height < length c.args.slots.now = omega arith in
    rw e (operand_put c.args.slots.now c.args.height c.args.value room)

pub returns-clause-privates : goal.returns-clause-privates
returns-clause-privates c =
    let e : to_z w32 (of_z w32 c.args.value) ≡ c.args.value = search rules in
    rw e (privates_stay c.args.slots.now (64 + c.args.height) c.args.value (omega arith))
