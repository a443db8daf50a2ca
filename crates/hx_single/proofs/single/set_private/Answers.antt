use Rattle.std.proofs.Common.{arith, rules, to_z, of_z, w32, ◌≡◌, ◌≤◌, length}
use Rattle.hx_table.proofs.Slots.{set_private}
use Rattle.hx_single.proofs.single.set_private.Goals as goal

pub returns-clause-privates : goal.returns-clause-privates
returns-clause-privates c =
    let e : to_z w32 (of_z w32 c.args.value) ≡ c.args.value = search rules in
    let long : 64 ≤ length c.args.slots.now = omega arith in
    rw e (set_private c.args.slots.now c.args.k c.args.value c.requires long)
