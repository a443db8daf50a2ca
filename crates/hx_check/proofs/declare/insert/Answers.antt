use Rattle.std.proofs.Common.{◌≡◌, rules}
use Rattle.hx_check.proofs.Tables.{entries-insert}
use Rattle.hx_check.proofs.declare.insert.Goals as goal

pub returns : goal.returns
returns c =
    let same : c.in_ok-key.key.items ≡ c.args.text.now = search rules in
    rw (← same) (entries-insert c.args.table.now c.insert.new.self c.in_ok-key.key c.args.symbol c.in_ok-insert.ensures.entries (rw same c.requires))
