use Rattle.std.proofs.Common.{arith}
use Rattle.hx_single.proofs.Words.{stands_in}
use Rattle.hx_single.proofs.single.stands.Goals as goal

pub returns : goal.returns
returns c = stands_in c.args.code.now c.known.ensures c.args.place c.args.slots.now c.requires (omega arith)
