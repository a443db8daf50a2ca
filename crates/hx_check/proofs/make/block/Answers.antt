use Rattle.hx_resolved.proofs.Nodes.{block_is}
use Rattle.hx_check.proofs.make.block.Goals as goal

pub returns : goal.returns
returns c = block_is c.args.statements
