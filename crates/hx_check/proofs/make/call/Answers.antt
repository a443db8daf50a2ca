use Rattle.hx_resolved.proofs.Nodes.{call_is}
use Rattle.hx_check.proofs.make.call.Goals as goal

pub returns : goal.returns
returns c = call_is c.args.function c.args.pos c.args.arguments
