use Rattle.std.proofs.Common.{rules}
use Rattle.hx_check.proofs.Calls.{count_items}
use Rattle.hx_check.proofs.statement.call_statement.Goals as goal

pub returns-in_err-number : goal.returns-in_err-number
returns-in_err-number c = rw (count_items c.args.args.now) (search rules)

pub returns-in_err-args : goal.returns-in_err-args
returns-in_err-args c = rw (count_items c.args.args.now) (search rules)

pub returns : goal.returns
returns c = rw (count_items c.args.args.now) (search rules)
