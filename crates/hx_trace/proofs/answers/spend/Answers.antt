use Rattle.std.proofs.Common.{subst}
use Rattle.hx_board.specs.Calls.{settled_answer}
use Rattle.hx_trace.proofs.Tokens.{TakesBack}
use Rattle.hx_trace.proofs.Turns.{taken_back}
use Rattle.hx_trace.proofs.answers.spend.Goals as goal

pub unreachable-requires : goal.unreachable-requires
unreachable-requires c =
    let back = taken_back c.args.board.now c.abandon.new.self c.settle_own.new.self c.args.head c.args.number c.args.worker.now.frame.frame _ c.requires.holder c.requires.out c.abandon.ensures c.settle_own.ensures.does in
    subst (λ s. TakesBack (settled_answer s c.settle_own.new.frame.frame)) c.in-Again.is back
