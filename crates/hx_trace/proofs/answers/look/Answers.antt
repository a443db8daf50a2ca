use Rattle.std.proofs.Common.{inl, inr, ap, subst}
use Rattle.hx_frame.specs.declared.frame.Tag.{Tag}
use Rattle.hx_speculation.specs.Board.{Alive}
use Rattle.hx_board.specs.Calls.{Does, alive_answer}
use Rattle.hx_trace.proofs.Turns.{look_halts}
use Rattle.hx_trace.proofs.answers.look.Goals as goal

pub returns-in-Squashed-clause-moves : goal.returns-in-Squashed-clause-moves
returns-in-Squashed-clause-moves c =
    let attempt = ap (λ (t : Tag). t.attempt) c.tagged-attempt.ensures in
    let does = subst (λ n. Does c.args.board.now (Alive c.args.number n) (alive_answer c.alive.result) c.args.board.now) attempt c.alive.ensures in
    look_halts c.args.number c.args.board.now c.args.board.now c.stop.new.board c.args.worker.now c.stop.new.worker c.args.token c.stop.ensures c.alive.result does (inl c.in-Squashed.is)

pub returns-in-Ended-clause-moves : goal.returns-in-Ended-clause-moves
returns-in-Ended-clause-moves c =
    let attempt = ap (λ (t : Tag). t.attempt) c.tagged-attempt.ensures in
    let does = subst (λ n. Does c.args.board.now (Alive c.args.number n) (alive_answer c.alive.result) c.args.board.now) attempt c.alive.ensures in
    look_halts c.args.number c.args.board.now c.args.board.now c.stop-in-Ended.new.board c.args.worker.now c.stop-in-Ended.new.worker c.args.token c.stop-in-Ended.ensures c.alive.result does (inr c.in-Ended.is)
