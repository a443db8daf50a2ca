use Rattle.std.proofs.Common.{true, subst}
use Rattle.hx_speculation.specs.Board.{Start}
use Rattle.hx_board.specs.Calls.{Does, started_answer, StartsFrame}
use Rattle.hx_trace.proofs.Turns.{start_goes}
use Rattle.hx_trace.proofs.answers.start.Goals as goal

pub returns-in-Go-clause-moves : goal.returns-in-Go-clause-moves
returns-in-Go-clause-moves c =
    let x = c.args.worker.now in
    let g = c.start_own.new.frame in
    let does = subst (λ r. Does c.args.board.now (Start c.args.number true) (started_answer r g.frame) c.start_own.new.self) c.in-Go.is c.start_own.ensures.does in
    let same = subst (λ r. StartsFrame r x.frame g) c.in-Go.is c.start_own.ensures.frame in
    start_goes c.args.number c.args.board.now c.start_own.new.self x g c.requires.own same.0 does
