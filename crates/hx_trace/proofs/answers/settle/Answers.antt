use Rattle.std.proofs.Common.{true, subst}
use Rattle.hx_speculation.specs.Board.{Settle}
use Rattle.hx_board.specs.Calls.{Does, settled_answer, SettlesFrame}
use Rattle.hx_trace.proofs.Turns.{settle_goes}
use Rattle.hx_trace.proofs.answers.settle.Goals as goal

pub returns-in-Again-clause-moves : goal.returns-in-Again-clause-moves
returns-in-Again-clause-moves c =
    let x = c.args.worker.now in
    let g = c.settle_own.new.frame in
    let does = subst (λ r. Does c.args.board.now (Settle c.args.head x.frame.frame true) (settled_answer r g.frame) c.settle_own.new.self) c.in-Again.is c.settle_own.ensures.does in
    let same = subst (λ r. SettlesFrame r x.frame g) c.in-Again.is c.settle_own.ensures.frame in
    settle_goes c.args.number c.args.board.now c.settle_own.new.self x c.args.head c.in-Again.head g c.requires.own c.requires.runs c.requires.holder same does
