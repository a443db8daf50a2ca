use Rattle.std.proofs.Common.{rules, inl, inr, ap, sym, subst}
use Rattle.hx_frame.specs.declared.frame.Tag.{Tag}
use Rattle.hx_speculation.specs.Board.{Write}
use Rattle.hx_board.specs.declared.answers.Stored.TheVariants.{Done}
use Rattle.hx_board.specs.Calls.{Does, stored_answer}
use Rattle.hx_trace.specs.Turns.{course_of, Moves}
use Rattle.hx_frame.specs.Frame.{FrameView}
use Rattle.hx_speculation.specs.Frame.{ForStore}
use Rattle.hx_speculation.specs.Replay.{at_stop}
use Rattle.hx_trace.proofs.Turns.{store_goes, store_halts}
use Rattle.hx_trace.proofs.answers.store.Goals as goal

pub returns-in-Done-clause-moves : goal.returns-in-Done-clause-moves
returns-in-Done-clause-moves c =
    let x = c.args.worker.now in
    let attempt = ap (λ (t : Tag). t.attempt) c.tagged-attempt.ensures in
    let said : Does c.args.board.now (Write c.args.number c.tagged-attempt.result.attempt c.args.word c.args.value) (stored_answer c.store.result) c.store.new.self = search rules in
    let told = subst (λ r. Does c.args.board.now (Write c.args.number c.tagged-attempt.result.attempt c.args.word c.args.value) (stored_answer r) c.store.new.self) c.in-Done.is said in
    let does = subst (λ n. Does c.args.board.now (Write c.args.number n c.args.word c.args.value) (stored_answer Done) c.store.new.self) attempt told in
    let moves = store_goes c.args.number c.args.board.now c.store.new.self x c.args.token c.requires.own c.requires.runs c.requires.token c.args.word c.args.value does in
    subst (λ (f : FrameView). Moves (λ d. at_stop (course_of c.args.board.now.setup) c.args.number d x.frame.frame c.args.token (ForStore c.args.word c.args.value)) c.args.number c.args.board.now c.args.token c.store.new.self (record x { frame = f }) c.args.token) (sym c.stored.ensures) moves

pub returns-in-Squashed-clause-moves : goal.returns-in-Squashed-clause-moves
returns-in-Squashed-clause-moves c =
    let x = c.args.worker.now in
    let attempt = ap (λ (t : Tag). t.attempt) c.tagged-attempt.ensures in
    let said : Does c.args.board.now (Write c.args.number c.tagged-attempt.result.attempt c.args.word c.args.value) (stored_answer c.store.result) c.store.new.self = search rules in
    let does = subst (λ n. Does c.args.board.now (Write c.args.number n c.args.word c.args.value) (stored_answer c.store.result) c.store.new.self) attempt said in
    store_halts c.args.number c.args.board.now c.store.new.self c.stop.new.board x c.stop.new.worker c.args.token c.stop.ensures c.args.word c.args.value c.store.result does (inl c.in-Squashed.is)

pub returns-in-Ended-clause-moves : goal.returns-in-Ended-clause-moves
returns-in-Ended-clause-moves c =
    let x = c.args.worker.now in
    let attempt = ap (λ (t : Tag). t.attempt) c.tagged-attempt.ensures in
    let said : Does c.args.board.now (Write c.args.number c.tagged-attempt.result.attempt c.args.word c.args.value) (stored_answer c.store.result) c.store.new.self = search rules in
    let does = subst (λ n. Does c.args.board.now (Write c.args.number n c.args.word c.args.value) (stored_answer c.store.result) c.store.new.self) attempt said in
    store_halts c.args.number c.args.board.now c.store.new.self c.stop-in-Ended.new.board x c.stop-in-Ended.new.worker c.args.token c.stop-in-Ended.ensures c.args.word c.args.value c.store.result does (inr c.in-Ended.is)
