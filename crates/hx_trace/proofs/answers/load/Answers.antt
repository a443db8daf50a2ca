use Rattle.std.proofs.Common.{rules, ◌≡◌, inl, inr, ap, sym, subst, ◌∙◌}
use Rattle.hx_frame.specs.declared.frame.Tag.{Tag}
use Rattle.hx_frame.specs.Frame.{FrameView}
use Rattle.hx_frame.specs.Automaton.{ask_in}
use Rattle.hx_speculation.specs.Frame.{ForLoad, loaded}
use Rattle.hx_speculation.specs.Replay.{at_stop}
use Rattle.hx_speculation.specs.Board.{Load}
use Rattle.hx_board.specs.Board.{board_of}
use Rattle.hx_board.specs.declared.answers.Loaded.TheVariants.{Value}
use Rattle.hx_board.specs.Calls.{Does, loaded_answer}
use Rattle.hx_trace.specs.declared.event.Deed.TheVariants.{Loads}
use Rattle.hx_trace.specs.Events.{deed_by}
use Rattle.hx_trace.specs.Turns.{course_of, Moves}
use Rattle.hx_trace.proofs.Events.{deed_told}
use Rattle.hx_trace.proofs.Turns.{load_goes, load_halts}
use Rattle.hx_trace.proofs.answers.load.Goals as goal

pub returns-in-Value-clause-moves : goal.returns-in-Value-clause-moves
returns-in-Value-clause-moves c =
    let x = c.args.worker.now in
    let attempt = ap (λ (t : Tag). t.attempt) c.tagged-attempt.ensures in
    let told = subst (λ r. Does c.args.board.now (Load c.args.number c.tagged-attempt.result.attempt c.args.word) (loaded_answer r) c.load.new.self) c.in-Value.is c.load.ensures in
    let does = subst (λ n. Does c.args.board.now (Load c.args.number n c.args.word) (loaded_answer (Value c.in-Value.value)) c.load.new.self) attempt told in
    let moves = load_goes c.args.number c.args.board.now c.load.new.self x c.args.token c.requires.own c.requires.runs c.requires.token c.args.word c.in-Value.value does in
    let after : c.loaded.new.self ≡ record x.frame { frame = loaded (ask_in x.frame.code) x.frame.capacities.marks c.in-Value.value x.frame.frame } = search rules in
    subst (λ (f : FrameView). Moves (λ d. at_stop (course_of c.args.board.now.setup) c.args.number d x.frame.frame c.args.token (ForLoad c.args.word)) c.args.number c.args.board.now c.args.token c.load.new.self (record x { frame = f }) c.args.token) (sym after) moves

pub returns-in-Value-clause-told : goal.returns-in-Value-clause-told
returns-in-Value-clause-told c =
    let attempt = ap (λ (t : Tag). t.attempt) c.tagged-attempt.ensures in
    let does = subst (λ r. Does c.args.board.now (Load c.args.number c.tagged-attempt.result.attempt c.args.word) (loaded_answer r) c.load.new.self) c.in-Value.is c.load.ensures in
    let told : Loads c.args.word c.in-Value.value c.source_on-source.result ≡ deed_by (course_of c.args.board.now.setup) (board_of c.args.board.now) (Load c.args.number c.args.worker.now.frame.frame.attempt c.args.word) =
    ap (Loads c.args.word c.in-Value.value) c.source_on-source.ensures
    ∙ deed_told c.args.board.now c.load.new.self (Load c.args.number c.tagged-attempt.result.attempt c.args.word) (loaded_answer (Value c.in-Value.value)) does
    ∙ ap (λ n. deed_by (course_of c.args.board.now.setup) (board_of c.args.board.now) (Load c.args.number n c.args.word)) attempt in
    search (rules, told)

pub returns-in-Squashed-clause-moves : goal.returns-in-Squashed-clause-moves
returns-in-Squashed-clause-moves c =
    let x = c.args.worker.now in
    let attempt = ap (λ (t : Tag). t.attempt) c.tagged-attempt.ensures in
    let does = subst (λ n. Does c.args.board.now (Load c.args.number n c.args.word) (loaded_answer c.load.result) c.load.new.self) attempt c.load.ensures in
    load_halts c.args.number c.args.board.now c.load.new.self c.stop.new.board x c.stop.new.worker c.args.token c.stop.ensures c.args.word c.load.result does (inl c.in-Squashed.is)

pub returns-in-Ended-clause-moves : goal.returns-in-Ended-clause-moves
returns-in-Ended-clause-moves c =
    let x = c.args.worker.now in
    let attempt = ap (λ (t : Tag). t.attempt) c.tagged-attempt.ensures in
    let does = subst (λ n. Does c.args.board.now (Load c.args.number n c.args.word) (loaded_answer c.load.result) c.load.new.self) attempt c.load.ensures in
    load_halts c.args.number c.args.board.now c.load.new.self c.stop-in-Ended.new.board x c.stop-in-Ended.new.worker c.args.token c.stop-in-Ended.ensures c.args.word c.load.result does (inr c.in-Ended.is)
