use Rattle.std.proofs.Common.{rules, ◌≡◌, refl, ap, sym, subst, ◌∙◌}
use Rattle.hx_frame.specs.Frame.{stop_of, action_of}
use Rattle.hx_speculation.specs.Frame.{Nothing, ForLoad, ForStore, ForHead}
use Rattle.hx_speculation.specs.Replay.{at_stop}
use Rattle.hx_speculation.specs.Board.{Write}
use Rattle.hx_board.specs.Board.{board_of}
use Rattle.hx_trace.specs.Events.{deed_by, call_at_head}
use Rattle.hx_trace.specs.Turns.{course_of, Moves}
use Rattle.hx_trace.proofs.Events.{event_told, stop_told, head_told}
use Rattle.hx_trace.proofs.Turns.{renamed, stop_moves, head_moves, needs_load, needs_store, needs_nothing}
use Rattle.hx_trace.proofs.answers.enter.Goals as goal

pub returns-in-NeedLoad-clause-moves : goal.returns-in-NeedLoad-clause-moves
returns-in-NeedLoad-clause-moves c =
    let g = c.run-stop.new.self in
    let need = needs_load (action_of g) g.frame.need c.in-NeedLoad.word (sym c.in-NeedLoad.is ∙ c.run-stop.ensures.stop) in
    renamed _ _ _ _ _ _ _ _ c.told.ensures.token (stop_moves c.args.number c.args.board.now c.load.new.board c.args.worker.now c.load.new.worker c.args.token c.load.result.token c.requires.own (search rules) g c.run-stop.ensures.ran (ForLoad c.in-NeedLoad.word) need c.load.ensures.moves)

pub returns-in-NeedLoad-clause-told : goal.returns-in-NeedLoad-clause-told
returns-in-NeedLoad-clause-told c =
    let g = c.run-stop.new.self in
    let need = needs_load (action_of g) g.frame.need c.in-NeedLoad.word (sym c.in-NeedLoad.is ∙ c.run-stop.ensures.stop) in
    let event = event_told c.args.number g.frame c.tagged-tag.result c.load.result.deed _ c.told.result.1 c.told.ensures.event c.tagged-tag.ensures c.load.ensures.told in
    stop_told c.args.number c.args.board.now c.args.token c.args.worker.now c.requires.own (search rules) g c.run-stop.ensures.ran (ForLoad c.in-NeedLoad.word) c.told.result.1 need event

pub returns-in-NeedStore-clause-moves : goal.returns-in-NeedStore-clause-moves
returns-in-NeedStore-clause-moves c =
    let g = c.run-stop.new.self in
    let need = needs_store (action_of g) g.frame.need c.in-NeedStore.word c.in-NeedStore.value (sym c.in-NeedStore.is ∙ c.run-stop.ensures.stop) in
    let moves : Moves (λ d. at_stop (course_of c.args.board.now.setup) c.args.number d g.frame c.args.token (ForStore c.in-NeedStore.word c.in-NeedStore.value)) c.args.number c.args.board.now c.args.token c.store.new.board c.store.new.worker c.store.result.token = search rules in
    renamed _ _ _ _ _ _ _ _ c.told-in-NeedStore.ensures.token (stop_moves c.args.number c.args.board.now c.store.new.board c.args.worker.now c.store.new.worker c.args.token c.store.result.token c.requires.own (search rules) g c.run-stop.ensures.ran (ForStore c.in-NeedStore.word c.in-NeedStore.value) need moves)

pub returns-in-NeedStore-clause-told : goal.returns-in-NeedStore-clause-told
returns-in-NeedStore-clause-told c =
    let g = c.run-stop.new.self in
    let need = needs_store (action_of g) g.frame.need c.in-NeedStore.word c.in-NeedStore.value (sym c.in-NeedStore.is ∙ c.run-stop.ensures.stop) in
    let did : c.store.result.deed ≡ deed_by (course_of c.args.board.now.setup) (board_of c.args.board.now) (Write c.args.number g.frame.attempt c.in-NeedStore.word c.in-NeedStore.value) = search rules in
    let event = event_told c.args.number g.frame c.tagged-tag.result c.store.result.deed _ c.told-in-NeedStore.result.1 c.told-in-NeedStore.ensures.event c.tagged-tag.ensures did in
    stop_told c.args.number c.args.board.now c.args.token c.args.worker.now c.requires.own (search rules) g c.run-stop.ensures.ran (ForStore c.in-NeedStore.word c.in-NeedStore.value) c.told-in-NeedStore.result.1 need event

pub returns-in-Some-clause-moves : goal.returns-in-Some-clause-moves
returns-in-Some-clause-moves c =
    let g = c.run-stop.new.self in
    renamed _ _ _ _ _ _ _ _ c.told-in-Some.ensures.token (head_moves c.args.number c.args.board.now c.settle.new.board c.args.worker.now c.settle.new.worker c.args.token c.settle.result.token c.requires.own (search rules) g c.run-stop.ensures.ran (action_of g) c.in-NeedHead.field-0 g.frame.need refl (sym c.in-NeedHead.is ∙ c.run-stop.ensures.stop) (search rules))

pub returns-in-Some-clause-told : goal.returns-in-Some-clause-told
returns-in-Some-clause-told c =
    let g = c.run-stop.new.self in
    let held = ap (λ t. deed_by (course_of c.args.board.now.setup) (board_of c.args.board.now) (call_at_head c.args.number g.frame t)) (sym c.in-Some.is) in
    let event = event_told c.args.number g.frame c.tagged-tag.result c.settle.result.deed _ c.told-in-Some.result.1 c.told-in-Some.ensures.event c.tagged-tag.ensures (c.settle.ensures.told ∙ held) in
    head_told c.args.number c.args.board.now c.args.token c.args.worker.now c.requires.own (search rules) g c.run-stop.ensures.ran (action_of g) c.in-NeedHead.field-0 g.frame.need c.told-in-Some.result.1 refl (sym c.in-NeedHead.is ∙ c.run-stop.ensures.stop) event

pub returns-in-None-clause-moves : goal.returns-in-None-clause-moves
returns-in-None-clause-moves c =
    let g = c.run-stop.new.self in
    renamed _ _ _ _ _ _ _ _ c.told-in-None.ensures.token (head_moves c.args.number c.args.board.now c.ask_head.new.board c.args.worker.now c.ask_head.new.worker c.args.token c.ask_head.result.token c.requires.own (search rules) g c.run-stop.ensures.ran (action_of g) c.in-NeedHead.field-0 g.frame.need refl (sym c.in-NeedHead.is ∙ c.run-stop.ensures.stop) (search rules))

pub returns-in-None-clause-told : goal.returns-in-None-clause-told
returns-in-None-clause-told c =
    let g = c.run-stop.new.self in
    let held = ap (λ t. deed_by (course_of c.args.board.now.setup) (board_of c.args.board.now) (call_at_head c.args.number g.frame t)) (sym c.in-None.is) in
    let event = event_told c.args.number g.frame c.tagged-tag.result c.ask_head.result.deed _ c.told-in-None.result.1 c.told-in-None.ensures.event c.tagged-tag.ensures (c.ask_head.ensures.told ∙ held) in
    head_told c.args.number c.args.board.now c.args.token c.args.worker.now c.requires.own (search rules) g c.run-stop.ensures.ran (action_of g) c.in-NeedHead.field-0 g.frame.need c.told-in-None.result.1 refl (sym c.in-NeedHead.is ∙ c.run-stop.ensures.stop) event

pub returns-in-Limit-clause-moves : goal.returns-in-Limit-clause-moves
returns-in-Limit-clause-moves c =
    let g = c.run-stop.new.self in
    let need = needs_nothing (action_of g) g.frame.need (sym c.in-Limit.is ∙ c.run-stop.ensures.stop) in
    renamed _ _ _ _ _ _ _ _ c.told-in-Limit.ensures.token (stop_moves c.args.number c.args.board.now c.look.new.board c.args.worker.now c.look.new.worker c.args.token c.look.result.token c.requires.own (search rules) g c.run-stop.ensures.ran Nothing need c.look.ensures.moves)

pub returns-in-Limit-clause-told : goal.returns-in-Limit-clause-told
returns-in-Limit-clause-told c =
    let g = c.run-stop.new.self in
    let need = needs_nothing (action_of g) g.frame.need (sym c.in-Limit.is ∙ c.run-stop.ensures.stop) in
    let event = event_told c.args.number g.frame c.tagged-tag.result c.look.result.deed _ c.told-in-Limit.result.1 c.told-in-Limit.ensures.event c.tagged-tag.ensures c.look.ensures.told in
    stop_told c.args.number c.args.board.now c.args.token c.args.worker.now c.requires.own (search rules) g c.run-stop.ensures.ran Nothing c.told-in-Limit.result.1 need event
