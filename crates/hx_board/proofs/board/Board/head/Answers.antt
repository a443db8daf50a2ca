use Rattle.std.proofs.Common.{arith, ◌≡◌, true, false, ap, sym, subst, ◌∙◌}
use Rattle.hx_speculation.specs.Slots.{of_worker}
use Rattle.hx_speculation.specs.Board.{Head as AskHead, NotYet, Yours}
use Rattle.hx_board.specs.Board.{BoardView, is_over}
use Rattle.hx_board.specs.Calls.{Does}
use Rattle.hx_board.specs.Effect.{has_attempt}
use Rattle.hx_board.specs.Keeps.{view_of}
use Rattle.hx_board.proofs.Heads.{head_behind, head_yours}
use Rattle.hx_board.proofs.board.Board.head.Goals as goal

pub returns-then-place_of-gt0 : goal.returns-then-place_of-gt0
returns-then-place_of-gt0 c =
    let b = view_of c.self.inside in
    let over : is_over b ≡ false = ap is_over c.self.view_is ∙ sym c.is_over.ensures ∙ c.if-is_over.false in
    let has = subst (λ (v : BoardView). has_attempt c.args.attempt (of_worker c.args.worker v.head v.active) ≡ true) (sym c.self.view_is) (sym c.has.ensures ∙ c.if-not-has.false) in
    subst (λ (v : BoardView). Does v (AskHead c.args.worker c.args.attempt) NotYet v) c.self.view_is (head_behind b c.args.worker c.args.attempt c.place_of.result over c.place_of.ensures.number has c.if-place_of-gt0.true)

pub returns : goal.returns
returns c =
    let b = view_of c.self.inside in
    let over : is_over b ≡ false = ap is_over c.self.view_is ∙ sym c.is_over.ensures ∙ c.if-is_over.false in
    let has = subst (λ (v : BoardView). has_attempt c.args.attempt (of_worker c.args.worker v.head v.active) ≡ true) (sym c.self.view_is) (sym c.has.ensures ∙ c.if-not-has.false) in
    let does = head_yours b c.args.worker c.args.attempt c.place_of.result over c.place_of.ensures.number has (omega (arith, c.if-place_of-gt0.false)) c.if-self.false in
    subst (λ (v : BoardView). Does v (AskHead c.args.worker c.args.attempt) (Yours (record { worker = c.args.worker; iteration = c.self.inside.head; attempt = c.args.attempt })) (view_of (record c.self.inside { is_out = true }))) c.self.view_is does
