use Rattle.std.proofs.Common.{arith, nat_lt, nat_eq, ◌≡◌, ap, sym, subst, ◌∙◌}
use Rattle.std.proofs.lemmas.Bool.Decides.{nat_tests}
use Rattle.hx_board.specs.Board.{BoardView}
use Rattle.hx_board.specs.Effect.{has_attempt}
use Rattle.hx_speculation.specs.Slots.{of_worker}
use Rattle.hx_board.proofs.Places.{numbered_some, numbered_none}
use Rattle.hx_board.proofs.board.Board.has.Goals as goal

pub returns-then-place-len : goal.returns-then-place-len
returns-then-place-len c =
    let xs = c.self.inside.slots.active in
    let at = c.place_of-place.ensures.number c.self.inside.head ∙ numbered_some c.self.inside.head xs c.place_of-place.result c.at.result.now.slot c.at.ensures in
    let here : nat_eq c.attempt.result c.args.attempt ≡ has_attempt c.args.attempt (of_worker c.args.worker c.self.inside.head xs) = ap (λ n. nat_eq n c.args.attempt) c.attempt.ensures ∙ sym (ap (has_attempt c.args.attempt) at) in
    subst (λ (v : BoardView). nat_eq c.attempt.result c.args.attempt ≡ has_attempt c.args.attempt (of_worker c.args.worker v.head v.active)) c.self.view_is here

pub returns-else-place-len : goal.returns-else-place-len
returns-else-place-len c =
    let xs = c.self.inside.slots.active in
    let at = c.place_of-place.ensures.number c.self.inside.head ∙ numbered_none c.self.inside.head xs c.place_of-place.result (omega (arith, c.if-place-len.false, c.len.ensures)) in
    let no : nat_lt c.place_of-place.result c.len.result ≡ has_attempt c.args.attempt (of_worker c.args.worker c.self.inside.head xs) = grind (arith, nat_tests, c.if-place-len.false) ∙ sym (ap (has_attempt c.args.attempt) at) in
    subst (λ (v : BoardView). nat_lt c.place_of-place.result c.len.result ≡ has_attempt c.args.attempt (of_worker c.args.worker v.head v.active)) c.self.view_is no
