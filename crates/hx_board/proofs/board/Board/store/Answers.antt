use Rattle.std.proofs.Common.{rules, ◌≡◌, ◌<◌, length, false, ap, sym, subst, ◌∙◌}
use Rattle.hx_speculation.specs.Slots.{written, with_write, Restarts}
use Rattle.hx_speculation.specs.Board.{Capacities}
use Rattle.hx_slots.specs.Slots.{SlotsView}
use Rattle.hx_board.specs.Board.{BoardView, is_over}
use Rattle.hx_board.specs.Keeps.{Kept, view_of}
use Rattle.hx_board.proofs.Kept.{store_kept}
use Rattle.hx_board.proofs.board.Board.store.Goals as goal

pub invariant_of-self : goal.invariant_of-self
invariant_of-self c =
    let in_ = c.self.inside in
    let b = view_of in_ in
    let inv = c.self.invariant in
    let over : is_over b ≡ false = ap is_over c.self.view_is ∙ sym c.is_over.ensures ∙ c.if-is_over.false in
    let told : Restarts c.in-Restarts.count c.in-Restarts.had_readers ≡ written in_.slots.rooms.buffer c.args.worker c.args.attempt c.args.word c.args.value in_.slots.active = search rules in
    let after : c.store.new.self ≡ record in_.slots { active = with_write c.args.worker c.args.attempt c.args.word c.args.value in_.slots.active } = search rules in
    let asked = told ∙ ap (λ (r : Capacities). written r.buffer c.args.worker c.args.attempt c.args.word c.args.value in_.slots.active) inv.rooms in
    let kept = store_kept b c.args.worker c.args.attempt c.args.word c.args.value c.in-Restarts.count c.in-Restarts.had_readers c.count_store.new.counts over asked c.count_store.ensures (subst (λ (v : BoardView). c.args.word < length v.store) (sym c.self.view_is) c.requires) inv.kept in
    subst (λ (s : SlotsView). Kept (record in_ { slots = s; counts = c.count_store.new.counts })) (sym after)
    (record { fits = inv.fits; opened = inv.opened; is_opened = inv.is_opened; kept = kept; rooms = inv.rooms; room = inv.room; own_room = inv.own_room })
