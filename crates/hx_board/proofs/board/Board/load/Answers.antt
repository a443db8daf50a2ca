use Rattle.std.proofs.Common.{rules, ◌≡◌, ◌<◌, pos, length, false, refl, ap, sym, subst, ◌∙◌}
use Rattle.std.specs.Prelude.{slice_index_or}
use Rattle.std.proofs.lemmas.List.{get_or_read_under}
use Rattle.hx_speculation.specs.Slots.{New, found, with_mark}
use Rattle.hx_slots.specs.Slots.{SlotsView}
use Rattle.hx_board.specs.Board.{BoardView, is_over}
use Rattle.hx_board.specs.Keeps.{Kept, view_of}
use Rattle.hx_speculation.specs.Board.{Capacities}
use Rattle.hx_board.proofs.Kept.{load_kept}
use Rattle.hx_board.proofs.board.Board.load.Goals as goal

pub invariant_of-self-in-New-1 : goal.invariant_of-self-in-New-1
invariant_of-self-in-New-1 c =
    let in_ = c.self.inside in
    let b = view_of in_ in
    let inv = c.self.invariant in
    let over : is_over b ≡ false = ap is_over c.self.view_is ∙ sym c.is_over.ensures ∙ c.if-is_over.false in
    let within = subst (λ (v : BoardView). c.args.word < length v.store) (sym c.self.view_is) c.requires in
    let read : c.index-committed.result.now ≡ slice_index_or in_.store.items c.args.word (pos 0) = get_or_read_under in_.store.items c.args.word (length in_.store.items) c.index-committed.result.now (pos 0) c.index-committed.ensures within refl in
    let told : New c.in-Known.value ≡ found in_.slots.rooms.marks c.args.worker c.args.attempt c.args.word c.index-committed.result.now in_.slots.active = search rules in
    let after : c.load.new.self ≡ record in_.slots { active = with_mark c.args.worker c.args.attempt c.args.word c.in-Known.value in_.slots.active } = search rules in
    let asked = told ∙ ap (λ (r : Capacities). found r.marks c.args.worker c.args.attempt c.args.word c.index-committed.result.now in_.slots.active) inv.rooms ∙ ap (λ u. found in_.capacities.marks c.args.worker c.args.attempt c.args.word u in_.slots.active) read in
    let kept = load_kept b c.args.worker c.args.attempt c.args.word c.in-Known.value over asked inv.kept in
    subst (λ (s : SlotsView). Kept (record in_ { slots = s })) (sym after)
    (record { fits = inv.fits; opened = inv.opened; is_opened = inv.is_opened; kept = kept; rooms = inv.rooms; room = inv.room; own_room = inv.own_room })
