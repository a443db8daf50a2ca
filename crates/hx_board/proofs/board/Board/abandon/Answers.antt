use Rattle.std.proofs.Common.{arith, ◌≡◌, true, false, ap, sym, subst, ◌∙◌}
use Rattle.hx_speculation.specs.Board.{Abandon}
use Rattle.hx_speculation.specs.Slots.{may_restart, from_worker}
use Rattle.hx_slots.specs.Slots.{SlotsView}
use Rattle.hx_board.specs.Board.{BoardView, is_over}
use Rattle.hx_board.specs.Calls.{Becomes}
use Rattle.hx_board.specs.Keeps.{Kept, view_of}
use Rattle.hx_board.proofs.Kept.{abandon_free, abandon_does, abandon_spends, abandon_kept}
use Rattle.hx_board.proofs.board.Board.abandon.Goals as goal

pub returns-then-place_of-len : goal.returns-then-place_of-len
returns-then-place_of-len c =
    let over : is_over (view_of c.self.inside) ≡ false = ap is_over c.self.view_is ∙ sym c.is_over.ensures ∙ c.if-is_over.false in
    subst (λ (v : BoardView). Becomes v (Abandon c.args.worker) v) c.self.view_is (abandon_free (view_of c.self.inside) c.args.worker c.place_of.result over c.place_of.ensures.number (omega (arith, c.len.ensures, c.if-place_of-len.true)))

does : (c : goal.After-self-1) → Becomes (view_of c.self.inside) (Abandon c.args.worker) (record (view_of c.self.inside) { active = Rattle.hx_speculation.specs.Slots.restarted_from c.args.worker c.self.inside.slots.active; counts = record c.self.inside.counts { abandons = c.saturating_add-self-inside.result } })
does c =
    let over : is_over (view_of c.self.inside) ≡ false = ap is_over c.self.view_is ∙ sym c.is_over.ensures ∙ c.if-is_over.false in
    abandon_does (view_of c.self.inside) c.args.worker c.place_of.result c.saturating_add-self-inside.result over c.place_of.ensures.number (omega (arith, c.len.ensures, c.if-place_of-len.false)) (sym c.restart_from.ensures.told ∙ c.if-restart_from.true) c.saturating_add-self-inside.ensures

pub invariant_of-self : goal.invariant_of-self
invariant_of-self c =
    let inv = c.self.invariant in
    let kept = abandon_kept (view_of c.self.inside) c.args.worker c.saturating_add-self-inside.result (does c) inv.kept in
    subst (λ (s : SlotsView). Kept (record c.self.inside { slots = s; counts = record c.self.inside.counts { abandons = c.saturating_add-self-inside.result } })) (sym (c.restart_from.ensures.done c.if-restart_from.true))
    (record { fits = inv.fits; opened = inv.opened; is_opened = inv.is_opened; kept = kept; rooms = inv.rooms; room = inv.room; own_room = inv.own_room })

pub returns-then-restart_from : goal.returns-then-restart_from
returns-then-restart_from c =
    let moved = subst (λ (s : SlotsView). Becomes (view_of c.self.inside) (Abandon c.args.worker) (view_of (record c.self.inside { slots = s; counts = record c.self.inside.counts { abandons = c.saturating_add-self-inside.result } }))) (sym (c.restart_from.ensures.done c.if-restart_from.true)) (does c) in
    subst (λ (v : BoardView). Becomes v (Abandon c.args.worker) (view_of (record c.self.inside { slots = c.restart_from.new.self; counts = record c.self.inside.counts { abandons = c.saturating_add-self-inside.result } }))) c.self.view_is moved

pub returns-else-restart_from : goal.returns-else-restart_from
returns-else-restart_from c =
    let over : is_over (view_of c.self.inside) ≡ false = ap is_over c.self.view_is ∙ sym c.is_over.ensures ∙ c.if-is_over.false in
    let spent = abandon_spends (view_of c.self.inside) c.args.worker c.place_of.result over c.place_of.ensures.number (omega (arith, c.len.ensures, c.if-place_of-len.false)) (sym c.restart_from.ensures.told ∙ c.if-restart_from.false) in
    let moved = subst (λ (s : SlotsView). Becomes (view_of c.self.inside) (Abandon c.args.worker) (view_of (record c.self.inside { slots = s; is_spent = true }))) (sym (c.restart_from.ensures.kept c.if-restart_from.false)) spent in
    subst (λ (v : BoardView). Becomes v (Abandon c.args.worker) (view_of (record c.self.inside { slots = c.restart_from.new.self; is_spent = true }))) c.self.view_is moved
