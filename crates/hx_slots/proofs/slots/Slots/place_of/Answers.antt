use Rattle.std.proofs.Common.{◌≡◌, ◌==◌, ap, sym, ◌∙◌, subst}
use Rattle.hx_speculation.specs.Slots.{of_worker}
use Rattle.hx_slots.specs.Slot.{slots_of}
use Rattle.hx_slots.specs.Slots.{SlotsView, place_of, numbered_at}
use Rattle.hx_slots.proofs.Active.{worker_there}
use Rattle.hx_slots.proofs.slots.Slots.place_of.Goals as goal

pub returns-clause-place : goal.returns-clause-place
returns-clause-place c =
    let found : c.place_of.result ≡ place_of (λ x. x.worker == c.args.worker) (slots_of c.self.inside.active.items) = c.place_of.ensures ∙ ap (λ l. place_of (λ x. x.worker == c.args.worker) (slots_of l)) c.deref.ensures.value in
    subst (λ (v : SlotsView). c.place_of.result ≡ place_of (λ x. x.worker == c.args.worker) v.active) c.self.view_is found

pub returns-clause-number : goal.returns-clause-number
returns-clause-number c j =
    let xs = c.self.inside.active.items in
    let at : c.place_of.result ≡ place_of (λ x. x.worker == c.args.worker) (slots_of xs) = c.place_of.ensures ∙ ap (λ l. place_of (λ x. x.worker == c.args.worker) (slots_of l)) c.deref.ensures.value in
    subst (λ (v : SlotsView). of_worker c.args.worker j v.active ≡ numbered_at j v.active c.place_of.result) c.self.view_is
    (worker_there c.args.worker j (slots_of xs) ∙ ap (numbered_at j (slots_of xs)) (sym at))
