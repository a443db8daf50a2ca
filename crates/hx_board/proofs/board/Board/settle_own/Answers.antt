use Rattle.std.proofs.Common.{rules, arith, ◌≡◌, ◌+◌, ◌-◌, ◌^◌, ap₂, Some, ◌<◌, List, [], ◌∷◌, length, false, true, refl, ap, sym, subst, ◌∙◌}
use Rattle.std.specs.Prelude.{drop}
use Rattle.std.specs.Vec.{with_items}
use Rattle.hx_tree.specs.declared.outcome.Counts.{Counts}
use Rattle.std.proofs.lemmas.List.{with_items_is}
use Rattle.hx_buffer.specs.Overlay.{overlay}
use Rattle.hx_code.specs.Local.{LocalView}
use Rattle.hx_code.specs.Region.{Opened, held}
use Rattle.hx_speculation.specs.Frame.{Frame}
use Rattle.hx_speculation.specs.Slots.{Slot}
use Rattle.hx_speculation.specs.Board.{Settle, NotThisFrame, Again, Passed, Ended}
use Rattle.hx_slots.specs.Slots.{SlotsView}
use Rattle.hx_board.specs.Board.{BoardView, is_over}
use Rattle.hx_board.specs.Calls.{Does}
use Rattle.hx_board.specs.declared.effect.Effect.TheVariants.{GoesOn, Passes, Ends}
use Rattle.hx_board.specs.Known.{IsKept}
use Rattle.hx_board.proofs.Lengths.{long_overlay}
use Rattle.hx_board.specs.Effect.{IsDue}
use Rattle.hx_board.specs.Keeps.{Kept, view_of}
use Rattle.hx_board.proofs.Steps.{text_fits}
use Rattle.hx_board.proofs.Settling.{due_at, token_of, settle_refuses, settle_goes_on, settle_passes, settle_spends, settle_ends, gone_on, passed_on, with_passed, ended_at, behind_frame, text_behind}
use Rattle.hx_board.proofs.Committed.{written_below, goes_on_kept, passes_kept, ends_kept}
use Rattle.hx_board.proofs.Taking.{effect_is, text_is, frame_is, tracked_is, text_stays, passes_other, ends_other}
use Rattle.hx_board.proofs.board.Board.settle_own.Goals as goal

pub returns-then-not-is_due-clause-does : goal.returns-then-not-is_due-clause-does
returns-then-not-is_due-clause-does c =
    let b = view_of c.self.inside in
    let fr = c.args.frame.now.frame in
    let over : is_over b ≡ false = ap is_over c.self.view_is ∙ sym c.is_over.ensures ∙ c.if-is_over.false in
    let none : IsDue b.head c.head.inside.tag fr b.active → ⊥ = subst (λ (v : BoardView). IsDue v.head c.head.inside.tag fr v.active → ⊥) (sym c.self.view_is) (λ h. search (rules, h)) in
    let does = settle_refuses b c.head.inside.tag fr true over refl none in
    subst (λ t. Does c.args.self.now (Settle t fr true) NotThisFrame (view_of (record c.self.inside { is_out = false }))) c.head.view_is
    (subst (λ (v : BoardView). Does v (Settle (token_of c.head.inside.tag) fr true) NotThisFrame (view_of (record c.self.inside { is_out = false }))) c.self.view_is does)

pub takes_effect-requires-clause-fits : goal.takes_effect-requires-clause-fits
takes_effect-requires-clause-fits c =
    let b = view_of c.self.inside in
    let fits = text_fits b c.known.ensures c.self.invariant.is_opened c.self.invariant.kept in
    let printed = ap (λ (o : Opened). o.printed) c.self.invariant.opened in
    omega (arith, fits, printed)

-- ---- it goes on

abbrev slot_from : Slot LocalView → LocalView → Slot LocalView
slot_from x q = record x { start = q; marks = []; buffer = [] }

pub renew_first-requires : goal.renew_first-requires
renew_first-requires c =
    let due : IsDue c.args.self.now.head c.head.inside.tag c.args.frame.now.frame c.args.self.now.active = search rules in
    let d = due_at _ _ _ _ (subst (λ (v : BoardView). IsDue v.head c.head.inside.tag c.args.frame.now.frame v.active) (sym c.self.view_is) due) in
    let drained = c.drain_first.ensures d.0 d.1 d.2 in
    subst (λ (s : SlotsView). 0 < length s.active) (sym drained.1) (omega arith)

record Going (c : goal.After-self-in-GoesOn-2-1) : Type 0 where
  x : Slot LocalView
  later : List (Slot LocalView)
  does : Does (view_of c.self.inside) (Settle (token_of c.head.inside.tag) c.args.frame.now.frame true) (Again (token_of c.head.inside.tag) c.advance.new.self.frame) (gone_on (view_of c.self.inside) x later (behind_frame (view_of c.self.inside) c.args.frame.now.frame) (text_behind (view_of c.self.inside) c.self.inside.job.code.now c.args.frame.now.frame))
  kept : IsKept (gone_on (view_of c.self.inside) x later (behind_frame (view_of c.self.inside) c.args.frame.now.frame) (text_behind (view_of c.self.inside) c.self.inside.job.code.now c.args.frame.now.frame))
  store : (with_items c.self.inside.store c.drain_first.new.store).items ≡ overlay x.buffer c.self.inside.store.items
  text : c.takes_effect.new.text.items ≡ text_behind (view_of c.self.inside) c.self.inside.job.code.now c.args.frame.now.frame
  slots : c.renew_first.new.self ≡ record c.self.inside.slots { active = slot_from x (behind_frame (view_of c.self.inside) c.args.frame.now.frame) ∷ later }

going : (c : goal.After-self-in-GoesOn-2-1) → Going c
going c =
    let b = view_of c.self.inside in
    let f = c.args.frame.now in
    let inv = c.self.invariant in
    let over : is_over b ≡ false = ap is_over c.self.view_is ∙ sym c.is_over.ensures ∙ c.if-is_over.false in
    let due : IsDue c.args.self.now.head c.head.inside.tag f.frame c.args.self.now.active = search rules in
    let d = due_at _ _ _ _ (subst (λ (v : BoardView). IsDue v.head c.head.inside.tag f.frame v.active) (sym c.self.view_is) due) in
    let code : f.code ≡ b.setup.code = c.requires ∙ sym (ap (λ (v : BoardView). v.setup.code) c.self.view_is) in
    let printed = ap (λ (o : Opened). o.printed) inv.opened in
    let tracked = tracked_is b f code c.known-2.ensures.truth in
    let fits = written_below b (token_of c.head.inside.tag) f.frame d.0 d.1 d.2 tracked inv.kept in
    let effect = effect_is b f c.waits_with-ask.result c.self.inside.opened.printed GoesOn c.takes_effect.result code c.waits_with-ask.ensures printed c.takes_effect.ensures.effect c.in-GoesOn.is in
    let did = settle_goes_on b c.head.inside.tag f.frame true d.0 d.1 over refl d.2 d.3 fits effect in
    let frame = frame_is b f f c.advance.new.self code refl c.advance.ensures in
    let drained = c.drain_first.ensures d.0 d.1 d.2 in
    let stored = drained.0 ∙ ap (overlay d.0.buffer) c.deref_mut.ensures.value in
    let start = c.start.ensures.start ∙ ap (λ (g : Frame LocalView). g.start) frame in
    let renewed = c.renew_first.ensures (record d.0 { buffer = [] }) d.1 (ap (λ (s : SlotsView). s.active) drained.1) in
    record {
      x = d.0;
      later = d.1;
      does = subst (λ g. Does b (Settle (token_of c.head.inside.tag) f.frame true) (Again (token_of c.head.inside.tag) g) (gone_on b d.0 d.1 (behind_frame b f.frame) (text_behind b b.setup.code f.frame))) (sym frame) did;
      kept = goes_on_kept b (token_of c.head.inside.tag) f.frame d.0 d.1 d.2 tracked inv.kept _ (behind_frame b f.frame) (text_behind b b.setup.code f.frame) did;
      store = with_items_is c.self.inside.store c.drain_first.new.store (ap length stored ∙ long_overlay d.0.buffer c.self.inside.store.items ∙ search rules) ∙ stored;
      text = text_is b f c.waits_with-ask.result c.self.inside.opened.printed c.takes_effect.new.text.items code c.waits_with-ask.ensures printed c.takes_effect.ensures.items;
      slots = renewed ∙ ap (λ (s : SlotsView). record s { active = slot_from d.0 c.start.result.now ∷ d.1 }) drained.1 ∙ ap (λ q. record c.self.inside.slots { active = slot_from d.0 q ∷ d.1 }) start;
    }

pub invariant_of-self-in-GoesOn : goal.invariant_of-self-in-GoesOn
invariant_of-self-in-GoesOn c =
    let g = going c in
    let inv = c.self.invariant in
    let b = view_of c.self.inside in
    let done = gone_on b g.x g.later (behind_frame b c.args.frame.now.frame) (text_behind b b.setup.code c.args.frame.now.frame) in
    let stored = subst (λ st. IsKept (record done { store = st })) (sym g.store) g.kept in
    let kept = subst (λ ts. IsKept (record done { store = (with_items c.self.inside.store c.drain_first.new.store).items; text = ts })) (sym g.text) stored in
    subst (λ (s : SlotsView). Kept (record c.self.inside { slots = s; store = with_items c.self.inside.store c.drain_first.new.store; text = c.takes_effect.new.text; is_out = true })) (sym g.slots)
    (record { fits = inv.fits; opened = inv.opened; is_opened = inv.is_opened; kept = kept; rooms = inv.rooms; room = c.takes_effect.ensures.room; own_room = inv.own_room })

pub returns-in-GoesOn-clause-does : goal.returns-in-GoesOn-clause-does
returns-in-GoesOn-clause-does c =
    let g = going c in
    let b = view_of c.self.inside in
    let answer = Again (token_of c.head.inside.tag) c.advance.new.self.frame in
    let call = Settle (token_of c.head.inside.tag) c.args.frame.now.frame true in
    let done = gone_on b g.x g.later (behind_frame b c.args.frame.now.frame) (text_behind b b.setup.code c.args.frame.now.frame) in
    let items = (with_items c.self.inside.store c.drain_first.new.store).items in
    let stored = subst (λ st. Does b call answer (record done { store = st })) (sym g.store) g.does in
    let printed = subst (λ ts. Does b call answer (record done { store = items; text = ts })) (sym g.text) stored in
    let after : SlotsView → BoardView = λ s. view_of (record c.self.inside { slots = s; store = with_items c.self.inside.store c.drain_first.new.store; text = c.takes_effect.new.text; is_out = true }) in
    let slotted = subst (λ (s : SlotsView). Does b call answer (after s)) (sym g.slots) printed in
    let viewed = subst (λ (v : BoardView). Does v call answer (after c.renew_first.new.self)) c.self.view_is slotted in
    subst (λ t. Does c.args.self.now (Settle t c.args.frame.now.frame true) answer (after c.renew_first.new.self)) c.head.view_is viewed

-- ---- its turn is whole

pub returns-then-self-clause-does : goal.returns-then-self-clause-does
returns-then-self-clause-does c =
    let b = view_of c.self.inside in
    let f = c.args.frame.now in
    let inv = c.self.invariant in
    let over : is_over b ≡ false = ap is_over c.self.view_is ∙ sym c.is_over.ensures ∙ c.if-is_over.false in
    let due : IsDue c.args.self.now.head c.head.inside.tag f.frame c.args.self.now.active = search rules in
    let d = due_at _ _ _ _ (subst (λ (v : BoardView). IsDue v.head c.head.inside.tag f.frame v.active) (sym c.self.view_is) due) in
    let code : f.code ≡ b.setup.code = c.requires ∙ sym (ap (λ (v : BoardView). v.setup.code) c.self.view_is) in
    let printed = ap (λ (o : Opened). o.printed) inv.opened in
    let tracked = tracked_is b f code c.known-2.ensures.truth in
    let fits = written_below b (token_of c.head.inside.tag) f.frame d.0 d.1 d.2 tracked inv.kept in
    let effect = effect_is b f c.waits_with-ask.result c.self.inside.opened.printed Passes c.takes_effect.result code c.waits_with-ask.ensures printed c.takes_effect.ensures.effect c.in-Passes.is in
    let did = settle_spends b c.head.inside.tag f.frame true d.0 d.1 over refl d.2 d.3 fits effect (omega (arith, c.if-self.true)) in
    let text = text_stays b.text c.takes_effect.new.text.items c.self.inside.opened.printed (length b.text) c.waits_with-ask.result Passes (λ e. passes_other e) (sym c.takes_effect.ensures.effect ∙ c.in-Passes.is) c.takes_effect.ensures.items in
    let call = Settle (token_of c.head.inside.tag) f.frame true in
    let printed_too = subst (λ ts. Does b call Ended (record b { text = ts; is_out = false; is_spent = true })) (sym text) did in
    let after = view_of (record c.self.inside { text = c.takes_effect.new.text; is_out = false; is_spent = true }) in
    subst (λ t. Does c.args.self.now (Settle t f.frame true) Ended after) c.head.view_is (subst (λ (v : BoardView). Does v call Ended after) c.self.view_is printed_too)

pub pass_first-requires : goal.pass_first-requires
pass_first-requires c =
    let due : IsDue c.args.self.now.head c.head.inside.tag c.args.frame.now.frame c.args.self.now.active = search rules in
    let d = due_at _ _ _ _ (subst (λ (v : BoardView). IsDue v.head c.head.inside.tag c.args.frame.now.frame v.active) (sym c.self.view_is) due) in
    let drained = c.drain_first-in-Passes.ensures d.0 d.1 d.2 in
    subst (λ (s : SlotsView). 0 < length s.active) (sym drained.1) (omega arith)

-- what is counted
abbrev counted : goal.After-self-in-Passes-5-1 → Counts
counted c = record c.self.inside.counts { turns = c.saturating_add-self-inside.result; repeats = c.saturating_add-self-inside-in-Passes.result }

record Passing (c : goal.After-self-in-Passes-5-1) : Type 0 where
  x : Slot LocalView
  later : List (Slot LocalView)
  does : Does (view_of c.self.inside) (Settle (token_of c.head.inside.tag) c.args.frame.now.frame true) Passed (passed_on (view_of c.self.inside) x later)
  kept : IsKept (passed_on (view_of c.self.inside) x later)
  store : (with_items c.self.inside.store c.drain_first-in-Passes.new.store).items ≡ overlay x.buffer c.self.inside.store.items
  text : c.takes_effect.new.text.items ≡ c.self.inside.text.items
  slots : c.pass_first.new.self ≡ record c.self.inside.slots { active = later }
  counts : counted c ≡ with_passed c.self.inside.counts x.attempt

passing : (c : goal.After-self-in-Passes-5-1) → Passing c
passing c =
    let b = view_of c.self.inside in
    let f = c.args.frame.now in
    let inv = c.self.invariant in
    let over : is_over b ≡ false = ap is_over c.self.view_is ∙ sym c.is_over.ensures ∙ c.if-is_over.false in
    let due : IsDue c.args.self.now.head c.head.inside.tag f.frame c.args.self.now.active = search rules in
    let d = due_at _ _ _ _ (subst (λ (v : BoardView). IsDue v.head c.head.inside.tag f.frame v.active) (sym c.self.view_is) due) in
    let code : f.code ≡ b.setup.code = c.requires ∙ sym (ap (λ (v : BoardView). v.setup.code) c.self.view_is) in
    let printed = ap (λ (o : Opened). o.printed) inv.opened in
    let tracked = tracked_is b f code c.known-2.ensures.truth in
    let fits = written_below b (token_of c.head.inside.tag) f.frame d.0 d.1 d.2 tracked inv.kept in
    let effect = effect_is b f c.waits_with-ask.result c.self.inside.opened.printed Passes c.takes_effect.result code c.waits_with-ask.ensures printed c.takes_effect.ensures.effect c.in-Passes.is in
    let head : b.head < 2 ^ 64 = search rules in
    let did = settle_passes b c.head.inside.tag f.frame true d.0 d.1 over refl d.2 d.3 fits effect (omega (arith, c.if-self.false, head)) in
    let drained = c.drain_first-in-Passes.ensures d.0 d.1 d.2 in
    let stored = drained.0 ∙ ap (overlay d.0.buffer) c.deref_mut-in-Passes.ensures.value in
    let repeats = c.saturating_add-self-inside-in-Passes.ensures ∙ ap (λ n. held (b.counts.repeats + n)) (c.saturating_sub.ensures ∙ ap (λ n. n - 1) d.3.attempt) in
    record {
      x = d.0;
      later = d.1;
      does = did;
      kept = passes_kept b (token_of c.head.inside.tag) f.frame d.0 d.1 d.2 tracked inv.kept _ did;
      store = with_items_is c.self.inside.store c.drain_first-in-Passes.new.store (ap length stored ∙ long_overlay d.0.buffer c.self.inside.store.items ∙ search rules) ∙ stored;
      text = text_stays b.text c.takes_effect.new.text.items c.self.inside.opened.printed (length b.text) c.waits_with-ask.result Passes (λ e. passes_other e) (sym c.takes_effect.ensures.effect ∙ c.in-Passes.is) c.takes_effect.ensures.items;
      slots = c.pass_first.ensures ∙ ap (λ (s : SlotsView). record s { active = drop 1 s.active }) drained.1;
      counts = ap₂ {C = Counts} (λ t r. record c.self.inside.counts { turns = t; repeats = r }) c.saturating_add-self-inside.ensures repeats;
    }

pub invariant_of-self-in-Passes : goal.invariant_of-self-in-Passes
invariant_of-self-in-Passes c =
    let g = passing c in
    let inv = c.self.invariant in
    let b = view_of c.self.inside in
    let done = passed_on b g.x g.later in
    let items = (with_items c.self.inside.store c.drain_first-in-Passes.new.store).items in
    let stored = subst (λ st. IsKept (record done { store = st })) (sym g.store) g.kept in
    let printed = subst (λ ts. IsKept (record done { store = items; text = ts })) (sym g.text) stored in
    let kept = subst (λ cs. IsKept (record done { store = items; text = c.takes_effect.new.text.items; counts = cs })) (sym g.counts) printed in
    subst (λ (s : SlotsView). Kept (record c.self.inside { slots = s; head = c.self.inside.head + 1; store = with_items c.self.inside.store c.drain_first-in-Passes.new.store; text = c.takes_effect.new.text; is_out = false; counts = counted c })) (sym g.slots)
    (record { fits = inv.fits; opened = inv.opened; is_opened = inv.is_opened; kept = kept; rooms = inv.rooms; room = c.takes_effect.ensures.room; own_room = inv.own_room })

pub returns-else-self-clause-does : goal.returns-else-self-clause-does
returns-else-self-clause-does c =
    let g = passing c in
    let b = view_of c.self.inside in
    let call = Settle (token_of c.head.inside.tag) c.args.frame.now.frame true in
    let done = passed_on b g.x g.later in
    let items = (with_items c.self.inside.store c.drain_first-in-Passes.new.store).items in
    let stored = subst (λ st. Does b call Passed (record done { store = st })) (sym g.store) g.does in
    let printed = subst (λ ts. Does b call Passed (record done { store = items; text = ts })) (sym g.text) stored in
    let told = subst (λ cs. Does b call Passed (record done { store = items; text = c.takes_effect.new.text.items; counts = cs })) (sym g.counts) printed in
    let after : SlotsView → BoardView = λ s. view_of (record c.self.inside { slots = s; head = c.self.inside.head + 1; store = with_items c.self.inside.store c.drain_first-in-Passes.new.store; text = c.takes_effect.new.text; is_out = false; counts = counted c }) in
    let slotted = subst (λ (s : SlotsView). Does b call Passed (after s)) (sym g.slots) told in
    let viewed = subst (λ (v : BoardView). Does v call Passed (after c.pass_first.new.self)) c.self.view_is slotted in
    subst (λ t. Does c.args.self.now (Settle t c.args.frame.now.frame true) Passed (after c.pass_first.new.self)) c.head.view_is viewed

-- ---- the region ends

abbrev dropped_counts : goal.After-self-in-Ends-4-1 → Counts
dropped_counts c = record c.self.inside.counts { discarded = c.saturating_add-self-inside-in-Ends.result }

record Ending (c : goal.After-self-in-Ends-4-1) : Type 0 where
  x : Slot LocalView
  later : List (Slot LocalView)
  does : Does (view_of c.self.inside) (Settle (token_of c.head.inside.tag) c.args.frame.now.frame true) Ended (ended_at (view_of c.self.inside) x later c.in-Ends.exit)
  kept : IsKept (ended_at (view_of c.self.inside) x later c.in-Ends.exit)
  store : (with_items c.self.inside.store c.drain_first-in-Ends.new.store).items ≡ overlay x.buffer c.self.inside.store.items
  text : c.takes_effect.new.text.items ≡ c.self.inside.text.items
  slots : c.drop_all.new.self ≡ record c.self.inside.slots { active = [] }
  counts : dropped_counts c ≡ record c.self.inside.counts { discarded = held (c.self.inside.counts.discarded + length later) }

ending : (c : goal.After-self-in-Ends-4-1) → Ending c
ending c =
    let b = view_of c.self.inside in
    let f = c.args.frame.now in
    let inv = c.self.invariant in
    let over : is_over b ≡ false = ap is_over c.self.view_is ∙ sym c.is_over.ensures ∙ c.if-is_over.false in
    let due : IsDue c.args.self.now.head c.head.inside.tag f.frame c.args.self.now.active = search rules in
    let d = due_at _ _ _ _ (subst (λ (v : BoardView). IsDue v.head c.head.inside.tag f.frame v.active) (sym c.self.view_is) due) in
    let code : f.code ≡ b.setup.code = c.requires ∙ sym (ap (λ (v : BoardView). v.setup.code) c.self.view_is) in
    let printed = ap (λ (o : Opened). o.printed) inv.opened in
    let tracked = tracked_is b f code c.known-2.ensures.truth in
    let fits = written_below b (token_of c.head.inside.tag) f.frame d.0 d.1 d.2 tracked inv.kept in
    let effect = effect_is b f c.waits_with-ask.result c.self.inside.opened.printed (Ends c.in-Ends.exit) c.takes_effect.result code c.waits_with-ask.ensures printed c.takes_effect.ensures.effect c.in-Ends.is in
    let did = settle_ends b c.head.inside.tag f.frame true d.0 d.1 over refl d.2 d.3 fits c.in-Ends.exit effect in
    let drained = c.drain_first-in-Ends.ensures d.0 d.1 d.2 in
    let stored = drained.0 ∙ ap (overlay d.0.buffer) c.deref_mut-in-Ends.ensures.value in
    let long = c.len.ensures ∙ ap (λ (s : SlotsView). length s.active) drained.1 in
    let later_long : c.saturating_sub-dropped.result ≡ length d.1 = omega (arith, c.saturating_sub-dropped.ensures, long) in
    record {
      x = d.0;
      later = d.1;
      does = did;
      kept = ends_kept b (token_of c.head.inside.tag) f.frame d.0 d.1 d.2 tracked inv.kept _ c.in-Ends.exit did;
      store = with_items_is c.self.inside.store c.drain_first-in-Ends.new.store (ap length stored ∙ long_overlay d.0.buffer c.self.inside.store.items ∙ search rules) ∙ stored;
      text = text_stays b.text c.takes_effect.new.text.items c.self.inside.opened.printed (length b.text) c.waits_with-ask.result (Ends c.in-Ends.exit) (λ e. ends_other c.in-Ends.exit e) (sym c.takes_effect.ensures.effect ∙ c.in-Ends.is) c.takes_effect.ensures.items;
      slots = c.drop_all.ensures ∙ ap (λ (s : SlotsView). record s { active = [] }) drained.1;
      counts = ap {B = Counts} (λ n. record c.self.inside.counts { discarded = n }) (c.saturating_add-self-inside-in-Ends.ensures ∙ ap (λ n. held (b.counts.discarded + n)) later_long);
    }

pub invariant_of-self-in-Ends : goal.invariant_of-self-in-Ends
invariant_of-self-in-Ends c =
    let g = ending c in
    let inv = c.self.invariant in
    let b = view_of c.self.inside in
    let done = ended_at b g.x g.later c.in-Ends.exit in
    let items = (with_items c.self.inside.store c.drain_first-in-Ends.new.store).items in
    let stored = subst (λ st. IsKept (record done { store = st })) (sym g.store) g.kept in
    let printed = subst (λ ts. IsKept (record done { store = items; text = ts })) (sym g.text) stored in
    let kept = subst (λ cs. IsKept (record done { store = items; text = c.takes_effect.new.text.items; counts = cs })) (sym g.counts) printed in
    subst (λ (s : SlotsView). Kept (record c.self.inside { slots = s; store = with_items c.self.inside.store c.drain_first-in-Ends.new.store; text = c.takes_effect.new.text; exit = Some c.in-Ends.exit; is_out = false; counts = dropped_counts c })) (sym g.slots)
    (record { fits = inv.fits; opened = inv.opened; is_opened = inv.is_opened; kept = kept; rooms = inv.rooms; room = c.takes_effect.ensures.room; own_room = inv.own_room })

pub returns-in-Ends-clause-does : goal.returns-in-Ends-clause-does
returns-in-Ends-clause-does c =
    let g = ending c in
    let b = view_of c.self.inside in
    let call = Settle (token_of c.head.inside.tag) c.args.frame.now.frame true in
    let done = ended_at b g.x g.later c.in-Ends.exit in
    let items = (with_items c.self.inside.store c.drain_first-in-Ends.new.store).items in
    let stored = subst (λ st. Does b call Ended (record done { store = st })) (sym g.store) g.does in
    let printed = subst (λ ts. Does b call Ended (record done { store = items; text = ts })) (sym g.text) stored in
    let told = subst (λ cs. Does b call Ended (record done { store = items; text = c.takes_effect.new.text.items; counts = cs })) (sym g.counts) printed in
    let after : SlotsView → BoardView = λ s. view_of (record c.self.inside { slots = s; store = with_items c.self.inside.store c.drain_first-in-Ends.new.store; text = c.takes_effect.new.text; exit = Some c.in-Ends.exit; is_out = false; counts = dropped_counts c }) in
    let slotted = subst (λ (s : SlotsView). Does b call Ended (after s)) (sym g.slots) told in
    let viewed = subst (λ (v : BoardView). Does v call Ended (after c.drop_all.new.self)) c.self.view_is slotted in
    subst (λ t. Does c.args.self.now (Settle t c.args.frame.now.frame true) Ended (after c.drop_all.new.self)) c.head.view_is viewed
