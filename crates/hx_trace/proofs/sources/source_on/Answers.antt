use Rattle.std.proofs.Common.{◌≡◌, ◌+◌, suc, Some, sym, ap, subst, ◌∙◌, arith}
use Rattle.std.specs.Prelude.{slice_get}
use Rattle.hx_trace.specs.Events.{source_behind}
use Rattle.hx_trace.proofs.Forwarding.{source_stop, source_next}
use Rattle.hx_trace.proofs.sources.source_on.Goals as goal

pub returns-then-is_at : goal.returns-then-is_at
returns-then-is_at c =
    let b = c.args.board.now in
    let x = c.at-slot.result.now.slot in
    let at = subst (λ l. slice_get l c.loop-place.place ≡ Some x) c.active-head.ensures.active c.at-slot.ensures in
    let stop = source_stop c.args.worker c.args.attempt c.args.word (b.head + c.loop-place.place) c.loop-place.place c.loop-place.source b.active x at (sym c.is_at.ensures ∙ c.if-is_at.true) in
    c.own_source.ensures ∙ sym (c.loop-place.invariant ∙ stop)

pub loop-place-preserved : goal.loop-place-preserved
loop-place-preserved c =
    let b = c.args.board.now in
    let k = c.loop-place.place in
    let x = c.at-slot.result.now.slot in
    let at = subst (λ l. slice_get l k ≡ Some x) c.active-head.ensures.active c.at-slot.ensures in
    let behind = c.source_behind-source.ensures ∙ ap (λ h. source_behind c.args.word (h + k) c.loop-place.source x) c.active-head.ensures.head in
    c.loop-place.invariant ∙ source_next c.args.worker c.args.attempt c.args.word (b.head + k) k c.loop-place.source b.active x at (sym c.is_at.ensures ∙ c.if-is_at.false) (b.head + (k + 1)) (k + 1) c.source_behind-source.result (omega arith) (omega arith) behind
