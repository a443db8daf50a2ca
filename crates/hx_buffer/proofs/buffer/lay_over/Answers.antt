use Rattle.std.proofs.Common.{rules, arith, ◌≡◌, ◌+◌, suc, drop, slice_set, sym, ap, ◌∙◌}
use Rattle.std.proofs.lemmas.List.{at_drop_all, set_past}
use Rattle.hx_buffer.proofs.Overlays.{written, written_next, written_is_overlay}
use Rattle.hx_buffer.proofs.buffer.lay_over.Goals as goal
use Rattle.hx_buffer.proofs.buffer.lay_over.Goals.{then-place-store, else-place-store}

pub loop-k-preserved : goal.loop-k-preserved
loop-k-preserved c =
    let stored : slice_set c.loop-k.store c.at-entry.result.word c.at-entry.result.value ≡ c.if-place-store.store = elim c.if-place-store.branch [
      | then-place-store w ↦ (let is = w.store-is in search rules)
      | else-place-store w ↦ set_past c.loop-k.store c.at-entry.result.word c.at-entry.result.value (omega (arith, w.if-place-store)) ∙ sym w.store-is
    ] in
    let next : c.loop-k.k + 1 ≡ suc c.loop-k.k = omega arith in
    ap (λ n. written (drop n c.args.words.now.entries) c.if-place-store.store) next ∙ ap (written (drop (suc c.loop-k.k) c.args.words.now.entries)) (sym stored) ∙ sym (written_next c.args.words.now.entries c.loop-k.k c.at-entry.result c.loop-k.store c.at-entry.ensures) ∙ c.loop-k.invariant

pub returns : goal.returns
returns c =
    let ended : written (drop c.loop-k.k c.args.words.now.entries) c.loop-k.store ≡ c.loop-k.store =
    at_drop_all (λ t. written t c.loop-k.store) c.args.words.now.entries c.loop-k.k (omega (arith, c.loop-k-test.false, c.len-k-end.ensures)) in
    sym ended ∙ c.loop-k.invariant ∙ written_is_overlay c.args.words.now.entries c.args.store.now c.known.ensures.rising
