use Rattle.std.proofs.Common.{◌≡◌, ◌<◌, length, slice_index_or, sym, subst}
use Rattle.hx_tree.specs.View.{item_of}
use Rattle.hx_stats.proofs.Lines.{ArePut, put-more, globals-next}
use Rattle.hx_stats.proofs.globals.put_globals.Goals as goal

pub loop-item-preserved : goal.loop-item-preserved
loop-item-preserved c =
    let i = c.loop-item.item-index in
    let item = c.item-item.result in
    let whole = c.deref-item-items.ensures.value in
    let is = subst (λ items. item ≡ slice_index_or items i item) whole c.item-item.is in
    let inside = subst (λ items. i < length items) whole c.loop-item-test.true in
    let next = globals-next item_of c.args.program.now.items.items i item inside is in
    let put = c.in_ok-rest.ensures in
    subst (λ gs. ArePut gs c.args.words.now c.args.text.now.items c.put_item.new.text.items c.in_ok-rest.rest.now) (sym next)
    (put-more _ _ _ _ _ _ _ _ c.loop-item.invariant (put.lines, put.rest))
