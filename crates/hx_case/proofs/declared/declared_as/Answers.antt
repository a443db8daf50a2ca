use Rattle.std.proofs.Common.{rules, ◌≡◌, ◌<◌, ◌∙◌, sym, subst, length, slice_index_or, is_some, true, false}
use Rattle.hx_tree.specs.View.{item_of}
use Rattle.hx_case.specs.Known.{known_of}
use Rattle.hx_case.proofs.Declarations.{named_first, some_first, none_first}
use Rattle.hx_case.proofs.declared.declared_as.Goals as goal

pub returns-then-is_some : goal.returns-then-is_some
returns-then-is_some c =
    let i = c.loop-item.item-index in
    let item = c.item-item.result in
    let whole = c.deref-item-items.ensures.value in
    let is = subst (λ items. item ≡ slice_index_or items i item) whole c.item-item.is in
    let inside = subst (λ items. i < length items) whole c.loop-item-test.true in
    let some : is_some c.known_in-found.result ≡ true = search rules in
    some_first known_of c.known_in-found.result _ _ some c.known_in-found.ensures
    ∙ sym (c.loop-item.invariant ∙ named_first item_of c.args.name.now c.args.program.now.items.items i item inside is)

pub loop-item-preserved : goal.loop-item-preserved
loop-item-preserved c =
    let i = c.loop-item.item-index in
    let item = c.item-item.result in
    let whole = c.deref-item-items.ensures.value in
    let is = subst (λ items. item ≡ slice_index_or items i item) whole c.item-item.is in
    let inside = subst (λ items. i < length items) whole c.loop-item-test.true in
    let none : is_some c.known_in-found.result ≡ false = search rules in
    c.loop-item.invariant ∙ named_first item_of c.args.name.now c.args.program.now.items.items i item inside is
    ∙ none_first known_of c.known_in-found.result _ _ none c.known_in-found.ensures
