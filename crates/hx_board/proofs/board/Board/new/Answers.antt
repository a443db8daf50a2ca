use Rattle.std.proofs.Common.{rules, arith, ◌≡◌, ◌-◌, ◌≤◌, ℤ, List, length, None, false, refl, ap, sym, subst, ◌∙◌}
use Rattle.hx_tree.specs.declared.limits.TheConstants.{TEXT_LIMIT}
use Rattle.hx_code.specs.Region.{Opened}
use Rattle.hx_word.specs.Entry.{EntryFits, padded}
use Rattle.hx_word.specs.Opening.{opened_of}
use Rattle.hx_word.specs.Running.{IsOpened}
use Rattle.hx_word.proofs.Entries.{privates_few}
use Rattle.hx_slots.specs.Slots.{SlotsView}
use Rattle.hx_board.specs.Board.{BoardView, Setup, opened_at, rooms_of}
use Rattle.hx_board.specs.Keeps.{Kept}
use Rattle.hx_board.specs.Known.{IsKept}
use Rattle.hx_board.proofs.Opened.{first_board, first_kept}
use Rattle.hx_board.proofs.board.Board.new.Goals as goal

pub refill_words-requires : goal.refill_words-requires
refill_words-requires c =
    let few = privates_few c.args.job.code.now c.known.ensures c.args.job.region in
    omega (arith, few, c.in_ok-locals.ensures.exact, ap length c.deref.ensures.value, c.requires.locals)

pub invariant_of-result : goal.invariant_of-result
invariant_of-result c =
    let code = c.args.job.code.now in
    let e = c.args.entry.now in
    let kept_locals = c.refill_words.ensures.items ∙ c.deref.ensures.value in
    let kept_store = c.in_ok-from_slice.ensures.items ∙ c.deref-2.ensures.value in
    let store = c.in_ok-from_slice-2.ensures.items ∙ c.deref-3.ensures.value in
    let locals = c.refill_words.new.kept.items in
    let s : Setup = record { code = code; region = c.args.job.region; entry = record { store = c.in_ok-from_slice.field-0.items; locals = locals; depth = e.depth; printed = e.text_len }; slots = c.args.slots; capacities = rooms_of c.args.capacities } in
    let made : List ℤ → Opened = λ ws. record { region = c.args.job.region; below = e.depth - 1; words = padded ws; printed = e.text_len } in
    let opened : opened_of c.opened_by-opened.result ≡ opened_at s = c.opened_by-opened.ensures.opened ∙ ap made (sym kept_locals) in
    let is : IsOpened code (opened_at s) = subst (IsOpened code) opened c.opened_by-opened.ensures.fits in
    let first : BoardView = first_board s in
    let begun : IsKept first = first_kept s (ap length kept_store ∙ c.requires.store) in
    let stored = subst (λ st. IsKept (record first { store = st })) (sym (store ∙ sym kept_store)) begun in
    let texted = subst (λ ts. IsKept (record first { store = c.in_ok-from_slice-2.field-0.items; text = ts })) (sym c.in_ok-with_capacity.ensures.items) stored in
    let kept = subst (λ cs. IsKept (record first { store = c.in_ok-from_slice-2.field-0.items; text = c.in_ok-with_capacity.field-0.items; counts = cs })) (sym c.first_counts.ensures) texted in
    let room : TEXT_LIMIT ≤ c.in_ok-with_capacity.field-0.cap = search rules in
    let fits : EntryFits code c.args.job.region (record { store = c.in_ok-from_slice.field-0; locals = c.refill_words.new.kept; depth = e.depth; text_len = e.text_len }) =
    record { region = c.requires.region; store = ap length kept_store ∙ c.requires.store; locals = ap length kept_locals ∙ c.requires.locals; least = c.requires.least; depth = c.requires.depth; text = c.requires.text } in
    subst (λ (sl : SlotsView). Kept (record { job = c.args.job; entry = record { store = c.in_ok-from_slice.field-0; locals = c.refill_words.new.kept; depth = e.depth; text_len = e.text_len }; capacities = c.args.capacities; opened = c.opened_by-opened.result; opening = c.in_ok-new.field-0; slots = sl; head = 0; store = c.in_ok-from_slice-2.field-0; text = c.in_ok-with_capacity.field-0; exit = None; is_out = false; is_spent = false; counts = c.first_counts.result })) (sym c.in_ok-new-2.ensures)
    (record { fits = fits; opened = opened; is_opened = is; kept = kept; rooms = refl; room = room; own_room = omega (arith, c.in_ok-locals.ensures.exact, c.refill_words.ensures.room) })
