use Rattle.std.proofs.Common.{slice_index, ap, sym, ◌∙◌, arith}
use Rattle.std.specs.Int.{bit_at}
use Rattle.std.proofs.lemmas.Nat.Bits.{bit_at_ones}
use Rattle.hx_slots.proofs.Indexed.{readers_are}
use Rattle.hx_slots.proofs.index.MarkIndex.readers.Goals as goal

pub returns-then-place-rows : goal.returns-then-place-rows
returns-then-place-rows c = readers_are _ c.args.word c.args.self.now.rows.items (λ w lt none. absurd (omega (arith, none, bit_at_ones 16 w lt)))

pub returns : goal.returns
returns c =
    let rows = c.as_slice-rows.result.now in
    readers_are (slice_index rows c.args.word) c.args.word c.args.self.now.rows.items
    (λ w lt none. (omega (arith, c.if-place-rows.false, c.as_slice-rows.ensures.len), ap (λ r. bit_at (slice_index r c.args.word) w) (sym c.as_slice-rows.ensures.value) ∙ none))
