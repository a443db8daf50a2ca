use Rattle.std.proofs.Common.{◌≡◌, ◌+◌, ◌-◌, max, [], length, ap, sym, ◌∙◌, arith}
use Rattle.std.specs.Prelude.{◌++◌}
use Rattle.std.proofs.lemmas.Bool.{eqb-true}
use Rattle.std.proofs.lemmas.List.{nil_from_length}
use Rattle.hx_timeline.proofs.Cells.{blank_cell}
use Rattle.hx_timeline.proofs.columns.put_cell.Goals as goal

pub returns-then-is_empty : goal.returns-then-is_empty
returns-then-is_empty c fits =
    let cell = c.args.cell.now in
    let empty : cell ≡ [] = nil_from_length cell (eqb-true (length cell) 0 (sym c.is_empty.ensures ∙ c.if-is_empty.true)) in
    let left : c.saturating_add.result ≡ c.args.blanks + max (c.args.width - length cell) 1 = omega arith in
    record { few = omega arith; put = λ rest. ap (λ l. c.args.text.now.items ++ l) (blank_cell c.args.blanks c.args.width c.saturating_add.result cell rest empty left) }
