-- What a counter holds as the first iteration begins, and from one iteration to the next.
use Rattle.std.proofs.Common.{◌≡◌, ℕ, ◌+◌, ◌<◌, ◌%◌, ◌^◌, ℤ, pos, ◌+ℤ◌, ◌*ℤ◌, List, length, Some, w32, ap, sym, ◌∙◌, arith, get_or-set_same}
use Rattle.std.specs.Prelude.{replicate, slice_index_or}
use Rattle.std.proofs.Math.IntN.{zero-*ℤ, +ℤ_idr, +ℤ_assoc, suc_ℤ-*ℤ, +ℤ_one}
use Rattle.std.proofs.lemmas.Int.{int_wrap-add_left, int_wrap_fits}
use Rattle.std.proofs.lemmas.List.{length-replicate}
use Rattle.hx_tree.specs.Numbers.{wrap}
use Rattle.hx_code.specs.declared.table.Induct.{Induct}
use Rattle.hx_code.specs.Region.{counter_at}
use Rattle.hx_code.proofs.Counters.{counter_modulo}
use Rattle.hx_lowering.proofs.Ranged.{AreNumbers, number_at}

pub first_value : (c : Induct) (words : List ℤ) → AreNumbers words → counter_at c words 0 ≡ slice_index_or words c.private (pos 0)
first_value c words small =
    let start = slice_index_or words c.private (pos 0) in
    ap (λ z. wrap (start +ℤ z)) (zero-*ℤ c.step) ∙ ap wrap (+ℤ_idr start) ∙ int_wrap_fits w32 start (number_at words c.private small)

-- one step more
next_value : (c : Induct) (words : List ℤ) (j : ℕ) → counter_at c words (j + 1) ≡ wrap (counter_at c words j +ℤ c.step)
next_value c words j =
    let start = slice_index_or words c.private (pos 0) in
    ap (λ z. wrap (start +ℤ z)) (ap (λ q. q *ℤ c.step) (+ℤ_one (pos j)) ∙ suc_ℤ-*ℤ (pos j) c.step)
    ∙ ap wrap (sym (+ℤ_assoc start (pos j *ℤ c.step) c.step))
    ∙ sym (int_wrap-add_left w32 (start +ℤ pos j *ℤ c.step) c.step)

-- a number modulo 2 ^ 64 says as much
value_modulo : (c : Induct) (words : List ℤ) (j : ℕ) → counter_at c words (j % 2 ^ 64) ≡ counter_at c words j
value_modulo c words j =
    let full : c.private < length (replicate (c.private + 1) (pos 0)) = omega (arith, length-replicate (c.private + 1) (pos 0)) in
    let to = replicate (c.private + 1) (pos 0) in
    sym (get_or-set_same to c.private (counter_at c words (j % 2 ^ 64)) (pos 0) full)
    ∙ ap (λ l. slice_index_or l c.private (pos 0)) (counter_modulo (Some c) words j to)
    ∙ get_or-set_same to c.private (counter_at c words j) (pos 0) full

pub next_turn_value : (c : Induct) (words : List ℤ) (j : ℕ) → counter_at c words ((j + 1) % 2 ^ 64) ≡ wrap (counter_at c words j +ℤ c.step)
next_turn_value c words j = value_modulo c words (j + 1) ∙ next_value c words j
