use Rattle.std.proofs.Common.{arith, length, ap, sym, subst, ◌∙◌}
use Rattle.hx_word.specs.Plain.{RunsOutside}
use Rattle.hx_word.proofs.First.{length-opening, first_runs}
use Rattle.hx_word.proofs.plain.Plain.new.Goals as goal

pub invariant_of-result : goal.invariant_of-result
invariant_of-result c =
    let code = c.args.code.now in
    let store = ap length c.in_ok-store.ensures ∙ length-opening code c.known.ensures c.args.input.now (omega (arith, c.room_for.ensures)) in
    let runs = subst (RunsOutside code) (sym c.in_ok-new.ensures.first) (first_runs code c.known.ensures) in
    (record { store = store; text = omega (arith, ap length c.in_ok-with_capacity.ensures.items); goes = runs }, record { text = omega (arith, c.in_ok-with_capacity.ensures.exact); own_text = c.in_ok-iterations.ensures })
