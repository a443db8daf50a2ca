use Rattle.std.proofs.Common.{◌≡◌, take, arith, subst}
use Rattle.std.proofs.lemmas.List.{take_all}
use Rattle.hx_slots.specs.Index.{IsWithout}
use Rattle.hx_slots.proofs.Indexed.{without_none, clear_more}
use Rattle.hx_slots.proofs.index.clear_all.Goals as goal

pub loop-k-init : goal.loop-k-init
loop-k-init c = without_none c.args.worker c.args.rows.now

pub loop-k-preserved : goal.loop-k-preserved
loop-k-preserved c = clear_more c.args.marks.now.entries c.loop-k.k c.args.worker c.at-mark.result c.args.rows.now c.loop-k.rows c.clear.new.rows c.at-mark.ensures c.loop-k.invariant c.clear.ensures

pub returns : goal.returns
returns c =
    let all : take c.loop-k.k c.args.marks.now.entries ≡ c.args.marks.now.entries = take_all c.loop-k.k c.args.marks.now.entries (omega (arith, c.loop-k-test.false, c.len-k-end.ensures)) in
    subst (λ t. IsWithout t c.args.worker c.args.rows.now c.loop-k.rows) all c.loop-k.invariant
