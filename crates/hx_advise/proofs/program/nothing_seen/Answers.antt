use Rattle.std.proofs.Common.{[], ◌∷◌, List, length, ap, sym, subst, arith, length-append}
use Rattle.hx_advise.specs.declared.program.Seen.{Seen}
use Rattle.hx_advise.specs.Runs.{AreSeen}
use Rattle.hx_advise.proofs.Sums.{unseen_more}
use Rattle.hx_advise.proofs.program.nothing_seen.Goals as goal

pub loop-k-preserved : goal.loop-k-preserved
loop-k-preserved c =
    let i = c.loop-k.invariant in
    let items = c.in_ok-push.ensures.items in
    record {
      long = omega (arith, i.long, ap length items, length-append c.loop-k.loops.items (c.nothing.result ∷ []));
      seen = subst (λ (xs : List Seen). AreSeen [] xs) (sym {A = List Seen} items) (unseen_more c.loop-k.loops.items c.nothing.result i.seen c.nothing.ensures);
    }
