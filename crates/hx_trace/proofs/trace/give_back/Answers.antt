use Rattle.std.proofs.Common.{subst}
use Rattle.hx_trace.specs.Turns.{MayBeHeld}
use Rattle.std.proofs.lemmas.Option.{slice_get-get_or}
use Rattle.hx_trace.proofs.trace.give_back.Goals as goal

pub spend-requires-clause-own : goal.spend-requires-clause-own
spend-requires-clause-own c =
    let k = subst (MayBeHeld c.args.board.now c.args.workers.now) c.in-Some.is c.requires.held in
    c.requires.own _ _ (slice_get-get_or c.args.workers.now c.in-Some.field-0.worker c.index-workers-worker.result k.there)
