use Rattle.std.proofs.Common.{All, length, ap, sym, subst, ◌∙◌}
use Rattle.hx_board.specs.Board.{BoardView}
use Rattle.hx_trace.specs.Trace.{IsNew}
use Rattle.hx_trace.proofs.Plainly.{shows_plain}
use Rattle.hx_trace.proofs.Schedules.{keeps_new, tells, tells_events}
use Rattle.hx_trace.proofs.trace.run.Goals as goal

pub follow-held-requires-clause-keeps : goal.follow-held-requires-clause-keeps
follow-held-requires-clause-keeps c =
    let crew = c.as_mut_slice-crew.ensures.value in
    let new = subst (All (IsNew c.args.job.code.now c.args.capacities)) (sym crew) c.in_ok-workers.ensures.new in
    keeps_new c.args.job.code.now c.args.job.region c.args.entry.now c.args.slots c.args.capacities c.as_mut_slice-crew.result.now new c.in_ok-board.board c.in_ok-board.ensures (ap length crew ∙ c.in_ok-workers.ensures.many)

pub returns-in-Ok-clause-events : goal.returns-in-Ok-clause-events
returns-in-Ok-clause-events c =
    tells_events c.args.job.code.now c.args.job.region c.args.entry.now c.args.slots c.args.capacities c.as_mut_slice-crew.result.now c.args.schedule.now c.in_ok-board.board c.follow-held.new.events.items (subst (All (IsNew c.args.job.code.now c.args.capacities)) (sym c.as_mut_slice-crew.ensures.value) c.in_ok-workers.ensures.new) c.in_ok-board.ensures c.follow-held.ensures.events

pub returns-in-Ok-clause-told : goal.returns-in-Ok-clause-told
returns-in-Ok-clause-told c =
    tells c.args.job.code.now c.args.job.region c.args.entry.now c.args.slots c.args.capacities c.as_mut_slice-crew.result.now c.args.schedule.now c.in_ok-board.board c.follow-held.new.board c.in-Ok.trace (subst (All (IsNew c.args.job.code.now c.args.capacities)) (sym c.as_mut_slice-crew.ensures.value) c.in_ok-workers.ensures.new) c.in_ok-board.ensures c.follow-held.ensures.board c.in-Ok.ensures

pub returns-in-Ok-clause-plain : goal.returns-in-Ok-clause-plain
returns-in-Ok-clause-plain c =
    shows_plain c.args.job.code.now c.args.job.region c.args.entry.now c.args.slots c.args.capacities c.follow-held.new.board c.in-Ok.trace c.known.ensures c.requires.fits (c.follow-held.ensures.setup ∙ ap (λ (b : BoardView). b.setup) c.in_ok-board.ensures) c.known-2.ensures c.in-Ok.ensures
