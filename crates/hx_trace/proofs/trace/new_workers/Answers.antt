use Rattle.std.proofs.Common.{rules, ◌≡◌, length, false, refl, ap}
use Rattle.hx_frame.specs.Frame.{FrameView}
use Rattle.hx_board.specs.Board.{rooms_of}
use Rattle.hx_trace.specs.Trace.{IsNew}
use Rattle.hx_trace.proofs.Schedules.{new_last}
use Rattle.hx_trace.proofs.trace.new_workers.Goals as goal

pub loop-number-preserved : goal.loop-number-preserved
loop-number-preserved c =
    let made = c.in_ok-new.ensures in
    let last : IsNew c.args.code.now c.args.capacities (record { frame = c.in_ok-new.field-0; is_running = false }) = record { code = ap (λ (f : FrameView). f.code) made; rooms = ap (λ (f : FrameView). rooms_of f.capacities) made; stands = refl } in
    (search (rules, c.in_ok-push.ensures.len, c.loop-number.invariant.0), new_last c.args.code.now c.args.capacities c.loop-number.workers.items c.push.new.self.items _ c.in_ok-push.ensures.items c.loop-number.invariant.1 last)
