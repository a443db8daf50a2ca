use Rattle.std.proofs.Common.{◌≡◌, ◌≤◌, ◌++◌, drop, length, vec_capacity, None}
use Rattle.hx_speculation.specs.Replay.{replayed}
use Rattle.hx_trace.specs.Events.{events_of}
use Rattle.hx_trace.specs.Turns.{course_of, world_of, Keeps}
use Rattle.hx_trace.proofs.trace.follow.Given as goal

abbrev pub invariant-loop-number : goal.invariant-loop-number
invariant-loop-number l = record {
  keeps : Keeps l.board l.workers l.held;
  setup : l.board.setup ≡ l.initial.board.setup;
  led : replayed (course_of l.initial.board.setup) l.schedule (world_of l.initial.board l.initial.workers None) ≡ replayed (course_of l.initial.board.setup) (drop l.number-index l.schedule) (world_of l.board l.workers l.held);
  told : l.events.items ++ events_of (course_of l.initial.board.setup) (drop l.number-index l.schedule) (world_of l.board l.workers l.held) ≡ events_of (course_of l.initial.board.setup) l.schedule (world_of l.initial.board l.initial.workers None);
  many : length l.events.items ≡ l.number-index;
  room : length l.schedule ≤ vec_capacity l.events;
}
